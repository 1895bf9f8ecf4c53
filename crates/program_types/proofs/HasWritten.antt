-- A set of types that has the base types, those that a script writes, and with a type its parts.
use Rattle.std.proofs.Common.{◌≡◌, inl, inr, ◌⊎◌, ℕ, List, [], ◌∷◌, ◌++◌, Some, refl, sym, bytes_eq, if◌then◌else◌}
use Rattle.std.specs.Ordering.{nat_cmp, is_gt}
use Rattle.std.specs.Cmp.Lexicographic.{slice_cmp}
use Rattle.mono_list.proofs.Cases.{split, some_is, none_some}
use Rattle.mono_syntax.specs.declared.tree.ClassDef.{ClassDef}
use Rattle.mono_syntax.specs.declared.tree.FuncDef.{FuncDef}
use Rattle.mono_syntax.specs.declared.tree.Script.{Script}
use Rattle.mono_syntax.specs.Ann.{Ann}
use Rattle.mono_syntax.specs.Ty.{Ty, dyn, int, bool, str, nil, Tys, no_tys, more_tys, Fields, no_fields, more_fields}
use Rattle.mono_syntax.specs.TyView.{tys_list}
use Rattle.mono_tree.specs.ClosedList.{IsAmong, IsOfField, IsPart}
use Rattle.script_rules.specs.Scoping.{class_list, function_list}
use Rattle.script_rules.specs.SourceParts.{annotation, parts_of}
use Rattle.script_rules.specs.Writes.{put_field, in_order, Writes, IsClassType, IsFunctionType}
use Rattle.static_types.specs.Members.{field_type, field_types}
use Rattle.class_types.proofs.OrderLaws.{In}

-- The set has these. An annotation anywhere in the script counts, that of a field or a parameter too.
pub record HasWritten (s : Script) (Has : Ty → Type 0) : Type 0 where
  pub of_dyn : Has dyn
  pub of_int : Has int
  pub of_bool : Has bool
  pub of_str : Has str
  pub of_nil : Has nil
  pub part : (t p : Ty) → Has t → IsPart p t → Has p
  pub annotation : (a : Ann) (t : Ty) → In (annotation a) (parts_of s.items) → Writes (class_list s) a t → Has t
  pub class : (d : ClassDef) (t : Ty) → In d (class_list s) → IsClassType (class_list s) d t → Has t
  pub function : (d : FuncDef) (t : Ty) → In d (function_list s) → IsFunctionType (class_list s) d t → Has t

-- ---- parts in order

put_has : (p : Ty) (n : List ℕ) (t : Ty) (fs : Fields) → (p ≡ t) ⊎ IsOfField p fs → IsOfField p (put_field n t fs)
put_has p n t no_fields h = h
put_has p n t (more_fields m u fs) h =
    split (is_gt (slice_cmp nat_cmp n m))
    (λ b. IsOfField p (if b then more_fields m u (put_field n t fs) else more_fields n t (more_fields m u fs)))
    (λ _. elim h [ inl e ↦ inr (put_has p n t fs (inl e)) | inr i ↦ elim i [ inl e ↦ inl e | inr k ↦ inr (put_has p n t fs (inr k)) ] ])
    (λ _. h)

-- the fields in byte order have the types of those in declared order
pub ordered_has : (p : Ty) (fs : Fields) → IsOfField p fs → IsOfField p (in_order fs)
ordered_has p no_fields h = h
ordered_has p (more_fields n t fs) h =
    put_has p n t (in_order fs) (elim h [ inl e ↦ inl e | inr i ↦ inr (ordered_has p fs i) ])

pub field_is_part : (fs : Fields) (x : List ℕ) (t : Ty) → field_type fs x ≡ Some t → IsOfField t fs
field_is_part no_fields x t e = none_some (IsOfField t no_fields) e
field_is_part (more_fields n u fs) x t e =
    split (bytes_eq n x) (λ b. (if b then Some u else field_type fs x) ≡ Some t → IsOfField t (more_fields n u fs))
    (λ _ f. inl (sym (some_is f))) (λ _ f. inr (field_is_part fs x t f)) e

-- ---- types in a row

module _ (Has : Ty → Type 0) where
  abbrev pub HasAll : List Ty → Type 0
  HasAll [] = Unit {0}
  HasAll (t ∷ ts) = Has t × HasAll ts

  pub all_left : (ts us : List Ty) → HasAll (ts ++ us) → HasAll ts
  all_left [] us h = tt
  all_left (t ∷ ts) us h = (h.0, all_left ts us h.1)

  pub all_right : (ts us : List Ty) → HasAll (ts ++ us) → HasAll us
  all_right [] us h = h
  all_right (t ∷ ts) us h = all_right ts us h.1

  pub tys_all : (ps : Tys) → ((p : Ty) → IsAmong p ps → Has p) → HasAll (tys_list ps)
  tys_all no_tys h = tt
  tys_all (more_tys t ts) h = (h t (inl refl), tys_all ts (λ p i. h p (inr i)))

  pub fields_all : (fs : Fields) → ((p : Ty) → IsOfField p fs → Has p) → HasAll (field_types fs)
  fields_all no_fields h = tt
  fields_all (more_fields n t fs) h = (h t (inl refl), fields_all fs (λ p i. h p (inr i)))
