-- In a well-typed script whose types stand in a closed list, the static type of each expression stands there, and so does the type of
-- each write.
use Rattle.std.proofs.Common.{◌≡◌, sym, subst, refl, ℕ, zero, suc, Bool, true, false, List, [], ◌∷◌, ◌≤◌, length, inl, inr, arith}
use Rattle.std.specs.Prelude.{Option, Some, bytes_eq, slice_get, if◌then◌else◌, Contains}
use Rattle.std.proofs.lemmas.Option.{slice_get_within, get_or_from_slice_get}
use Rattle.mono_list.proofs.Cases.{some_is}
use Rattle.mono_syntax.specs.declared.cast.CastScript.{CastScript}
use Rattle.mono_syntax.specs.declared.cast.NamedType.{NamedType}
use Rattle.mono_syntax.specs.declared.leaf.Op.{Op}
use Rattle.mono_syntax.specs.declared.leaf.Op.TheVariants as op
use Rattle.mono_syntax.specs.CastExpr.{CastExpr, binary, both, call, either, fit, function, join, local, make, neg, negation, nil, number}
use Rattle.mono_syntax.specs.CastExpr.{read, text, truth}
use Rattle.mono_syntax.specs.Ty as ty
use Rattle.mono_syntax.specs.Ty.{Ty, Fields, no_fields, more_fields}
use Rattle.mono_tree.specs.ClosedList.{IsClosedList, IsOfField, IsPartClosed, base_types, in_base}
use Rattle.mono_tree.specs.TypedPrograms.{CallUse, FieldUse, HasField, HasStaticType, OperatorUse, Scope, type_of_name}
use Rattle.mono_tree.proofs.ClosedMembers.{rows_closed, set_has}
use Rattle.program_code.specs.TypesIn.{AreTypesIn}

-- ---- what a closed list has

-- base types and parts of members are members
pub record IsRich (types : List Ty) : Type 0 where
  pub base : (t : Ty) → Contains base_types t → Contains types t
  pub parts : IsPartClosed types

pub closed_rich : (types : List Ty) → ((given : List Ty) × IsClosedList given types) → IsRich types
closed_rich types (given, is) =
    let whole = subst (λ (l : List Ty). length l ≤ is.rows) (sym is.made) is.whole in
    record {
      base = λ t c. subst (λ (l : List Ty). Contains l t) is.made (set_has given is.rows whole t (in_base t c));
      parts = subst IsPartClosed is.made (rows_closed given is.rows);
    }

-- ---- what stands in a list

first : {A : Type 0} (x : A) (xs : List A) → Contains (x ∷ xs) x
first x xs = (0, omega arith, refl)

later : {A : Type 0} (y x : A) (xs : List A) → Contains xs x → Contains (y ∷ xs) x
later y x xs (k, l, e) = (suc k, omega arith, e)

pub stands : {A : Type 0} (xs : List A) (k : ℕ) (x : A) → slice_get xs k ≡ Some x → Contains xs x
stands xs k x e = (k, slice_get_within xs k x e, get_or_from_slice_get xs k x x e)

name_type : (types : List Ty) (ns : List NamedType) (x : List ℕ) (t : Ty) → ((n : NamedType) → Contains ns n → Contains types n.ty)
    → type_of_name ns x ≡ Some t → Contains types t
name_type types [] x t f e = absurd cc
name_type types (n ∷ ns) x t f e = go (bytes_eq n.name x) e (name_type types ns x t (λ m c. f m (later n m ns c)))
  where
    go : (b : Bool) → (if b then Some n.ty else type_of_name ns x) ≡ Some t → (type_of_name ns x ≡ Some t → Contains types t)
        → Contains types t
    go true i h = subst (λ (z : Ty). Contains types z) (some_is i) (f n (first n ns))
    go false i h = h i

field_part : (fs : Fields) (x : List ℕ) (t : Ty) → HasField fs x t → IsOfField t fs
field_part no_fields x t h = absurd h
field_part (more_fields n u fs) x t (inl h) = inl (sym h.1)
field_part (more_fields n u fs) x t (inr h) = inr (field_part fs x t h)

-- ---- uses

module _ (p : CastScript) (types : List Ty) (rich : IsRich types) where
  same : (t u : Ty) → t ≡ u → Contains types u → Contains types t
  same t u e c = subst (λ (z : Ty). Contains types z) (sym e) c

  is_dyn : (t : Ty) → t ≡ ty.dyn → Contains types t
  is_dyn t e = same t ty.dyn e (rich.base ty.dyn (0, omega arith, refl))

  is_int : (t : Ty) → t ≡ ty.int → Contains types t
  is_int t e = same t ty.int e (rich.base ty.int (1, omega arith, refl))

  is_bool : (t : Ty) → t ≡ ty.bool → Contains types t
  is_bool t e = same t ty.bool e (rich.base ty.bool (2, omega arith, refl))

  is_str : (t : Ty) → t ≡ ty.str → Contains types t
  is_str t e = same t ty.str e (rich.base ty.str (3, omega arith, refl))

  is_nil : (t : Ty) → t ≡ ty.nil → Contains types t
  is_nil t e = same t ty.nil e (rich.base ty.nil (4, omega arith, refl))

  pub field_use : (m : Option ℕ) (u : Ty) (x : List ℕ) (t : Ty) → FieldUse p m u x t → Contains types u → Contains types t
  field_use m ty.dyn x t h c = is_dyn t h.0
  field_use m ty.int x t h c = absurd h
  field_use m ty.bool x t h c = absurd h
  field_use m ty.str x t h c = absurd h
  field_use m ty.nil x t h c = absurd h
  field_use m (ty.fun ps r) x t h c = absurd h
  field_use m (ty.obj fs) x t h c = (rich.parts).part (ty.obj fs) t c (field_part fs x t h.0)

  call_use : (k : Option ℕ) (ks : List (Option ℕ)) (u : Ty) (us : List Ty) (t : Ty) → CallUse p k ks u us t → Contains types u
      → Contains types t
  call_use k ks ty.dyn us t h c = is_dyn t h.2
  call_use k ks ty.int us t h c = absurd h
  call_use k ks ty.bool us t h c = absurd h
  call_use k ks ty.str us t h c = absurd h
  call_use k ks ty.nil us t h c = absurd h
  call_use k ks (ty.fun ps r) us t h c = (rich.parts).part (ty.fun ps r) t c (inr h.2)
  call_use k ks (ty.obj fs) us t h c = absurd h

  operator_use : (o : Op) (k a : Option ℕ) (u v t : Ty) → OperatorUse p o k a u v t → Contains types t
  operator_use op.Add k a u v t (inl h) = is_dyn t h.type
  operator_use op.Add k a u v t (inr h) = is_int t h.2
  operator_use op.Sub k a u v t h = is_int t h.2
  operator_use op.Mul k a u v t h = is_int t h.2
  operator_use op.Div k a u v t h = is_int t h.2
  operator_use op.Mod k a u v t h = is_int t h.2
  operator_use op.Lt k a u v t h = is_bool t h.2
  operator_use op.Le k a u v t h = is_bool t h.2
  operator_use op.Gt k a u v t h = is_bool t h.2
  operator_use op.Ge k a u v t h = is_bool t h.2
  operator_use op.Eq k a u v t h = is_bool t h.2
  operator_use op.Ne k a u v t h = is_bool t h.2

  -- ---- expressions

  module _ (has : AreTypesIn types p) (s : Scope) (names : (n : NamedType) → Contains s.names n → Contains types n.ty)
      (threads : (n : NamedType) → Contains s.threads n → Contains types n.ty) where
    pub static_type : (e : CastExpr) (t : Ty) → HasStaticType p s e t → Contains types t
    static_type (number n) t h = is_int t h.1
    static_type (text x) t h = is_str t h
    static_type (truth b) t h = is_bool t h
    static_type nil t h = is_nil t h
    static_type (local k x) t h = name_type types s.names x t names h.1
    static_type (function g) t h = same t h.0.ty h.2 (has.functions h.0 (stands p.functions g h.0 h.1))
    static_type (neg a e) t h = is_int t h.2
    static_type (negation e) t h = is_bool t h.1
    static_type (binary o k a x y) t h = operator_use o k a h.0 h.1 t h.4
    static_type (both x y) t h = is_bool t h.2
    static_type (either x y) t h = is_bool t h.2
    static_type (read m e x) t h = field_use m h.0 x t h.2 (static_type e h.0 h.1)
    static_type (make c es) t h = same t (h.2).class.ty (h.2).type (has.classes (h.2).class (stands p.classes c (h.2).class (h.2).at))
    static_type (call k e given) t h = call_use k _ h.0 h.1 t h.4 (static_type e h.0 h.2)
    static_type (fit k e) t h = has.sites t (stands p.types _ t (h.2).target_at)
    static_type (join k x) t h = name_type types s.threads x t threads h.1
