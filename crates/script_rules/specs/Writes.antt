-- The types that annotations write. Objects are structural: a class is the object type of its fields, and may be written
-- before it is defined. A derivation is finite, so a class whose fields lead back to it writes no type.
use Rattle.std.specs.Prelude.{◌≡◌, ℕ, List, [], ◌∷◌, Option, Some, None, if◌then◌else◌}
use Rattle.std.specs.Ordering.{nat_cmp, is_gt}
use Rattle.std.specs.Cmp.Lexicographic.{slice_cmp}
use Rattle.mono_syntax.specs.declared.leaf.Word.{Word}
use Rattle.mono_syntax.specs.declared.tree.ClassDef.{ClassDef}
use Rattle.mono_syntax.specs.declared.tree.FieldDef.{FieldDef}
use Rattle.mono_syntax.specs.declared.tree.FuncDef.{FuncDef}
use Rattle.mono_syntax.specs.declared.tree.Param.{Param}
use Rattle.mono_syntax.specs.Ann.{Ann, ann, Anns, no_anns, more_anns}
use Rattle.mono_syntax.specs.Ann as form
use Rattle.mono_syntax.specs.Ty.{Ty, dyn, int, bool, str, nil, fun, obj, Tys, no_tys, more_tys, Fields, no_fields, more_fields}
use Rattle.script_rules.specs.Definitions.{class_named}

-- fields in the byte order of their names
abbrev pub put_field : List ℕ → Ty → Fields → Fields
put_field n t no_fields = more_fields n t no_fields
put_field n t (more_fields k u fs) =
    if is_gt (slice_cmp nat_cmp n k) then more_fields k u (put_field n t fs) else more_fields n t (more_fields k u fs)

abbrev pub in_order : Fields → Fields
in_order no_fields = no_fields
in_order (more_fields n t fs) = put_field n t (in_order fs)

mutual
  -- the annotation writes this type, where these are the script's classes
  pub data Writes (cs : List ClassDef) : Ann → Ty → Type 0 where
    writes_dyn : {p : _} → Writes cs (ann p form.dyn) dyn
    writes_int : {p : _} → Writes cs (ann p form.int) int
    writes_bool : {p : _} → Writes cs (ann p form.bool) bool
    writes_str : {p : _} → Writes cs (ann p form.str) str
    writes_nil : {p : _} → Writes cs (ann p form.nil) nil
    writes_class : {p : _} {w : Word} {d : ClassDef} {fs : Fields} {t : Ty}
        → class_named cs w.text ≡ Some d → Declares cs d.fields fs → t ≡ obj (in_order fs) → Writes cs (ann p (form.class w)) t
    writes_fun : {p : _} {as_ : Anns} {a : Ann} {ts : Tys} {t : Ty} → WriteAll cs as_ ts → Writes cs a t → Writes cs (ann p (form.fun as_ a)) (fun ts t)

  pub data WriteAll (cs : List ClassDef) : Anns → Tys → Type 0 where
    write_none : WriteAll cs no_anns no_tys
    write_more : {a : Ann} {as_ : Anns} {t : Ty} {ts : Tys} → Writes cs a t → WriteAll cs as_ ts → WriteAll cs (more_anns a as_) (more_tys t ts)

  -- the fields of a class have these names and types, in declared order
  pub data Declares (cs : List ClassDef) : List FieldDef → Fields → Type 0 where
    declares_none : Declares cs [] no_fields
    declares_more : {d : FieldDef} {ds : List FieldDef} {t : Ty} {fs : Fields}
        → Writes cs d.ann t → Declares cs ds fs → Declares cs (d ∷ ds) (more_fields d.name.text t fs)

-- the annotation's type, and `Dyn` where there is none
abbrev pub WritesAny : List ClassDef → Option Ann → Ty → Type 0
WritesAny cs None t = t ≡ dyn
WritesAny cs (Some a) t = Writes cs a t

-- the type of a class
pub record IsClassType (cs : List ClassDef) (d : ClassDef) (t : Ty) : Type 0 where
  pub declared : Fields
  pub fields : Declares cs d.fields declared
  pub type : t ≡ obj (in_order declared)

-- the types of parameters, in their order
abbrev pub ParamTypes : List ClassDef → List Param → Tys → Type 0
ParamTypes cs [] no_tys = Unit {0}
ParamTypes cs (p ∷ ps) (more_tys t ts) = WritesAny cs p.ann t × ParamTypes cs ps ts
ParamTypes cs _ _ = ⊥

-- the declared type of a function
pub record IsFunctionType (cs : List ClassDef) (d : FuncDef) (t : Ty) : Type 0 where
  pub parameters : Tys
  pub result : Ty
  pub takes : ParamTypes cs d.params parameters
  pub gives : WritesAny cs d.result result
  pub type : t ≡ fun parameters result
