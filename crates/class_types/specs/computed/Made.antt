-- Computed: the types that annotations write, computed from the types of classes that are known.
use Rattle.std.specs.Prelude.{◌≡◌, ℕ, ◌+◌, slice_get, option_and_then, List, [], ◌∷◌, Option, Some, None, map, bytes_eq, if◌then◌else◌}
use Rattle.std.specs.Option.{option_map}
use Rattle.mono_syntax.specs.declared.tree.ClassDef.{ClassDef}
use Rattle.mono_syntax.specs.declared.tree.FieldDef.{FieldDef}
use Rattle.mono_syntax.specs.declared.tree.FuncDef.{FuncDef}
use Rattle.mono_syntax.specs.declared.tree.Param.{Param}
use Rattle.mono_syntax.specs.Ann.{Ann, ann, Anns, no_anns, more_anns}
use Rattle.mono_syntax.specs.Ann as form
use Rattle.mono_syntax.specs.Ty.{Ty, dyn, int, bool, str, nil, fun, obj, Tys, no_tys, more_tys, Fields, no_fields, more_fields}
use Rattle.mono_tree.specs.Meet.{both}
use Rattle.name_places.specs.Places.{place_in}
use Rattle.script_rules.specs.Writes.{in_order}

-- what is known at a place; where there is none, another answer
abbrev pub known_at : {A : Type 0} → List (Option A) → Option A → Option ℕ → Option A
known_at own stray None = stray
known_at own stray (Some i) = option_and_then (λ a. a) (slice_get own i)

-- what is known of the class of a name, where each class has a value or none
abbrev pub look : {A : Type 0} → List (List ℕ) → List (Option A) → Option A → List ℕ → Option A
look ns own stray x = known_at own stray (place_in ns x)

-- the type of an annotation, where a name has the type that `named` gives
abbrev mutual
  pub type_by : (List ℕ → Option Ty) → Ann → Option Ty
  type_by named (ann p form.dyn) = Some dyn
  type_by named (ann p form.int) = Some int
  type_by named (ann p form.bool) = Some bool
  type_by named (ann p form.str) = Some str
  type_by named (ann p form.nil) = Some nil
  type_by named (ann p (form.class w)) = named w.text
  type_by named (ann p (form.fun as_ a)) = both fun (types_by named as_) (type_by named a)

  pub types_by : (List ℕ → Option Ty) → Anns → Option Tys
  types_by named no_anns = Some no_tys
  types_by named (more_anns a as_) = both more_tys (type_by named a) (types_by named as_)

abbrev pub fields_by : (List ℕ → Option Ty) → List FieldDef → Option Fields
fields_by named [] = Some no_fields
fields_by named (f ∷ fs) = both (more_fields f.name.text) (type_by named f.ann) (fields_by named fs)

abbrev pub object_of : Fields → Ty
object_of fs = obj (in_order fs)

abbrev pub class_by : (List ℕ → Option Ty) → ClassDef → Option Ty
class_by named d = option_map object_of (fields_by named d.fields)

abbrev pub names_of_classes : List ClassDef → List (List ℕ)
names_of_classes cs = map (λ d. d.name.text) cs

-- each class has the type that its fields give, or none where they give none
abbrev pub AreSettled : List ClassDef → Option Ty → List (Option Ty) → Type 0
AreSettled cs stray own = own ≡ map (class_by (look (names_of_classes cs) own stray)) cs

abbrev pub AreOwnTypes : List ClassDef → List (Option Ty) → Type 0
AreOwnTypes cs own = AreSettled cs None own

-- the type of an annotation that need not stand
abbrev pub any_by : (List ℕ → Option Ty) → Option Ann → Option Ty
any_by named None = Some dyn
any_by named (Some a) = type_by named a

abbrev pub params_by : (List ℕ → Option Ty) → List Param → Option Tys
params_by named [] = Some no_tys
params_by named (p ∷ ps) = both more_tys (any_by named p.ann) (params_by named ps)

abbrev pub function_by : (List ℕ → Option Ty) → FuncDef → Option Ty
function_by named d = both fun (params_by named d.params) (any_by named d.result)
