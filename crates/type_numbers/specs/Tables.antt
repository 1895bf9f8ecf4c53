-- A table of types and of the types of classes, and what numbers of it say.
use Rattle.std.specs.Prelude.{◌≡◌, ◌<◌, ℕ, List, [], ◌∷◌, ◌++◌, Option, Some, None, length, slice_get, refl}
use Rattle.std.specs.Coded.{Coded, code_by, coded×, coded_list}
use Rattle.mono_syntax.specs.Ty.{Ty, ty_code, fun, obj}
use Rattle.mono_syntax.specs.TyView.{tys_list}
use Rattle.mono_syntax.specs.declared.value.ClassNo.{ClassNo}
use Rattle.mono_syntax.specs.declared.value.TypeNo.{TypeNo}
use Rattle.mono_tree.specs.FieldNames.{names_of}
use Rattle.mono_tree.specs.TypeNumbers.{Names}
use Rattle.type_shapes.specs.Shows.{types_of}

-- the types that have numbers, and the type of each class
pub record Table : Type 0 where
  pub types : List Ty
  pub classes : List Ty

-- a table is stored as the pair of its lists
abbrev pub table_code : Coded Table
table_code =
    code_by (List Ty × List Ty) (coded× (coded_list ty_code) (coded_list ty_code)) (λ t. (t.types, t.classes))
    (λ p. record { types = p.0; classes = p.1 }) (λ _. refl)

-- there is a class of this number
abbrev pub IsClass : Table → ClassNo → Type 0
IsClass t c = c.0 < length t.classes

-- the class of the number has this type
abbrev pub IsClassType : Table → ClassNo → Ty → Type 0
IsClassType t c u = slice_get t.classes c.0 ≡ Some u

-- the parts of a type: a function's parameters and then its result, the types of an object's fields
abbrev pub parts_of : Ty → List Ty
parts_of (fun ps r) = tys_list ps ++ r ∷ []
parts_of (obj fs) = types_of fs
parts_of _ = []

-- the names of a type's fields
abbrev pub field_names : Ty → List (List ℕ)
field_names (obj fs) = names_of fs
field_names _ = []

-- the number of a type that there may be
abbrev pub IsNumberOf : List Ty → Option TypeNo → Option Ty → Type 0
IsNumberOf types (Some n) (Some t) = Names types n t
IsNumberOf types None None = Unit {0}
IsNumberOf types _ _ = ⊥

-- a place of the name among the names, or none where there is no such place
abbrev pub IsPlaceOf : List (List ℕ) → List ℕ → Option ℕ → Type 0
IsPlaceOf names name (Some k) = slice_get names k ≡ Some name
IsPlaceOf names name None = (k : ℕ) → slice_get names k ≡ Some name → ⊥

-- two object types with the same names of fields
abbrev pub HaveSameNames : Ty → Ty → Type 0
HaveSameNames (obj fs) (obj gs) = names_of fs ≡ names_of gs
HaveSameNames _ _ = ⊥
