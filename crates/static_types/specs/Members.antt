-- The fields of a type, and what a call asks and gives.
use Rattle.std.specs.Prelude.{ℕ, List, [], ◌∷◌, map, Option, Some, None, bytes_eq, if◌then◌else◌}
use Rattle.mono_syntax.specs.Ty.{Ty, dyn, obj, Fields, no_fields, more_fields}

-- the type of a field
abbrev pub field_type : Fields → List ℕ → Option Ty
field_type no_fields x = None
field_type (more_fields n t fs) x = if bytes_eq n x then Some t else field_type fs x

-- what a field of a value of this type has as its type: `Dyn` knows no fields and has them all, other types than objects have none
abbrev pub member_type : Ty → List ℕ → Option Ty
member_type dyn x = Some dyn
member_type (obj fs) x = field_type fs x
member_type _ x = None

-- the types of fields, in their order
abbrev pub field_types : Fields → List Ty
field_types no_fields = []
field_types (more_fields n t fs) = t ∷ field_types fs

-- so many times `Dyn`
abbrev pub all_dyn : {A : Type 0} → List A → List Ty
all_dyn xs = map (λ x. dyn) xs
