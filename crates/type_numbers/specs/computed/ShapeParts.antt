-- Computed: the parts and the names of fields of a type, by its shape.
use Rattle.std.specs.Prelude.{ℕ, List, [], ◌∷◌, ◌++◌, Option, Some, None, Bool, false, slice_get, ◌==◌}
use Rattle.mono_syntax.specs.declared.value.TypeNo.{TypeNo}
use Rattle.type_shapes.specs.declared.shape.Head.{Head}
use Rattle.type_shapes.specs.declared.shape.Head.TheVariants.{Fun, Obj}

-- a shape has a function's result first, and here it comes last
abbrev pub result_last : List ℕ → List ℕ
result_last [] = []
result_last (r ∷ ps) = ps ++ r ∷ []

-- the parts in the order of the type's own
abbrev pub parts_by : Head → List ℕ → List ℕ
parts_by Fun ps = result_last ps
parts_by _ ps = ps

-- a group that isn't there has no names
abbrev pub or_none : Option (List (List ℕ)) → List (List ℕ)
or_none None = []
or_none (Some ns) = ns

-- the names of the fields; none, where it isn't an object
abbrev pub names_by : List (List (List ℕ)) → Head → List (List ℕ)
names_by names (Obj g) = or_none (slice_get names g)
names_by names _ = []

-- two heads of objects with one list of names
abbrev pub same_group : Head → Head → Bool
same_group (Obj g) (Obj k) = g == k
same_group _ _ = false

-- a number as that of a type
abbrev pub type_number : Option ℕ → Option TypeNo
type_number None = None
type_number (Some n) = Some (record { 0 = n })
