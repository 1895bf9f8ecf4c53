-- The fields of an object type.
use Rattle.std.specs.Prelude.{ℕ, List, [], ◌∷◌}
use Rattle.mono_syntax.specs.Ty.{Fields, no_fields, more_fields}

-- the names, in their order
abbrev pub names_of : Fields → List (List ℕ)
names_of no_fields = []
names_of (more_fields n t fs) = n ∷ names_of fs
