-- Computed: look-ups of what the code knows of names.
use Rattle.std.specs.Prelude.{ℕ, List, [], ◌∷◌, Option, Some, None, bytes_eq, if◌then◌else◌}
use Rattle.known_names.specs.declared.known.KnownClass.{KnownClass}

-- the class of a name
abbrev pub known_class : List KnownClass → List ℕ → Option KnownClass
known_class [] x = None
known_class (k ∷ ks) x = if bytes_eq k.name x then Some k else known_class ks x
