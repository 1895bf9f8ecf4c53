-- Meets by a table: row a has the numbers of the meets of a and each number below it.
use Rattle.std.specs.Prelude.{ℕ, List, [], ◌∷◌, Option, Some, None, slice_get, nat_eq, nat_lt, if◌then◌else◌}
use Rattle.std.specs.Option.{option_map}
use Rattle.mono_tree.specs.Meet.{both}
use Rattle.type_shapes.specs.declared.shape.Head.{Head}
use Rattle.type_shapes.specs.declared.shape.Shape.{Shape}
use Rattle.type_shapes.specs.computed.ShapeEq.{head_eq}

-- one option of two
abbrev pub flat : {A : Type 0} → Option (Option A) → Option A
flat None = None
flat (Some o) = o

-- the entry of a row
abbrev pub entry_of : Option (List (Option ℕ)) → ℕ → Option ℕ
entry_of None b = None
entry_of (Some row) b = flat (slice_get row b)

-- the entry at two numbers, the greater first
abbrev pub entry : List (List (Option ℕ)) → ℕ → ℕ → Option ℕ
entry rows a b = entry_of (slice_get rows a) b

-- the number of the meet at two numbers: each type meets itself in itself
abbrev pub met_no : List (List (Option ℕ)) → ℕ → ℕ → Option ℕ
met_no rows a b = if nat_eq a b then Some a else if nat_lt b a then entry rows a b else entry rows b a

-- the numbers of the meets of parts, of which there are as many
abbrev pub met_parts : List (List (Option ℕ)) → List ℕ → List ℕ → Option (List ℕ)
met_parts rows [] [] = Some []
met_parts rows (x ∷ xs) (y ∷ ys) = both ◌∷◌ (met_no rows x y) (met_parts rows xs ys)
met_parts rows _ _ = None

-- the shape of a head and parts
abbrev pub with_head : Head → List ℕ → Shape
with_head h ps = record { head = h; parts = ps }

-- the shape of the meet of two shapes of which none is `Dyn`
abbrev pub met_shape : List (List (Option ℕ)) → Shape → Shape → Option Shape
met_shape rows s t = if head_eq s.head t.head then option_map (with_head s.head) (met_parts rows s.parts t.parts) else None
