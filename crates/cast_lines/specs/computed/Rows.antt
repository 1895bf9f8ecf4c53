-- Computed: the rows in the order of their numbers.
use Rattle.std.specs.Prelude.{ℕ, ◌+◌, List, [], ◌∷◌, ◌++◌}
use Rattle.mono_syntax.specs.declared.leaf.Site.{Site}
use Rattle.cast_lines.specs.declared.rows.Row.{Row}
use Rattle.cast_lines.specs.CastLines.{rank, row_of}

abbrev pub with_row : List Row → ℕ → Site → List Row
with_row rows n x = rows ++ row_of n x (rank x.kind)

-- behind those that are done
abbrev pub rows_behind : List Row → ℕ → List Site → List Row
rows_behind rows n [] = rows
rows_behind rows n (x ∷ xs) = rows_behind (with_row rows n x) (n + 1) xs
