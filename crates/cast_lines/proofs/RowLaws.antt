-- The rows that are gathered are those of the rule.
use Rattle.std.proofs.Common.{◌≡◌, ℕ, ◌+◌, List, [], ◌∷◌, ◌++◌, sym, subst, ◌∙◌, append_assoc}
use Rattle.std.specs.Prelude.{IsPermutation, IsSorted}
use Rattle.std.proofs.lemmas.List.{append-nil}
use Rattle.mono_syntax.specs.declared.leaf.Site.{Site}
use Rattle.cast_lines.specs.declared.rows.Row.{Row}
use Rattle.cast_lines.specs.CastLines.{rank, row_of, rows_from, AreRows}
use Rattle.cast_lines.specs.computed.Rows.{with_row, rows_behind}
use Rattle.cast_lines.specs.Order.{order}

gathered : (rows : List Row) (n : ℕ) (xs : List Site) → rows_behind rows n xs ≡ rows ++ rows_from n xs
gathered rows n [] = sym (append-nil rows)
gathered rows n (x ∷ xs) = gathered (with_row rows n x) (n + 1) xs ∙ append_assoc rows (row_of n x (rank x.kind)) (rows_from (n + 1) xs)

pub all_rows : (xs : List Site) → rows_behind [] 0 xs ≡ rows_from 0 xs
all_rows xs = gathered [] 0 xs

pub rows_are : (xs : List Site) (before rows : List Row) → before ≡ rows_behind [] 0 xs → IsPermutation before rows → IsSorted order rows → AreRows xs rows
rows_are xs before rows e same sorted = record { same = subst (λ (l : List Row). IsPermutation l rows) (e ∙ all_rows xs) same; sorted = sorted }
