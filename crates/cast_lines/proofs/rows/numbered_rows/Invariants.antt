use Rattle.std.proofs.Common.{◌≡◌, [], drop}
use Rattle.cast_lines.specs.computed.Rows.{rows_behind}
use Rattle.cast_lines.proofs.rows.numbered_rows.Given as goal

abbrev pub invariant-loop-number : goal.invariant-loop-number
invariant-loop-number l = rows_behind l.rows.items l.number (drop l.number l.sites) ≡ rows_behind [] 0 l.sites
