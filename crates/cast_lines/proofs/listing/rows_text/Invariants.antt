use Rattle.std.proofs.Common.{◌≡◌, string_bytes, take}
use Rattle.cast_lines.specs.CastLines.{rows_text}
use Rattle.cast_lines.proofs.listing.rows_text.Given as goal

abbrev pub invariant-loop-row : goal.invariant-loop-row
invariant-loop-row l = string_bytes l.text ≡ rows_text l.script (take l.row-index l.rows)
