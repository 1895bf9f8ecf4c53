use Rattle.std.proofs.Common.{◌≡◌, string_bytes}
use Rattle.std.specs.Prelude.{map}
use Rattle.stress_gen.specs.StressText.{lines_text, join_line, tasks}
use Rattle.stress_gen.proofs.script.all_joins.Given as goal

abbrev pub invariant-loop-i : goal.invariant-loop-i
invariant-loop-i l = string_bytes l.text ≡ lines_text (map join_line (tasks l.i))
