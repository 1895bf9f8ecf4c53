use Rattle.std.proofs.Common.{◌≡◌, string_bytes}
use Rattle.std.specs.Prelude.{flat_map}
use Rattle.stress_gen.specs.StressText.{lines_text, task_lines, tasks}
use Rattle.stress_gen.proofs.script.all_tasks.Given as goal

abbrev pub invariant-loop-i : goal.invariant-loop-i
invariant-loop-i l = string_bytes l.text ≡ lines_text (flat_map task_lines (tasks l.i))
