use Rattle.std.proofs.Common.{rules}
use Rattle.stress_gen.specs.StressText.{task_lines}
use Rattle.stress_gen.proofs.LineTexts.{flat_map_more}
use Rattle.stress_gen.proofs.script.all_tasks.Goals as goal

pub loop-i-preserved : goal.loop-i-preserved
loop-i-preserved c = rw (flat_map_more task_lines c.loop-i.i) (search rules)
