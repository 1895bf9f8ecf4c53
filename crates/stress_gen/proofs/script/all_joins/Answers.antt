use Rattle.std.proofs.Common.{rules}
use Rattle.stress_gen.specs.StressText.{join_line}
use Rattle.stress_gen.proofs.LineTexts.{map_more}
use Rattle.stress_gen.proofs.script.all_joins.Goals as goal

pub loop-i-preserved : goal.loop-i-preserved
loop-i-preserved c = rw (map_more join_line c.loop-i.i) (search rules)
