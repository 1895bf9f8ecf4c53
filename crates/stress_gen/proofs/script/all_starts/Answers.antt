use Rattle.std.proofs.Common.{rules}
use Rattle.stress_gen.specs.StressText.{start_line}
use Rattle.stress_gen.proofs.LineTexts.{map_more}
use Rattle.stress_gen.proofs.script.all_starts.Goals as goal

pub loop-i-preserved : goal.loop-i-preserved
loop-i-preserved c = rw (map_more start_line c.loop-i.i) (search rules)
