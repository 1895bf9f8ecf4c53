use Rattle.stress_gen.proofs.LineTexts.{length-stress_lines}
use Rattle.stress_gen.proofs.laws.line_count.Goals as goal

pub returns : goal.returns
returns c = length-stress_lines
