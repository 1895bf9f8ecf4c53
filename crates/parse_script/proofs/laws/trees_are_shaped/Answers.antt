use Rattle.parse_script.proofs.Shapes.{trees_are_shaped}
use Rattle.parse_script.proofs.laws.trees_are_shaped.Goals as goal

pub returns : goal.returns
returns c = trees_are_shaped
