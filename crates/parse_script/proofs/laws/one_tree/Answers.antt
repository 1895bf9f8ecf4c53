use Rattle.parse_script.proofs.Exact.{one_tree}
use Rattle.parse_script.proofs.laws.one_tree.Goals as goal

pub returns : goal.returns
returns c = one_tree
