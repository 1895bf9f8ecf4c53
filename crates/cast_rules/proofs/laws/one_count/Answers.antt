use Rattle.cast_rules.proofs.OneScript.{counts_once}
use Rattle.cast_rules.proofs.laws.one_count.Goals as goal

pub returns : goal.returns
returns c = counts_once
