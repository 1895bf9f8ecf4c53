use Rattle.cast_rules.proofs.OneScript.{script_once}
use Rattle.cast_rules.proofs.laws.one_result.Goals as goal

pub returns : goal.returns
returns c = script_once
