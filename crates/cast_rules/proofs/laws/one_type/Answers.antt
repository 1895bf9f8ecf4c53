use Rattle.cast_rules.proofs.OneType.{one_static_type}
use Rattle.cast_rules.proofs.laws.one_type.Goals as goal

pub returns : goal.returns
returns c = one_static_type
