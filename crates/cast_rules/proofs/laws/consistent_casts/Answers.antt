use Rattle.cast_rules.proofs.ConsistentCasts.{casts_consistent}
use Rattle.cast_rules.proofs.laws.consistent_casts.Goals as goal

pub returns : goal.returns
returns c = casts_consistent
