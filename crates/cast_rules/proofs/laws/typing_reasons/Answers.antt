use Rattle.cast_rules.proofs.LineReasons.{type_fault_reason}
use Rattle.cast_rules.proofs.laws.typing_reasons.Goals as goal

pub returns : goal.returns
returns c = type_fault_reason
