use Rattle.cast_rules.proofs.Typed.{script_typed}
use Rattle.cast_rules.proofs.laws.typed_before.Goals as goal

pub returns : goal.returns
returns c = script_typed
