use Rattle.static_types.proofs.ScriptLaws.{script_or_fault}
use Rattle.static_types.proofs.laws.typed_or_faulty.Goals as goal

pub returns : goal.returns
returns c = script_or_fault
