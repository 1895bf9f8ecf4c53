use Rattle.static_types.proofs.ScriptLaws.{script_fault_once}
use Rattle.static_types.proofs.laws.one_fault.Goals as goal

pub returns : goal.returns
returns c = script_fault_once
