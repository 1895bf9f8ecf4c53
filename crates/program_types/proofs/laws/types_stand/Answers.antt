use Rattle.program_types.proofs.ScriptStands.{script_stands}
use Rattle.program_types.proofs.laws.types_stand.Goals as goal

pub returns : goal.returns
returns c = script_stands
