use Rattle.type_shapes.proofs.LimitLaws.{no_fault}
use Rattle.meet_closure.proofs.RefusalLaws.{either, one}
use Rattle.meet_closure.proofs.laws.refusal_laws.Goals as goal

pub returns-clause-either : goal.returns-clause-either
returns-clause-either c = either

pub returns-clause-apart : goal.returns-clause-apart
returns-clause-apart c = no_fault

pub returns-clause-one : goal.returns-clause-one
returns-clause-one c = one
