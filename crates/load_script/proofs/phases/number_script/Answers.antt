use Rattle.load_script.proofs.Numbering.{types_fault, types_refuse}
use Rattle.load_script.proofs.phases.number_script.Goals as goal

pub returns-in-Err-clause-refused : goal.returns-in-Err-clause-refused
returns-in-Err-clause-refused c = types_fault c.args.script c.in-Err.fault c.in-Err.ensures.refused

pub returns-in-Err-clause-refuses : goal.returns-in-Err-clause-refuses
returns-in-Err-clause-refuses c = types_refuse c.args.script c.in-Err.fault c.in-Err.ensures.refused c.in-Err.ensures.refuses
