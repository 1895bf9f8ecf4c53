use Rattle.load_script.proofs.ClosingTypes.{closed_fault, closed_whole, closed_refuses}
use Rattle.load_script.proofs.phases.close_written.Goals as goal

pub returns-in-Ok-clause-accepted : goal.returns-in-Ok-clause-accepted
returns-in-Ok-clause-accepted c = λ s are.
    (record { written = c.args.written.now; are = are; closed = c.in-Ok.ensures.closed }, c.in-Ok.ensures.fine)

pub returns-in-Ok-clause-refuses : goal.returns-in-Ok-clause-refuses
returns-in-Ok-clause-refuses c = λ s are r f. closed_whole s c.args.written.now c.in-Ok.closed.keys are c.in-Ok.ensures.closed c.in-Ok.ensures.fine r f

pub returns-in-Err-clause-refused : goal.returns-in-Err-clause-refused
returns-in-Err-clause-refused c = λ s are. closed_fault s c.args.written.now are c.in-Err.fault c.in-Err.ensures.refused

pub returns-in-Err-clause-refuses : goal.returns-in-Err-clause-refuses
returns-in-Err-clause-refuses c = λ s are r f. closed_refuses s c.args.written.now are c.in-Err.fault c.in-Err.ensures.refused r f
