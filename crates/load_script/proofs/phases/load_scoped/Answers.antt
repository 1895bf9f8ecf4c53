use Rattle.load_script.proofs.TreeLoading.{numbered_program, numbered_fault, numbered_refuses, typed_fault, typed_refuses}
use Rattle.load_script.proofs.phases.load_scoped.Goals as goal

pub returns-in-Ok-clause-accepted : goal.returns-in-Ok-clause-accepted
returns-in-Ok-clause-accepted c =
    numbered_program c.args.scoped c.requires.right c.requires.scope c.in-Ok.script c.in-Ok.ensures.accepted c.number_script.result
    c.number_script.ensures.script c.number_script.ensures.accepted

pub returns-in-Ok-clause-refused : goal.returns-in-Ok-clause-refused
returns-in-Ok-clause-refused c =
    numbered_fault c.args.scoped c.requires.right c.requires.scope c.in-Ok.script c.in-Ok.ensures.accepted c.in-Ok.ensures.typed c.number_script.result
    c.number_script.ensures.refused

pub returns-in-Ok-clause-refuses : goal.returns-in-Ok-clause-refuses
returns-in-Ok-clause-refuses c =
    numbered_refuses c.args.scoped c.requires.right c.in-Ok.script c.in-Ok.ensures.accepted c.in-Ok.ensures.typed c.number_script.result
    c.number_script.ensures.refuses

pub returns-in-Err-clause-refused : goal.returns-in-Err-clause-refused
returns-in-Err-clause-refused c = typed_fault c.args.scoped.script c.requires.right c.in-Err.fault c.in-Err.ensures.refused

pub returns-in-Err-clause-refuses : goal.returns-in-Err-clause-refuses
returns-in-Err-clause-refuses c = typed_refuses c.args.scoped.script c.requires.right c.in-Err.fault c.in-Err.ensures.refused c.in-Err.ensures.refuses
