use Rattle.script_rules.specs.ScopeFaults.{IsRight}
use Rattle.script_shape.specs.Shapes.{IsShaped}
use Rattle.load_script.proofs.TreeLoading.{kept, own_scope, program_of, fault_of, refuses_of, named_fault, named_refuses}
use Rattle.load_script.proofs.phases.load_tree.Goals as goal

pub load_scoped-requires-clause-shape : goal.load_scoped-requires-clause-shape
load_scoped-requires-clause-shape c = kept IsShaped c.args.script.now c.in-Ok.scoped c.in-Ok.ensures.accepted c.requires

pub load_scoped-requires-clause-right : goal.load_scoped-requires-clause-right
load_scoped-requires-clause-right c = kept IsRight c.args.script.now c.in-Ok.scoped c.in-Ok.ensures.accepted c.in-Ok.ensures.right

pub load_scoped-requires-clause-scope : goal.load_scoped-requires-clause-scope
load_scoped-requires-clause-scope c = own_scope c.args.script.now c.in-Ok.scoped c.in-Ok.ensures.accepted

pub returns-in-Ok-clause-accepted : goal.returns-in-Ok-clause-accepted
returns-in-Ok-clause-accepted c = program_of c.args.script.now c.in-Ok.scoped c.in-Ok.ensures.accepted c.load_scoped.result c.load_scoped.ensures.accepted

pub returns-in-Ok-clause-refused : goal.returns-in-Ok-clause-refused
returns-in-Ok-clause-refused c = fault_of c.args.script.now c.in-Ok.scoped c.in-Ok.ensures.accepted c.load_scoped.result c.load_scoped.ensures.refused

pub returns-in-Ok-clause-refuses : goal.returns-in-Ok-clause-refuses
returns-in-Ok-clause-refuses c = refuses_of c.args.script.now c.in-Ok.scoped c.in-Ok.ensures.accepted c.load_scoped.result c.load_scoped.ensures.refuses

pub returns-in-Err-clause-refused : goal.returns-in-Err-clause-refused
returns-in-Err-clause-refused c = named_fault c.args.script.now c.in-Err.fault c.in-Err.ensures.refused

pub returns-in-Err-clause-refuses : goal.returns-in-Err-clause-refuses
returns-in-Err-clause-refuses c = named_refuses c.args.script.now c.in-Err.fault c.in-Err.ensures.accepts c.in-Err.ensures.refuses
