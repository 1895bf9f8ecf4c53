use Rattle.parse_script.proofs.Shapes.{trees_are_shaped}
use Rattle.load_script.proofs.TextLoading.{tree_fault, tree_refuses, parse_fault, parse_refuses}
use Rattle.load_script.proofs.phases.load_tokens.Goals as goal

pub load_tree-requires : goal.load_tree-requires
load_tree-requires c = trees_are_shaped c.args.text.now c.args.tokens.now c.in-Ok.script c.in-Ok.ensures.accepted

pub returns-in-Ok-clause-refused : goal.returns-in-Ok-clause-refused
returns-in-Ok-clause-refused c = tree_fault c.args.text.now c.args.tokens.now c.in-Ok.script c.in-Ok.ensures.accepted c.load_tree.result c.load_tree.ensures.refused

pub returns-in-Err-clause-refused : goal.returns-in-Err-clause-refused
returns-in-Err-clause-refused c = parse_fault c.args.text.now c.args.tokens.now c.in-Err.fault c.in-Err.ensures.refused

pub returns-in-Ok-clause-refuses : goal.returns-in-Ok-clause-refuses
returns-in-Ok-clause-refuses c =
    tree_refuses c.args.text.now c.args.tokens.now c.in-Ok.script c.in-Ok.ensures.accepted c.in-Ok.ensures.complete c.load_tree.result c.load_tree.ensures.refuses

pub returns-in-Err-clause-refuses : goal.returns-in-Err-clause-refuses
returns-in-Err-clause-refuses c = parse_refuses c.args.text.now c.args.tokens.now c.in-Err.fault c.in-Err.ensures.refused c.in-Err.ensures.complete
