use Rattle.std.proofs.Common.{refl, ◌++◌}
use Rattle.mono_syntax.specs.StmtView.{block, branches}
use Rattle.script_rules.specs.SourceParts.{expr_parts, stmt_parts, block_parts, branch_parts}
use Rattle.written_types.specs.computed.TypesOnto.{types_onto}
use Rattle.written_types.proofs.OntoLaws.{onto-next}
use Rattle.written_types.proofs.walk.+stmts.Goals as goal

pub block_types-loop-s-preserved : goal.block_types-loop-s-preserved
block_types-loop-s-preserved t c =
    let cs = c.args.classes.now in
    onto-next cs stmt_parts (λ l. block_parts (block l)) (λ x xs. refl)
    c.args.list.now c.loop-s.s-index c.s-item.result c.loop-s.done c.in_ok-done.done
    (types_onto cs c.args.done (block_parts (block c.args.list.now))) c.loop-s-test.true c.s-item.is c.in_ok-done.ensures c.loop-s.invariant

pub branches_types-loop-branch-preserved : goal.branches_types-loop-branch-preserved
branches_types-loop-branch-preserved t c =
    let cs = c.args.classes.now in
    onto-next cs (λ b. expr_parts b.condition ++ block_parts (block b.body)) (λ l. branch_parts (branches l)) (λ x xs. refl)
    c.args.list.now c.loop-branch.branch-index
    c.branch-item.result c.loop-branch.done c.in_ok-done.done
    (types_onto cs c.args.done (branch_parts (branches c.args.list.now)))
    c.loop-branch-test.true c.branch-item.is c.in_ok-done.ensures c.loop-branch.invariant
