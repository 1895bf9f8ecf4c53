use Rattle.std.proofs.Common.{refl, ◌++◌, None}
use Rattle.mono_syntax.specs.StmtView.{block, branches}
use Rattle.class_types.specs.computed.FoundFaults.{found, part_faults}
use Rattle.class_types.specs.computed.Made.{look}
use Rattle.script_rules.specs.SourceParts.{expr_parts, stmt_parts, block_parts, branch_parts}
use Rattle.class_types.proofs.FoundLaws.{found-next}
use Rattle.class_types.proofs.walk.+stmts.Goals as goal

pub block_faults-loop-s-preserved : goal.block_faults-loop-s-preserved
block_faults-loop-s-preserved t c =
    let faults = part_faults (look c.args.sizes.now.names c.args.sizes.now.own.items None) in
    found-next faults stmt_parts (λ l. block_parts (block l)) (λ x xs. refl) c.args.list.now c.loop-s.s-index c.s-item.result c.loop-s.so_far c.stmt_faults-so_far.result
    (found faults c.args.so_far (block_parts (block c.args.list.now))) c.loop-s-test.true c.s-item.is c.stmt_faults-so_far.ensures c.loop-s.invariant

pub branches_faults-loop-branch-preserved : goal.branches_faults-loop-branch-preserved
branches_faults-loop-branch-preserved t c =
    let faults = part_faults (look c.args.sizes.now.names c.args.sizes.now.own.items None) in
    found-next faults (λ b. expr_parts b.condition ++ block_parts (block b.body)) (λ l. branch_parts (branches l)) (λ x xs. refl) c.args.list.now c.loop-branch.branch-index c.branch-item.result
    c.loop-branch.so_far c.branch_faults-so_far.result
    (found faults c.args.so_far (branch_parts (branches c.args.list.now))) c.loop-branch-test.true c.branch-item.is c.branch_faults-so_far.ensures c.loop-branch.invariant
