use Rattle.std.proofs.Common.{◌≡◌, ◌+◌, ◌*◌, None, drop}
use Rattle.mono_syntax.specs.Stmt.{stmt_size, block_size, branches_size, else_size}
use Rattle.mono_syntax.specs.StmtView.{block, branches, else_block}
use Rattle.class_types.specs.computed.FoundFaults.{found, part_faults}
use Rattle.class_types.specs.computed.Made.{look}
use Rattle.script_rules.specs.SourceParts.{block_parts, branch_parts}
use Rattle.class_types.proofs.walk.+stmts.Given as goal

abbrev pub decreases-stmt_faults : goal.decreases-stmt_faults
decreases-stmt_faults l = 4 * stmt_size l.s.now

abbrev pub decreases-block_faults : goal.decreases-block_faults
decreases-block_faults l = 4 * block_size (block l.list.now) + 1

abbrev pub decreases-branch_faults : goal.decreases-branch_faults
decreases-branch_faults l = 4 * block_size (block l.branch.now.body) + 2

abbrev pub decreases-branches_faults : goal.decreases-branches_faults
decreases-branches_faults l = 4 * branches_size (branches l.list.now) + 3

abbrev pub decreases-else_faults : goal.decreases-else_faults
decreases-else_faults l = 4 * else_size (else_block l.last.now) + 3

abbrev pub invariant-block_faults-loop-s : goal.invariant-block_faults-loop-s
invariant-block_faults-loop-s l =
    let faults = part_faults (look l.sizes.names l.sizes.own.items None) in
    found faults l.so_far (block_parts (block (drop l.s-index l.list))) ≡ found faults l.initial.so_far (block_parts (block l.list))

abbrev pub invariant-branches_faults-loop-branch : goal.invariant-branches_faults-loop-branch
invariant-branches_faults-loop-branch l =
    let faults = part_faults (look l.sizes.names l.sizes.own.items None) in
    found faults l.so_far (branch_parts (branches (drop l.branch-index l.list))) ≡ found faults l.initial.so_far (branch_parts (branches l.list))
