use Rattle.std.proofs.Common.{◌+◌, ◌*◌, take}
use Rattle.mono_syntax.specs.CastStmt.{cast_stmt_size, cast_block_size, cast_branches_size, cast_else_size}
use Rattle.mono_syntax.specs.CastStmtView.{cast_block, cast_branches, cast_else_block, cast_stmt_of}
use Rattle.node_code.specs.NodeMeaning.{Trees, IsMeant}
use Rattle.node_code.specs.Numbering.{GivesStmts, GivesBranches}
use Rattle.node_code.specs.Slotted.{BlockSlotted, BranchesSlotted}
use Rattle.node_code.proofs.stmts.+stmts.Given as goal

abbrev pub decreases-stmt_node : goal.decreases-stmt_node
decreases-stmt_node l = 5 * cast_stmt_size (cast_stmt_of l.kind.now)

abbrev pub decreases-number_stmt : goal.decreases-number_stmt
decreases-number_stmt l = 5 * cast_stmt_size l.stmt.now + 1

abbrev pub decreases-body_stmts : goal.decreases-body_stmts
decreases-body_stmts l = 5 * cast_block_size (cast_block l.list.now) + 2

abbrev pub decreases-number_body : goal.decreases-number_body
decreases-number_body l = 5 * cast_block_size (cast_block l.list.now) + 3

abbrev pub decreases-number_else : goal.decreases-number_else
decreases-number_else l = 5 * cast_else_size (cast_else_block l.last.now) + 4

abbrev pub decreases-branch_nodes : goal.decreases-branch_nodes
decreases-branch_nodes l = 5 * cast_branches_size (cast_branches l.list.now) + 2

abbrev pub decreases-number_branches : goal.decreases-number_branches
decreases-number_branches l = 5 * cast_branches_size (cast_branches l.list.now) + 3

-- those so far have their numbers
abbrev pub invariant-body_stmts-loop-stmt : goal.invariant-body_stmts-loop-stmt
invariant-body_stmts-loop-stmt l =
    (m : Trees) → IsMeant l.slots l.fn.tables m → BlockSlotted l.fn.tables.table.types l.slots (cast_block l.list)
    → GivesStmts l.slots l.fn.tables m (take l.stmt-index l.list) (record { stmts = l.stmts; tables = l.tables })

abbrev pub invariant-branch_nodes-loop-branch : goal.invariant-branch_nodes-loop-branch
invariant-branch_nodes-loop-branch l =
    (m : Trees) → IsMeant l.slots l.fn.tables m → BranchesSlotted l.fn.tables.table.types l.slots (cast_branches l.list)
    → GivesBranches l.slots l.fn.tables m (take l.branch-index l.list) (record { branches = l.branches; tables = l.tables })
