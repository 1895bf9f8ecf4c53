use Rattle.std.proofs.Common.{◌≡◌, ◌+◌, ◌*◌, drop}
use Rattle.mono_syntax.specs.Stmt.{stmt_size, block_size, branches_size, else_size}
use Rattle.mono_syntax.specs.StmtView.{block, branches, else_block}
use Rattle.script_rules.specs.SourceParts.{block_parts, branch_parts}
use Rattle.written_types.specs.computed.TypesOnto.{types_onto}
use Rattle.written_types.proofs.walk.+stmts.Given as goal

abbrev pub decreases-stmt_types : goal.decreases-stmt_types
decreases-stmt_types l = 4 * stmt_size l.s.now

abbrev pub decreases-block_types : goal.decreases-block_types
decreases-block_types l = 4 * block_size (block l.list.now) + 1

abbrev pub decreases-branch_types : goal.decreases-branch_types
decreases-branch_types l = 4 * block_size (block l.branch.now.body) + 2

abbrev pub decreases-branches_types : goal.decreases-branches_types
decreases-branches_types l = 4 * branches_size (branches l.list.now) + 3

abbrev pub decreases-else_types : goal.decreases-else_types
decreases-else_types l = 4 * else_size (else_block l.last.now) + 3

abbrev pub invariant-block_types-loop-s : goal.invariant-block_types-loop-s
invariant-block_types-loop-s l =
    types_onto l.classes l.done (block_parts (block (drop l.s-index l.list)))
    ≡ types_onto l.classes l.initial.done (block_parts (block l.list))

abbrev pub invariant-branches_types-loop-branch : goal.invariant-branches_types-loop-branch
invariant-branches_types-loop-branch l =
    types_onto l.classes l.done (branch_parts (branches (drop l.branch-index l.list)))
    ≡ types_onto l.classes l.initial.done (branch_parts (branches l.list))
