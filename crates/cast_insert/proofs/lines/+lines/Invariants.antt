use Rattle.std.proofs.Common.{◌≡◌, ◌+◌, ◌*◌, drop}
use Rattle.mono_syntax.specs.Stmt.{stmt_size, block_size, branches_size, else_size}
use Rattle.mono_syntax.specs.StmtView.{block, branches, else_block}
use Rattle.cast_insert.specs.computed.Lined.{begun, unbranched, block_inserted, branches_inserted}
use Rattle.cast_insert.proofs.lines.+lines.Given as goal

abbrev pub decreases-line_inserted : goal.decreases-line_inserted
decreases-line_inserted l = 4 * stmt_size l.s.now

abbrev pub decreases-block_inserted : goal.decreases-block_inserted
decreases-block_inserted l = 4 * block_size (block l.body.now) + 1

abbrev pub decreases-guarded : goal.decreases-guarded
decreases-guarded l = 4 * block_size (block l.body.now) + 2

abbrev pub decreases-branches_inserted : goal.decreases-branches_inserted
decreases-branches_inserted l = 4 * branches_size (branches l.all.now) + 3

abbrev pub decreases-last_inserted : goal.decreases-last_inserted
decreases-last_inserted l = 4 * else_size (else_block l.last.now) + 3

-- what is left, behind what is done
abbrev pub invariant-block_inserted-loop-s : goal.invariant-block_inserted-loop-s
invariant-block_inserted-loop-s l =
    block_inserted l.known (record { lines = l.lines; state = l.state }) (block (drop l.s-index l.body)) ≡ block_inserted l.known (begun l.initial.state) (block l.body)

abbrev pub invariant-branches_inserted-loop-branch : goal.invariant-branches_inserted-loop-branch
invariant-branches_inserted-loop-branch l =
    branches_inserted l.known (record { branches = l.done; state = l.state }) (branches (drop l.branch-index l.all)) ≡ branches_inserted l.known (unbranched l.initial.state) (branches l.all)
