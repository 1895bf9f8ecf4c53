use Rattle.std.proofs.Common.{◌≡◌, ◌+◌, ◌*◌, drop}
use Rattle.mono_syntax.specs.Stmt.{stmt_size, block_size, branches_size, else_size}
use Rattle.mono_syntax.specs.StmtView.{block, branches, else_block}
use Rattle.consistency.specs.computed.Lined.{block_typed, branches_typed}
use Rattle.consistency.proofs.lines.+lines.Given as goal

abbrev pub decreases-line_typed : goal.decreases-line_typed
decreases-line_typed l = 4 * stmt_size l.s.now

abbrev pub decreases-block_typed : goal.decreases-block_typed
decreases-block_typed l = 4 * block_size (block l.body.now) + 1

abbrev pub decreases-branches_typed : goal.decreases-branches_typed
decreases-branches_typed l = 4 * branches_size (branches l.all.now) + 3

abbrev pub decreases-else_typed : goal.decreases-else_typed
decreases-else_typed l = 4 * else_size (else_block l.last.now) + 3

-- what is left, behind what is done
abbrev pub invariant-block_typed-loop-s : goal.invariant-block_typed-loop-s
invariant-block_typed-loop-s l = block_typed l.known l.state (block (drop l.s-index l.body)) ≡ block_typed l.known l.initial.state (block l.body)

abbrev pub invariant-branches_typed-loop-branch : goal.invariant-branches_typed-loop-branch
invariant-branches_typed-loop-branch l = branches_typed l.known l.state (branches (drop l.branch-index l.all)) ≡ branches_typed l.known l.initial.state (branches l.all)
