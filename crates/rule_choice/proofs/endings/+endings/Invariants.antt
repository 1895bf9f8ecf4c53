use Rattle.std.proofs.Common.{◌≡◌, ◌+◌, ◌*◌, drop}
use Rattle.mono_syntax.specs.Stmt.{stmt_size, block_size, branches_size, else_size}
use Rattle.mono_syntax.specs.StmtView.{block, branches, else_block}
use Rattle.static_types.specs.BodyEnds.{may_end, branches_may_end}
use Rattle.rule_choice.specs.computed.Ends.{ends_behind}
use Rattle.rule_choice.proofs.endings.+endings.Given as goal

abbrev pub decreases-statement_may_end : goal.decreases-statement_may_end
decreases-statement_may_end l = 4 * stmt_size l.s.now

abbrev pub decreases-may_end : goal.decreases-may_end
decreases-may_end l = 4 * block_size (block l.body.now) + 1

abbrev pub decreases-branches_may_end : goal.decreases-branches_may_end
decreases-branches_may_end l = 4 * branches_size (branches l.all.now) + 3

abbrev pub decreases-else_may_end : goal.decreases-else_may_end
decreases-else_may_end l = 4 * else_size (else_block l.last.now) + 3

-- the last statement decides
abbrev pub invariant-may_end-loop-s : goal.invariant-may_end-loop-s
invariant-may_end-loop-s l = ends_behind l.ends (block (drop l.s-index l.body)) ≡ may_end (block l.body)

abbrev pub invariant-branches_may_end-loop-branch : goal.invariant-branches_may_end-loop-branch
invariant-branches_may_end-loop-branch l = branches_may_end (branches (drop l.branch-index l.all)) ≡ branches_may_end (branches l.all)
