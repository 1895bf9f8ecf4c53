use Rattle.std.proofs.Common.{◌≡◌, ◌+◌, ◌*◌, ◌++◌, drop}
use Rattle.mono_syntax.specs.Stmt.{stmt_size, block_size, branches_size, else_size}
use Rattle.mono_syntax.specs.StmtView.{block, branches, else_block}
use Rattle.script_rules.specs.Occurrences.{in_block, in_branches}
use Rattle.name_scope.proofs.statements.+stmts.Given as goal

abbrev pub decreases-put_stmt : goal.decreases-put_stmt
decreases-put_stmt l = 3 * stmt_size l.s.now

abbrev pub decreases-put_block : goal.decreases-put_block
decreases-put_block l = 3 * block_size (block l.body.now) + 1

abbrev pub decreases-put_branches : goal.decreases-put_branches
decreases-put_branches l = 3 * branches_size (branches l.all.now) + 2

abbrev pub decreases-put_else : goal.decreases-put_else
decreases-put_else l = 3 * else_size (else_block l.last.now) + 2

-- what is put, and what is left behind it
abbrev pub invariant-put_block-loop-s : goal.invariant-put_block-loop-s
invariant-put_block-loop-s l = l.list ++ in_block (block (drop l.s-index l.body)) ≡ l.initial.list ++ in_block (block l.body)

abbrev pub invariant-put_branches-loop-branch : goal.invariant-put_branches-loop-branch
invariant-put_branches-loop-branch l = l.list ++ in_branches (branches (drop l.branch-index l.all)) ≡ l.initial.list ++ in_branches (branches l.all)
