use Rattle.std.proofs.Common.{◌≡◌, ◌+◌, ◌*◌, drop}
use Rattle.mono_syntax.specs.Expr.{expr_size, exprs_size}
use Rattle.mono_syntax.specs.ExprView.{exprs}
use Rattle.token_lines.specs.Sheets.{written}
use Rattle.tree_print.specs.Brackets.{more_exprs_tokens}
use Rattle.tree_print.proofs.expressions.+exprs.Given as goal

abbrev pub decreases-put_expr : goal.decreases-put_expr
decreases-put_expr l = 4 * expr_size l.e.now

abbrev pub decreases-put_placed : goal.decreases-put_placed
decreases-put_placed l = 4 * expr_size l.e.now + 2

abbrev pub decreases-put_bracketed : goal.decreases-put_bracketed
decreases-put_bracketed l = 4 * expr_size l.e.now + 1

abbrev pub decreases-put_binary : goal.decreases-put_binary
decreases-put_binary l = 4 * (expr_size l.a.now + expr_size l.b.now) + 3

abbrev pub decreases-put_and : goal.decreases-put_and
decreases-put_and l = 4 * (expr_size l.a.now + expr_size l.b.now) + 3

abbrev pub decreases-put_or : goal.decreases-put_or
decreases-put_or l = 4 * (expr_size l.a.now + expr_size l.b.now) + 3

abbrev pub decreases-put_read : goal.decreases-put_read
decreases-put_read l = 4 * expr_size l.a.now + 3

abbrev pub decreases-put_call : goal.decreases-put_call
decreases-put_call l = 4 * (expr_size l.a.now + exprs_size (exprs l.list.now)) + 3

abbrev pub decreases-put_cast : goal.decreases-put_cast
decreases-put_cast l = 4 * expr_size l.a.now + 3

abbrev pub decreases-put_exprs : goal.decreases-put_exprs
decreases-put_exprs l = 4 * exprs_size (exprs l.list.now) + 2

abbrev pub decreases-put_more_exprs : goal.decreases-put_more_exprs
decreases-put_more_exprs l = 4 * exprs_size (exprs l.list.now) + 1

-- the page so far, and the expressions that are left
abbrev pub invariant-put_more_exprs-loop-e : goal.invariant-put_more_exprs-loop-e
invariant-put_more_exprs-loop-e l = written l.page (more_exprs_tokens (exprs (drop l.e-index l.list))) ≡ written l.initial.page (more_exprs_tokens (exprs l.list))
