use Rattle.std.proofs.Common.{◌≡◌, ◌+◌, ◌*◌, ◌++◌, drop}
use Rattle.mono_syntax.specs.Expr.{expr_size, exprs_size}
use Rattle.mono_syntax.specs.ExprView.{exprs}
use Rattle.script_rules.specs.Occurrences.{in_exprs}
use Rattle.name_scope.proofs.collect.+exprs.Given as goal

abbrev pub decreases-put_expr : goal.decreases-put_expr
decreases-put_expr l = 2 * expr_size l.e.now

abbrev pub decreases-put_pair : goal.decreases-put_pair
decreases-put_pair l = 2 * (expr_size l.a.now + expr_size l.b.now) + 1

abbrev pub decreases-put_exprs : goal.decreases-put_exprs
decreases-put_exprs l = 2 * exprs_size (exprs l.all.now) + 1

-- what is put, and what is left behind it
abbrev pub invariant-put_exprs-loop-e : goal.invariant-put_exprs-loop-e
invariant-put_exprs-loop-e l = l.list ++ in_exprs (exprs (drop l.e-index l.all)) ≡ l.initial.list ++ in_exprs (exprs l.all)
