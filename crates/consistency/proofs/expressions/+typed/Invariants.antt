use Rattle.std.proofs.Common.{◌≡◌, ◌+◌, ◌*◌, drop}
use Rattle.mono_syntax.specs.Expr.{expr_size, exprs_size}
use Rattle.mono_syntax.specs.ExprView.{exprs}
use Rattle.consistency.specs.computed.Checked.{all_typed}
use Rattle.consistency.proofs.expressions.+typed.Given as goal

abbrev pub decreases-typed : goal.decreases-typed
decreases-typed l = 6 * expr_size l.e.now + 1

abbrev pub decreases-parts_typed : goal.decreases-parts_typed
decreases-parts_typed l = 6 * expr_size l.e.now

abbrev pub decreases-with_part : goal.decreases-with_part
decreases-with_part l = 6 * expr_size l.e.now + 2

abbrev pub decreases-one_typed : goal.decreases-one_typed
decreases-one_typed l = 6 * expr_size l.a.now + 3

abbrev pub decreases-two_typed : goal.decreases-two_typed
decreases-two_typed l = 6 * (expr_size l.a.now + expr_size l.b.now) + 3

abbrev pub decreases-call_typed : goal.decreases-call_typed
decreases-call_typed l = 6 * (expr_size l.callee.now + exprs_size (exprs l.es.now)) + 4

abbrev pub decreases-all_typed : goal.decreases-all_typed
decreases-all_typed l = 6 * exprs_size (exprs l.es.now) + 3

abbrev pub invariant-all_typed-loop-e : goal.invariant-all_typed-loop-e
invariant-all_typed-loop-e l = all_typed l.known l.local l.done (exprs (drop l.e-index l.es)) ≡ all_typed l.known l.local l.initial.done (exprs l.es)
