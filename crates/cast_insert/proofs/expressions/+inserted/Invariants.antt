use Rattle.std.proofs.Common.{◌≡◌, ◌+◌, ◌*◌, drop}
use Rattle.mono_syntax.specs.Expr.{expr_size, exprs_size}
use Rattle.mono_syntax.specs.ExprView.{exprs}
use Rattle.cast_insert.specs.computed.Inserted.{all_inserted}
use Rattle.cast_insert.proofs.expressions.+inserted.Given as goal

abbrev pub decreases-inserted : goal.decreases-inserted
decreases-inserted l = 6 * expr_size l.e.now + 1

abbrev pub decreases-parts_inserted : goal.decreases-parts_inserted
decreases-parts_inserted l = 6 * expr_size l.e.now

abbrev pub decreases-with_part : goal.decreases-with_part
decreases-with_part l = 6 * expr_size l.e.now + 2

abbrev pub decreases-one_inserted : goal.decreases-one_inserted
decreases-one_inserted l = 6 * expr_size l.a.now + 3

abbrev pub decreases-two_inserted : goal.decreases-two_inserted
decreases-two_inserted l = 6 * (expr_size l.a.now + expr_size l.b.now) + 3

abbrev pub decreases-callee_inserted : goal.decreases-callee_inserted
decreases-callee_inserted l = 6 * expr_size l.callee.now + 3

abbrev pub decreases-call_inserted : goal.decreases-call_inserted
decreases-call_inserted l = 6 * (expr_size l.callee.now + exprs_size (exprs l.es.now)) + 4

abbrev pub decreases-all_inserted : goal.decreases-all_inserted
decreases-all_inserted l = 6 * exprs_size (exprs l.es.now) + 3

abbrev pub invariant-all_inserted-loop-e : goal.invariant-all_inserted-loop-e
invariant-all_inserted-loop-e l = all_inserted l.known l.local l.done (exprs (drop l.e-index l.es)) ≡ all_inserted l.known l.local l.initial.done (exprs l.es)
