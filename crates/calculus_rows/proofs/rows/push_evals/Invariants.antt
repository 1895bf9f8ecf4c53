use Rattle.std.proofs.Common.{◌≡◌, ◌++◌, ◌≤◌, drop, length}
use Rattle.cast_machine.specs.Rows.{evals}
use Rattle.calculus_rows.proofs.rows.push_evals.Given as goal

abbrev pub invariant-loop-left : goal.invariant-loop-left
invariant-loop-left l = record { pushed : l.work ≡ evals (drop l.left l.exprs) ++ l.fn.work; within : l.left ≤ length l.exprs }

abbrev pub decreases-loop-left : goal.decreases-loop-left
decreases-loop-left l = l.left
