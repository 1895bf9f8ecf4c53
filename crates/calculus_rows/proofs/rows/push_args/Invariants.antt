use Rattle.std.proofs.Common.{◌≡◌, ◌++◌, ◌≤◌, drop, length}
use Rattle.mono_syntax.specs.CastExprView.{args}
use Rattle.mono_tree.specs.CastScripts.{values_of}
use Rattle.cast_machine.specs.Rows.{evals}
use Rattle.calculus_rows.proofs.rows.push_args.Given as goal

abbrev pub invariant-loop-left : goal.invariant-loop-left
invariant-loop-left l = record { pushed : l.work ≡ evals (values_of (args (drop l.left l.given))) ++ l.fn.work; within : l.left ≤ length l.given }

abbrev pub decreases-loop-left : goal.decreases-loop-left
decreases-loop-left l = l.left
