use Rattle.std.proofs.Common.{◌≡◌, ◌≤◌, drop, length}
use Rattle.mono_syntax.specs.TyView.{fields}
use Rattle.cast_machine.specs.Obligations.{obligations}
use Rattle.calculus_cells.proofs.fits.push_fields.Given as goal

abbrev pub invariant-loop-left : goal.invariant-loop-left
invariant-loop-left l = record { pushed : l.work ≡ obligations l.class l.base (fields (drop l.left l.members)) l.fn.work; within : l.left ≤ length l.members }

abbrev pub decreases-loop-left : goal.decreases-loop-left
decreases-loop-left l = l.left
