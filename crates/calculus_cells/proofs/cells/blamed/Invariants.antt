use Rattle.std.proofs.Common.{◌≡◌, drop}
use Rattle.cast_machine.specs.Cells.{blamed}
use Rattle.calculus_cells.proofs.cells.blamed.Given as goal

abbrev pub invariant-loop-at : goal.invariant-loop-at
invariant-loop-at l = blamed (drop l.at l.work) ≡ blamed l.work
