use Rattle.std.proofs.Common.{◌≡◌, take}
use Rattle.calculus_data.proofs.copies.copy_line.Given as goal

abbrev pub invariant-loop-value : goal.invariant-loop-value
invariant-loop-value l = l.copy ≡ take l.value-index l.line
