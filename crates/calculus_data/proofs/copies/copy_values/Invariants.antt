use Rattle.std.proofs.Common.{◌≡◌, take, reverse}
use Rattle.calculus_data.proofs.copies.copy_values.Given as goal

abbrev pub invariant-loop-value : goal.invariant-loop-value
invariant-loop-value l = l.copy ≡ reverse (take l.value-index l.value-items)
