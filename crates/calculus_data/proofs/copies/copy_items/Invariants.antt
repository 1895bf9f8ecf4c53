use Rattle.std.proofs.Common.{◌≡◌, take, reverse}
use Rattle.calculus_data.proofs.copies.copy_items.Given as goal

abbrev pub invariant-loop-item : goal.invariant-loop-item
invariant-loop-item l = l.copy ≡ reverse (take l.item-index l.item-items)
