use Rattle.std.proofs.Common.{◌≡◌, take, reverse}
use Rattle.calculus_data.proofs.copies.copy_frames.Given as goal

abbrev pub invariant-loop-frame : goal.invariant-loop-frame
invariant-loop-frame l = l.copy ≡ reverse (take l.frame-index l.frame-items)
