use Rattle.std.proofs.Common.{◌≡◌, take}
use Rattle.calculus_data.proofs.copies.copy_threads.Given as goal

abbrev pub invariant-loop-thread : goal.invariant-loop-thread
invariant-loop-thread l = l.copy ≡ take l.thread-index l.threads
