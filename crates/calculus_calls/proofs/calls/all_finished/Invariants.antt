use Rattle.std.proofs.Common.{◌≡◌, drop}
use Rattle.cast_machine.specs.Calls.{all_finished}
use Rattle.calculus_calls.proofs.calls.all_finished.Given as goal

abbrev pub invariant-loop-thread : goal.invariant-loop-thread
invariant-loop-thread l = all_finished l.threads (drop l.thread-index l.started) ≡ all_finished l.threads l.started
