use Rattle.std.proofs.Common.{◌≡◌, ◌+◌, ◌≤◌, drop, length}
use Rattle.cast_calculus.specs.computed.Runnable.{steps_from}
use Rattle.cast_calculus.proofs.config.Config.able_count.Given as goal

abbrev pub invariant-loop-thread : goal.invariant-loop-thread
invariant-loop-thread l = record { counted : l.count + length (steps_from l.self l.thread-index (drop l.thread-index l.self.threads)) ≡ length (steps_from l.self 0 l.self.threads); few : l.count ≤ l.thread-index }
