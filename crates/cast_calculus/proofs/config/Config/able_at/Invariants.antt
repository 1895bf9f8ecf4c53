use Rattle.std.proofs.Common.{◌≡◌, drop, slice_get}
use Rattle.cast_calculus.specs.computed.Runnable.{steps_from}
use Rattle.cast_calculus.proofs.config.Config.able_at.Given as goal

abbrev pub invariant-loop-t : goal.invariant-loop-t
invariant-loop-t l = slice_get (steps_from l.self l.t (drop l.t l.self.threads)) l.left ≡ slice_get (steps_from l.self 0 l.self.threads) l.fn.place
