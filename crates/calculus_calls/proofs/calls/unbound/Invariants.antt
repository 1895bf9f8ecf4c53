use Rattle.std.proofs.Common.{◌≡◌, ◌++◌, drop}
use Rattle.cast_machine.specs.Calls.{unbound}
use Rattle.calculus_calls.proofs.calls.unbound.Given as goal

abbrev pub invariant-loop-named : goal.invariant-loop-named
invariant-loop-named g l = l.map ++ unbound (drop l.named-index l.names) ≡ unbound l.names
