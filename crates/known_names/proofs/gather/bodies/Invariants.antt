use Rattle.std.proofs.Common.{◌≡◌, [], drop}
use Rattle.known_names.specs.computed.Gathered.{bodies_from}
use Rattle.known_names.proofs.gather.bodies.Given as goal

abbrev pub invariant-loop : goal.invariant-loop
invariant-loop l = bodies_from l.scoped l.all (drop l.index l.places) ≡ bodies_from l.scoped [] l.places
