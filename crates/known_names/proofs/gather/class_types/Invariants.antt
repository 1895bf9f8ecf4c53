use Rattle.std.proofs.Common.{◌≡◌, [], drop}
use Rattle.known_names.specs.computed.Gathered.{class_types}
use Rattle.known_names.proofs.gather.class_types.Given as goal

abbrev pub invariant-loop-item : goal.invariant-loop-item
invariant-loop-item l = class_types l.types l.places l.done (drop l.item-index l.items) ≡ class_types l.types l.places [] l.items
