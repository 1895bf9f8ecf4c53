use Rattle.std.proofs.Common.{◌≡◌, [], drop}
use Rattle.known_names.specs.computed.Gathered.{function_types}
use Rattle.known_names.proofs.gather.function_types.Given as goal

abbrev pub invariant-loop-item : goal.invariant-loop-item
invariant-loop-item l = function_types l.types l.places l.done (drop l.item-index l.items) ≡ function_types l.types l.places [] l.items
