use Rattle.std.proofs.Common.{◌≡◌, [], drop}
use Rattle.known_names.specs.computed.Gathered.{classes_from}
use Rattle.known_names.proofs.gather.classes.Given as goal

abbrev pub invariant-loop-item : goal.invariant-loop-item
invariant-loop-item l = classes_from l.annotations l.types l.places l.done (drop l.item-index l.items) ≡ classes_from l.annotations l.types l.places [] l.items
