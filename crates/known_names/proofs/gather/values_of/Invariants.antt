use Rattle.std.proofs.Common.{◌≡◌, take}
use Rattle.known_names.specs.computed.Gathered.{values_of}
use Rattle.known_names.proofs.gather.values_of.Given as goal

abbrev pub invariant-loop-name : goal.invariant-loop-name
invariant-loop-name l = l.all ≡ values_of l.types (take l.name-index l.names)
