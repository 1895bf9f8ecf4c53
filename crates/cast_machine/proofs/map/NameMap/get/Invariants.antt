use Rattle.std.proofs.Common.{◌≡◌, drop}
use Rattle.cast_machine.specs.Maps.{lookup}
use Rattle.cast_machine.proofs.map.NameMap.get.Given as goal

abbrev pub invariant-loop-entry : goal.invariant-loop-entry
invariant-loop-entry g l = lookup (drop l.entry-index l.self) l.name ≡ lookup l.self l.name
