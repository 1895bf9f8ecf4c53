use Rattle.std.proofs.Common.{◌≡◌, drop}
use Rattle.cast_insert.specs.computed.Scripted.{items_made}
use Rattle.cast_insert.proofs.script.items_made.Given as goal

abbrev pub invariant-loop-item : goal.invariant-loop-item
invariant-loop-item l = items_made l.known l.made (drop l.item-index l.items) ≡ items_made l.known l.initial.made l.items
