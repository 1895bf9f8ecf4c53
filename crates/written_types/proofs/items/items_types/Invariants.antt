use Rattle.std.proofs.Common.{◌≡◌, drop}
use Rattle.written_types.specs.computed.WrittenItems.{items_onto, nothing}
use Rattle.written_types.proofs.items.items_types.Given as goal

abbrev pub invariant-loop-item : goal.invariant-loop-item
invariant-loop-item l = items_onto l.known l.done (drop l.item-index l.items) ≡ items_onto l.known nothing l.items
