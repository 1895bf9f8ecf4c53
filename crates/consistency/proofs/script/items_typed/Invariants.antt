use Rattle.std.proofs.Common.{◌≡◌, drop}
use Rattle.consistency.specs.computed.Scripted.{items_typed}
use Rattle.consistency.proofs.script.items_typed.Given as goal

abbrev pub invariant-loop-item : goal.invariant-loop-item
invariant-loop-item l = items_typed l.known l.done (drop l.item-index l.items) ≡ items_typed l.known l.initial.done l.items
