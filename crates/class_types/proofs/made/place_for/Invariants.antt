use Rattle.std.proofs.Common.{◌≡◌, ◌+◌, drop}
use Rattle.class_types.specs.computed.Order.{place_for}
use Rattle.class_types.proofs.made.place_for.Given as goal

abbrev pub invariant-loop-i : goal.invariant-loop-i
invariant-loop-i l = l.i + place_for l.name (drop l.i l.sorted) ≡ place_for l.name l.sorted
