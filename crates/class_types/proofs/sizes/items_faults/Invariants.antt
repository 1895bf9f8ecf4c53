use Rattle.std.proofs.Common.{◌≡◌, None, drop}
use Rattle.class_types.specs.computed.FoundFaults.{first_from, items_faults}
use Rattle.class_types.specs.computed.Made.{look}
use Rattle.class_types.proofs.sizes.items_faults.Given as goal

abbrev pub invariant-loop-item : goal.invariant-loop-item
invariant-loop-item l =
    let named = look l.sizes.names l.sizes.own.items None in
    first_from l.so_far (items_faults named (drop l.item-index l.items)) ≡ first_from None (items_faults named l.items)
