use Rattle.std.proofs.Common.{None}
use Rattle.class_types.specs.computed.FoundFaults.{first_from, items_faults}
use Rattle.class_types.specs.computed.Made.{look}
use Rattle.class_types.proofs.FoundLaws.{items-next}
use Rattle.class_types.proofs.sizes.items_faults.Goals as goal

pub loop-item-preserved : goal.loop-item-preserved
loop-item-preserved c =
    let named = look c.args.sizes.now.names c.args.sizes.now.own.items None in
    items-next named c.args.items.now c.loop-item.item-index c.item-item.result c.loop-item.so_far c.in_ok-so_far.so_far c.item_faults-so_far.result
    (first_from None (items_faults named c.args.items.now)) c.loop-item-test.true c.item-item.is c.in_ok-so_far.ensures c.item_faults-so_far.ensures c.loop-item.invariant
