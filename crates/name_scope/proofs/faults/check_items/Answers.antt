use Rattle.std.proofs.Common.{◌∙◌}
use Rattle.name_scope.specs.computed.FoundFaults.{body_faults}
use Rattle.name_scope.specs.computed.Table.{roles_in}
use Rattle.name_scope.proofs.FirstOfAll.{item_taken}
use Rattle.name_scope.proofs.faults.check_items.Goals as goal

pub loop-item-preserved : goal.loop-item-preserved
loop-item-preserved c =
    item_taken (body_faults (roles_in c.args.script.now.roles)) c.args.items.now c.loop-item.item-index c.item-item.result c.loop-item-test.true c.item-item.is
    c.loop-item.found c.in_ok-found.found c.in_ok-found.ensures
    ∙ c.loop-item.invariant
