use Rattle.class_types.proofs.OrderTurns.{onto-step}
use Rattle.class_types.proofs.made.in_order.Goals as goal

pub loop-field-preserved : goal.loop-field-preserved
loop-field-preserved c = onto-step _ _ _ _ _ _ c.in-Some.ensures c.in_ok-sorted.ensures c.loop-field.invariant
