use Rattle.std.proofs.Common.{arith}
use Rattle.class_types.proofs.MadeTurns.{types-next, types-end}
use Rattle.class_types.proofs.made.+made.Goals as goal

pub types_made-loop-ann-preserved : goal.types_made-loop-ann-preserved
types_made-loop-ann-preserved t c = types-next _ _ _ _ _ _ _ _ c.in_ok-push.ensures.ok c.loop-ann-test.true c.ann-item.is (grind arith) c.loop-ann.invariant

pub types_made-returns : goal.types_made-returns
types_made-returns t c = types-end _ _ _ _ _ c.loop-ann-test.false c.loop-ann.invariant
