use Rattle.std.proofs.Common.{subst, arith}
use Rattle.class_types.specs.Known.{Begins}
use Rattle.class_types.proofs.PlaceLaws.{stand-next, begins-trans}
use Rattle.class_types.proofs.place.all_placed.Goals as goal

pub loop-each-preserved : goal.loop-each-preserved
loop-each-preserved c =
    let more : Begins c.loop-each.types c.in_ok-place.more = subst (λ l. Begins l c.in_ok-place.more) c.types.view_is c.in_ok-place.ensures.begins in
    record {
      stand = stand-next _ _ _ _ _ c.in-Some.ty _ _ _ c.loop-each-test.true c.each-item.is c.in-Some.is c.loop-each.invariant.stand more (grind arith) c.in_ok-push.ensures.ok;
      begins = begins-trans _ _ _ c.loop-each.invariant.begins more;
      distinct = c.in_ok-place.ensures.distinct;
    }
