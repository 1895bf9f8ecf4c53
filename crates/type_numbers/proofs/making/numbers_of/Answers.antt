use Rattle.std.proofs.Common.{length}
use Rattle.std.proofs.lemmas.Option.{slice_get_within}
use Rattle.type_numbers.proofs.MakingLaws.{types_turn, range_turn}
use Rattle.type_numbers.proofs.making.numbers_of.Goals as goal

pub loop-ty-preserved : goal.loop-ty-preserved
loop-ty-preserved c = rw c.in_ok-push.ensures.items (record {
  types = types_turn c.args.set.now.keys c.args.types.now c.loop-ty.numbers.items c.number_there.result c.loop-ty.ty-index c.ty-item.result
      c.loop-ty-test.true c.ty-item.is c.number_there.ensures c.loop-ty.invariant.types;
  range = range_turn (length c.args.set.now.keys) c.loop-ty.numbers.items c.number_there.result c.loop-ty.invariant.range
      (slice_get_within c.args.set.now.keys c.number_there.result.0 c.ty-item.result c.number_there.ensures);
})
