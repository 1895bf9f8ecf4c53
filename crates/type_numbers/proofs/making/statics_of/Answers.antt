use Rattle.std.proofs.Common.{◌∙◌}
use Rattle.type_numbers.proofs.MakingLaws.{statics_turn}
use Rattle.type_numbers.proofs.making.statics_of.Goals as goal

pub loop-ty-preserved : goal.loop-ty-preserved
loop-ty-preserved c =
    c.in_ok-push.ensures.items
    ∙ statics_turn c.args.types.now c.loop-ty.statics.items c.loop-ty.ty-index c.ty-item.result c.is_static.result c.loop-ty-test.true
    c.ty-item.is c.is_static.ensures c.loop-ty.invariant
