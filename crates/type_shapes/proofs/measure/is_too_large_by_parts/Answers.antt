use Rattle.std.proofs.Common.{◌↔◌, Bool, sym, subst, ◌∙◌, ap}
use Rattle.std.specs.Prelude.{IsTrue}
use Rattle.mono_tree.specs.Sizes.{IsTooLarge}
use Rattle.mono_tree.specs.computed.CountedSizes.{grown, is_too_large}
use Rattle.type_shapes.proofs.SizeTurns.{parts_large}
use Rattle.type_shapes.proofs.measure.is_too_large_by_parts.Goals as goal

pub returns : goal.returns
returns c = λ m p. subst (λ (b : Bool). IsTrue b ↔ IsTooLarge m)
    (sym (c.is_too_large.ensures ∙ ap is_too_large (c.grown.ensures ∙ ap grown c.sizes_at.ensures)))
    (parts_large c.args.set.now.keys c.args.parts.now m p)
