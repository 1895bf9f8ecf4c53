use Rattle.std.proofs.Common.{◌≡◌, ◌∙◌, length, ap, refl, map, Some, arith}
use Rattle.std.specs.Prelude.{slice_get}
use Rattle.std.specs.Option.{option_map}
use Rattle.std.proofs.lemmas.List.{length-map}
use Rattle.std.proofs.lemmas.Option.{slice_get-map, slice_get_read}
use Rattle.class_types.proofs.RecursionLaws.{below-next, below-end}
use Rattle.class_types.proofs.recursion.first_fault.Goals as goal

pub loop-at-preserved : goal.loop-at-preserved
loop-at-preserved c =
    let cs = map (λ d. d.now) c.args.classes.now in
    let read : slice_get c.args.classes.now c.loop-at.at ≡ Some c.index-classes-at.result = slice_get_read c.args.classes.now (length c.args.classes.now) c.loop-at.at c.index-classes-at.result refl c.loop-at-test.true c.index-classes-at.is in
    let stands : slice_get cs c.loop-at.at ≡ Some c.index-classes-at.result.now = slice_get-map (λ d. d.now) c.args.classes.now c.loop-at.at ∙ ap (option_map (λ d. d.now)) read in
    below-next cs c.loop-at.at c.index-classes-at.result.now c.loop-at.so_far c.in_ok-so_far.so_far stands c.loop-at.invariant c.in_ok-so_far.ensures

pub returns : goal.returns
returns c =
    let cs = map (λ d. d.now) c.args.classes.now in
    let size : length cs ≡ length c.args.classes.now = length-map c.args.classes.now (λ d. d.now) in
    below-end cs c.loop-at.at c.loop-at.so_far (omega arith) c.loop-at.invariant
