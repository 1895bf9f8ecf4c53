use Rattle.std.proofs.Common.{◌≡◌, ◌∙◌, []}
use Rattle.std.proofs.lemmas.List.{nil_from_length}
use Rattle.type_numbers.proofs.MakingLaws.{put_turn, parts_put, nothing_numbered, nothing_within}
use Rattle.type_numbers.proofs.making.with_shapes.Goals as goal

pub loop-ty-init : goal.loop-ty-init
loop-ty-init c =
    let n : c.new-set.result.keys ≡ [] = nil_from_length c.new-set.result.keys c.new-set.ensures.len in
    let k = nil_from_length c.new-shapes.result.keys c.new-shapes.ensures.len in
    record {
      types = n;
      numbered = rw (c.new-names.ensures.items, n, k) nothing_numbered;
      within = rw n nothing_within;
    }

pub put_numbered-requires-clause-parts : goal.put_numbered-requires-clause-parts
put_numbered-requires-clause-parts c =
    parts_put c.args.types.now c.loop-ty.set.keys c.loop-ty.ty-index c.ty-item.result c.loop-ty-test.true c.ty-item.is
    c.loop-ty.invariant.types c.requires.ordered

pub loop-ty-preserved : goal.loop-ty-preserved
loop-ty-preserved c = record {
  types = c.in_ok-put_numbered.ensures.keys
      ∙ put_turn c.args.types.now c.loop-ty.set.keys c.loop-ty.ty-index c.ty-item.result c.loop-ty-test.true c.ty-item.is
      c.loop-ty.invariant.types c.requires.distinct;
  numbered = c.in_ok-put_numbered.ensures.numbered;
  within = c.in_ok-put_numbered.ensures.fine;
}
