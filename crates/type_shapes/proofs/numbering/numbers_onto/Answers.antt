use Rattle.std.proofs.Common.{◌≡◌, ◌∷◌, [], ◌++◌, ◌+◌, List, ℕ, sym, subst, take}
use Rattle.std.specs.Prelude.{slice_get, Some}
use Rattle.type_shapes.specs.Shows.{AreNamed}
use Rattle.type_shapes.proofs.ShapeTurns.{named_next}
use Rattle.type_shapes.proofs.numbering.numbers_onto.Goals as goal

pub loop-ty-preserved : goal.loop-ty-preserved
loop-ty-preserved c =
    let q : c.push.new.self ≡ c.loop-ty.made ++ c.number_in-n.result ∷ [] = c.in_ok-push.ensures.ok in
    let f : slice_get c.args.set.now.keys c.number_in-n.result ≡ Some c.ty-item.result = rw c.get.ensures at c.number_in-n.ensures in
    λ us p. subst (λ (x : List ℕ). AreNamed c.args.set.now.keys x (us ++ take (c.loop-ty.ty-index + 1) c.args.types.now)) (sym q)
    (named_next c.args.set.now.keys c.loop-ty.made us c.args.types.now c.loop-ty.ty-index c.number_in-n.result c.ty-item.result
    c.loop-ty-test.true c.ty-item.is f (c.loop-ty.invariant us p))
