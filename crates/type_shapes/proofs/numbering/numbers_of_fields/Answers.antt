use Rattle.std.proofs.Common.{◌≡◌, ◌∷◌, [], ◌++◌, ◌+◌, List, ℕ, sym, subst, take}
use Rattle.std.specs.Prelude.{slice_get, Some, Contains}
use Rattle.mono_syntax.specs.Ty.{Ty}
use Rattle.type_shapes.specs.Shows.{AreNamed}
use Rattle.type_shapes.proofs.ShapeTurns.{field_next, field_types, field_at}
use Rattle.type_shapes.proofs.numbering.numbers_of_fields.Goals as goal

pub number_in-n-requires-clause-there : goal.number_in-n-requires-clause-there
number_in-n-requires-clause-there c =
    subst (λ (t : Ty). Contains c.args.set.now.keys t) (sym c.get.ensures)
    (c.requires.there c.member-item.result.ty
    (field_at c.args.members.now c.loop-member.member-index c.member-item.result c.loop-member-test.true c.member-item.is))

pub loop-member-preserved : goal.loop-member-preserved
loop-member-preserved c =
    let q : c.push.new.self ≡ c.loop-member.made ++ c.number_in-n.result ∷ [] = c.in_ok-push.ensures.ok in
    let f : slice_get c.args.set.now.keys c.number_in-n.result ≡ Some c.member-item.result.ty = rw c.get.ensures at c.number_in-n.ensures in
    subst (λ (x : List ℕ). AreNamed c.args.set.now.keys x (field_types (take (c.loop-member.member-index + 1) c.args.members.now))) (sym q)
    (field_next c.args.set.now.keys c.loop-member.made c.args.members.now c.loop-member.member-index c.number_in-n.result c.member-item.result
    c.loop-member-test.true c.member-item.is f c.loop-member.invariant)
