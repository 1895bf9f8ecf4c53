use Rattle.std.proofs.Common.{◌≡◌, ◌∙◌, ap}
use Rattle.mono_tree.specs.ClosedList.{put}
use Rattle.type_shapes.proofs.NumberedPuts.{numbered_given}
use Rattle.std.proofs.Common.{Bool, true, false, sym, subst}
use Rattle.std.specs.Prelude.{IsTrue}
use Rattle.mono_tree.specs.Sizes.{IsTooLarge}
use Rattle.type_shapes.specs.Limits.{IsFault}
use Rattle.type_shapes.proofs.LimitLaws.{large_put}
use Rattle.type_shapes.proofs.putting.put_new.Goals as goal

pub returns-clause-numbered : goal.returns-clause-numbered
returns-clause-numbered c =
    let k : c.put_small.new.set.keys ≡ put c.args.set.now.keys c.args.ty.now = c.in_ok-put_small.ensures.keys ∙ ap (put c.args.set.now.keys) c.in_ok-copy.ensures in
    numbered_given c.args.names.now.items c.shape_of.new.names.items c.args.set.now.keys c.put_small.new.set.keys c.args.shapes.now.keys c.insert.new.self.keys c.in_ok-shape.shape c.args.ty.now
    c.in_ok-shape.ensures.kept c.in_ok-shape.ensures.once c.requires.numbered c.in_ok-shape.ensures.shows c.requires.absent k c.in_ok-insert.ensures.keys

not_true : (x : Bool) → x ≡ false → IsTrue x → ⊥
not_true true e t = cc
not_true false e t = cc

is_true : (x : Bool) → x ≡ true → IsTrue x
is_true x e = cc

pub returns-then-is_too_large-clause-fault : goal.returns-then-is_too_large-clause-fault
returns-then-is_too_large-clause-fault c =
    subst (IsFault (put c.args.set.now.keys c.args.ty.now)) (sym c.refusal.ensures)
    (large_put c.args.set.now.keys c.args.ty.now c.requires.fine c.requires.absent (c.is_too_large.ensures.0 (is_true _ c.if-is_too_large.true)))

pub put_small-requires-clause-small : goal.put_small-requires-clause-small
put_small-requires-clause-small c = λ y.
    not_true _ c.if-is_too_large.false (c.is_too_large.ensures.1 (subst IsTooLarge c.in_ok-copy.ensures y))
