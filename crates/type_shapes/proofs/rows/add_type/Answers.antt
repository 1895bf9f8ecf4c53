use Rattle.std.proofs.Common.{◌≡◌, Bool, true, false, sym, subst, ◌∙◌, ap}
use Rattle.std.specs.Prelude.{IsTrue}
use Rattle.std.specs.Option.{is_some}
use Rattle.mono_list.proofs.Cases.{some_is}
use Rattle.mono_syntax.specs.Ty.{Ty}
use Rattle.mono_tree.specs.ClosedList.{put}
use Rattle.mono_tree.specs.Sizes.{IsTooLarge}
use Rattle.type_shapes.specs.Limits.{IsFault}
use Rattle.type_shapes.proofs.LimitLaws.{large_absent}
use Rattle.type_shapes.proofs.Pushes.{typed_is}
use Rattle.type_shapes.proofs.RowLaws.{ok_from, if_err}
use Rattle.type_shapes.proofs.rows.add_type.Goals as goal

not_true : (x : Bool) → x ≡ false → IsTrue x → ⊥
not_true true e t = cc
not_true false e t = cc

is_true : (x : Bool) → x ≡ true → IsTrue x
is_true x e = cc

pub returns-then-is_too_large_by_parts-clause-fault : goal.returns-then-is_too_large_by_parts-clause-fault
returns-then-is_too_large_by_parts-clause-fault c = λ m p.
    subst (IsFault (put c.args.set.now.keys m)) (sym c.refusal.ensures)
    (large_absent c.args.set.now.keys m c.requires.fine (c.requires.absent m p)
    ((c.is_too_large_by_parts.ensures m (rw c.as_slice.ensures p.parts)).0 (is_true _ c.if-is_too_large_by_parts.true)))

pub unwrap-requires : goal.unwrap-requires
unwrap-requires c =
    let (m, p) = c.requires.shown in
    ap is_some (c.in_ok-made.ensures ∙ typed_is c.args.names.now c.args.set.now.keys c.args.shape.now m p)

pub put_small-requires-clause-small : goal.put_small-requires-clause-small
put_small-requires-clause-small c = λ y.
    let (m, p) = c.requires.shown in
    let u : c.unwrap.result ≡ m = some_is (sym c.unwrap.ensures ∙ c.in_ok-made.ensures ∙ typed_is c.args.names.now c.args.set.now.keys c.args.shape.now m p) in
    not_true _ c.if-is_too_large_by_parts.false
    ((c.is_too_large_by_parts.ensures m (rw c.as_slice.ensures p.parts)).1 (subst IsTooLarge u y))

pub returns-clause-keys : goal.returns-clause-keys
returns-clause-keys c =
    ok_from c.put_small.result c.put_small.ensures.keys (λ k m p.
    let u : c.unwrap.result ≡ m = some_is (sym c.unwrap.ensures ∙ c.in_ok-made.ensures ∙ typed_is c.args.names.now c.args.set.now.keys c.args.shape.now m p) in
    k ∙ ap (put c.args.set.now.keys) u)

pub returns-clause-fault : goal.returns-clause-fault
returns-clause-fault c =
    if_err c.put_small.result c.put_small.ensures.fault (λ x f m p.
    let u : c.unwrap.result ≡ m = some_is (sym c.unwrap.ensures ∙ c.in_ok-made.ensures ∙ typed_is c.args.names.now c.args.set.now.keys c.args.shape.now m p) in
    subst (λ (t : Ty). IsFault (put c.args.set.now.keys t) x) u f)
