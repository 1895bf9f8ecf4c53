use Rattle.std.proofs.Common.{◌≡◌, ◌∙◌, ◌++◌, ◌∷◌, [], ◌+◌, ap, sym, subst, take, ℕ, List}
use Rattle.std.proofs.lemmas.List.{take_more, take_all}
use Rattle.node_code.specs.Places.{At, Each}
use Rattle.node_code.proofs.PlaceLaws.{each_more}
use Rattle.node_code.proofs.Slotting.{name_slotted}
use Rattle.node_code.proofs.blocks.slots_for.Goals as goal

pub loop-name-preserved : goal.loop-name-preserved
loop-name-preserved c = λ u.
    let names = c.args.names.now in
    let xs = c.args.list.now in
    let i = c.loop-name.name-index in
    let x = c.name-item.result in
    let here = c.in_ok-slot.ensures (name_slotted names xs i x c.loop-name-test.true c.name-item.is u) in
    let step : take (i + 1) xs ≡ take i xs ++ x ∷ [] = take_more xs i x c.loop-name-test.true
    ∙ ap (λ y. take i xs ++ y ∷ []) (sym c.name-item.is) in
    let more = each_more (At names) c.loop-name.slots (take i xs) c.in_ok-slot.field-0 x (c.loop-name.invariant u) here in
    subst (λ (l : List (List ℕ)). Each (At names) c.push.new.self l) (sym step)
    (subst (λ (l : List ℕ). Each (At names) l (take i xs ++ x ∷ [])) (sym (c.in_ok-push.ensures).ok) more)

pub returns : goal.returns
returns c = λ u.
    subst (λ (l : List (List ℕ)). Each (At c.args.names.now) c.loop-name.slots l)
    (take_all c.loop-name.name-index c.args.list.now c.loop-name-test.false) (c.loop-name.invariant u)
