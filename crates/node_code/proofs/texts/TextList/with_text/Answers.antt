use Rattle.std.proofs.Common.{◌≡◌, ◌∙◌, ◌++◌, ◌∷◌, [], sym, ap, subst, ℕ, List, Some, None, length}
use Rattle.name_places.specs.Places.{place_in}
use Rattle.node_code.specs.Places.{AreOnce}
use Rattle.node_code.specs.Texts.{IsText}
use Rattle.node_code.proofs.TextLaws.{absent, text_old, text_new, looked_none, once_more}
use Rattle.node_code.proofs.texts.TextList.with_text.Goals as goal

pub returns-in-Some : goal.returns-in-Some
returns-in-Some c =
    let ts = c.args.self in
    let x = c.args.text.now in
    let known : c.self.inside.places ≡ ts = c.self.invariant.0 ∙ c.self.view_is in
    let place : place_in ts x ≡ Some c.in-Some.at = ap (λ ns. place_in ns x) (sym known) ∙ (sym c.place.ensures.place ∙ c.in-Some.is) in
    subst (λ (k : ℕ). IsText ts x (record { at = k; texts = ts })) (sym c.in_ok-at.ensures) (text_old ts x c.in-Some.at place)

pub returns : goal.returns
returns c =
    let ts = c.args.self in
    let x = c.args.text.now in
    let known : c.self.inside.places ≡ ts = c.self.invariant.0 ∙ c.self.view_is in
    let place : place_in ts x ≡ None = ap (λ ns. place_in ns x) (sym known)
    ∙ (sym c.place.ensures.place ∙ looked_none c.place.result c.in_default.not-Some) in
    let at : c.in_ok-at-2.at ≡ length ts = c.in_ok-at-2.ensures ∙ (c.len.ensures ∙ ap length c.self.view_is) in
    let texts : c.push-2.new.self ≡ ts ++ x ∷ [] = c.in_ok-push.ensures.ok
    ∙ (ap (λ (y : List ℕ). c.self.inside.texts ++ y ∷ []) c.in_ok-share.ensures
    ∙ ap (λ (l : List (List ℕ)). l ++ x ∷ []) c.self.view_is) in
    subst (λ (z : List (List ℕ)). IsText ts x (record { at = c.in_ok-at-2.at; texts = z })) (sym texts)
    (subst (λ (k : ℕ). IsText ts x (record { at = k; texts = ts ++ x ∷ [] })) (sym at) (text_new ts x place))

pub invariant_of-texts : goal.invariant_of-texts
invariant_of-texts c =
    let ts = c.self.inside.texts in
    let x = c.args.text.now in
    let new : c.push-2.new.self ≡ ts ++ x ∷ [] = c.in_ok-push.ensures.ok ∙ ap (λ (y : List ℕ). ts ++ y ∷ []) c.in_ok-share.ensures in
    let places : c.in_ok-places.places ≡ ts ++ x ∷ [] = c.in_ok-places.ensures
    ∙ ap (λ (l : List (List ℕ)). l ++ x ∷ []) c.self.invariant.0 in
    let place : place_in ts x ≡ None = ap (λ ns. place_in ns x) (sym c.self.invariant.0)
    ∙ (sym c.place.ensures.place ∙ looked_none c.place.result c.in_default.not-Some) in
    (places ∙ sym new, subst (λ (l : List (List ℕ)). AreOnce l) (sym new) (once_more ts x (absent ts x place) c.self.invariant.1))
