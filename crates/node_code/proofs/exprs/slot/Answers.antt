use Rattle.std.proofs.Common.{◌≡◌, ◌∙◌, sym, ap, subst, ℕ, Some, None}
use Rattle.name_places.specs.Places.{place_in}
use Rattle.std.specs.Prelude.{Result, IfOk}
use Rattle.node_code.specs.Places.{At}
use Rattle.node_code.specs.Slotted.{HasSlot}
use Rattle.node_code.proofs.TextLaws.{found, missing, all_ok}
use Rattle.node_code.proofs.exprs.slot.Goals as goal

pub returns-in-Some : goal.returns-in-Some
returns-in-Some c = λ h.
    let names = c.args.names.now in
    let x = c.args.name.now in
    let here : At names c.in-Some.at x = found names x c.in-Some.at (sym c.place.ensures.place ∙ c.in-Some.is) in
    all_ok (λ (i : ℕ). At names i x) c.in-Some.at c.numbered.result c.numbered.ensures here

pub returns-in-None : goal.returns-in-None
returns-in-None c = λ h.
    absurd (missing c.args.names.now c.args.name.now (sym c.place.ensures.place ∙ c.in-None.is) h.0 h.1)
