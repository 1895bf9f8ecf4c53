use Rattle.std.proofs.Common.{◌≡◌, ◌∙◌, sym, ap, Some}
use Rattle.std.specs.Option.{option_copied}
use Rattle.name_places.specs.computed.Firsts.{first_in}
use Rattle.name_places.specs.Places.{place_in}
use Rattle.name_places.proofs.FirstLaws.{place-within}
use Rattle.name_places.proofs.places.NamePlaces.place.Goals as goal

pub returns-in-Some-clause-within : goal.returns-in-Some-clause-within
returns-in-Some-clause-within c =
    let found : first_in c.self.inside.firsts c.args.name.now ≡ Some c.in-Some.at.now
    = ap (first_in c.self.inside.firsts) (sym c.as_slice.ensures) ∙ (sym c.get.ensures.value ∙ ap option_copied c.in-Some.is) in
    place-within c.args.self.now c.args.name.now c.in-Some.at.now (ap (λ ns. place_in ns c.args.name.now) (sym c.self.view_is) ∙ (sym (c.self.invariant c.args.name.now) ∙ found))
