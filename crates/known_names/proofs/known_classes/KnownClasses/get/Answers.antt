use Rattle.std.proofs.Common.{◌≡◌, ◌∙◌, sym, ap, subst, ℕ, List, map}
use Rattle.std.specs.Prelude.{Some, None}
use Rattle.std.specs.Option.{option_copied}
use Rattle.name_places.specs.Places.{place_in}
use Rattle.known_names.specs.declared.known.KnownClass.{KnownClass}
use Rattle.known_names.specs.computed.KnownNames.{known_class}
use Rattle.known_names.proofs.NamedLaws.{class_there, class_nowhere}
use Rattle.known_names.proofs.known_classes.KnownClasses.get.Goals as goal

pub returns-in-Some : goal.returns-in-Some
returns-in-Some c =
    let x = c.args.name.now in
    let ks = c.self.inside.items in
    let found : place_in (map (λ (k : KnownClass). k.name) ks) x ≡ Some c.in-Some.at
    = ap (λ (z : List (List ℕ)). place_in z x) (sym c.self.invariant) ∙ (sym c.place.ensures.place ∙ c.in-Some.is) in
    subst (λ (z : List KnownClass). option_copied c.get.result ≡ known_class z x) c.self.view_is (c.get.ensures.value ∙ class_there ks x c.in-Some.at found)

pub returns-in-None : goal.returns-in-None
returns-in-None c =
    let x = c.args.name.now in
    let ks = c.self.inside.items in
    let nowhere : place_in (map (λ (k : KnownClass). k.name) ks) x ≡ None
    = ap (λ (z : List (List ℕ)). place_in z x) (sym c.self.invariant) ∙ (sym c.place.ensures.place ∙ c.in-None.is) in
    subst (λ (z : List KnownClass). None ≡ known_class z x) c.self.view_is (class_nowhere ks x nowhere)
