use Rattle.std.proofs.Common.{◌≡◌, ◌∙◌, sym, ap, subst, ℕ, List, map}
use Rattle.std.specs.Prelude.{Some, None}
use Rattle.std.specs.Option.{option_copied}
use Rattle.mono_syntax.specs.declared.cast.NamedType.{NamedType}
use Rattle.mono_tree.specs.TypedPrograms.{type_of_name}
use Rattle.name_places.specs.Places.{place_in}
use Rattle.known_names.proofs.NamedLaws.{type_there, type_nowhere}
use Rattle.known_names.proofs.named.NamedTypes.get.Goals as goal

pub returns-in-Some : goal.returns-in-Some
returns-in-Some c =
    let x = c.args.name.now in
    let ns = c.self.inside.items in
    let found : place_in (map (λ (n : NamedType). n.name) ns) x ≡ Some c.in-Some.at
    = ap (λ (z : List (List ℕ)). place_in z x) (sym c.self.invariant) ∙ (sym c.place.ensures.place ∙ c.in-Some.is) in
    let told = c.type_of.ensures ∙ type_there ns x c.in-Some.at (option_copied c.get.result) found c.get.ensures.value in
    subst (λ (z : List NamedType). option_copied c.type_of.result ≡ type_of_name z x) c.self.view_is told

pub returns-in-None : goal.returns-in-None
returns-in-None c =
    let x = c.args.name.now in
    let ns = c.self.inside.items in
    let nowhere : place_in (map (λ (n : NamedType). n.name) ns) x ≡ None
    = ap (λ (z : List (List ℕ)). place_in z x) (sym c.self.invariant) ∙ (sym c.place.ensures.place ∙ c.in-None.is) in
    subst (λ (z : List NamedType). None ≡ type_of_name z x) c.self.view_is (type_nowhere ns x nowhere)
