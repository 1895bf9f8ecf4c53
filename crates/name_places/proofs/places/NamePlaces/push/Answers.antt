use Rattle.std.proofs.Common.{◌≡◌, ◌∙◌, sym, ap, subst, ℕ, List, [], ◌∷◌, ◌++◌, length, Some, None, bytes_eq, if◌then◌else◌}
use Rattle.std.specs.Option.{option_or}
use Rattle.name_places.specs.computed.Firsts.{first_in, AreFirsts}
use Rattle.name_places.proofs.FirstLaws.{firsts-more}
use Rattle.name_places.proofs.places.NamePlaces.push.Goals as goal

pub invariant_of-result : goal.invariant_of-result
invariant_of-result c =
    let name = c.args.name.now in
    let names = c.self.inside.names in
    let pushed : c.push.new.self ≡ names ++ name ∷ [] = c.in_ok-push.ensures.ok ∙ ap (λ n. names ++ n ∷ []) c.in_ok-share.ensures in
    let more : (x : List ℕ) → first_in c.in_ok-firsts.firsts x ≡ option_or (first_in c.self.inside.firsts x) (if bytes_eq name x then Some (length names) else None)
    = λ x. c.in_ok-firsts.ensures x ∙ ap (λ n. option_or (first_in c.self.inside.firsts x) (if bytes_eq name x then Some n else None)) c.len.ensures in
    subst (AreFirsts c.in_ok-firsts.firsts) (sym pushed) (firsts-more c.self.inside.firsts c.in_ok-firsts.firsts names name c.self.invariant more)
