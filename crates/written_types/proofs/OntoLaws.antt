-- Types that are collected one construct after the other.
use Rattle.std.proofs.Common.{◌≡◌, ◌∙◌, sym, ap, refl, ℕ, ◌+◌, ◌<◌, List, [], ◌∷◌, ◌++◌, length, drop, get_or}
use Rattle.std.proofs.lemmas.List.{drop_more}
use Rattle.mono_syntax.specs.declared.cast.NamedType.{NamedType}
use Rattle.mono_syntax.specs.Ty.{Ty}
use Rattle.script_rules.specs.SourceParts.{Part}
use Rattle.written_types.specs.computed.TypesOnto.{type_onto, types_onto}

pub onto-append : (cs : List NamedType) (done : List Ty) (ps qs : List Part)
    → types_onto cs done (ps ++ qs) ≡ types_onto cs (types_onto cs done ps) qs
onto-append cs done [] qs = refl
onto-append cs done (p ∷ ps) qs = onto-append cs (type_onto cs done p) ps qs

pub ruleset onto_steps = (onto-append)

-- one step of a loop over things that each have some parts
pub onto-next : {X : Type 0} (cs : List NamedType) (part : X → List Part) (parts : List X → List Part)
    → ((x : X) (xs : List X) → parts (x ∷ xs) ≡ part x ++ parts xs)
    → (xs : List X) (i : ℕ) (x : X) (done more all : List Ty) → i < length xs → x ≡ get_or xs i x → more ≡ types_onto cs done (part x)
    → types_onto cs done (parts (drop i xs)) ≡ all → types_onto cs more (parts (drop (i + 1) xs)) ≡ all
onto-next cs part parts step xs i x done more all h is e inv =
    let rest = drop (i + 1) xs in
    let next : drop i xs ≡ x ∷ rest = drop_more xs i x h ∙ ap (λ y. y ∷ rest) (sym is) in
    ap (λ o. types_onto cs o (parts rest)) e
    ∙ (sym (onto-append cs done (part x) (parts rest))
    ∙ (ap (types_onto cs done) (sym (step x rest))
    ∙ (ap (λ l. types_onto cs done (parts l)) (sym next) ∙ inv)))
