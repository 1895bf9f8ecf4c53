-- Parts are used at types that they can have, or the first that isn't is refused where it stands.
use Rattle.std.proofs.Common.{◌≡◌, true, false, cond, List, [], ◌∷◌, length, refl, sym, ◌∙◌, ap, arith}
use Rattle.std.specs.Prelude.{Option, Some, None, is_some}
use Rattle.mono_list.proofs.Cases.{split}
use Rattle.mono_syntax.specs.declared.leaf.Place.{Place}
use Rattle.mono_syntax.specs.declared.refusal.Reason.TheVariants.{Inconsistent}
use Rattle.mono_syntax.specs.Expr.{Expr}
use Rattle.mono_syntax.specs.Ty.{Ty}
use Rattle.mono_tree.specs.Meet.{AreApart, meet_of, Consistent}
use Rattle.mono_tree.proofs.MeetMade.{meet_is, none_apart}
use Rattle.static_types.specs.Faults.{here, later}
use Rattle.static_types.specs.Rules.{at}
use Rattle.known_names.specs.computed.TypeTests.{consistent}
use Rattle.rule_choice.specs.declared.parts.Part.{Part}
use Rattle.rule_choice.specs.GivenParts.{types_of, AreAt, IsUsed}
use Rattle.rule_choice.specs.computed.Apart.{first_apart}

-- ---- meets

pub consistent_is : (a b : Ty) → consistent a b ≡ true → Consistent a b
consistent_is a b = go (meet_of a b) refl
  where
    go : (o : Option Ty) → meet_of a b ≡ o → consistent a b ≡ true → Consistent a b
    go (Some m) e h = record { meet = m; is_meet = meet_is a b m e }
    go None e h = let g : false ≡ true = ap (λ (z : Option Ty). is_some z) (sym e) ∙ h in absurd cc

pub apart_is : (a b : Ty) → consistent a b ≡ false → AreApart a b
apart_is a b = go (meet_of a b) refl
  where
    go : (o : Option Ty) → meet_of a b ≡ o → consistent a b ≡ false → AreApart a b
    go None e h = none_apart a b e
    go (Some m) e h = let g : true ≡ false = ap (λ (z : Option Ty). is_some z) (sym e) ∙ h in absurd cc

-- ---- rows

used_more : (e : Expr) (es : List Expr) (x : Part) (xs : List Part) (t : Ty) (ts : List Ty) (o : Option Place) → Consistent x.ty t → IsUsed es xs ts o → IsUsed (e ∷ es) (x ∷ xs) (t ∷ ts) o
used_more e es x xs t ts None c h = (c, h)
used_more e es x xs t ts (Some p) c h = later c h

pub uses_so : (es : List Expr) (xs : List Part) (ts : List Ty) → AreAt es xs → length (types_of xs) ≡ length ts → IsUsed es xs ts (first_apart xs ts)
uses_so [] [] [] h c = tt
uses_so (e ∷ es) (x ∷ xs) (t ∷ ts) h c =
    split (consistent x.ty t) (λ z. IsUsed (e ∷ es) (x ∷ xs) (t ∷ ts) (cond z (first_apart xs ts) (Some x.place)))
    (λ y. used_more e es x xs t ts (first_apart xs ts) (consistent_is x.ty t y) (uses_so es xs ts h.1 (omega (arith, c))))
    (λ n. here (apart_is x.ty t n) (ap (λ (z : Place). at z Inconsistent) h.0))
uses_so [] [] (t ∷ ts) h c = absurd (omega (arith, c))
uses_so [] (x ∷ xs) ts h c = absurd h
uses_so (e ∷ es) [] ts h c = absurd h
uses_so (e ∷ es) (x ∷ xs) [] h c = absurd (omega (arith, c))
