-- A class leads to none of a higher rank, where ranks never rise.
use Rattle.std.proofs.Common.{◌≡◌, ◌∙◌, sym, ap, subst, refl, ℕ, ◌+◌, ◌<◌, ◌≤◌, Bool, true, false, List, [], ◌∷◌, arith, inl, inr}
use Rattle.std.specs.Prelude.{◌&&◌, ◌||◌, not, nat_lt, nat_le, Option, Some, None, slice_get, length}
use Rattle.std.proofs.lemmas.Bool.{cases_eq}
use Rattle.std.proofs.lemmas.Bool.Decides.{nat_tests}
use Rattle.mono_syntax.specs.declared.leaf.Word.{Word}
use Rattle.mono_syntax.specs.declared.refusal.Refusal.{Refusal}
use Rattle.mono_syntax.specs.declared.tree.ClassDef.{ClassDef}
use Rattle.script_rules.specs.FirstFault.{no_later}
use Rattle.script_rules.specs.Recursion.{Leads, here, through, field_names}
use Rattle.class_types.specs.computed.Leading.{recursive_at, IsCovered}
use Rattle.class_types.specs.computed.Made.{names_of_classes}
use Rattle.name_places.specs.Places.{place_in}
use Rattle.class_types.specs.computed.Ranks.{rank_at, rank_of, rises, is_before, may_be_first, NeverRise}
use Rattle.class_types.proofs.Gets.{some_is, get-within}
use Rattle.class_types.proofs.LeadingLaws.{class-at, at-class}
use Rattle.class_types.proofs.OrderLaws.{In, contains-in}

pub leads-rank : (cs : List ClassDef) (ranks : List ℕ) → NeverRise cs ranks → {x y : List ℕ} → Leads cs x y
    → rank_of (names_of_classes cs) ranks y ≤ rank_of (names_of_classes cs) ranks x
leads-rank cs ranks fall (here e) = let same = ap (rank_of (names_of_classes cs) ranks) e in omega arith
leads-rank cs ranks fall {x} (through {d = d} {w = w} named stands l) =
    let step = fall x d w named stands in
    let rest = leads-rank cs ranks fall l in
    omega arith

or-false : (a b : Bool) → (a || b) ≡ false → (a ≡ false) × (b ≡ false)
or-false true b e = absurd cc
or-false false b e = (refl, e)

lt-false : (m n : ℕ) → nat_lt m n ≡ false → n ≤ m
lt-false m n e = grind (arith, nat_tests)

rises-false : (ns : List (List ℕ)) (ranks : List ℕ) (x : List ℕ) (ws : List Word) → rises ns ranks x ws ≡ false → (w : Word) → In w ws → rank_of ns ranks w.text ≤ rank_of ns ranks x
rises-false ns ranks x [] e w h = absurd h
rises-false ns ranks x (v ∷ ws) e w h =
    let both = or-false (nat_lt (rank_of ns ranks x) (rank_of ns ranks v.text)) (rises ns ranks x ws) e in
    elim h [
      | inl same ↦ subst (λ u. rank_of ns ranks u.text ≤ rank_of ns ranks x) same (lt-false (rank_of ns ranks x) (rank_of ns ranks v.text) both.0)
      | inr there ↦ rises-false ns ranks x ws both.1 w there
    ]

-- ranks don't rise from the classes before this place, of those that are the first of their names
abbrev pub FallBelow : List ClassDef → List ℕ → ℕ → Type 0
FallBelow cs ranks at = (i : ℕ) (d : ClassDef) → i < at → slice_get cs i ≡ Some d → place_in (names_of_classes cs) d.name.text ≡ Some i → rises (names_of_classes cs) ranks d.name.text (field_names d.fields) ≡ false

pub fall-next : (cs : List ClassDef) (ranks : List ℕ) (at : ℕ) (d : ClassDef) → slice_get cs at ≡ Some d
    → (place_in (names_of_classes cs) d.name.text ≡ Some at → rises (names_of_classes cs) ranks d.name.text (field_names d.fields) ≡ false)
    → FallBelow cs ranks at → FallBelow cs ranks (at + 1)
fall-next cs ranks at d is now below i c h ci fi = elim (cases_eq i at) [
  | inl same ↦
      let dc : d ≡ c = some_is (sym is ∙ (ap (slice_get cs) (sym same) ∙ ci)) in
      subst (λ x. place_in (names_of_classes cs) x.name.text ≡ Some at → rises (names_of_classes cs) ranks x.name.text (field_names x.fields) ≡ false) dc now (fi ∙ ap Some same)
  | inr other ↦ below i c (omega arith) ci fi
]

pub fall-all : (cs : List ClassDef) (ranks : List ℕ) (at : ℕ) → length cs ≤ at → FallBelow cs ranks at → NeverRise cs ranks
fall-all cs ranks at h below x d w named stands =
    let there = at-class cs x d named in
    let text : d.name.text ≡ x = (class-at cs x there.0 d there.1 there.2).1 in
    let within = get-within cs there.0 d there.2 in
    let first : place_in (names_of_classes cs) d.name.text ≡ Some there.0 = ap (place_in (names_of_classes cs)) text ∙ there.1 in
    subst (λ y. rank_of (names_of_classes cs) ranks w.text ≤ rank_of (names_of_classes cs) ranks y) text
    (rises-false (names_of_classes cs) ranks d.name.text (field_names d.fields) (below there.0 d (omega arith) there.2 first) w (contains-in w (field_names d.fields) stands))

no-rank : (o : Option ℕ) → rank_at [] o ≡ 0
no-rank None = refl
no-rank (Some i) = refl

-- no rank at all
pub none-rise : (cs : List ClassDef) → NeverRise cs []
none-rise cs x d w named stands = let none = no-rank (place_in (names_of_classes cs) w.text) in omega arith

and-false : (a b : Bool) → (a && b) ≡ false → a ≡ true → b ≡ false
and-false true b e t = e
and-false false b e t = absurd cc

le-true : (m n : ℕ) → m ≤ n → nat_le m n ≡ true
le-true m n h = grind (arith, nat_tests)

before-false : (r : Refusal) (so_far : Option Refusal) → is_before r so_far ≡ false → IsCovered so_far r
before-false r None e = absurd cc
before-false r (Some s) e = (s, refl, go (no_later s r) e)
  where
    go : (b : Bool) → not b ≡ false → b ≡ true
    go true e = refl
    go false e = absurd cc

pub may-false : (ns : List (List ℕ)) (ranks : List ℕ) (x : List ℕ) (so_far : Option Refusal) (ws : List Word) → may_be_first ns ranks x so_far ws ≡ false
    → (w : Word) → In w ws → rank_of ns ranks x ≤ rank_of ns ranks w.text → IsCovered so_far (recursive_at w.place)
may-false ns ranks x so_far [] e w h k = absurd h
may-false ns ranks x so_far (v ∷ ws) e w h k =
    let both = or-false (nat_le (rank_of ns ranks x) (rank_of ns ranks v.text) && is_before (recursive_at v.place) so_far) (may_be_first ns ranks x so_far ws) e in
    elim h [
      | inl same ↦ go v same both.0
      | inr there ↦ may-false ns ranks x so_far ws both.1 w there k
    ]
  where
    go : (u : Word) → u ≡ w → (nat_le (rank_of ns ranks x) (rank_of ns ranks u.text) && is_before (recursive_at u.place) so_far) ≡ false → IsCovered so_far (recursive_at w.place)
    go u same f =
        let here : (nat_le (rank_of ns ranks x) (rank_of ns ranks w.text) && is_before (recursive_at w.place) so_far) ≡ false = subst (λ z. (nat_le (rank_of ns ranks x) (rank_of ns ranks z.text) && is_before (recursive_at z.place) so_far) ≡ false) same f in
        before-false (recursive_at w.place) so_far (and-false _ _ here (le-true (rank_of ns ranks x) (rank_of ns ranks w.text) k))
