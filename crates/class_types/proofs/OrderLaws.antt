-- Faults are in a total order.
use Rattle.std.proofs.Common.{◌≡◌, ◌∙◌, sym, subst, refl, ℕ, zero, suc, ◌<◌, length, Bool, true, false, List, [], ◌∷◌, ◌++◌, arith, inl, inr}
use Rattle.std.specs.Prelude.{◌&&◌, ◌||◌, ◌==◌, nat_lt, nat_le, ◌⊎◌, Option, Some, None, Contains}
use Rattle.std.proofs.lemmas.Bool.Decides.{nat_tests}
use Rattle.mono_syntax.specs.declared.refusal.Refusal.{Refusal}
use Rattle.script_rules.specs.FirstFault.{no_later, rank, sooner}
pub use Rattle.class_types.specs.computed.FoundFaults.{In}
use Rattle.class_types.specs.computed.FoundFaults.{first_from}
use Rattle.class_types.proofs.Gets.{some_is, none_some}

abbrev lex : ℕ → ℕ → ℕ → ℕ → ℕ → ℕ → Bool
lex l c k m d j = nat_lt l m || ((l == m) && (nat_lt c d || ((c == d) && nat_le k j)))

lex-total : (l c k m d j : ℕ) → lex l c k m d j ≡ false → lex m d j l c k ≡ true
lex-total l c k m d j = grind (arith, nat_tests)

lex-trans : (l c k m d j n e i : ℕ) → lex l c k m d j ≡ true → lex m d j n e i ≡ true → lex l c k n e i ≡ true
lex-trans l c k m d j n e i = grind (arith, nat_tests)

lex-refl : (l c k : ℕ) → lex l c k l c k ≡ true
lex-refl l c k = grind (arith, nat_tests)

total : (a b : Refusal) → no_later a b ≡ false → no_later b a ≡ true
total a b = lex-total a.place.line a.place.column (rank a.reason) b.place.line b.place.column (rank b.reason)

pub transitive : (a b c : Refusal) → no_later a b ≡ true → no_later b c ≡ true → no_later a c ≡ true
transitive a b c = lex-trans a.place.line a.place.column (rank a.reason) b.place.line b.place.column (rank b.reason) c.place.line c.place.column (rank c.reason)

reflexive : (a : Refusal) → no_later a a ≡ true
reflexive a = lex-refl a.place.line a.place.column (rank a.reason)

-- what `sooner` gives: one of the two, and none of them comes before it
record IsSooner (so_far : Option Refusal) (x t : Refusal) : Type 0 where
  is : sooner so_far x ≡ Some t
  last : no_later t x ≡ true
  old : (s : Refusal) → so_far ≡ Some s → no_later t s ≡ true
  one : (so_far ≡ Some t) ⊎ (x ≡ t)

sooner-is : (so_far : Option Refusal) (x : Refusal) → (t : Refusal) × IsSooner so_far x t
sooner-is None x = (x, record { is = refl; last = reflexive x; old = λ s e. none_some e; one = inr refl })
sooner-is (Some t) x = go (no_later t x) refl
  where
    go : (b : Bool) → no_later t x ≡ b → (u : Refusal) × IsSooner (Some t) x u
    go true e = (t, record { is = rw e; last = e; old = λ s h. subst (λ y. no_later t y ≡ true) (some_is h) (reflexive t); one = inl refl })
    go false e = (x, record { is = rw e; last = reflexive x; old = λ s h. subst (λ y. no_later x y ≡ true) (some_is h) (total t x e); one = inr refl })

-- the first of some faults: one of them, and none of them comes before it
pub record IsLeast (so_far : Option Refusal) (rs : List Refusal) (r : Refusal) : Type 0 where
  pub one : (so_far ≡ Some r) ⊎ In r rs
  pub old : (s : Refusal) → so_far ≡ Some s → no_later r s ≡ true
  pub all : (s : Refusal) → In s rs → no_later r s ≡ true

pub first-least : (so_far : Option Refusal) (rs : List Refusal) (r : Refusal) → first_from so_far rs ≡ Some r → IsLeast so_far rs r
first-least so_far [] r e = record {
  one = inl e;
  old = λ s h. subst (λ y. no_later r y ≡ true) (some_is (sym e ∙ h)) (reflexive r);
  all = λ s h. absurd h;
}
first-least so_far (x ∷ xs) r e =
    let step = sooner-is so_far x in
    let rest = first-least (sooner so_far x) xs r e in
    let below : no_later r step.0 ≡ true = rest.old step.0 step.1.is in
    record {
      one = elim rest.one [
        | inl h ↦ elim step.1.one [
          | inl o ↦ inl (o ∙ (sym step.1.is ∙ h))
          | inr y ↦ inr (inl (y ∙ some_is (sym step.1.is ∙ h)))
        ]
        | inr h ↦ inr (inr h)
      ];
      old = λ s h. transitive r step.0 s below (step.1.old s h);
      all = λ s h. elim h [
        | inl y ↦ subst (λ z. no_later r z ≡ true) y (transitive r step.0 x below step.1.last)
        | inr there ↦ rest.all s there
      ];
    }

-- what was there before stays or gives way
pub kept : (so_far : Option Refusal) (t : Refusal) → so_far ≡ Some t → (rs : List Refusal) → first_from so_far rs ≡ None → ⊥
kept so_far t s [] f = none_some (sym f ∙ s)
kept so_far t s (y ∷ rs) f = kept (sooner so_far y) (sooner-is so_far y).0 (sooner-is so_far y).1.is rs f

-- where nothing is found there was nothing
pub first-none : (so_far : Option Refusal) (rs : List Refusal) → first_from so_far rs ≡ None → (r : Refusal) → In r rs → ⊥
first-none so_far [] e r h = h
first-none so_far (x ∷ xs) e r h = elim h [
  | inl y ↦ kept (sooner so_far x) (sooner-is so_far x).0 (sooner-is so_far x).1.is xs e
  | inr there ↦ first-none (sooner so_far x) xs e r there
]

-- ---- membership

pub in-left : {A : Type 0} (x : A) (xs ys : List A) → In x xs → In x (xs ++ ys)
in-left x [] ys h = absurd h
in-left x (y ∷ xs) ys (inl e) = inl e
in-left x (y ∷ xs) ys (inr h) = inr (in-left x xs ys h)

pub in-right : {A : Type 0} (x : A) (xs ys : List A) → In x ys → In x (xs ++ ys)
in-right x [] ys h = h
in-right x (y ∷ xs) ys h = inr (in-right x xs ys h)

pub in-cases : {A : Type 0} (x : A) (xs ys : List A) → In x (xs ++ ys) → In x xs ⊎ In x ys
in-cases x [] ys h = inr h
in-cases x (y ∷ xs) ys (inl e) = inl (inl e)
in-cases x (y ∷ xs) ys (inr h) = elim (in-cases x xs ys h) [ inl l ↦ inl (inr l) | inr r ↦ inr r ]

pub in-contains : {A : Type 0} (x : A) (xs : List A) → In x xs → Contains xs x
in-contains x [] h = absurd h
in-contains x (y ∷ xs) (inl e) = (0, omega arith, e)
in-contains x (y ∷ xs) (inr h) = let there = in-contains x xs h in (suc there.0, let k : there.0 < length xs = there.1 in omega arith, there.2)

pub contains-in : {A : Type 0} (x : A) (xs : List A) → Contains xs x → In x xs
contains-in x [] (k, small, is) = absurd (omega arith)
contains-in x (y ∷ xs) (zero, small, is) = inl is
contains-in x (y ∷ xs) (suc k, small, is) = inr (contains-in x xs (k, omega arith, is))
