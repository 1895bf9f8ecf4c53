-- What rounds keep, and what stands when a round gives no class a value.
use Rattle.std.proofs.Common.{◌≡◌, ◌∙◌, sym, ap, subst, refl, ℕ, zero, suc, ◌+◌, ◌≤◌, List, [], ◌∷◌, length, length-set, replicate, map, arith, inl, inr}
use Rattle.std.specs.Prelude.{◌⊎◌, Option, Some, None, slice_get, slice_set}
use Rattle.std.proofs.lemmas.Bool.{cases_eq}
use Rattle.mono_syntax.specs.declared.tree.ClassDef.{ClassDef}
use Rattle.class_types.specs.computed.Made.{look, known_at}
use Rattle.name_places.specs.Places.{place_in}
use Rattle.class_types.specs.computed.Rounds.{Finds, fill, filled, round, unknown, visit_class, visited}
use Rattle.class_types.proofs.Gets.{some_is, none_some, set-same, set-other, map-at}

-- what the first knows, the second knows
abbrev pub Below : {A : Type 0} → (List ℕ → Option A) → (List ℕ → Option A) → Type 0
Below {A} f g = (x : List ℕ) (a : A) → f x ≡ Some a → g x ≡ Some a

-- what is found stays found when more is known
abbrev pub Grows : {A : Type 0} → Finds A → Type 0
Grows {A} finds = (f g : List ℕ → Option A) → Below f g → (d : ClassDef) (a : A) → finds f d ≡ Some a → finds g d ≡ Some a

-- each value is the one that the class's fields give
pub record IsPartial {A : Type 0} (finds : Finds A) (ns : List (List ℕ)) (stray : Option A) (cs : List ClassDef) (own : List (Option A)) : Type 0 where
  pub each : (i : ℕ) (d : ClassDef) (a : A) → slice_get cs i ≡ Some d → slice_get own i ≡ Some (Some a) → finds (look ns own stray) d ≡ Some a

-- these classes stand in the list from this place on
abbrev pub StandFrom : List ClassDef → List ClassDef → ℕ → Type 0
StandFrom cs ds at = (j : ℕ) (d : ClassDef) → slice_get ds j ≡ Some d → slice_get cs (j + at) ≡ Some d

unknown-set : {A : Type 0} (own : List (Option A)) (at : ℕ) (a : A) → slice_get own at ≡ Some None → unknown (slice_set own at (Some a)) + 1 ≡ unknown own
unknown-set [] at a e = none_some e
unknown-set (None ∷ own) zero a e = refl
unknown-set (Some b ∷ own) zero a e = none_some (sym (some_is e))
unknown-set (None ∷ own) (suc at) a e = omega (arith, unknown-set own at a e)
unknown-set (Some b ∷ own) (suc at) a e = unknown-set own at a e

known-grows : {A : Type 0} (stray : Option A) (own : List (Option A)) (at : ℕ) (a : A) → slice_get own at ≡ Some None → (o : Option ℕ) (b : A)
    → known_at own stray o ≡ Some b → known_at (slice_set own at (Some a)) stray o ≡ Some b
known-grows stray own at a e None b h = h
known-grows stray own at a e (Some i) b h = elim (cases_eq i at) [
  | inl same ↦ let none : slice_get own i ≡ Some None = ap (slice_get own) same ∙ e in none_some (rw none at h)
  | inr other ↦ rw (set-other own at i (Some a) other) h
]

pub look-grows : {A : Type 0} (ns : List (List ℕ)) (stray : Option A) (own : List (Option A)) (at : ℕ) (a : A) → slice_get own at ≡ Some None
    → Below (look ns own stray) (look ns (slice_set own at (Some a)) stray)
look-grows ns stray own at a e x b h = known-grows stray own at a e (place_in ns x) b h

module _ {A : Type 0} (finds : Finds A) (grows : Grows finds) (ns : List (List ℕ)) (stray : Option A) where
  -- a step that changes nothing, or gives one more class its value
  abbrev IsStep : List (Option A) → ClassDef → ℕ → List (Option A) → Type 0
  IsStep own d at next = ((next ≡ own) × (slice_get own at ≡ Some None → finds (look ns own stray) d ≡ None)) ⊎ (unknown next + 1 ≡ unknown own)

  step-cases : (own : List (Option A)) (d : ClassDef) (at : ℕ) → IsStep own d at (filled finds ns stray d own at)
  step-cases own d at = go (slice_get own at) refl (finds (look ns own stray) d) refl
    where
      go : (o : Option (Option A)) → slice_get own at ≡ o → (r : Option A) → finds (look ns own stray) d ≡ r
          → ((fill own at o r ≡ own) × (slice_get own at ≡ Some None → finds (look ns own stray) d ≡ None)) ⊎ (unknown (fill own at o r) + 1 ≡ unknown own)
      go None e r f = inl (refl, λ h. none_some (sym e ∙ h))
      go (Some (Some b)) e r f = inl (refl, λ h. none_some (sym (some_is (sym e ∙ h))))
      go (Some None) e None f = inl (refl, λ h. f)
      go (Some None) e (Some a) f = inr (unknown-set own at a e)

  step-partial : (cs : List ClassDef) (own : List (Option A)) (d : ClassDef) (at : ℕ) → slice_get cs at ≡ Some d
      → IsPartial finds ns stray cs own → IsPartial finds ns stray cs (filled finds ns stray d own at)
  step-partial cs own d at is p = go (slice_get own at) refl (finds (look ns own stray) d) refl
    where
      go : (o : Option (Option A)) → slice_get own at ≡ o → (r : Option A) → finds (look ns own stray) d ≡ r → IsPartial finds ns stray cs (fill own at o r)
      go None e r f = p
      go (Some (Some b)) e r f = p
      go (Some None) e None f = p
      go (Some None) e (Some a) f = record {
        each = λ i c b ci bi. elim (cases_eq i at) [
          | inl same ↦
              let dc : d ≡ c = some_is (sym is ∙ (ap (slice_get cs) (sym same) ∙ ci)) in
              let ab : a ≡ b = some_is (some_is (sym (set-same own at (Some a) None e) ∙ (ap (slice_get (slice_set own at (Some a))) (sym same) ∙ bi))) in
              let now : finds (look ns (slice_set own at (Some a)) stray) d ≡ Some a = grows _ _ (look-grows ns stray own at a e) d a f in
              cc
          | inr other ↦ grows _ _ (look-grows ns stray own at a e) c b (p.each i c b ci (sym (set-other own at i (Some a) other) ∙ bi))
        ];
      }

  step-length : (own : List (Option A)) (d : ClassDef) (at : ℕ) → length (filled finds ns stray d own at) ≡ length own
  step-length own d at = go (slice_get own at) (finds (look ns own stray) d)
    where
      go : (o : Option (Option A)) (r : Option A) → length (fill own at o r) ≡ length own
      go None r = refl
      go (Some (Some b)) r = refl
      go (Some None) None = refl
      go (Some None) (Some a) = length-set own at (Some a)

  tail-stands : (cs : List ClassDef) (d : ClassDef) (ds : List ClassDef) (at : ℕ) → StandFrom cs (d ∷ ds) at → StandFrom cs ds (at + 1)
  tail-stands cs d ds at h j c e = let move : j + (at + 1) ≡ suc j + at = omega arith in ap (slice_get cs) move ∙ h (suc j) c e

  pub round-partial : (cs ds : List ClassDef) (own : List (Option A)) (at : ℕ) → StandFrom cs ds at
      → IsPartial finds ns stray cs own → IsPartial finds ns stray cs (round finds ns stray ds own at)
  round-partial cs [] own at h p = p
  round-partial cs (d ∷ ds) own at h p = round-partial cs ds _ (at + 1) (tail-stands cs d ds at h)
      (step-partial cs own d at (ap (slice_get cs) (omega arith) ∙ h 0 d refl) p)

  pub round-length : (ds : List ClassDef) (own : List (Option A)) (at : ℕ) → length (round finds ns stray ds own at) ≡ length own
  round-length [] own at = refl
  round-length (d ∷ ds) own at = round-length ds _ (at + 1) ∙ step-length own d at

  pub round-fewer : (ds : List ClassDef) (own : List (Option A)) (at : ℕ) → unknown (round finds ns stray ds own at) ≤ unknown own
  round-fewer [] own at = omega arith
  round-fewer (d ∷ ds) own at = step-fewer (filled finds ns stray d own at) (step-cases own d at) (round-fewer ds _ (at + 1))
    where
      step-fewer : (next : List (Option A)) → IsStep own d at next → unknown (round finds ns stray ds next (at + 1)) ≤ unknown next → unknown (round finds ns stray ds next (at + 1)) ≤ unknown own
      step-fewer next (inl s) h = omega (arith, ap unknown s.0)
      step-fewer next (inr s) h = omega arith

  -- a round that leaves as many classes without a value changes nothing, and none of them gets one from its fields
  abbrev IsFixed : List ClassDef → List (Option A) → ℕ → Type 0
  IsFixed ds own at = (j : ℕ) (d : ClassDef) → slice_get ds j ≡ Some d → slice_get own (j + at) ≡ Some None → finds (look ns own stray) d ≡ None

  pub round-fixed : (ds : List ClassDef) (own : List (Option A)) (at : ℕ) → unknown (round finds ns stray ds own at) ≡ unknown own
      → (round finds ns stray ds own at ≡ own) × IsFixed ds own at
  round-fixed [] own at e = (refl, λ j d h. none_some h)
  round-fixed (d ∷ ds) own at e = go (filled finds ns stray d own at) (step-cases own d at) (round-fewer ds _ (at + 1)) (round-fixed ds (filled finds ns stray d own at) (at + 1)) e
    where
      later : (j : ℕ) (c : ClassDef) → (slice_get own at ≡ Some None → finds (look ns own stray) d ≡ None)
          → ((k : ℕ) (b : ClassDef) → slice_get ds k ≡ Some b → slice_get own (k + (at + 1)) ≡ Some None → finds (look ns own stray) b ≡ None)
          → slice_get (d ∷ ds) j ≡ Some c → slice_get own (j + at) ≡ Some None → finds (look ns own stray) c ≡ None
      later zero c head tail is none = let same : d ≡ c = some_is is in let move : 0 + at ≡ at = omega arith in rw (← same) (head (ap (slice_get own) (sym move) ∙ none))
      later (suc j) c head tail is none = let move : j + (at + 1) ≡ suc j + at = omega arith in tail j c is (ap (slice_get own) move ∙ none)

      go : (next : List (Option A)) → IsStep own d at next
          → unknown (round finds ns stray ds next (at + 1)) ≤ unknown next
          → (unknown (round finds ns stray ds next (at + 1)) ≡ unknown next
          → (round finds ns stray ds next (at + 1) ≡ next)
          × ((k : ℕ) (b : ClassDef) → slice_get ds k ≡ Some b → slice_get next (k + (at + 1)) ≡ Some None → finds (look ns next stray) b ≡ None))
          → unknown (round finds ns stray ds next (at + 1)) ≡ unknown own
          → (round finds ns stray ds next (at + 1) ≡ own)
          × ((j : ℕ) (c : ClassDef) → slice_get (d ∷ ds) j ≡ Some c → slice_get own (j + at) ≡ Some None → finds (look ns own stray) c ≡ None)
      go next (inr more) fewer rest all = absurd (omega arith)
      go next (inl s) fewer rest all =
          let stays : unknown next ≡ unknown own = ap unknown s.0 in
          let there = rest (omega arith) in
          (there.0 ∙ s.0, λ j c is none. later j c s.1 (λ k b kb kn. ap (λ l. finds (look ns l stray) b) (sym s.0) ∙ there.1 k b kb (ap (λ l. slice_get l (k + (at + 1))) s.0 ∙ kn)) is none)

  -- then each class has the value that its fields give, or none where they give none
  pub round-settled : (cs : List ClassDef) (own : List (Option A)) → length own ≡ length cs → IsPartial finds ns stray cs own
      → unknown (round finds ns stray cs own 0) ≡ unknown own → own ≡ map (finds (look ns own stray)) cs
  round-settled cs own e p same = map-at (finds (look ns own stray)) cs own e (λ i d a di ai. go i d a di ai)
    where
      go : (i : ℕ) (d : ClassDef) (a : Option A) → slice_get cs i ≡ Some d → slice_get own i ≡ Some a → finds (look ns own stray) d ≡ a
      go i d (Some a) di ai = p.each i d a di ai
      go i d None di ai = let move : i + 0 ≡ i = omega arith in (round-fixed cs own 0 same).1 i d di (ap (slice_get own) move ∙ ai)

  pub start-partial : (cs : List ClassDef) (n : ℕ) → IsPartial finds ns stray cs (replicate n None)
  start-partial cs n = record { each = λ i d a di ai. go n i a ai }
    where
      go : {B : Type 0} (m i : ℕ) (a : A) → slice_get (replicate m None) i ≡ Some (Some a) → B
      go zero i a e = none_some e
      go (suc m) zero a e = none_some (some_is e)
      go (suc m) (suc i) a e = go m i a e

  pub whole-partial : (cs : List ClassDef) (own next : List (Option A)) → IsPartial finds ns stray cs own → next ≡ round finds ns stray cs own 0 → IsPartial finds ns stray cs next
  whole-partial cs own next p e = subst (IsPartial finds ns stray cs) (sym e) (round-partial cs cs own 0 (λ j d is. let move : j + 0 ≡ j = omega arith in ap (slice_get cs) move ∙ is) p)

  -- the last of some rounds: as many classes have no value as before
  pub round-done : (cs : List ClassDef) (own next : List (Option A)) (left : ℕ) → length own ≡ length cs → IsPartial finds ns stray cs own
      → unknown own ≤ left → next ≡ round finds ns stray cs own 0 → unknown next ≡ left → next ≡ map (finds (look ns next stray)) cs
  round-done cs own next left even p most e same =
      let fewer : unknown (round finds ns stray cs own 0) ≤ unknown own = round-fewer cs own 0 in
      let count : unknown next ≡ unknown (round finds ns stray cs own 0) = ap unknown e in
      let still : unknown (round finds ns stray cs own 0) ≡ unknown own = omega arith in
      let stays : next ≡ own = e ∙ (round-fixed cs own 0 still).0 in
      subst (λ l. l ≡ map (finds (look ns l stray)) cs) (sym stays) (round-settled cs own even p still)

  visit-partial : (cs : List ClassDef) (own : List (Option A)) (at : ℕ) → IsPartial finds ns stray cs own → IsPartial finds ns stray cs (visit_class finds ns stray (slice_get cs at) own at)
  visit-partial cs own at p = go (slice_get cs at) refl
    where
      go : (o : Option ClassDef) → slice_get cs at ≡ o → IsPartial finds ns stray cs (visit_class finds ns stray o own at)
      go None e = p
      go (Some d) e = step-partial cs own d at e p

  visit-length : (own : List (Option A)) (o : Option ClassDef) (at : ℕ) → length (visit_class finds ns stray o own at) ≡ length own
  visit-length own None at = refl
  visit-length own (Some d) at = step-length own d at

  pub visited-partial : (cs : List ClassDef) (order : List ℕ) (own : List (Option A)) → IsPartial finds ns stray cs own → IsPartial finds ns stray cs (visited finds ns stray cs order own)
  visited-partial cs [] own p = p
  visited-partial cs (at ∷ order) own p = visited-partial cs order _ (visit-partial cs own at p)

  pub visited-length : (cs : List ClassDef) (order : List ℕ) (own : List (Option A)) → length (visited finds ns stray cs order own) ≡ length own
  visited-length cs [] own = refl
  visited-length cs (at ∷ order) own = visited-length cs order _ ∙ visit-length own (slice_get cs at) at

pub unknown-length : {A : Type 0} (own : List (Option A)) → unknown own ≤ length own
unknown-length [] = omega arith
unknown-length (None ∷ own) = omega (arith, unknown-length own)
unknown-length (Some a ∷ own) = omega (arith, unknown-length own)
