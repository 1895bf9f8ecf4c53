-- A name is updated at its place.
use Rattle.std.proofs.Common.{◌≡◌, ℕ, suc, ◌+◌, ◌<◌, Bool, List, [], ◌∷◌, length, Some, None, cond, bytes_eq, set, get_or, refl, ap, sym, ◌∙◌, subst, arith}
use Rattle.std.specs.List.{position_from}
use Rattle.mono_list.proofs.Cases.{split, some_is, none_some, some_none}
use Rattle.cast_machine.specs.Maps.{update, place_of}

module _ {A : Type 0} (x : List ℕ) (a : A) where
  here : (List ℕ × A) → Bool
  here p = bytes_eq p.0 x

  pub record Found (i k : ℕ) (l : List (List ℕ × A)) : Type 0 where
    pub at : ℕ
    pub is : k ≡ i + at
    pub within : at < length l
    pub same : (d : List ℕ × A) → set l at ((get_or l at d).0, a) ≡ update l x a

  pub found : (l : List (List ℕ × A)) (i k : ℕ) → position_from (λ p. bytes_eq p.0 x) i l ≡ Some k → Found i k l
  found [] i k = λ e. none_some (Found i k []) e
  found (p ∷ l) i k =
      split (bytes_eq p.0 x) (λ b. cond b (Some i) (position_from (λ q. bytes_eq q.0 x) (i + 1) l) ≡ Some k → Found i k (p ∷ l))
      (λ t e. record { at = 0; is = let q : i ≡ k = some_is e in omega arith; within = omega arith; same = λ d. rw t refl })
      (λ f e. let r = found l (i + 1) k e in
      record { at = suc r.at; is = omega (arith, r.is); within = omega (arith, r.within); same = λ d. rw f (ap (λ m. p ∷ m) (r.same d)) })

  pub missing : (l : List (List ℕ × A)) (i : ℕ) → position_from (λ p. bytes_eq p.0 x) i l ≡ None → l ≡ update l x a
  missing [] i = λ e. refl
  missing (p ∷ l) i =
      split (bytes_eq p.0 x) (λ b. cond b (Some i) (position_from (λ q. bytes_eq q.0 x) (i + 1) l) ≡ None → p ∷ l ≡ cond b ((p.0, a) ∷ l) (p ∷ update l x a))
      (λ t e. some_none (p ∷ l ≡ (p.0, a) ∷ l) e)
      (λ f e. ap (λ m. p ∷ m) (missing l (i + 1) e))

  pub place_within : (l : List (List ℕ × A)) (k : ℕ) → place_of l x ≡ Some k → k < length l
  place_within l k e = let r = found l 0 k e in omega (arith, r.is, r.within)

  pub place_updates : (l : List (List ℕ × A)) (k : ℕ) (d : List ℕ × A) → place_of l x ≡ Some k → set l k ((get_or l k d).0, a) ≡ update l x a
  place_updates l k d e =
      let r = found l 0 k e in
      let q : r.at ≡ k = omega (arith, r.is) in
      subst (λ (j : ℕ). set l j ((get_or l j d).0, a) ≡ update l x a) q (r.same d)

  -- what was found in the list m, which is l
  pub within_same : (m l : List (List ℕ × A)) (k : ℕ) → m ≡ l → Some k ≡ place_of m x → k < length l
  within_same m l k s e = subst (λ (n : List (List ℕ × A)). k < length n) s (place_within m k (sym e))

  -- the pair that stands at the place keeps its name
  pub pair_updates : (m l : List (List ℕ × A)) (k : ℕ) (p : List ℕ × A) → m ≡ l → Some k ≡ place_of m x → p ≡ get_or l k p → set l k (p.0, a) ≡ update l x a
  pair_updates m l k p s e h = ap (λ q. set l k (q.0, a)) h ∙ place_updates l k p (sym (subst (λ (n : List (List ℕ × A)). Some k ≡ place_of n x) s e))

  pub missing_same : (m l : List (List ℕ × A)) → m ≡ l → None ≡ place_of m x → l ≡ update l x a
  missing_same m l s e = missing l 0 (sym (subst (λ (n : List (List ℕ × A)). None ≡ place_of n x) s e))
