-- Where a machine stops is the end of the longest front that begins a tree.
use Rattle.std.proofs.Common.{ℕ, zero, suc, ◌<◌, ◌≤◌, ◌≡◌, inl, inr, List, [], ◌∷◌, ◌++◌, length, take, drop, Option, Some, None, arith, refl, ap, ◌∙◌, subst, append_assoc}
use Rattle.std.proofs.lemmas.List.{length-take-le}
use Rattle.std.proofs.lemmas.Bool.{cases_lt}
use Rattle.spelled_tokens.specs.declared.token.Spelled.{Spelled}
use Rattle.spelled_tokens.specs.declared.token.What.TheVariants as what
use Rattle.spelled_tokens.specs.declared.token.Mark.TheVariants as mark
use Rattle.parse_expr.specs.computed.Goes.{Goes}
use Rattle.parse_expr.specs.Stretches.{MayBegin, IsStretch}
use Rattle.parse_expr.proofs.Goes.{no_further, not_whole}

-- a longer front goes through the token behind a shorter one
further : (n m : ℕ) (tokens : List Spelled) → n < m → m ≤ length tokens → (t : Spelled) × (more rest : List Spelled) × (take m tokens ≡ take n tokens ++ (t ∷ more)) × (drop n tokens ≡ t ∷ rest)
further n zero tokens h k = absurd (omega arith)
further n (suc m) [] h k = absurd (omega arith)
further zero (suc m) (t ∷ ts) h k = (t, take m ts, ts, refl, refl)
further (suc n) (suc m) (t ∷ ts) h k = let f = further n m ts (omega arith) (omega arith) in (f.0, f.1, f.2, ap (λ xs. t ∷ xs) f.3, f.4)

-- a machine that reads trees, and all of them
pub record Reads {S A : Type 0} (step : S → Spelled → Option S) (finish : S → Option A) (start : S) (Is : List Spelled → A → Type 0) : Type 0 where
  pub complete : (ts : List Spelled) (a : A) → Is ts a → (m : S) × Goes step start ts m × (finish m ≡ Some a)
  pub sound : (ts : List Spelled) (m : S) (a : A) → Goes step start ts m → finish m ≡ Some a → Is ts a
  pub begins : (ts : List Spelled) (m : S) → Goes step start ts m → MayBegin Is ts
  -- no tree has the token that ends a text
  pub ends : (m : S) (t : Spelled) → t.what ≡ what.Mark mark.End → step m t ≡ None

-- a run over the first n tokens that the next token stops
pub record StopsAt {S : Type 0} (step : S → Spelled → Option S) (start : S) (tokens : List Spelled) (n : ℕ) (last : S) : Type 0 where
  pub within : n ≤ length tokens
  pub goes : Goes step start (take n tokens) last
  pub stuck : (t : Spelled) (more : List Spelled) → drop n tokens ≡ t ∷ more → step last t ≡ None

module _ {S A : Type 0} (step : S → Spelled → Option S) (finish : S → Option A) (start : S) (Is : List Spelled → A → Type 0) (reads : Reads step finish start Is) where
  beyond : (n m : ℕ) (tokens : List Spelled) (last : S) → StopsAt step start tokens n last → n < m → m ≤ length tokens → MayBegin Is (take m tokens) → ⊥
  beyond n m tokens last s h k (inl e) = omega (arith, ap length e, length-take-le m tokens k)
  beyond n m tokens last s h k (inr b) =
      let f = further n m tokens h k in
      no_further step finish start Is reads.complete (take n tokens) last f.0 (f.1 ++ b.0) b.1 s.goes (s.stuck f.0 f.2 f.4)
      (subst (λ xs. Is xs b.1) (ap (λ xs. xs ++ b.0) f.3 ∙ append_assoc (take n tokens) (f.0 ∷ f.1) b.0) b.2)

  pub stretch : (tokens : List Spelled) (n : ℕ) (last : S) → StopsAt step start tokens n last → IsStretch Is tokens n
  stretch tokens n last s =
      record {
        within = s.within;
        begins = reads.begins (take n tokens) last s.goes;
        longest = λ m k b. elim (cases_lt n m) [ inl h ↦ absurd (beyond n m tokens last s h k b) | inr h ↦ h ];
      }

  pub no_tree : (tokens : List Spelled) (n : ℕ) (last : S) → StopsAt step start tokens n last → finish last ≡ None → (a : A) → Is (take n tokens) a → ⊥
  no_tree tokens n last s e a i = not_whole step finish start Is reads.complete (take n tokens) last a s.goes e i
