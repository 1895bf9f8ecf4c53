-- Tokens are refused at one place at most, and at none where they have a tree: every front of a script's tokens begins one.
use Rattle.std.proofs.Common.{◌≡◌, ◌⊎◌, inl, inr, ℕ, zero, suc, ◌+◌, ◌<◌, ◌≤◌, List, [], ◌∷◌, ◌++◌, take, slice_get, refl, sym, ◌∙◌, subst, ap, arith, append_assoc}
use Rattle.mono_list.proofs.Cases.{some_is}
use Rattle.mono_syntax.specs.declared.refusal.Reason.TheVariants.{Syntax}
use Rattle.mono_syntax.specs.declared.refusal.Refusal.{Refusal}
use Rattle.mono_syntax.specs.declared.tree.Script.{Script}
use Rattle.py_lexer.specs.declared.token.Token.{Token}
use Rattle.spelled_tokens.specs.declared.token.Spelled.{Spelled}
use Rattle.spelled_tokens.specs.SpelledTokens.{all_spelled}
use Rattle.parse_script.specs.Script.{DerivesWhole, DerivesScript, Begins, IsRefusedAt}

-- what stands behind the first m of the first n
record Behind (m : ℕ) (ts us : List Spelled) : Type 0 where
  pub more : List Spelled
  pub whole : us ≡ take m ts ++ more

fronts : (m n : ℕ) (ts : List Spelled) → m ≤ n → Behind m ts (take n ts)
fronts zero n ts l = record { more = take n ts; whole = refl }
fronts (suc m) zero ts l = absurd (omega (arith, l))
fronts (suc m) (suc n) [] l = record { more = []; whole = refl }
fronts (suc m) (suc n) (t ∷ ts) l = let r = fronts m n ts (omega (arith, l)) in record { more = r.more; whole = ap (λ us. t ∷ us) r.whole }

front : (m : ℕ) (ts : List Spelled) → Behind m ts ts
front zero ts = record { more = ts; whole = refl }
front (suc m) [] = record { more = []; whole = refl }
front (suc m) (t ∷ ts) = let r = front m ts in record { more = r.more; whole = ap (λ us. t ∷ us) r.whole }

-- a front of tokens that begin a script begins one
begins_too : (m : ℕ) (ts us : List Spelled) → Behind m ts us → Begins us → Begins (take m ts)
begins_too m ts us b (more, s, d) =
    (b.more ++ more, s, subst (λ (xs : List Spelled). DerivesWhole xs s) (ap (λ xs. xs ++ more) b.whole ∙ append_assoc (take m ts) b.more more) d)

pub read_whole : (text : List ℕ) (tokens : List Token) (s : Script) (r : Refusal) → DerivesScript text tokens s → IsRefusedAt text tokens r → ⊥
read_whole text tokens s r d h =
    let all = all_spelled text tokens in
    let b = front (h.before + 1) all in
    h.stops (b.more, s, subst (λ (xs : List Spelled). DerivesWhole xs s) b.whole d)

-- the second refusal doesn't stand behind the first
not_behind : (text : List ℕ) (tokens : List Token) (r q : Refusal) (h : IsRefusedAt text tokens r) (k : IsRefusedAt text tokens q) → h.before < k.before → ⊥
not_behind text tokens r q h k l =
    let all = all_spelled text tokens in
    h.stops (begins_too (h.before + 1) all (take k.before all) (fronts (h.before + 1) k.before all (omega (arith, l))) k.begins)

ordered : (m n : ℕ) → (m < n) ⊎ ((m ≡ n) ⊎ (n < m))
ordered zero zero = inr (inl refl)
ordered zero (suc n) = inl (omega arith)
ordered (suc m) zero = inr (inr (omega arith))
ordered (suc m) (suc n) =
    elim (ordered m n) [
      | inl l ↦ inl (omega (arith, l))
      | inr k ↦ elim k [ inl e ↦ inr (inl (ap suc e)) | inr g ↦ inr (inr (omega (arith, g))) ]
    ]

same_place : (text : List ℕ) (tokens : List Token) (r q : Refusal) (h : IsRefusedAt text tokens r) (k : IsRefusedAt text tokens q) → h.before ≡ k.before → r ≡ q
same_place text tokens r q h k e =
    let token : h.token ≡ k.token = some_is (sym h.stands ∙ ap (λ n. slice_get tokens n) e ∙ k.stands) in
    h.refusal ∙ ap (λ (t : Token). record { place = t.place; reason = Syntax }) token ∙ sym k.refusal

pub refused_once : (text : List ℕ) (tokens : List Token) (r q : Refusal) → IsRefusedAt text tokens r → IsRefusedAt text tokens q → r ≡ q
refused_once text tokens r q h k =
    elim (ordered h.before k.before) [
      | inl l ↦ absurd (not_behind text tokens r q h k l)
      | inr b ↦ elim b [ inl e ↦ same_place text tokens r q h k e | inr l ↦ absurd (not_behind text tokens q r k h l) ]
    ]
