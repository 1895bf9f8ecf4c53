-- A list is within the limits or has a first fault, and not two.
use Rattle.std.proofs.Common.{◌≡◌, ℕ, zero, suc, ◌<◌, ◌≤◌, List, [], ◌∷◌, ◌++◌, length, inl, inr, refl, sym, ◌∙◌, ap, subst, arith, take, length-append, append_assoc}
use Rattle.std.specs.Prelude.{Some, slice_get, Contains, ◌⊎◌}
use Rattle.std.proofs.lemmas.Bool.{cases_lt}
use Rattle.std.proofs.lemmas.Option.{slice_get_within, get_or_from_slice_get}
use Rattle.std.proofs.lemmas.List.Elements.{Contains-append_cases}
use Rattle.mono_list.proofs.Cases.{some_is}
use Rattle.mono_syntax.specs.Limits.{most_nodes, greatest_depth}
use Rattle.mono_syntax.specs.Ty.{Ty}
use Rattle.mono_syntax.specs.declared.refusal.Reason.{Reason}
use Rattle.mono_syntax.specs.declared.refusal.Reason.TheVariants.{TooManyTypes, TypeTooLarge}
use Rattle.mono_tree.specs.Sizes.{nodes_of, depth_of, IsTooLarge}
use Rattle.mono_tree.proofs.ClosedPuts.{none_in, only_in}
use Rattle.type_shapes.specs.Limits.{IsWithinLimits, IsAtFault, IsFirstFault}
use Rattle.type_shapes.proofs.LimitLaws.{fault_longer, pushed_fault}

-- ---- either

large_or_not : (t : Ty) → IsTooLarge t ⊎ (IsTooLarge t → ⊥)
large_or_not t = elim (cases_lt most_nodes (nodes_of t)) [
  | inl n ↦ inl (inl n)
  | inr n ↦ elim (cases_lt greatest_depth (depth_of t)) [
    | inl d ↦ inl (inr d)
    | inr d ↦ inr (λ h. elim h [ inl a ↦ absurd (omega arith) | inr a ↦ absurd (omega arith) ])
  ]
]

abbrev IsEither : List Ty → Type 0
IsEither ts = IsWithinLimits ts ⊎ ((r : Reason) × IsFirstFault ts r)

one_more : (ts : List Ty) (t : Ty) → IsWithinLimits ts → IsEither (ts ++ t ∷ [])
one_more ts t w = elim (large_or_not t) [
  | inl y ↦ inr (TypeTooLarge, pushed_fault ts t TypeTooLarge w (inl (y, refl)))
  | inr n ↦ elim (cases_lt (length ts) 4095) [
    | inl l ↦ inl (record {
      few = omega (arith, length-append ts (t ∷ []));
      small = λ u c y. elim (Contains-append_cases ts (t ∷ []) u c) [ inl i ↦ w.small u i y | inr i ↦ n (subst IsTooLarge (only_in t u i) y) ];
    })
    | inr l ↦ inr (TooManyTypes, pushed_fault ts t TooManyTypes w (inr (n, full ts w l, refl)))
  ]
]
  where
    full : (ts : List Ty) → IsWithinLimits ts → 4095 ≤ length ts → length ts ≡ 4095
    full ts w l = let few : length ts ≤ 4095 = w.few in omega arith

-- the types behind a list for which the law holds
behind : (ts us : List Ty) → IsEither ts → IsEither (ts ++ us)
behind ts [] (inl w) = inl (subst IsWithinLimits (sym (append_nil ts)) w)
  where
    append_nil : (ts : List Ty) → ts ++ [] ≡ ts
    append_nil [] = refl
    append_nil (t ∷ ts) = ap (λ (x : List Ty). t ∷ x) (append_nil ts)
behind ts (u ∷ us) (inl w) = subst IsEither (append_assoc ts (u ∷ []) us) (behind (ts ++ u ∷ []) us (one_more ts u w))
behind ts us (inr f) = inr (f.0, fault_longer ts (ts ++ us) f.0 (record { rest = us; same = refl }) f.1)

pub either : (ts : List Ty) → IsEither ts
either ts = behind [] ts (inl (record { few = omega arith; small = λ t c. absurd (none_in t c) }))

-- ---- one

taken : (ts : List Ty) (k n : ℕ) (t : Ty) → k < n → slice_get ts k ≡ Some t → slice_get (take n ts) k ≡ Some t
taken ts k zero t l e = absurd (omega arith)
taken [] k (suc n) t l e = absurd cc
taken (u ∷ ts) zero (suc n) t l e = e
taken (u ∷ ts) (suc k) (suc n) t l e = taken ts k n t (omega arith) e

take_within : (ts : List Ty) (n : ℕ) → n ≤ length ts → length (take n ts) ≡ n
take_within ts zero l = refl
take_within [] (suc n) l = absurd (omega arith)
take_within (t ∷ ts) (suc n) l = ap suc (take_within ts n (omega arith))

inside : (ts : List Ty) (k : ℕ) (t : Ty) → slice_get ts k ≡ Some t → Contains ts t
inside ts k t e = (k, slice_get_within ts k t e, get_or_from_slice_get ts k t t e)

-- what stands before a fault is none
no_earlier : (ts : List Ty) (r s : Reason) (f : IsFirstFault ts r) (g : IsFirstFault ts s) → f.at < g.at → ⊥
no_earlier ts r s f g l = elim f.reason [
  | inl h ↦ g.before.small f.member (inside (take g.at ts) f.at f.member (taken ts f.at g.at f.member l f.there)) h.0
  | inr h ↦ absurd (
      let full : f.at ≡ 4095 = h.1 in
      let few : length (take g.at ts) ≤ 4095 = g.before.few in
      let there : g.at < length ts = slice_get_within ts g.at g.member g.there in
      let long : length (take g.at ts) ≡ g.at = take_within ts g.at (omega arith) in
      omega arith)
]

same_reason : (at : ℕ) (t : Ty) (r s : Reason) → IsAtFault at t r → IsAtFault at t s → r ≡ s
same_reason at t r s (inl a) (inl b) = a.1 ∙ sym b.1
same_reason at t r s (inl a) (inr b) = absurd (b.0 a.0)
same_reason at t r s (inr a) (inl b) = absurd (a.0 b.0)
same_reason at t r s (inr a) (inr b) = a.2 ∙ sym b.2

pub one : (ts : List Ty) (r s : Reason) → IsFirstFault ts r → IsFirstFault ts s → r ≡ s
one ts r s f g = elim (cases_lt f.at g.at) [
  | inl l ↦ absurd (no_earlier ts r s f g l)
  | inr l ↦ elim (cases_lt g.at f.at) [
    | inl k ↦ absurd (no_earlier ts s r g f k)
    | inr k ↦
        let same : g.at ≡ f.at = omega arith in
        let it : g.member ≡ f.member = some_is (sym g.there ∙ ap (slice_get ts) same ∙ f.there) in
        same_reason f.at f.member r s f.reason
        (subst (λ (n : ℕ). IsAtFault n f.member s) same (subst (λ (t : Ty). IsAtFault g.at t s) it g.reason))
  ]
]
