-- The first fault of a list is that of every longer list, and a list has a first fault or is within the limits.
use Rattle.std.proofs.Common.{◌≡◌, ℕ, zero, suc, ◌<◌, ◌≤◌, Bool, true, false, List, [], ◌∷◌, ◌++◌, length, inl, inr, refl, sym, ◌∙◌, ap, subst, arith, cond, length-append, take}
use Rattle.std.specs.Prelude.{Some, slice_get, Contains}
use Rattle.std.specs.List.{list_any}
use Rattle.std.proofs.lemmas.Option.{slice_get_within, get_or_from_slice_get}
use Rattle.std.proofs.lemmas.List.Elements.{Contains-append_cases}
use Rattle.mono_syntax.specs.Ty.{Ty}
use Rattle.mono_syntax.specs.computed.TyEq.{ty_eq}
use Rattle.mono_syntax.specs.declared.refusal.Reason.{Reason}
use Rattle.mono_syntax.specs.declared.refusal.Reason.TheVariants.{TooManyTypes, TypeTooLarge}
use Rattle.mono_syntax.specs.declared.refusal.LoadFault.{LoadFault}
use Rattle.mono_syntax.specs.declared.refusal.LoadFault.TheVariants.{Memory}
use Rattle.mono_tree.specs.ClosedList.{put, put_all}
use Rattle.mono_tree.specs.Sizes.{IsTooLarge}
use Rattle.mono_tree.proofs.ClosedPuts.{is_there, only_in, IsBeginning, begins-put_all, get_longer, put_two}
use Rattle.type_shapes.specs.Limits.{most_types, IsWithinLimits, IsAtFault, IsFirstFault, IsFault, refused}

-- ---- beginnings

take_longer : (ts us : List Ty) (k : ℕ) → k ≤ length ts → take k (ts ++ us) ≡ take k ts
take_longer ts us zero l = refl
take_longer [] us (suc k) l = absurd (omega arith)
take_longer (t ∷ ts) us (suc k) l = ap (λ (x : List Ty). t ∷ x) (take_longer ts us k (omega arith))

take_before : (ts : List Ty) (t : Ty) → take (length ts) (ts ++ t ∷ []) ≡ ts
take_before [] t = refl
take_before (u ∷ ts) t = ap (λ (x : List Ty). u ∷ x) (take_before ts t)

last_there : (ts : List Ty) (t : Ty) → slice_get (ts ++ t ∷ []) (length ts) ≡ Some t
last_there [] t = refl
last_there (u ∷ ts) t = last_there ts t

pub fault_longer : (ts us : List Ty) (r : Reason) → IsBeginning ts us → IsFirstFault ts r → IsFirstFault us r
fault_longer ts us r b f =
    let l : f.at < length ts = slice_get_within ts f.at f.member f.there in
    let e : take f.at us ≡ take f.at ts = ap (take f.at) b.same ∙ take_longer ts b.rest f.at (omega arith) in
    record {
      at = f.at;
      member = f.member;
      there = get_longer ts us f.at f.member b f.there;
      before = subst IsWithinLimits (sym e) f.before;
      reason = f.reason;
    }

-- an error of a beginning is one of the whole
pub fault_of_more : (ts us : List Ty) (e : LoadFault) → IsBeginning ts us → IsFault ts e → IsFault us e
fault_of_more ts us e b (inl m) = inl m
fault_of_more ts us e b (inr f) = inr (f.0, fault_longer ts us f.0 b f.1, f.2)

pub fault_rest : (s us vs target : List Ty) (e : LoadFault) → put_all s (us ++ vs) ≡ target → IsFault (put_all s us) e → IsFault target e
fault_rest s us vs target e same f =
    subst (λ (l : List Ty). IsFault l e) same
    (fault_of_more (put_all s us) (put_all s (us ++ vs)) e
    (record { rest = (begins-put_all (put_all s us) vs).rest; same = put_two s us vs ∙ (begins-put_all (put_all s us) vs).same }) f)

-- ---- one more type

put_new : (l : List Ty) (t : Ty) → list_any (ty_eq t) l ≡ false → put l t ≡ l ++ t ∷ []
put_new l t n = ap (λ (b : Bool). cond b l (l ++ t ∷ [])) n

put_old : (l : List Ty) (t : Ty) → list_any (ty_eq t) l ≡ true → put l t ≡ l
put_old l t n = ap (λ (b : Bool). cond b l (l ++ t ∷ [])) n

pub pushed_fault : (l : List Ty) (t : Ty) (r : Reason) → IsWithinLimits l → IsAtFault (length l) t r → IsFirstFault (l ++ t ∷ []) r
pushed_fault l t r w f = record {
  at = length l;
  member = t;
  there = last_there l t;
  before = subst IsWithinLimits (sym (take_before l t)) w;
  reason = f;
}

pub large_put : (l : List Ty) (t : Ty) → IsWithinLimits l → list_any (ty_eq t) l ≡ false → IsTooLarge t → IsFault (put l t) (refused TypeTooLarge)
large_put l t w n y =
    inr (TypeTooLarge, subst (λ (x : List Ty). IsFirstFault x TypeTooLarge) (sym (put_new l t n)) (pushed_fault l t TypeTooLarge w (inl (y, refl))), refl)

pub many_put : (l : List Ty) (t : Ty) → IsWithinLimits l → list_any (ty_eq t) l ≡ false → (IsTooLarge t → ⊥) → 4095 < length (put l t)
    → IsFault (put l t) (refused TooManyTypes)
many_put l t w n f h =
    inr (TooManyTypes, subst (λ (x : List Ty). IsFirstFault x TooManyTypes) (sym (put_new l t n)) (pushed_fault l t TooManyTypes w (inr (f, full, refl))), refl)
  where
    full : length l ≡ 4095
    full =
        let few : length l ≤ 4095 = w.few in
        let k : 4095 < length (l ++ t ∷ []) = subst (λ (k : List Ty). 4095 < length k) (put_new l t n) h in
        omega (arith, length-append l (t ∷ []))

pub fine_put : (l : List Ty) (t : Ty) → IsWithinLimits l → list_any (ty_eq t) l ≡ false → (IsTooLarge t → ⊥) → length (put l t) ≤ 4095 → IsWithinLimits (put l t)
fine_put l t w n f h = subst IsWithinLimits (sym (put_new l t n)) (record {
  few = subst (λ (k : List Ty). length k ≤ 4095) (put_new l t n) h;
  small = λ u c y. elim (Contains-append_cases l (t ∷ []) u c) [ inl i ↦ w.small u i y | inr i ↦ f (subst IsTooLarge (only_in t u i) y) ];
})

pub fine_old : (l : List Ty) (t : Ty) → IsWithinLimits l → list_any (ty_eq t) l ≡ true → IsWithinLimits (put l t)
fine_old l t w y = subst IsWithinLimits (sym (put_old l t y)) w

pub no_memory : (l : List Ty) → IsFault l Memory
no_memory l = inl refl

-- a list within the limits has no first member at fault
pub no_fault : (l : List Ty) (r : Reason) → IsWithinLimits l → IsFirstFault l r → ⊥
no_fault l r w f = elim f.reason [
  | inl h ↦ w.small f.member (inside l f.at f.member f.there) h.0
  | inr h ↦ absurd (
      let few : length l ≤ 4095 = w.few in
      let k : f.at < length l = slice_get_within l f.at f.member f.there in
      let full : f.at ≡ 4095 = h.1 in
      omega arith)
]
  where
    inside : (ts : List Ty) (k : ℕ) (t : Ty) → slice_get ts k ≡ Some t → Contains ts t
    inside ts k t e = (k, slice_get_within ts k t e, get_or_from_slice_get ts k t t e)

-- so its only error is want of memory
pub only_memory : (l : List Ty) (e : LoadFault) → IsWithinLimits l → IsFault l e → e ≡ Memory
only_memory l e w (inl m) = m
only_memory l e w (inr f) = absurd (no_fault l f.0 w f.1)

-- a place that has a type
pub within_limits : (l : List Ty) (k : ℕ) (t : Ty) → IsWithinLimits l → slice_get l k ≡ Some t → k < most_types
within_limits l k t w e =
    let few : length l ≤ 4095 = w.few in
    let in_it : k < length l = slice_get_within l k t e in
    omega arith

-- a type that isn't there and is too large
pub large_absent : (l : List Ty) (t : Ty) → IsWithinLimits l → (Contains l t → ⊥) → IsTooLarge t → IsFault (put l t) (refused TypeTooLarge)
large_absent l t w n y = by (list_any (ty_eq t) l) refl
  where
    by : (b : Bool) → list_any (ty_eq t) l ≡ b → IsFault (put l t) (refused TypeTooLarge)
    by true e = absurd (n (is_there l t e))
    by false e = large_put l t w e y
