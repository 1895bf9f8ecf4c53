-- The list of types only grows: positions stay, and each type stands once in it.
use Rattle.std.proofs.Common.{◌≡◌, ℕ, zero, suc, ◌+◌, true, false, cond, List, [], ◌∷◌, ◌++◌, length, inl, inr, refl, sym, ◌∙◌, ap, subst, arith}
use Rattle.std.specs.Prelude.{◌⊎◌, ◌||◌, Bool, not, Some, Result, Ok, Err, IfOk, slice_get, Contains}
use Rattle.std.specs.List.{list_any, position_or_len}
use Rattle.std.proofs.lemmas.List.Elements.{Contains-append_cases}
use Rattle.mono_list.proofs.Cases.{split, none_some}
use Rattle.mono_syntax.specs.Ty.{Ty}
use Rattle.mono_tree.specs.ClosedList.{AreDistinct}
use Rattle.mono_syntax.specs.computed.TyEq.{ty_eq}
use Rattle.mono_syntax.specs.TyEqLaws.{ty_eq-is, ty_eq-same}
use Rattle.type_list.specs.Placing.{IsPlaced}
use Rattle.type_list.specs.computed.TypeList.{with_type}
use Rattle.type_list.specs.declared.list.Placed.{Placed}

-- ---- lists that grow

-- each type of the first list stands at its position in the second
abbrev pub Keeps : List Ty → List Ty → Type 0
Keeps ts us = (k : ℕ) (t : Ty) → slice_get ts k ≡ Some t → slice_get us k ≡ Some t

-- the second list has the first as its beginning, and where each type stood once it does so still
pub record Grows (ts us : List Ty) : Type 0 where
  pub keeps : Keeps ts us
  pub distinct : AreDistinct ts → AreDistinct us

pub stays : (ts : List Ty) → Grows ts ts
stays ts = record { keeps = λ k t e. e; distinct = λ d. d }

pub grows_on : (ts us vs : List Ty) → Grows ts us → Grows us vs → Grows ts vs
grows_on ts us vs f g = record { keeps = λ k t e. g.keeps k t (f.keeps k t e); distinct = λ d. g.distinct (f.distinct d) }

-- ---- one more type

kept-append : (ts us : List Ty) → Keeps ts (ts ++ us)
kept-append [] us k t e = none_some (slice_get us k ≡ Some t) e
kept-append (u ∷ ts) us zero t e = e
kept-append (u ∷ ts) us (suc k) t e = kept-append ts us k t e

at_end : (ts : List Ty) (t : Ty) → slice_get (ts ++ t ∷ []) (length ts) ≡ Some t
at_end [] t = refl
at_end (u ∷ ts) t = at_end ts t

none_in : (t : Ty) → Contains [] t → ⊥
none_in t (k, l, e) = omega arith

only_in : (t u : Ty) → Contains (t ∷ []) u → t ≡ u
only_in t u (zero, l, e) = e
only_in t u (suc k, l, e) = absurd (omega arith)

in_rest : (u t : Ty) (ts : List Ty) → Contains ts t → Contains (u ∷ ts) t
in_rest u t ts (k, l, e) = (suc k, omega arith, e)

distinct_push : (ts : List Ty) (t : Ty) → (Contains ts t → ⊥) → AreDistinct ts → AreDistinct (ts ++ t ∷ [])
distinct_push [] t h d = (none_in t, tt)
distinct_push (u ∷ ts) t h d = (
  λ c. elim (Contains-append_cases ts (t ∷ []) u c) [ inl i ↦ d.0 i | inr i ↦ h (0, omega arith, sym (only_in t u i)) ],
  distinct_push ts t (λ c. h (in_rest u t ts c)) d.1,
)

-- ---- the position of a type

one_more : (k : ℕ) → suc k ≡ 1 + k
one_more k = omega arith

found : (t : Ty) (ts : List Ty) → list_any (ty_eq t) ts ≡ true → slice_get ts (position_or_len (ty_eq t) ts) ≡ Some t
found t [] e = absurd cc
found t (u ∷ us) e =
    split (ty_eq t u) (λ b. (b || list_any (ty_eq t) us) ≡ true → slice_get (u ∷ us) (cond (not b) (1 + position_or_len (ty_eq t) us) 0) ≡ Some t)
    (λ y h. ap (λ (z : Ty). Some z) (sym (ty_eq-is t u y)))
    (λ n h. subst (λ (k : ℕ). slice_get (u ∷ us) k ≡ Some t) (one_more (position_or_len (ty_eq t) us)) (found t us h))
    e

not_here : (t u : Ty) (us : List Ty) → ty_eq t u ≡ false → (Contains us t → ⊥) → Contains (u ∷ us) t → ⊥
not_here t u us f h (zero, l, i) = let y : ty_eq t u ≡ true = ty_eq-same t u (sym i) in cc
not_here t u us f h (suc k, l, i) = h (k, omega arith, i)

-- the list hasn't the type, and so the position is the list's end
abbrev NotThere : Ty → List Ty → Type 0
NotThere t ts = (Contains ts t → ⊥) × (position_or_len (ty_eq t) ts ≡ length ts)

not_there : (t : Ty) (ts : List Ty) → list_any (ty_eq t) ts ≡ false → NotThere t ts
not_there t [] e = (none_in t, refl)
not_there t (u ∷ us) e =
    split (ty_eq t u) (λ b. ty_eq t u ≡ b → (b || list_any (ty_eq t) us) ≡ false → (Contains (u ∷ us) t → ⊥) × (cond (not b) (1 + position_or_len (ty_eq t) us) 0 ≡ length (u ∷ us)))
    (λ y f h. absurd cc)
    (λ n f h. let rest = not_there t us h in (not_here t u us f rest.0, ap (λ (k : ℕ). 1 + k) rest.1 ∙ sym (one_more (length us))))
    refl e

placed_so : (ts : List Ty) (t : Ty) (b : Bool) → list_any (ty_eq t) ts ≡ b → IsPlaced ts t (record { at = record { 0 = position_or_len (ty_eq t) ts }; types = cond b ts (ts ++ t ∷ []) })
placed_so ts t true e = record { at = found t ts e; list = inl refl; distinct = λ d. d }
placed_so ts t false e =
    let h = not_there t ts e in
    record {
      at = subst (λ (n : ℕ). slice_get (ts ++ t ∷ []) n ≡ Some t) (sym h.1) (at_end ts t);
      list = inr (h.0, refl);
      distinct = distinct_push ts t h.0;
    }

pub is_placed : (ts : List Ty) (t : Ty) → IsPlaced ts t (with_type ts t)
is_placed ts t = placed_so ts t (list_any (ty_eq t) ts) refl

kept : (ts us : List Ty) (t : Ty) → (us ≡ ts) ⊎ ((Contains ts t → ⊥) × (us ≡ ts ++ t ∷ [])) → Keeps ts us
kept ts us t h = elim h [
  | inl e ↦ subst (λ (z : List Ty). Keeps ts z) (sym e) (λ k u i. i)
  | inr e ↦ subst (λ (z : List Ty). Keeps ts z) (sym e.1) (kept-append ts (t ∷ []))
]

-- the list grew
pub grown : (ts : List Ty) (t : Ty) → Grows ts (with_type ts t).types
grown ts t = let p = is_placed ts t in record { keeps = kept ts (with_type ts t).types t p.list; distinct = p.distinct }

pub placed_where : {E : Type 0} (ts : List Ty) (t : Ty) (r : Result Placed E) → IfOk r (λ p. p ≡ with_type ts t) → IfOk r (IsPlaced ts t)
placed_where ts t (Ok p) e = subst (IsPlaced ts t) (sym e) (is_placed ts t)
placed_where ts t (Err f) e = tt
