-- Lists to whose ends types are put: what they contain, that they begin as before, that nothing stands twice.
use Rattle.std.proofs.Common.{◌≡◌, ℕ, zero, suc, ◌+◌, ◌≤◌, true, false, Bool, List, [], ◌∷◌, ◌++◌, length, inl, inr, refl, sym, ◌∙◌, ap, subst, arith, append_assoc, cond, length-append}
use Rattle.std.specs.Prelude.{Some, slice_get, Contains, ◌⊎◌, ◌||◌}
use Rattle.std.specs.List.{list_any}
use Rattle.std.proofs.lemmas.List.Sums.{fold-append}
use Rattle.std.proofs.lemmas.List.Elements.{Contains-append_left, Contains-append_right, Contains-append_cases}
use Rattle.std.proofs.lemmas.Map.Views.{list_any-from_Contains}
use Rattle.mono_list.proofs.Cases.{split}
use Rattle.mono_syntax.specs.Ty.{Ty, dyn, int, bool, str, nil, fun, obj}
use Rattle.mono_syntax.specs.computed.TyEq.{ty_eq}
use Rattle.mono_syntax.specs.TyEqLaws.{ty_eq-is, ty_eq-laws}
use Rattle.mono_tree.specs.ClosedList.{put, put_all, AreDistinct, parts_first, parts_before, all_parts_first, field_parts_first}

pub none_in : (t : Ty) → Contains [] t → ⊥
none_in t (k, l, e) = omega arith

pub only_in : (t u : Ty) → Contains (t ∷ []) u → u ≡ t
only_in t u (zero, l, e) = sym e
only_in t u (suc k, l, e) = absurd (omega arith)

pub first_in : (t : Ty) (ts : List Ty) → Contains (t ∷ ts) t
first_in t ts = (0, omega arith, refl)

pub in_rest : (u t : Ty) (ts : List Ty) → Contains ts t → Contains (u ∷ ts) t
in_rest u t ts (k, l, e) = (suc k, omega arith, e)

pub at_head : (u t : Ty) (ts : List Ty) → Contains (u ∷ ts) t → (t ≡ u) ⊎ Contains ts t
at_head u t ts (zero, l, e) = inl (sym e)
at_head u t ts (suc k, l, e) = inr (k, omega arith, e)

pub is_there : (ts : List Ty) (t : Ty) → list_any (ty_eq t) ts ≡ true → Contains ts t
is_there [] t e = absurd cc
is_there (u ∷ ts) t e = split (ty_eq t u) (λ b. ty_eq t u ≡ b → (b || list_any (ty_eq t) ts) ≡ true → Contains (u ∷ ts) t)
    (λ y s k. subst (λ (x : Ty). Contains (x ∷ ts) t) (ty_eq-is t u s) (first_in t ts))
    (λ n s k. in_rest u t ts (is_there ts t k)) refl e

pub isnt_there : (ts : List Ty) (t : Ty) → list_any (ty_eq t) ts ≡ false → Contains ts t → ⊥
isnt_there ts t e c = let y : list_any (ty_eq t) ts ≡ true = list_any-from_Contains ty_eq-laws t ts c in cc

-- ---- the second list has the first as its beginning

pub record IsBeginning (ts us : List Ty) : Type 0 where
  pub rest : List Ty
  pub same : us ≡ ts ++ rest

append-nil : (ts : List Ty) → ts ++ [] ≡ ts
append-nil [] = refl
append-nil (t ∷ ts) = ap (λ l. t ∷ l) (append-nil ts)

pub begins_itself : (ts : List Ty) → IsBeginning ts ts
begins_itself ts = record { rest = []; same = sym (append-nil ts) }

pub begins_on : (ts us vs : List Ty) → IsBeginning ts us → IsBeginning us vs → IsBeginning ts vs
begins_on ts us vs b c = record { rest = b.rest ++ c.rest; same = c.same ∙ ap (λ l. l ++ c.rest) b.same ∙ append_assoc ts b.rest c.rest }

pub begins-put : (ts : List Ty) (t : Ty) → IsBeginning ts (put ts t)
begins-put ts t = split (list_any (ty_eq t) ts) (λ b. IsBeginning ts (cond b ts (ts ++ t ∷ []))) (λ y. begins_itself ts) (λ n. record { rest = t ∷ []; same = refl })

pub begins-put_all : (ts us : List Ty) → IsBeginning ts (put_all ts us)
begins-put_all ts [] = begins_itself ts
begins-put_all ts (u ∷ us) = begins_on ts (put ts u) (put_all (put ts u) us) (begins-put ts u) (begins-put_all (put ts u) us)

pub in_longer : (ts us : List Ty) (t : Ty) → IsBeginning ts us → Contains ts t → Contains us t
in_longer ts us t b c = subst (λ (l : List Ty). Contains l t) (sym b.same) (Contains-append_left ts b.rest t c)

get-append : (ts us : List Ty) (k : ℕ) (t : Ty) → slice_get ts k ≡ Some t → slice_get (ts ++ us) k ≡ Some t
get-append [] us k t e = absurd cc
get-append (u ∷ ts) us zero t e = e
get-append (u ∷ ts) us (suc k) t e = get-append ts us k t e

pub get_longer : (ts us : List Ty) (k : ℕ) (t : Ty) → IsBeginning ts us → slice_get ts k ≡ Some t → slice_get us k ≡ Some t
get_longer ts us k t b e = subst (λ (l : List Ty). slice_get l k ≡ Some t) (sym b.same) (get-append ts b.rest k t e)

-- ---- what is in the list

pub has-put : (ts : List Ty) (t : Ty) → Contains (put ts t) t
has-put ts t = split (list_any (ty_eq t) ts) (λ b. Contains (cond b ts (ts ++ t ∷ [])) t) (λ y. is_there ts t y) (λ n. Contains-append_right ts (t ∷ []) t (first_in t []))

pub from_put : (ts : List Ty) (t u : Ty) → Contains (put ts t) u → Contains ts u ⊎ (u ≡ t)
from_put ts t u = split (list_any (ty_eq t) ts) (λ b. Contains (cond b ts (ts ++ t ∷ [])) u → Contains ts u ⊎ (u ≡ t))
    (λ y c. inl c)
    (λ n c. elim (Contains-append_cases ts (t ∷ []) u c) [ inl i ↦ inl i | inr i ↦ inr (only_in t u i) ])

pub from_put_all : (ts us : List Ty) (t : Ty) → Contains (put_all ts us) t → Contains ts t ⊎ Contains us t
from_put_all ts [] t c = inl c
from_put_all ts (u ∷ us) t c =
    elim (from_put_all (put ts u) us t c) [
      | inl i ↦ elim (from_put ts u t i) [ inl j ↦ inl j | inr e ↦ inr (subst (λ (x : Ty). Contains (x ∷ us) t) e (first_in t us)) ]
      | inr i ↦ inr (in_rest u t us i)
    ]

pub to_put_all : (ts us : List Ty) (t : Ty) → Contains us t → Contains (put_all ts us) t
to_put_all ts [] t c = absurd (none_in t c)
to_put_all ts (u ∷ us) t c =
    elim (at_head u t us c) [
      | inl e ↦ in_longer (put ts u) (put_all (put ts u) us) t (begins-put_all (put ts u) us) (subst (λ (x : Ty). Contains (put ts u) x) (sym e) (has-put ts u))
      | inr i ↦ to_put_all (put ts u) us t i
    ]

-- ---- nothing stands twice

pub distinct_push : (ts : List Ty) (t : Ty) → (Contains ts t → ⊥) → AreDistinct ts → AreDistinct (ts ++ t ∷ [])
distinct_push [] t h d = (none_in t, tt)
distinct_push (u ∷ ts) t h d = (
  λ c. elim (Contains-append_cases ts (t ∷ []) u c) [ inl i ↦ d.0 i | inr i ↦ h (subst (λ (x : Ty). Contains (x ∷ ts) t) (sym (only_in t u i)) (first_in t ts)) ],
  distinct_push ts t (λ c. h (in_rest u t ts c)) d.1,
)

pub distinct-put : (ts : List Ty) (t : Ty) → AreDistinct ts → AreDistinct (put ts t)
distinct-put ts t d = split (list_any (ty_eq t) ts) (λ b. AreDistinct (cond b ts (ts ++ t ∷ []))) (λ y. d) (λ n. distinct_push ts t (isnt_there ts t n) d)

pub distinct-put_all : (ts us : List Ty) → AreDistinct ts → AreDistinct (put_all ts us)
distinct-put_all ts [] d = d
distinct-put_all ts (u ∷ us) d = distinct-put_all (put ts u) us (distinct-put ts u d)

pub length_begins : (ts us : List Ty) → IsBeginning ts us → length ts ≤ length us
length_begins ts us b = let e : length us ≡ length ts + length b.rest = ap length b.same ∙ length-append ts b.rest in omega arith

-- ---- two lists in turn, and the last of a type's list

pub put_two : (ts us vs : List Ty) → put_all ts (us ++ vs) ≡ put_all (put_all ts us) vs
put_two ts us vs = fold-append put ts us vs

-- the type goes behind its parts
pub whole_last : (ts : List Ty) (t : Ty) → put_all ts (parts_first t) ≡ put (put_all ts (parts_before t)) t
whole_last ts (fun ps r) = ap (put_all ts) (sym (append_assoc (all_parts_first ps) (parts_first r) (fun ps r ∷ []))) ∙ put_two ts (all_parts_first ps ++ parts_first r) (fun ps r ∷ [])
whole_last ts (obj fs) = put_two ts (field_parts_first fs) (obj fs ∷ [])
whole_last ts dyn = refl
whole_last ts int = refl
whole_last ts bool = refl
whole_last ts str = refl
whole_last ts nil = refl

-- ---- types that are there already

pub put_there : (ts : List Ty) (t : Ty) → Contains ts t → put ts t ≡ ts
put_there ts t c = by (list_any (ty_eq t) ts) refl
  where
    by : (b : Bool) → list_any (ty_eq t) ts ≡ b → put ts t ≡ ts
    by true e = ap (λ (z : Bool). cond z ts (ts ++ t ∷ [])) e
    by false e = absurd (isnt_there ts t e c)

pub all_there : (ts us : List Ty) → ((u : Ty) → Contains us u → Contains ts u) → put_all ts us ≡ ts
all_there ts [] h = refl
all_there ts (u ∷ us) h = ap (λ (l : List Ty). put_all l us) (put_there ts u (h u (first_in u us))) ∙ all_there ts us (λ v c. h v (in_rest u v us c))
