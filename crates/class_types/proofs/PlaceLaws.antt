-- Types and their positions in a list that grows.
use Rattle.std.proofs.Common.{◌≡◌, ◌∙◌, sym, ap, subst, refl, ℕ, zero, suc, ◌+◌, ◌<◌, List, [], ◌∷◌, ◌++◌, length, take, get_or, arith, append_assoc, inl, inr}
use Rattle.std.specs.Prelude.{Option, Some, None, ◌⊎◌, Contains, slice_get}
use Rattle.std.proofs.lemmas.List.{take_more}
use Rattle.std.proofs.lemmas.List.Elements.{Contains-push_cases}
use Rattle.mono_syntax.specs.declared.leaf.TyAt.{TyAt}
use Rattle.mono_syntax.specs.Ty.{Ty, dyn, int, bool, str, nil}
use Rattle.mono_tree.specs.ClosedList.{AreDistinct, base_types}
use Rattle.class_types.specs.Known.{Begins}
use Rattle.class_types.specs.Placed.{StandAt}
use Rattle.class_types.proofs.Gets.{some_is, none_some, get-within}

pub contains-get : {A : Type 0} (xs : List A) (x : A) → Contains xs x → (k : ℕ) × (slice_get xs k ≡ Some x)
contains-get [] x (k, small, is) = absurd (omega arith)
contains-get (y ∷ xs) x (zero, small, is) = (0, ap Some is)
contains-get (y ∷ xs) x (suc k, small, is) = let there = contains-get xs x (k, omega arith, is) in (suc there.0, there.1)

pub get-contains : {A : Type 0} (xs : List A) (k : ℕ) (x : A) → slice_get xs k ≡ Some x → Contains xs x
get-contains [] k x e = none_some e
get-contains (y ∷ xs) zero x e = (0, omega arith, some_is e)
get-contains (y ∷ xs) (suc k) x e = let there = get-contains xs k x e in (suc there.0, let h : there.0 < length xs = there.1 in omega arith, there.2)

pub get-append : {A : Type 0} (xs ys : List A) (k : ℕ) (x : A) → slice_get xs k ≡ Some x → slice_get (xs ++ ys) k ≡ Some x
get-append [] ys k x e = none_some e
get-append (y ∷ xs) ys zero x e = e
get-append (y ∷ xs) ys (suc k) x e = get-append xs ys k x e

pub get-last : {A : Type 0} (xs : List A) (x : A) (k : ℕ) → k ≡ length xs → slice_get (xs ++ x ∷ []) k ≡ Some x
get-last [] x zero e = refl
get-last [] x (suc k) e = absurd (omega arith)
get-last (y ∷ xs) x zero e = absurd (omega arith)
get-last (y ∷ xs) x (suc k) e = get-last xs x k (omega arith)

pub begins-refl : {A : Type 0} (xs : List A) → Begins xs xs
begins-refl xs = ([], go xs)
  where
    go : {A : Type 0} (l : List A) → l ≡ l ++ []
    go [] = refl
    go (x ∷ l) = ap (λ r. x ∷ r) (go l)

pub begins-push : {A : Type 0} (xs ys : List A) (x : A) → ys ≡ xs ++ x ∷ [] → Begins xs ys
begins-push xs ys x e = (x ∷ [], e)

pub begins-trans : {A : Type 0} (xs ys zs : List A) → Begins xs ys → Begins ys zs → Begins xs zs
begins-trans xs ys zs p q = (p.0 ++ q.0, q.1 ∙ (ap (λ l. l ++ q.0) p.1 ∙ append_assoc xs p.0 q.0))

pub begins-get : {A : Type 0} (xs ys : List A) (k : ℕ) (x : A) → Begins xs ys → slice_get xs k ≡ Some x → slice_get ys k ≡ Some x
begins-get xs ys k x p e = ap (λ l. slice_get l k) p.1 ∙ get-append xs p.0 k x e

-- a type that isn't among the others may stand behind them
pub distinct-push : (ts : List Ty) (t : Ty) → AreDistinct ts → (Contains ts t → ⊥) → AreDistinct (ts ++ t ∷ [])
distinct-push [] t d n = (λ c. absurd (let h = contains-get [] t c in none_some h.1), tt)
distinct-push (u ∷ ts) t d n = (
  λ c. elim (Contains-push_cases ts t u c) [ inl old ↦ d.0 old | inr same ↦ n (0, omega arith, sym same) ],
  distinct-push ts t d.1 (λ c. n (let k = contains-get ts t c in get-contains (u ∷ ts) (suc k.0) t k.1)),
)

pub no-contains : (ts : List Ty) (t : Ty) → ((k : ℕ) → k < length ts → slice_get ts k ≡ Some t → ⊥) → Contains ts t → ⊥
no-contains ts t h c = let k = contains-get ts t c in h k.0 (get-within ts k.0 t k.1) k.1

no_dyn : (k : ℕ) → slice_get (int ∷ bool ∷ str ∷ nil ∷ []) k ≡ Some dyn → ⊥
no_dyn zero e = absurd cc
no_dyn (suc zero) e = absurd cc
no_dyn (suc (suc zero)) e = absurd cc
no_dyn (suc (suc (suc zero))) e = absurd cc
no_dyn (suc (suc (suc (suc k)))) e = none_some e

no_int : (k : ℕ) → slice_get (bool ∷ str ∷ nil ∷ []) k ≡ Some int → ⊥
no_int zero e = absurd cc
no_int (suc zero) e = absurd cc
no_int (suc (suc zero)) e = absurd cc
no_int (suc (suc (suc k))) e = none_some e

no_bool : (k : ℕ) → slice_get (str ∷ nil ∷ []) k ≡ Some bool → ⊥
no_bool zero e = absurd cc
no_bool (suc zero) e = absurd cc
no_bool (suc (suc k)) e = none_some e

no_str : (k : ℕ) → slice_get (nil ∷ []) k ≡ Some str → ⊥
no_str zero e = absurd cc
no_str (suc k) e = none_some e

pub bases-distinct : AreDistinct base_types
bases-distinct = (
  (λ c. let k = contains-get (int ∷ bool ∷ str ∷ nil ∷ []) dyn c in no_dyn k.0 k.1),
  (
    (λ c. let k = contains-get (bool ∷ str ∷ nil ∷ []) int c in no_int k.0 k.1),
    (
      (λ c. let k = contains-get (str ∷ nil ∷ []) bool c in no_bool k.0 k.1),
      (
        (λ c. let k = contains-get (nil ∷ []) str c in no_str k.0 k.1),
        ((λ c. let k = contains-get [] nil c in none_some k.1), tt),
      ),
    ),
  ),
)

pub stand-more : (types more : List Ty) (own : List (Option Ty)) (at : List TyAt) → Begins types more → StandAt types own at → StandAt more own at
stand-more types more [] [] b h = tt
stand-more types more [] (a ∷ at) b h = absurd h
stand-more types more (None ∷ own) [] b h = absurd h
stand-more types more (None ∷ own) (a ∷ at) b h = absurd h
stand-more types more (Some t ∷ own) [] b h = absurd h
stand-more types more (Some t ∷ own) (a ∷ at) b h = (begins-get types more a.0 t b h.0, stand-more types more own at b h.1)

stand-push : (types : List Ty) (own : List (Option Ty)) (at : List TyAt) (t : Ty) (a : TyAt) → StandAt types own at → slice_get types a.0 ≡ Some t
    → StandAt types (own ++ Some t ∷ []) (at ++ a ∷ [])
stand-push types [] [] t a h e = (e, tt)
stand-push types [] (b ∷ at) t a h e = absurd h
stand-push types (None ∷ own) [] t a h e = absurd h
stand-push types (None ∷ own) (b ∷ at) t a h e = absurd h
stand-push types (Some u ∷ own) [] t a h e = absurd h
stand-push types (Some u ∷ own) (b ∷ at) t a h e = (h.0, stand-push types own at t a h.1 e)

-- one more class has its type placed
pub stand-next : (types more : List Ty) (own : List (Option Ty)) (i : ℕ) (x : Option Ty) (t : Ty) (at next : List TyAt) (a : TyAt)
    → i < length own → x ≡ get_or own i x → x ≡ Some t → StandAt types (take i own) at → Begins types more → slice_get more a.0 ≡ Some t
    → next ≡ at ++ a ∷ [] → StandAt more (take (i + 1) own) next
stand-next types more own i x t at next a small is some h b e n =
    let longer : take (i + 1) own ≡ take i own ++ Some t ∷ [] = take_more own i x small ∙ ap (λ y. take i own ++ y ∷ []) (sym is ∙ some) in
    subst (StandAt more (take (i + 1) own)) (sym n) (subst (λ l. StandAt more l (at ++ a ∷ [])) (sym longer) (stand-push more (take i own) at t a (stand-more types more (take i own) at b h) e))

pub ruleset place_steps = (begins-refl, begins-push, get-last, distinct-push, no-contains)

-- where a type stands in the list or at its end, the old list is the beginning of the new one
pub placed-begins : (ts : List Ty) (t : Ty) (us : List Ty) → (us ≡ ts) ⊎ ((Contains ts t → ⊥) × (us ≡ ts ++ t ∷ [])) → Begins ts us
placed-begins ts t us (inl e) = subst (λ (l : List Ty). Begins ts l) (sym e) (begins-refl ts)
placed-begins ts t us (inr e) = begins-push ts us t e.1
