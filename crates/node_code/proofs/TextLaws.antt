-- The first place of a text, and a list of texts that gets one more.
use Rattle.std.proofs.Common.{◌≡◌, ◌∙◌, sym, ap, subst, refl, ℕ, zero, suc, ◌+◌, ◌<◌, Bool, true, false, List, [], ◌∷◌, ◌++◌, length, arith}
use Rattle.std.proofs.Common.{◌⊎◌, inl, inr}
use Rattle.std.specs.Prelude.{Result, Ok, Err, IfOk, Option, Some, None, bytes_eq, slice_get, if◌then◌else◌, Contains}
use Rattle.std.proofs.lemmas.List.Elements.{Contains-append_cases}
use Rattle.mono_list.proofs.Cases.{split, none_some, some_none, some_is}
use Rattle.std.proofs.lemmas.Slice.Eq.{bytes_eq-Decides}
use Rattle.name_places.specs.Places.{place_from, place_in}
use Rattle.node_code.specs.Places.{At, AreOnce}
use Rattle.node_code.specs.Texts.{IsText}
use Rattle.node_code.specs.declared.texts.TextAt.{TextAt}
use Rattle.node_code.proofs.PlaceLaws.{get_new}

-- ---- the first place

found_from : (x : List ℕ) (k s : ℕ) (xs : List (List ℕ)) → place_from k xs x ≡ Some s → (j : ℕ) × (s ≡ k + j) × At xs j x
found_from x k s [] e = absurd cc
found_from x k s (y ∷ xs) e = go (bytes_eq y x) refl e (found_from x (k + 1) s xs)
  where
    go : (b : Bool) → bytes_eq y x ≡ b → (if b then Some k else place_from (k + 1) xs x) ≡ Some s
        → (place_from (k + 1) xs x ≡ Some s → (j : ℕ) × (s ≡ (k + 1) + j) × At xs j x) → (j : ℕ) × (s ≡ k + j) × At (y ∷ xs) j x
    go true t i h = let same : k ≡ s = some_is i in (0, omega arith, ap (λ (z : List ℕ). Some z) ((bytes_eq-Decides y x).0 t))
    go false t i h = let (j, is, g) = h i in (suc j, omega (arith, is), g)

-- at its first place stands the name
pub found : (xs : List (List ℕ)) (x : List ℕ) (s : ℕ) → place_in xs x ≡ Some s → At xs s x
found xs x s e = let (j, is, g) = found_from x 0 s xs e in let same : j ≡ s = omega (arith, is) in subst (λ (n : ℕ). At xs n x) same g

missing_from : (x : List ℕ) (k : ℕ) (xs : List (List ℕ)) → place_from k xs x ≡ None → (j : ℕ) → At xs j x → ⊥
missing_from x k [] e j a = cc
missing_from x k (y ∷ xs) e j a = go (bytes_eq y x) refl e j a (missing_from x (k + 1) xs)
  where
    go : (b : Bool) → bytes_eq y x ≡ b → (if b then Some k else place_from (k + 1) xs x) ≡ None → (j : ℕ) → At (y ∷ xs) j x
        → (place_from (k + 1) xs x ≡ None → (j : ℕ) → At xs j x → ⊥) → ⊥
    go true t i j a h = cc
    go false t i zero a h =
        let same : y ≡ x = some_is a in
        let yes : bytes_eq y x ≡ true = (bytes_eq-Decides y x).1 same in cc
    go false t i (suc j) a h = h i j a

-- a name that has no place stands nowhere
pub missing : (xs : List (List ℕ)) (x : List ℕ) → place_in xs x ≡ None → (j : ℕ) → At xs j x → ⊥
missing xs x e j a = missing_from x 0 xs e j a

-- ---- one more text

none_in : (x : List ℕ) → Contains [] x → ⊥
none_in x (k, l, e) = omega arith

only_in : (x y : List ℕ) → Contains (x ∷ []) y → x ≡ y
only_in x y (zero, l, e) = e
only_in x y (suc k, l, e) = absurd (omega arith)

in_rest : (y x : List ℕ) (xs : List (List ℕ)) → Contains xs x → Contains (y ∷ xs) x
in_rest y x xs (k, l, e) = (suc k, omega arith, e)

pub once_more : (xs : List (List ℕ)) (x : List ℕ) → (Contains xs x → ⊥) → AreOnce xs → AreOnce (xs ++ x ∷ [])
once_more [] x h d = (none_in x, tt)
once_more (y ∷ xs) x h d = (
  λ c. elim (Contains-append_cases xs (x ∷ []) y c) [ inl i ↦ d.0 i | inr i ↦ h (0, omega arith, sym (only_in x y i)) ],
  once_more xs x (λ c. h (in_rest y x xs c)) d.1,
)

at_of : (xs : List (List ℕ)) (x : List ℕ) → Contains xs x → (j : ℕ) × At xs j x
at_of [] x c = absurd (none_in x c)
at_of (y ∷ xs) x (zero, l, e) = (0, ap (λ (z : List ℕ). Some z) e)
at_of (y ∷ xs) x (suc k, l, e) = let (j, a) = at_of xs x (k, omega arith, e) in (suc j, a)

pub text_old : (ts : List (List ℕ)) (x : List ℕ) (i : ℕ) → place_in ts x ≡ Some i → IsText ts x (record { at = i; texts = ts })
text_old ts x i e = record { at = found ts x i e; texts = inl refl }

-- a text that has no place isn't there
pub absent : (ts : List (List ℕ)) (x : List ℕ) → place_in ts x ≡ None → Contains ts x → ⊥
absent ts x e c = let (j, a) = at_of ts x c in missing ts x e j a

pub text_new : (ts : List (List ℕ)) (x : List ℕ) → place_in ts x ≡ None → IsText ts x (record { at = length ts; texts = ts ++ x ∷ [] })
text_new ts x e =
    record { at = get_new ts x; texts = inr (absent ts x e, refl) }

pub looked_none : (o : Option ℕ) → ((k : ℕ) → o ≡ Some k → ⊥) → o ≡ None
looked_none None h = refl
looked_none (Some k) h = absurd (h k refl)

-- what is asked of a number holds of an answer with that number
pub all_ok : {E : Type 0} (P : ℕ → Type 0) (k : ℕ) (r : Result ℕ E) → IfOk r (λ n. n ≡ k) → P k → IfOk r P
all_ok P k (Ok n) e p = subst P (sym e) p
all_ok P k (Err f) e p = tt
