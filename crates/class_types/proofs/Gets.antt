-- Reads and writes of a list at one place.
use Rattle.std.proofs.Common.{◌≡◌, ap, refl, ℕ, zero, suc, ◌<◌, List, [], ◌∷◌, length, map, arith}
use Rattle.std.specs.Prelude.{Option, Some, None, slice_get, slice_set}

pub some_is : {A : Type 0} {x y : A} → Some x ≡ Some y → x ≡ y
some_is e = cc

pub none_some : {A : Type 0} {x : A} {B : Type 0} → None ≡ Some x → B
none_some e = absurd cc

-- a goal by the two cases of an option
pub by_option : {A B : Type 0} (o : Option A) → (o ≡ None → B) → ((x : A) → o ≡ Some x → B) → B
by_option None none some = none refl
by_option (Some x) none some = some x refl

pub set-same : {A : Type 0} (xs : List A) (i : ℕ) (x y : A) → slice_get xs i ≡ Some y → slice_get (slice_set xs i x) i ≡ Some x
set-same [] i x y e = none_some e
set-same (z ∷ xs) zero x y e = refl
set-same (z ∷ xs) (suc i) x y e = set-same xs i x y e

pub set-other : {A : Type 0} (xs : List A) (i k : ℕ) (x : A) → (k ≡ i → ⊥) → slice_get (slice_set xs i x) k ≡ slice_get xs k
set-other [] i k x n = refl
set-other (z ∷ xs) zero zero x n = absurd (n refl)
set-other (z ∷ xs) zero (suc k) x n = refl
set-other (z ∷ xs) (suc i) zero x n = refl
set-other (z ∷ xs) (suc i) (suc k) x n = set-other xs i k x (λ e. n (ap suc e))

pub get-within : {A : Type 0} (xs : List A) (i : ℕ) (x : A) → slice_get xs i ≡ Some x → i < length xs
get-within [] i x e = none_some e
get-within (y ∷ xs) zero x e = omega arith
get-within (y ∷ xs) (suc i) x e = omega (arith, get-within xs i x e)

-- a list is a map of another, where it is so at each place
pub map-at : {A B : Type 0} (f : A → B) (xs : List A) (ys : List B) → length ys ≡ length xs
    → ((i : ℕ) (x : A) (y : B) → slice_get xs i ≡ Some x → slice_get ys i ≡ Some y → f x ≡ y) → ys ≡ map f xs
map-at f [] [] e h = refl
map-at f [] (y ∷ ys) e h = absurd (omega arith)
map-at f (x ∷ xs) [] e h = absurd (omega arith)
map-at f (x ∷ xs) (y ∷ ys) e h =
    let head : f x ≡ y = h 0 x y refl refl in
    let tail : ys ≡ map f xs = map-at f xs ys (omega arith) (λ i. h (suc i)) in
    cc
