-- What stands at a place of a list, where the list gets more; and lists side by side.
use Rattle.std.proofs.Common.{◌≡◌, ℕ, zero, suc, List, [], ◌∷◌, ◌++◌, length, refl, ap, ◌⊎◌, inl, inr}
use Rattle.std.specs.Prelude.{Some, slice_get}
use Rattle.node_code.specs.Places.{At, Keeps, Each}

pub get_more : {A : Type 0} (xs : List A) (y : A) (n : ℕ) (x : A) → At xs n x → At (xs ++ y ∷ []) n x
get_more [] y n x e = absurd cc
get_more (z ∷ xs) y zero x e = e
get_more (z ∷ xs) y (suc n) x e = get_more xs y n x e

pub get_new : {A : Type 0} (xs : List A) (y : A) → At (xs ++ y ∷ []) (length xs) y
get_new [] y = refl
get_new (z ∷ xs) y = get_new xs y

pub keeps_more : {A : Type 0} (xs : List A) (y : A) → Keeps xs (xs ++ y ∷ [])
keeps_more xs y n x e = get_more xs y n x e

pub keeps_all : {A : Type 0} (xs : List A) → Keeps xs xs
keeps_all xs n x e = e

pub keeps_on : {A : Type 0} (xs ys zs : List A) → Keeps xs ys → Keeps ys zs → Keeps xs zs
keeps_on xs ys zs f g n x e = g n x (f n x e)

-- one more pair
pub each_more : {A B : Type 0} (R : A → B → Type 0) (xs : List A) (ys : List B) (x : A) (y : B) → Each R xs ys → R x y
    → Each R (xs ++ x ∷ []) (ys ++ y ∷ [])
each_more R [] [] x y h r = (r, tt)
each_more R [] (b ∷ ys) x y h r = absurd h
each_more R (a ∷ xs) [] x y h r = absurd h
each_more R (a ∷ xs) (b ∷ ys) x y h r = (h.0, each_more R xs ys x y h.1 r)

-- another relation
pub each_so : {A B : Type 0} (R S : A → B → Type 0) → ((x : A) (y : B) → R x y → S x y) → (xs : List A) (ys : List B) → Each R xs ys
    → Each S xs ys
each_so R S f [] [] h = tt
each_so R S f [] (b ∷ ys) h = absurd h
each_so R S f (a ∷ xs) [] h = absurd h
each_so R S f (a ∷ xs) (b ∷ ys) h = (f a b h.0, each_so R S f xs ys h.1)

-- as long as each other
pub each_length : {A B : Type 0} (R : A → B → Type 0) (xs : List A) (ys : List B) → Each R xs ys → length xs ≡ length ys
each_length R [] [] h = refl
each_length R [] (b ∷ ys) h = absurd h
each_length R (a ∷ xs) [] h = absurd h
each_length R (a ∷ xs) (b ∷ ys) h = ap suc (each_length R xs ys h.1)
