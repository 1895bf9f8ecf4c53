-- What stands in lists.
use Rattle.std.proofs.Common.{◌≡◌, ◌⊎◌, inl, inr, zero, suc, List, [], ◌∷◌, map, refl, subst, arith}
use Rattle.std.specs.Prelude.{Contains}

pub head_stands : {A : Type 0} (x : A) (xs : List A) → Contains (x ∷ xs) x
head_stands x xs = (0, omega arith, refl)

pub tail_stands : {A : Type 0} (y : A) (xs : List A) (x : A) → Contains xs x → Contains (y ∷ xs) x
tail_stands y xs x c = (suc c.0, omega (arith, c.1), c.2)

pub nothing : {A : Type 0} (x : A) (B : Type 0) → Contains [] x → B
nothing x B c = absurd (omega (arith, c.1))

-- the first, or one of the others
pub first_or : {A : Type 0} (y : A) (xs : List A) (x : A) → Contains (y ∷ xs) x → (y ≡ x) ⊎ Contains xs x
first_or y xs x (zero, b, e) = inl e
first_or y xs x (suc i, b, e) = inr (i, omega (arith, b), e)

pub only : {A : Type 0} (y x : A) → Contains (y ∷ []) x → y ≡ x
only y x c = elim (first_or y [] x c) [ inl e ↦ e | inr d ↦ nothing x (y ≡ x) d ]

-- a member's image is a member of the images
pub map_stands : {A B : Type 0} (f : A → B) (xs : List A) (x : A) → Contains xs x → Contains (map f xs) (f x)
map_stands f [] x c = nothing x (Contains [] (f x)) c
map_stands f (y ∷ xs) x c =
    elim (first_or y xs x c) [
      | inl e ↦ subst (λ z. Contains (f y ∷ map f xs) (f z)) e (head_stands (f y) (map f xs))
      | inr d ↦ tail_stands (f y) (map f xs) (f x) (map_stands f xs x d)
    ]

-- ---- equal lists

pub cons_head : {A : Type 0} {x y : A} {xs ys : List A} → x ∷ xs ≡ y ∷ ys → x ≡ y
cons_head e = cc

pub cons_tail : {A : Type 0} {x y : A} {xs ys : List A} → x ∷ xs ≡ y ∷ ys → xs ≡ ys
cons_tail e = cc
