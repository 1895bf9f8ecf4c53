-- What stands in a list beside its names is found by the first place of its name.
use Rattle.std.proofs.Common.{◌≡◌, ◌∙◌, ap, refl, ℕ, suc, ◌+◌, Bool, true, false, List, [], ◌∷◌, map, arith}
use Rattle.std.specs.Prelude.{Some, None, bytes_eq, slice_get, if◌then◌else◌}
use Rattle.mono_list.proofs.Cases.{none_some, some_is, some_none}
use Rattle.name_places.specs.Places.{place_from, place_in, first_named}

module _ {A : Type 0} (name : A → List ℕ) (x : List ℕ) where
  abbrev At : ℕ → List A → ℕ → Type 0
  At k as_ i = (j : ℕ) × (i ≡ k + j) × (slice_get as_ j ≡ first_named name as_ x)

  found_from : (k : ℕ) (as_ : List A) (i : ℕ) → place_from k (map name as_) x ≡ Some i → At k as_ i
  found_from k [] i e = none_some (At k [] i) e
  found_from k (a ∷ as_) i e = go (bytes_eq (name a) x) e (found_from (k + 1) as_ i)
    where
      go : (b : Bool) → (if b then Some k else place_from (k + 1) (map name as_) x) ≡ Some i → (place_from (k + 1) (map name as_) x ≡ Some i → At (k + 1) as_ i)
          → (j : ℕ) × (i ≡ k + j) × (slice_get (a ∷ as_) j ≡ (if b then Some a else first_named name as_ x))
      go true e h = let same : k ≡ i = some_is e in (0, omega arith, refl)
      go false e h = let (j, is, g) = h e in (suc j, omega (arith, is), g)

  none_from : (k : ℕ) (as_ : List A) → place_from k (map name as_) x ≡ None → first_named name as_ x ≡ None
  none_from k [] e = refl
  none_from k (a ∷ as_) e = go (bytes_eq (name a) x) e (none_from (k + 1) as_)
    where
      go : (b : Bool) → (if b then Some k else place_from (k + 1) (map name as_) x) ≡ None → (place_from (k + 1) (map name as_) x ≡ None → first_named name as_ x ≡ None)
          → (if b then Some a else first_named name as_ x) ≡ None
      go true e h = some_none (Some a ≡ None) e
      go false e h = h e

  -- at the first place of its name stands the first thing of that name
  pub found_at : (as_ : List A) (i : ℕ) → place_in (map name as_) x ≡ Some i → slice_get as_ i ≡ first_named name as_ x
  found_at as_ i e =
      let (j, is, g) = found_from 0 as_ i e in
      let same : i ≡ j = omega (arith, is) in
      ap (λ (n : ℕ). slice_get as_ n) same ∙ g

  -- and where it has none, there is none
  pub found_none : (as_ : List A) → place_in (map name as_) x ≡ None → first_named name as_ x ≡ None
  found_none as_ e = none_from 0 as_ e
