-- Computed: a map from names to the places where they first stand in a list.
use Rattle.std.specs.Prelude.{◌≡◌, ℕ, List, Option, Some, None, bytes_eq, if◌then◌else◌}
use Rattle.std.specs.Option.{option_or}
use Rattle.std.specs.BTreeMap.{BTreeMap, get_by}
use Rattle.std.specs.Cmp.Lexicographic.{slice_cmp}
use Rattle.std.specs.Ordering.{nat_cmp}
use Rattle.std.specs.declared.vec.Vec.{Vec}
use Rattle.name_places.specs.Places.{place_in}

-- the place that the map has for a name
abbrev pub first_in : {Y : Type 0} → BTreeMap (Vec ℕ Y) ℕ → List ℕ → Option ℕ
first_in m x = get_by (λ k. slice_cmp nat_cmp x k.items) m

-- the map has the first place of each name, and no other name
abbrev pub AreFirsts : {Y : Type 0} → BTreeMap (Vec ℕ Y) ℕ → List (List ℕ) → Type 0
AreFirsts m ns = (x : List ℕ) → first_in m x ≡ place_in ns x

-- r is m with one more name, which has this place where it is new
abbrev pub IsNoted : {Y : Type 0} → BTreeMap (Vec ℕ Y) ℕ → List ℕ → ℕ → BTreeMap (Vec ℕ Y) ℕ → Type 0
IsNoted m n at r = (x : List ℕ) → first_in r x ≡ option_or (first_in m x) (if bytes_eq n x then Some at else None)
