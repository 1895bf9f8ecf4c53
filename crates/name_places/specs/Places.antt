-- Where names first stand in a list.
use Rattle.std.specs.Prelude.{ℕ, ◌+◌, List, [], ◌∷◌, Option, Some, None, bytes_eq, if◌then◌else◌}

-- the first place of a name, where the list begins at this number
abbrev pub place_from : ℕ → List (List ℕ) → List ℕ → Option ℕ
place_from i [] x = None
place_from i (n ∷ ns) x = if bytes_eq n x then Some i else place_from (i + 1) ns x

abbrev pub place_in : List (List ℕ) → List ℕ → Option ℕ
place_in ns x = place_from 0 ns x

-- the first of these things that has the name x
abbrev pub first_named : {A : Type 0} → (A → List ℕ) → List A → List ℕ → Option A
first_named name [] x = None
first_named name (a ∷ as_) x = if bytes_eq (name a) x then Some a else first_named name as_ x
