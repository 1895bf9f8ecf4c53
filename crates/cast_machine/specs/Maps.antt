-- Finite maps from names, as lists of pairs.
use Rattle.std.specs.Prelude.{ℕ, List, [], ◌∷◌, Option, Some, None, bytes_eq, if◌then◌else◌}
use Rattle.std.specs.List.{position_from}

-- the value of a name
abbrev pub lookup : {A : Type 0} → List (List ℕ × A) → List ℕ → Option A
lookup [] x = None
lookup (p ∷ l) x = if bytes_eq p.0 x then Some p.1 else lookup l x

-- the same map with another value where the name stands
abbrev pub update : {A : Type 0} → List (List ℕ × A) → List ℕ → A → List (List ℕ × A)
update [] x a = []
update (p ∷ l) x a = if bytes_eq p.0 x then (p.0, a) ∷ l else p ∷ update l x a

-- the names in order
abbrev pub keys : {A : Type 0} → List (List ℕ × A) → List (List ℕ)
keys [] = []
keys (p ∷ l) = p.0 ∷ keys l

-- where a name stands
abbrev pub place_of : {A : Type 0} → List (List ℕ × A) → List ℕ → Option ℕ
place_of l x = position_from (λ p. bytes_eq p.0 x) 0 l
