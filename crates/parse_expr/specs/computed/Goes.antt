-- computed: the runs of a machine whose step is a function.
use Rattle.std.specs.Prelude.{◌≡◌, List, [], ◌∷◌, Option, Some}

-- the machine goes from a state to another over these tokens
pub data Goes {S T : Type 0} (step : S → T → Option S) : S → List T → S → Type 0 where
  stay : (s : S) → Goes step s [] s
  go : (s m n : S) (t : T) (ts : List T) → step s t ≡ Some m → Goes step m ts n → Goes step s (t ∷ ts) n
