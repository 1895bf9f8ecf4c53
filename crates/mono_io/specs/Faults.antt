-- Counts of faults, and what is told of bytes.
use Rattle.std.specs.Prelude.{◌≡◌, ℕ, ◌+◌, ◌≤◌, ◌<◌, ◌^◌, ◌-◌, min, List, ◌++◌, length, take, Option, Some, None}

-- a count of 64 bits after one more; at its last value it stands still
abbrev pub next_count : ℕ → ℕ
next_count n = min (n + 1) (2 ^ 64 - 1)

-- a count rose, or it stands at its last value
abbrev pub Rose : ℕ → ℕ → Type 0
Rose old new = next_count old ≤ new

-- these are the told bytes, where they are told
abbrev pub IsTold : Option (List ℕ) → List ℕ → Type 0
IsTold None bytes = Unit {0}
IsTold (Some told) bytes = bytes ≡ told

-- the told bytes are more than the limit, where they are told
abbrev pub IsTooLong : Option (List ℕ) → ℕ → Type 0
IsTooLong None limit = Unit {0}
IsTooLong (Some told) limit = limit < length told

-- what is told after a piece was put; where nothing is told, nothing is told then
abbrev pub appended : Option (List ℕ) → List ℕ → Option (List ℕ)
appended None piece = None
appended (Some told) piece = Some (told ++ piece)

-- a prefix of the piece was put
abbrev pub PutsPart : Option (List ℕ) → Option (List ℕ) → List ℕ → Type 0
PutsPart old new piece = (n : ℕ) × (n ≤ length piece) × (new ≡ appended old (take n piece))
