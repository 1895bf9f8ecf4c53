-- What texts of the parser's rows stand for.
use Rattle.std.specs.Prelude.{◌≡◌, ◌≢◌, ◌≤◌, ◌^◌, ℕ, List, [], Option, Some, None, codes, decimal}
use Rattle.clap.specs.Walk.{Row, first_of}
use Rattle.cast_machine.specs.declared.data.Settings.{Settings}

-- the number that the text is, in its range, or else the default
abbrev pub IsNumberText : Option (List ℕ) → ℕ → ℕ → ℕ → ℕ → Type 0
IsNumberText None least most default n = n ≡ default
IsNumberText (Some text) least most default n = (least ≤ n) × (n ≤ most) × (text ≡ decimal n)

-- the limits of a run
pub record AreSettingsIn (rows : List Row) (s : Settings) : Type 0 where
  pub fuel : IsNumberText (first_of (codes "fuel") rows) 1 (2 ^ 40) 10000000 s.fuel
  pub heap : IsNumberText (first_of (codes "heap") rows) 1 4194304 262144 s.heap
  pub print : IsNumberText (first_of (codes "print") rows) 1 1048576 65536 s.print

abbrev pub IsSeedIn : List Row → ℕ → Type 0
IsSeedIn rows n = IsNumberText (first_of (codes "seed") rows) 0 18446744073709551615 0 n

-- a file
abbrev pub IsFileIn : List Row → List ℕ → Type 0
IsFileIn rows file = (file ≢ []) × (first_of (codes "last") rows ≡ Some file)

-- a number of tasks
abbrev pub AreTasksIn : List Row → ℕ → Type 0
AreTasksIn rows n = (1 ≤ n) × (n ≤ 200) × (first_of (codes "last") rows ≡ Some (decimal n))
