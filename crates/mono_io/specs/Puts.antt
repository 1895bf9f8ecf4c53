-- What putting a text does, in one piece or in several.
use Rattle.std.specs.Prelude.{◌≡◌, ℕ, ◌≤◌, List, Option, Result, Ok, Err}
use Rattle.mono_io.specs.declared.sink.SinkFault.{SinkFault}
use Rattle.mono_io.specs.declared.sink.SinkFault.TheVariants.{Failed, Memory}
use Rattle.mono_io.specs.Faults.{Rose, appended, PutsPart}

-- the whole text was put, or a prefix of it and an error came; the numbers are the counts of faults before and after
abbrev pub Puts : Result (Unit {0}) SinkFault → Option (List ℕ) → Option (List ℕ) → ℕ → ℕ → List ℕ → Type 0
Puts (Ok _) old new before after text = (new ≡ appended old text) × (before ≤ after)
Puts (Err Failed) old new before after text = PutsPart old new text × (before ≤ after) × Rose before after
Puts (Err Memory) old new before after text = PutsPart old new text × (before ≤ after)
