-- A running thread has not used up its fuel.
use Rattle.std.specs.Prelude.{◌≡◌, ℕ, List, [], ◌∷◌}
use Rattle.cast_machine.specs.declared.data.Outcome.{Outcome}
use Rattle.cast_machine.specs.declared.data.Outcome.TheVariants as outcome
use Rattle.cast_machine.specs.declared.data.Thread.{Thread}
use Rattle.cast_machine.specs.declared.data.Change.{Change}
use Rattle.cast_machine.specs.declared.data.Change.TheVariants as change
use Rattle.cast_machine.specs.RunLimits.{IsFueledIn}

abbrev pub IsFueled : ℕ → Thread → Type 0
IsFueled fuel th = IsFueledIn fuel th.steps th.state

abbrev pub AreFueled : ℕ → List Thread → Type 0
AreFueled fuel [] = Unit {0}
AreFueled fuel (th ∷ ths) = IsFueled fuel th × AreFueled fuel ths

-- a thread that a step begins has fuel
abbrev pub IsBegun : ℕ → Change → Type 0
IsBegun fuel (change.Begins th) = IsFueled fuel th
IsBegun fuel d = Unit {0}

-- a thread that a row begins has taken no step
abbrev pub IsFresh : Outcome → Type 0
IsFresh (outcome.Moves (change.Begins th) s) = th.steps ≡ 0
IsFresh o = Unit {0}
