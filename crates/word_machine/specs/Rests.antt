-- A thread that runs or fails always has a local step or an action.
use Rattle.std.specs.Prelude.{◌≡◌, ℕ, List, Some, slice_get}
use Rattle.mono_syntax.specs.declared.cast.CastScript.{CastScript}
use Rattle.mono_tree.specs.TypedPrograms.{IsTypedProgram}
use Rattle.cast_machine.specs.RunLimits.{HasSmallBlocks}
use Rattle.cast_machine.specs.declared.data.Settings.{Settings}
use Rattle.cast_machine.specs.declared.data.State.{State}
use Rattle.word_machine.specs.Hosts.{Runs, Event, after_events, hosts_start}
use Rattle.word_machine.specs.Seats.{Seat, NRest, next_action}
use Rattle.word_machine.specs.Ticks.{Core, core_start, after_ticks}
use Rattle.cast_machine.specs.declared.data.State.TheVariants as state

-- a thread may rest once it is finished or stopped
abbrev pub MayRest : State → Type 0
MayRest (state.Running f below) = ⊥
MayRest (state.Failing e) = ⊥
MayRest (state.Finished v) = Unit {0}
MayRest state.Stopped = Unit {0}

-- each thread that rests may do so
abbrev pub RestsRight : CastScript → Settings → Core → Type 0
RestsRight p s k = (t : ℕ) (q : Seat) → slice_get k.seats t ≡ Some q → next_action p s t q ≡ NRest → MayRest q.state

-- of the word machine by trees, and of the hosts
abbrev pub NeverRests : Type 0
NeverRests =
    (p : CastScript) → IsTypedProgram p → HasSmallBlocks p → (s : Settings) →
    ((ticks : List ℕ) → RestsRight p s (after_ticks p s (core_start p) ticks))
    × ((events : List Event) (h t : ℕ) (q : Seat) → (after_events p s hosts_start events).hosts h ≡ Runs t q → next_action p s t q ≡ NRest
    → MayRest q.state)
