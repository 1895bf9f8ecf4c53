-- Every list of events of the word machine follows the calculus.
use Rattle.std.specs.Prelude.{◌≡◌, ℕ, zero, suc, Bool, true, false, List, [], ◌∷◌, ◌++◌, Option, Some, None, is_some, if◌then◌else◌}
use Rattle.std.specs.Prelude.{slice_get}
use Rattle.mono_syntax.specs.Ty.{Ty}
use Rattle.mono_syntax.specs.declared.cast.CastScript.{CastScript}
use Rattle.mono_tree.specs.TypedPrograms.{IsTypedProgram}
use Rattle.cast_machine.specs.Calls.{finished}
use Rattle.cast_machine.specs.Heap.{cell_at}
use Rattle.cast_machine.specs.HeapTyping.{HasType, Extends, IsWellTypedHeap, IsHeapOf}
use Rattle.cast_machine.specs.Step.{run_of, step_of}
use Rattle.cast_machine.specs.Typing.{IsWellTypedState, result_type, results_of}
use Rattle.cast_machine.specs.declared.data.Cell.{Cell}
use Rattle.cast_machine.specs.declared.data.Frame.{Frame}
use Rattle.cast_machine.specs.declared.data.Ready.{Ready}
use Rattle.cast_machine.specs.declared.data.Settings.{Settings}
use Rattle.cast_machine.specs.declared.data.Thread.{Thread}
use Rattle.cast_machine.specs.declared.data.Work.{Work}
use Rattle.word_machine.specs.Seats.{Micro, Filling, Seat, Next, NLocal, next_action}
use Rattle.word_machine.specs.Ticks.{Core, tick, tick_steps, stands, core_start}
use Rattle.word_machine.specs.Words.{result_at}
use Rattle.cast_machine.specs.declared.data.State.TheVariants as state
use Rattle.cast_machine.specs.declared.data.Work.TheVariants as work

-- a step that needs no action
abbrev pub is_local : Next → Bool
is_local (NLocal q) = true
is_local n = false

-- the thread that is there takes a local step next
abbrev pub local_seat : CastScript → Settings → ℕ → Option Seat → Bool
local_seat p s t None = false
local_seat p s t (Some q) = is_local (next_action p s t q)

-- the local steps of a thread up to its next action, at most n of them, and then that action
abbrev pub event : CastScript → Settings → ℕ → Core → ℕ → Core
event p s zero k t = tick p s k t
event p s (suc n) k t = if local_seat p s t (slice_get k.seats t) then event p s n (tick p s k t) t else tick p s k t

-- ---- the picks of the calculus

-- the step of the calculus that is this tick, or no step
abbrev pub Matches : CastScript → Settings → Core → ℕ → Bool → Core → Type 0
Matches p s k t true k' = step_of p (stands s k) t ≡ Some (stands s k')
Matches p s k t false k' = stands s k' ≡ stands s k

-- one pick, where the tick is the step and no end is recorded
abbrev pub tick_picks : CastScript → Settings → Core → ℕ → List ℕ
tick_picks p s k t = if is_some (k.words).end then [] else (if tick_steps p s k t then t ∷ [] else [])

-- the picks of the ticks of an event
abbrev pub event_picks : CastScript → Settings → ℕ → Core → ℕ → List ℕ
event_picks p s zero k t = tick_picks p s k t
event_picks p s (suc n) k t = if local_seat p s t (slice_get k.seats t) then tick_picks p s k t ++ event_picks p s n (tick p s k t) t
    else tick_picks p s k t

-- the thread fills the words of its new object
abbrev pub is_filling : Micro → Bool
is_filling (Filling b left) = true
is_filling m = false

-- the words follow the run of these picks
pub record Follows (p : CastScript) (s : Settings) (k : Core) (picks : List ℕ) : Type 0 where
  -- while no end is recorded, they stand for the configuration of the run
  pub same : (k.words).end ≡ None → run_of p s picks ≡ stands s k
  -- and always for its observation
  pub lines : (run_of p s picks).lines ≡ (k.words).lines
  pub end : (run_of p s picks).end ≡ (k.words).end
  -- which ticks are the step
  pub steps : (t : ℕ) → (k.words).end ≡ None → Matches p s k t (tick_steps p s k t) (tick p s k t)
  -- each result word is the value of its finished thread
  pub results : (u : ℕ) → result_at (k.words).results u ≡ finished (stands s k).threads u
  -- heap and threads are well typed, also behind the end
  pub heap : IsWellTypedHeap (stands s k).heap
  pub own : IsHeapOf p (stands s k).heap
  pub threads : (t : ℕ) (th : Thread) → slice_get (stands s k).threads t ≡ Some th
      → IsWellTypedState p (results_of (stands s k).threads) t (stands s k).heap (result_type th) th.state
  -- each filled field's value has its recorded type
  pub typed : (a : ℕ) (x : List ℕ) (d : Cell) → cell_at (k.words).heap a x ≡ Some d → HasType (k.words).heap d.value d.ty
  -- a value that an obligation on top has fitted has the type to which it was fitted
  pub ready : (t : ℕ) (q : Seat) (f : Frame) (below : List Frame) (c a : ℕ) (x : List ℕ) (to : Ty) (r : Ready) (rest : List Work) →
      slice_get k.seats t ≡ Some q → is_filling q.micro ≡ false → q.state ≡ state.Running f below
      → f.work ≡ work.Obligation c a x to (Some r) ∷ rest →
      HasType (k.words).heap r.value r.ty

-- each pick is one of thread t
abbrev pub OnlyOf : ℕ → List ℕ → Type 0
OnlyOf t [] = Unit {0}
OnlyOf t (u ∷ us) = (u ≡ t) × OnlyOf t us

-- one event more adds steps of its thread alone, and no recorded type gets less precise
abbrev pub Trace : CastScript → Settings → ℕ → List ℕ → Core → List ℕ → Type 0
Trace p s n [] k picks = Follows p s k picks
Trace p s n (t ∷ ts) k picks =
    Follows p s k picks
    × Extends (k.words).heap ((event p s n k t).words).heap
    × OnlyOf t (event_picks p s n k t)
    × Trace p s n ts (event p s n k t) (picks ++ event_picks p s n k t)

-- the picks of these ticks, in order
abbrev pub picks_of : CastScript → Settings → Core → List ℕ → List ℕ
picks_of p s k [] = []
picks_of p s k (t ∷ ts) = tick_picks p s k t ++ picks_of p s (tick p s k t) ts

-- every list of events, by the threads that have them, each of at most n local steps and one action
abbrev pub WordsFollow : Type 0
WordsFollow = (p : CastScript) → IsTypedProgram p → (s : Settings) (n : ℕ) (events : List ℕ) → Trace p s n events (core_start p) []
