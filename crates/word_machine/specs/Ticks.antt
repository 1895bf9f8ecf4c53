-- The word machine by trees: a tick of one thread, the configuration for which the words stand, and which ticks are its steps.
use Rattle.std.specs.Prelude.{ℕ, Bool, true, false, List, [], ◌∷◌, ◌++◌, length, Option, Some, None, is_some, nat_eq, nat_le, if◌then◌else◌}
use Rattle.std.specs.Prelude.{slice_get, slice_set, zero, suc}
use Rattle.mono_syntax.specs.Limits.{most_threads}
use Rattle.mono_syntax.specs.declared.cast.CastScript.{CastScript}
use Rattle.mono_syntax.specs.declared.value.Val.{Val}
use Rattle.cast_machine.specs.Heap.{Heap}
use Rattle.cast_machine.specs.Step.{Configuration, main_frame}
use Rattle.cast_machine.specs.declared.data.Cell.{Cell}
use Rattle.cast_machine.specs.declared.data.Frame.{Frame}
use Rattle.cast_machine.specs.declared.data.Settings.{Settings}
use Rattle.cast_machine.specs.declared.data.State.{State}
use Rattle.cast_machine.specs.declared.data.Thread.{Thread}
use Rattle.cast_machine.specs.declared.data.Verdict.{Verdict}
use Rattle.cast_machine.specs.declared.data.Work.{Work}
use Rattle.word_machine.specs.Seats.{NWants, deep, Seat, NLocal, resume, Next, Micro, NBegins, next_action, NRest, Filling, Quick}
use Rattle.word_machine.specs.Tops.{Top, TCell, TBlind, TNew, TPrint, TLook, TLeave, TJoin, TBegin, top_of, own}
use Rattle.word_machine.specs.Words.{Kept, apply, Counts, Full, Word, Answer, Differs, Drawn, Result, Words, Ends}
use Rattle.cast_machine.specs.declared.data.State.TheVariants as state
use Rattle.cast_machine.specs.declared.data.Verdict.TheVariants as verdict

-- ---- configurations

-- a configuration of the word machine by trees: the words, and a seat for each thread that is made
pub record Core : Type 0 where
  pub words : Words
  pub seats : List Seat

-- the thread of a seat
abbrev pub thread_of : Seat → Thread
thread_of q = record { asked = q.asked; state = q.state; steps = q.steps }

-- the threads of the seats
abbrev pub threads_of : List Seat → List Thread
threads_of [] = []
threads_of (q ∷ qs) = thread_of q ∷ threads_of qs

module _ (s : Settings) (k : Core) (t : ℕ) where
  -- the words behind an action, and the seat behind its answer
  abbrev pub answered : (Answer → Seat) → Words × Answer → Core
  answered res r = record { words = r.0; seats = slice_set k.seats t (res r.1) }

  -- a thread is drawn where the count of threads is the expected one and below 256; it has a seat at once
  abbrev pub begins : (Answer → Seat) → ℕ → Seat → Core
  begins res n new =
      if nat_eq n (length k.seats)
      then (if nat_le most_threads (length k.seats) then answered res (k.words, Full)
      else record { words = k.words; seats = slice_set k.seats t (res (Drawn (length k.seats))) ++ new ∷ [] })
      else answered res (k.words, Counts (length k.seats))

  -- the configuration behind a next action
  abbrev pub acted : (Answer → Seat) → Next → Core
  acted res (NLocal q) = record { words = k.words; seats = slice_set k.seats t q }
  acted res NRest = k
  acted res (NWants a) = answered res (apply s k.words a)
  acted res (NBegins n j m args new) = begins res n new

-- a tick of a thread that is there
abbrev pub tick_seat : CastScript → Settings → Core → ℕ → Option Seat → Core
tick_seat p s k t None = k
tick_seat p s k t (Some q) = acted s k t (resume p s q) (next_action p s t q)

-- a local step of a thread, or its next action
abbrev pub tick : CastScript → Settings → Core → ℕ → Core
tick p s k t = tick_seat p s k t (slice_get k.seats t)

-- ---- the configuration for which it stands

-- every object is shown, also one that waits
abbrev pub reveal : Heap → Heap
reveal [] = []
reveal (o ∷ h) = record o { waits = 0; maker = 0 } ∷ reveal h

-- the configuration of the calculus for which the words stand
abbrev pub stands : Settings → Core → Configuration
stands s k = record {
  settings = s;
  heap = reveal (k.words).heap;
  lines = (k.words).lines;
  threads = threads_of k.seats;
  end = (k.words).end;
}

-- ---- which ticks are the step

-- a look whose verdict sets nothing is the step
abbrev pub verdict_steps : List Frame → Verdict → Bool
verdict_steps below verdict.NoRow = false
verdict_steps below (verdict.Goes g) = true
verdict_steps below (verdict.Fails e) = true
verdict_steps below (verdict.Sets new g) = deep (state.Running g below)

-- a look at a cell that is there
abbrev pub look_steps : List Frame → (Cell → Verdict) → Option Cell → Bool
look_steps below v None = false
look_steps below v (Some d) = verdict_steps below (v d)

module _ (p : CastScript) (s : Settings) where
  -- by the answer. An exchange that succeeds is the step; a failed one is a look at the word that it hands back
  abbrev pub top_steps : Work → Frame → List Frame → Top → Answer → Bool
  top_steps i f below (TCell a x v) (Word o) = look_steps below v o
  top_steps i f below (TCell a x v) (Differs o) = look_steps below v o
  top_steps i f below (TCell a x v) Kept = true
  top_steps i f below (TBlind a x new g) Kept = true
  top_steps i f below (TNew o g) Full = true
  top_steps i f below (TNew o g) (Drawn b) = true
  top_steps i f below (TPrint args g) Full = true
  top_steps i f below (TPrint args g) (Drawn b) = true
  top_steps i f below TLook (Ends None n) = is_some (own p s i f below)
  top_steps i f below TLeave Kept = true
  top_steps i f below (TJoin u) (Result o) = is_some o
  top_steps i f below (TBegin x j d t args g) Full = true
  top_steps i f below (TBegin x j d t args g) (Drawn u) = true
  top_steps i f below t a = false

  -- that of the top item
  abbrev pub work_steps : Frame → List Frame → List Work → Answer → Bool
  work_steps f below [] a = false
  work_steps f below (i ∷ is) a = top_steps i (record f { work = is }) below (top_of p i (record f { work = is })) a

  -- a failing thread's step records its end
  abbrev pub end_steps : Answer → Bool
  end_steps Kept = true
  end_steps a = false

  -- filling a word is no step, nor is anything that a thread does once it is finished or stopped
  abbrev pub steps_by : Micro → State → Answer → Bool
  steps_by (Filling b left) st a = false
  steps_by m (state.Running f below) a = work_steps f below f.work a
  steps_by m (state.Failing e) a = end_steps a
  steps_by m st a = false

  -- whether an action with this answer is the step of its thread
  abbrev pub is_step : Seat → Answer → Bool
  is_step q a = steps_by q.micro q.state a

  -- what a draw of a thread answers where so many are made
  abbrev pub begin_answer : ℕ → ℕ → Answer
  begin_answer made n = if nat_eq n made then (if nat_le most_threads made then Full else Drawn made) else Counts made

  -- whether a next action is the step, by what the words answer
  abbrev pub next_steps : Words → ℕ → (Answer → Bool) → Next → Bool
  next_steps w made by (NLocal q) = true
  next_steps w made by NRest = false
  next_steps w made by (NWants a) = by (apply s w a).1
  next_steps w made by (NBegins n j m args new) = by (begin_answer made n)

  -- whether a tick of a thread that is there is the step
  abbrev pub seat_steps : Core → ℕ → Option Seat → Bool
  seat_steps k t None = false
  seat_steps k t (Some q) = next_steps k.words (length k.seats) (is_step q) (next_action p s t q)

  -- whether a tick of thread t is the step
  abbrev pub tick_steps : Core → ℕ → Bool
  tick_steps k t = seat_steps k t (slice_get k.seats t)

-- ---- the start

-- so many result words, all empty
abbrev pub empty_results : ℕ → List (Option Val)
empty_results zero = []
empty_results (suc n) = None ∷ empty_results n

-- the main thread begins; no word is drawn
abbrev pub core_start : CastScript → Core
core_start p = record {
  words = record { heap = []; lines = []; results = empty_results most_threads; end = None };
  seats = record { asked = None; state = state.Running (main_frame p) []; steps = 0; micro = Quick } ∷ [];
}

-- ---- many ticks

-- the configuration after ticks of these threads
abbrev pub after_ticks : CastScript → Settings → Core → List ℕ → Core
after_ticks p s k [] = k
after_ticks p s k (t ∷ ts) = after_ticks p s (tick p s k t) ts
