-- A thread beside the words: its micro-state, its next action, and its state behind the answer.
use Rattle.std.specs.Prelude.{ℕ, zero, suc, ◌+◌, ◌-◌, Bool, List, [], ◌∷◌, ◌++◌, length, Option, Some, None, nat_lt, if◌then◌else◌}
use Rattle.mono_syntax.specs.Limits.{most_items}
use Rattle.mono_syntax.specs.Ty.{Ty}
use Rattle.mono_syntax.specs.declared.cast.CastFunction.{CastFunction}
use Rattle.mono_syntax.specs.declared.cast.CastScript.{CastScript}
use Rattle.mono_syntax.specs.declared.value.Val.{Val}
use Rattle.mono_tree.specs.CastScripts.{result_of}
use Rattle.cast_machine.specs.Calls.{called}
use Rattle.cast_machine.specs.Maps.{update}
use Rattle.cast_machine.specs.Rows.{has}
use Rattle.cast_machine.specs.Step.{fueled, items_of}
use Rattle.cast_machine.specs.declared.data.Cell.{Cell}
use Rattle.cast_machine.specs.declared.data.Frame.{Frame}
use Rattle.cast_machine.specs.declared.data.Object.{Object}
use Rattle.cast_machine.specs.declared.data.Settings.{Settings}
use Rattle.cast_machine.specs.declared.data.State.{State}
use Rattle.cast_machine.specs.declared.data.Verdict.{Verdict}
use Rattle.cast_machine.specs.declared.data.Work.{Work}
use Rattle.word_machine.specs.Tops.{Top, TLocal, TMiss, TCell, TBlind, TNew, TPrint, TLook, TLeave, TJoin, TBegin, top_of, own}
use Rattle.word_machine.specs.Words.{Kept, AResult, APrint, AExchange, ADraw, Counts, AEnd, AStore, Full, ARecord, Word, Answer, Differs}
use Rattle.word_machine.specs.Words.{Drawn, Result, Action, Ends, ALoad, AFill, AFinish}
use Rattle.cast_machine.specs.declared.data.End.TheVariants as ends
use Rattle.cast_machine.specs.declared.data.State.TheVariants as state
use Rattle.mono_syntax.specs.declared.value.Val.TheVariants as val
use Rattle.cast_machine.specs.declared.data.Verdict.TheVariants as verdict

-- ---- the state of a thread

-- what a thread knows between two of its steps
pub data Micro : Type 0 where
  -- nothing
  Quick : Micro
  -- the word looked at, whose verdict sets
  Seen : (cell : Cell) → Micro
  -- a counter looked at
  Count : (seen : ℕ) → Micro
  -- own words still to be stored
  Filling : (base left : ℕ) → Micro
  -- threads still to be seen finished, and the print counter that was looked at
  Seeing : (left : List ℕ) → (seen : ℕ) → Micro

-- a thread, as the calculus has it, with its micro-state
pub record Seat : Type 0 where
  pub asked : Option Ty
  pub state : State
  pub steps : ℕ
  pub micro : Micro

-- a state has too many items
abbrev pub deep : State → Bool
deep st = nat_lt most_items (items_of st)

-- the state behind a step: too many items or no fuel left make the thread fail
abbrev pub after : Settings → ℕ → State → State
after s n st = if deep st then state.Failing ends.DepthLimit else fueled s.fuel n st

-- a step is taken
abbrev pub moves : Settings → Seat → Micro → State → Seat
moves s q m st = record { asked = q.asked; state = after s (q.steps + 1) st; steps = q.steps + 1; micro = m }

-- the thread stops, since an end is recorded: that is no step
abbrev pub halts : Seat → Seat
halts q = record q { state = state.Stopped; micro = Quick }

-- the thread learns something: that is no step, and its state stays
abbrev pub turns : Seat → Micro → Seat
turns q m = record q { micro = m }

-- the counter that was looked at, or 0
abbrev pub guess : Micro → ℕ
guess (Count n) = n
guess m = 0

-- the words of a new object that are still to be filled, where there are any
abbrev pub filling : ℕ → ℕ → Micro
filling b zero = Quick
filling b (suc n) = Filling b (suc n)

-- a new object waits for each of its cells, which its maker fills
abbrev pub unfilled : ℕ → Object → Object
unfilled me o = record o { waits = length o.cells; maker = me }

-- a thread that calls a function at a merged type with these arguments
abbrev pub fresh_seat : CastFunction → Ty → List Val → Seat
fresh_seat d m args = record { asked = Some (result_of m); state = state.Running (called d m args) []; steps = 0; micro = Quick }

-- a started thread stands under its name, and among those that its frame started
abbrev pub put_begun : Frame → List ℕ → ℕ → Frame
put_begun f x u = record f { handles = update f.handles x (Some u); started = f.started ++ u ∷ [] }

-- ---- the next action

-- what a thread does next: a step by itself, nothing, an action on the words, or the start of a thread
pub data Next : Type 0 where
  -- the seat behind a step that needs no action
  NLocal : (seat : Seat) → Next
  -- it does nothing
  NRest : Next
  NWants : (action : Action) → Next
  -- the thread's number, and what the new thread runs
  NBegins : (expected : ℕ) → (func : ℕ) → (merged : Ty) → (args : List Val) → (new : Seat) → Next

module _ (p : CastScript) (s : Settings) (me : ℕ) (q : Seat) where
  -- a step that needs no word
  abbrev pub goes_own : Option State → Next
  goes_own None = NRest
  goes_own (Some st) = NLocal (moves s q Quick st)

  -- an object without the field blames the site of the member, where one stands
  abbrev pub misses : Option ℕ → Next
  misses None = NRest
  misses (Some k) = NLocal (moves s q Quick (state.Failing (ends.Blame k)))

  -- behind a look whose verdict sets, the cell is exchanged for the new one, from the one that was looked at
  abbrev pub armed : List Frame → ℕ → List ℕ → Cell → Verdict → Next
  armed below a x d (verdict.Sets new g) = if deep (state.Running g below) then NRest else NWants (AExchange a x d new)
  armed below a x d v = NRest

  -- the last frame's value is the result, which is stored; another frame's is put in the frame below
  abbrev pub leaves_to : List Val → List Frame → Next
  leaves_to [] below = NRest
  leaves_to (v ∷ vs) [] = NWants (AFinish me v)
  leaves_to (v ∷ vs) (g ∷ below) = NLocal (moves s q Quick (state.Running (has (v ∷ g.values) g) below))

  -- the main block records the end, another frame leaves its value
  abbrev pub leaves : Frame → List Frame → ℕ → Option Ty → Next
  leaves f below n None = NWants (ARecord n ends.Done)
  leaves f below n (Some t) = leaves_to f.values below

  -- f is the frame without the item i
  abbrev pub next_top : Micro → Work → Frame → List Frame → Top → Next
  next_top m i f below TLocal = goes_own (own p s i f below)
  next_top m i f below (TMiss k) = misses k
  next_top (Seen d) i f below (TCell a x v) = armed below a x d (v d)
  next_top m i f below (TCell a x v) = NWants (ALoad a x)
  next_top m i f below (TBlind a x new g) = if deep (state.Running g below) then NLocal (moves s q Quick (state.Failing ends.DepthLimit))
      else NWants (AStore a x new)
  next_top (Count n) i f below (TNew o g) = if deep (state.Running (has (val.Nil ∷ g.values) g) below) then NRest
      else NWants (ADraw n (unfilled me o))
  next_top m i f below (TNew o g) = NWants AEnd
  next_top m i f below (TPrint args g) = if deep (state.Running g below) then NRest else NWants (APrint (guess m) args)
  next_top m i f below TLook = NWants AEnd
  next_top (Seeing [] n) i f below TLeave = leaves f below n f.asked
  next_top (Seeing (u ∷ left) n) i f below TLeave = NWants (AResult u)
  next_top m i f below TLeave = NWants AEnd
  next_top (Count n) i f below (TJoin u) = NWants (AResult u)
  next_top m i f below (TJoin u) = NWants AEnd
  next_top (Count n) i f below (TBegin x j d t args g) = if deep (state.Running (put_begun g x 0) below) then NRest
      else NBegins n j t args (fresh_seat d t args)
  next_top m i f below (TBegin x j d t args g) = NWants AEnd

  -- the next action of a running thread is that of its top item
  abbrev pub next_work : Micro → Frame → List Frame → List Work → Next
  next_work m f below [] = NRest
  next_work m f below (i ∷ is) = next_top m i (record f { work = is }) below (top_of p i (record f { work = is }))

  -- an object is filled first; a failing thread records its end; a thread that is finished or stopped does nothing
  abbrev pub next_by : Micro → State → Next
  next_by (Filling b left) st = NWants (AFill b)
  next_by m (state.Running f below) = next_work m f below f.work
  next_by m (state.Failing e) = NWants (ARecord (guess m) e)
  next_by m st = NRest

-- the next action of a seat; me is its number
abbrev pub next_action : CastScript → Settings → ℕ → Seat → Next
next_action p s me q = next_by p s me q q.micro q.state

-- ---- behind the answer

module _ (p : CastScript) (s : Settings) (q : Seat) where
  -- a look whose verdict sets nothing is the step
  abbrev pub looked : List Frame → Cell → Verdict → Seat
  looked below d verdict.NoRow = q
  looked below d (verdict.Goes g) = moves s q Quick (state.Running g below)
  looked below d (verdict.Fails e) = moves s q Quick (state.Failing e)
  looked below d (verdict.Sets new g) = if deep (state.Running g below) then moves s q Quick (state.Failing ends.DepthLimit)
      else turns q (Seen d)

  -- a look at a cell that is there
  abbrev pub looked_at : List Frame → (Cell → Verdict) → Option Cell → Seat
  looked_at below v None = q
  looked_at below v (Some d) = looked below d (v d)

  -- an exchange that succeeds is the step
  abbrev pub exchanged : List Frame → Verdict → Seat
  exchanged below (verdict.Sets new g) = moves s q Quick (state.Running g below)
  exchanged below v = q

  -- an exchange was kept: the verdict is that of the cell that was looked at
  abbrev pub kept_cell : Micro → List Frame → (Cell → Verdict) → Seat
  kept_cell (Seen d) below v = exchanged below (v d)
  kept_cell m below v = q

  -- a step that needs no word, behind a look at the end
  abbrev pub went_own : Option State → Seat
  went_own None = q
  went_own (Some st) = moves s q Quick st

  -- no end stands: a thread that leaves looks at the results of the threads that its frame started, and then at the end again
  abbrev pub sees : Micro → Frame → ℕ → Seat
  sees (Seeing [] j) f n = turns q (Seeing [] n)
  sees m f n = turns q (Seeing f.started n)

  -- a result that is there is not looked at again; where one is missing the thread begins anew
  abbrev pub saw : Micro → Option Val → Seat
  saw (Seeing (u ∷ left) n) (Some v) = turns q (Seeing left n)
  saw m o = turns q Quick

  -- the end is recorded, or the result is stored
  abbrev pub left_as : Option Ty → List Val → Seat
  left_as None vs = moves s q Quick state.Stopped
  left_as (Some t) [] = q
  left_as (Some t) (v ∷ vs) = moves s q Quick (state.Finished v)

  -- the state behind the answer to the top item's action. Where an end stands, the item stops its thread
  abbrev pub resume_top : Micro → Work → Frame → List Frame → Top → Answer → Seat
  resume_top m i f below (TCell a x v) (Word o) = looked_at below v o
  resume_top m i f below (TCell a x v) (Differs o) = looked_at below v o
  resume_top m i f below (TCell a x v) Kept = kept_cell m below v
  resume_top m i f below (TBlind a x new g) Kept = moves s q Quick (state.Running g below)
  resume_top m i f below (TNew o g) (Ends None n) = turns q (Count 0)
  resume_top m i f below (TNew o g) (Ends (Some e) n) = halts q
  resume_top m i f below (TNew o g) (Counts n) = turns q (Count n)
  resume_top m i f below (TNew o g) Full = moves s q Quick (state.Failing ends.HeapFull)
  resume_top m i f below (TNew o g) (Drawn b) = moves s q (filling b (length o.cells))
      (state.Running (has (val.Obj o.class b ∷ g.values) g) below)
  resume_top m i f below (TPrint args g) (Ends None n) = turns q (Count n)
  resume_top m i f below (TPrint args g) (Ends (Some e) n) = halts q
  resume_top m i f below (TPrint args g) Full = moves s q Quick (state.Failing ends.PrintFull)
  resume_top m i f below (TPrint args g) (Drawn b) = moves s q Quick (state.Running g below)
  resume_top m i f below TLook (Ends None n) = went_own (own p s i f below)
  resume_top m i f below TLook (Ends (Some e) n) = halts q
  resume_top m i f below TLeave (Ends None n) = sees m f n
  resume_top m i f below TLeave (Ends (Some e) n) = halts q
  resume_top m i f below TLeave Kept = left_as f.asked f.values
  resume_top m i f below TLeave (Result o) = saw m o
  resume_top m i f below (TJoin u) (Ends None n) = turns q (Count n)
  resume_top m i f below (TJoin u) (Ends (Some e) n) = halts q
  resume_top m i f below (TJoin u) (Result None) = turns q Quick
  resume_top m i f below (TJoin u) (Result (Some v)) = moves s q Quick (state.Running (has (v ∷ f.values) f) below)
  resume_top m i f below (TBegin x j d t args g) (Ends None n) = turns q (Count 1)
  resume_top m i f below (TBegin x j d t args g) (Ends (Some e) n) = halts q
  resume_top m i f below (TBegin x j d t args g) (Counts n) = turns q (Count n)
  resume_top m i f below (TBegin x j d t args g) Full = moves s q Quick (state.Failing ends.ThreadLimit)
  resume_top m i f below (TBegin x j d t args g) (Drawn u) = moves s q Quick (state.Running (put_begun g x u) below)
  resume_top m i f below t a = q

  -- that of the top item
  abbrev pub resume_work : Micro → Frame → List Frame → List Work → Answer → Seat
  resume_work m f below [] a = q
  resume_work m f below (i ∷ is) a = resume_top m i (record f { work = is }) below (top_of p i (record f { work = is })) a

  -- a failing thread stops once its end is recorded, or another
  abbrev pub resume_end : Answer → Seat
  resume_end Kept = halts q
  resume_end (Ends None n) = turns q (Count n)
  resume_end (Ends (Some e) n) = halts q
  resume_end a = q

  -- the state behind an answer
  abbrev pub resume_by : Micro → State → Answer → Seat
  resume_by (Filling b left) st a = turns q (filling b (left - 1))
  resume_by m (state.Running f below) a = resume_work m f below f.work a
  resume_by m (state.Failing e) a = resume_end a
  resume_by m st a = q

-- the seat behind the answer to its next action
abbrev pub resume : CastScript → Settings → Seat → Answer → Seat
resume p s q a = resume_by p s q q.micro q.state a
