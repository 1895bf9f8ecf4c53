-- Computed: how far a thread is from its step, and its ticks alone until then.
use Rattle.std.specs.Prelude.{ℕ, zero, suc, ◌+◌, Bool, true, false, List, [], ◌∷◌, length, Option, Some, None, nat_eq, if◌then◌else◌}
use Rattle.std.specs.Prelude.{slice_get}
use Rattle.mono_syntax.specs.declared.cast.CastScript.{CastScript}
use Rattle.cast_machine.specs.Calls.{words_of}
use Rattle.cast_machine.specs.Heap.{heap_size, cell_at}
use Rattle.cast_machine.specs.declared.data.Cell.{Cell}
use Rattle.cast_machine.specs.declared.data.Frame.{Frame}
use Rattle.cast_machine.specs.declared.data.Settings.{Settings}
use Rattle.cast_machine.specs.declared.data.State.{State}
use Rattle.cast_machine.specs.declared.data.Work.{Work}
use Rattle.word_machine.specs.Seats.{Micro, Seen, Count, Filling, Seeing, Seat, guess}
use Rattle.word_machine.specs.Ticks.{Core, tick, tick_steps}
use Rattle.word_machine.specs.Tops.{Top, TCell, TNew, TPrint, TLeave, TJoin, TBegin, top_of}
use Rattle.word_machine.specs.Words.{Words, same_cell}
use Rattle.cast_machine.specs.declared.data.State.TheVariants as state

-- thread t ticks until a tick is the step, at most n times
abbrev pub solo : CastScript → Settings → ℕ → Core → ℕ → Core
solo p s zero k t = k
solo p s (suc n) k t = if tick_steps p s k t then tick p s k t else solo p s n (tick p s k t) t

-- ---- how far a thread is from its step: each tick of the thread alone that is no step makes its rank less

-- less where what was looked at still stands
abbrev pub one_or_two : Bool → ℕ
one_or_two true = 1
one_or_two false = 2

-- the rank of an exchange: where the cell has moved on, it looks again first
abbrev pub seen_rank : Cell → Option Cell → ℕ
seen_rank d None = 2
seen_rank d (Some now) = one_or_two (same_cell d now)

-- the rank of a thread that leaves: looks at results that are left, and then at the end
abbrev pub leave_rank : ℕ → ℕ → List ℕ → ℕ
leave_rank c w [] = one_or_two (nat_eq c w)
leave_rank c w (u ∷ left) = 3 + length left

-- the rank by the top item
abbrev pub top_rank : Words → ℕ → Frame → Top → Micro → ℕ
top_rank w made f (TCell a x v) (Seen d) = seen_rank d (cell_at w.heap a x)
top_rank w made f (TNew o g) (Count c) = one_or_two (nat_eq c (heap_size w.heap))
top_rank w made f (TPrint args g) (Count c) = one_or_two (nat_eq c (words_of w.lines))
top_rank w made f (TBegin x j d m args g) (Count c) = one_or_two (nat_eq c made)
top_rank w made f (TJoin u) (Count c) = 1
top_rank w made f TLeave (Seeing left c) = leave_rank c (words_of w.lines) left
top_rank w made f t m = 4 + length f.started

-- a frame without work has no step
abbrev pub work_rank : CastScript → Words → ℕ → Micro → Frame → List Work → ℕ
work_rank p w made m f [] = 0
work_rank p w made m f (i ∷ is) = top_rank w made (record f { work = is }) (top_of p i (record f { work = is })) m

-- the rank of a thread that fills nothing
abbrev pub state_rank : CastScript → Words → ℕ → Micro → State → ℕ
state_rank p w made m (state.Running f below) = work_rank p w made m f f.work
state_rank p w made m (state.Failing e) = one_or_two (nat_eq (guess m) (words_of w.lines))
state_rank p w made m st = 0

-- no rank of a state behind its fills is more
abbrev pub base_rank : State → ℕ
base_rank (state.Running f below) = 5 + length f.started
base_rank st = 3

-- the rank of a thread: the words that are still to be filled come first
abbrev pub seat_rank : CastScript → Words → ℕ → Micro → State → ℕ
seat_rank p w made (Filling b left) st = base_rank st + left
seat_rank p w made m st = state_rank p w made m st

-- a thread that isn't made has no step
abbrev pub rank_in : CastScript → Core → Option Seat → ℕ
rank_in p k None = 0
rank_in p k (Some q) = seat_rank p k.words (length k.seats) q.micro q.state

-- the rank of thread t: where it has a step, that comes within one tick more
abbrev pub rank : CastScript → Core → ℕ → ℕ
rank p k t = rank_in p k (slice_get k.seats t)
