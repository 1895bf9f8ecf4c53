-- Computed: the run in the order of a seed, by ticks of the word machine.
use Rattle.std.specs.Prelude.{ℕ, zero, suc, ◌+◌, Bool, true, false, ◌&&◌, is_some, List, [], ◌∷◌, length, Option, Some, None, if◌then◌else◌}
use Rattle.std.specs.Prelude.{slice_get}
use Rattle.mono_syntax.specs.declared.cast.CastScript.{CastScript}
use Rattle.mono_syntax.specs.declared.value.Val.{Val}
use Rattle.cast_machine.specs.Step.{next_seed, pick}
use Rattle.cast_machine.specs.declared.data.Frame.{Frame}
use Rattle.cast_machine.specs.declared.data.Settings.{Settings}
use Rattle.cast_machine.specs.declared.data.State.{State}
use Rattle.cast_machine.specs.declared.data.Work.{Work}
use Rattle.word_machine.specs.Seats.{Seat}
use Rattle.word_machine.specs.Ticks.{Core}
use Rattle.word_machine.specs.Words.{Words, result_at}
use Rattle.word_machine.specs.computed.Ranks.{rank, solo}
use Rattle.cast_machine.specs.declared.data.State.TheVariants as state
use Rattle.cast_machine.specs.declared.data.Work.TheVariants as work

-- ---- the order of a seed, by words

-- each of these results is stored
abbrev pub all_results : List (Option Val) → List ℕ → Bool
all_results rs [] = true
all_results rs (t ∷ ts) = is_some (result_at rs t) && all_results rs ts

-- a running thread waits only for results that aren't stored
abbrev pub work_runs : Words → Frame → List Work → Bool
work_runs w f (work.Join u ∷ is) = is_some (result_at w.results u)
work_runs w f (work.Leave ∷ is) = all_results w.results f.started
work_runs w f is = true

-- a thread can go on: it runs and does not wait, or it fails
abbrev pub state_runs : Words → State → Bool
state_runs w (state.Running f below) = work_runs w f f.work
state_runs w (state.Failing e) = true
state_runs w st = false

-- the threads that can go on, in number order
abbrev pub runs_from : Words → ℕ → List Seat → List ℕ
runs_from w n [] = []
runs_from w n (q ∷ qs) = if state_runs w q.state then n ∷ runs_from w (n + 1) qs else runs_from w (n + 1) qs

-- the thread that a seed picks
abbrev pub word_thread : Core → ℕ → Option ℕ
word_thread k seed = slice_get (runs_from k.words 0 k.seats) (pick seed (length (runs_from k.words 0 k.seats)))

-- the ticks of the picked thread until its step
abbrev pub word_pick : CastScript → Settings → Core → Option ℕ → Core
word_pick p s k None = k
word_pick p s k (Some t) = solo p s (suc (rank p k t)) k t

-- n picks by the seeds that follow, or fewer where an end is recorded
abbrev pub word_seeded : CastScript → Settings → ℕ → ℕ → Core → Core
word_seeded p s zero seed k = k
word_seeded p s (suc n) seed k = if is_some (k.words).end then k
    else word_seeded p s n (next_seed seed) (word_pick p s k (word_thread k (next_seed seed)))
