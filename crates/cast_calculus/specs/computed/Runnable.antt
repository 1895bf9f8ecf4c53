-- Computed: what the code of `can_step` computes. A thread is runnable where it has a step. In a run of a well-typed script it
-- has one unless it is over, or waits for another thread at a join or at the end of a frame.
use Rattle.std.specs.Prelude.{ℕ, ◌+◌, Bool, true, false, not, ◌&&◌, ◌||◌, List, [], ◌∷◌, Option, Some, None, is_some, slice_get, if◌then◌else◌}
use Rattle.cast_machine.specs.declared.data.Frame.{Frame}
use Rattle.cast_machine.specs.declared.data.Thread.{Thread}
use Rattle.cast_machine.specs.declared.data.State.{State}
use Rattle.cast_machine.specs.declared.data.State.TheVariants as state
use Rattle.cast_machine.specs.declared.data.Work.{Work}
use Rattle.cast_machine.specs.Safety.{waits}
use Rattle.cast_machine.specs.Step.{Configuration, heeds}

abbrev pub top_runs : Configuration → List Work → Frame → Bool
top_runs c [] f = false
top_runs c (item ∷ rest) f = (is_some c.end && heeds item) || not (waits c.threads item f)

abbrev pub state_runs : Configuration → State → Bool
state_runs c (state.Running f below) = top_runs c f.work f
state_runs c (state.Failing e) = true
state_runs c (state.Finished v) = false
state_runs c state.Stopped = false

abbrev pub thread_runs : Configuration → Option Thread → Bool
thread_runs c None = false
thread_runs c (Some th) = state_runs c th.state

abbrev pub can_step : Configuration → ℕ → Bool
can_step c t = thread_runs c (slice_get c.threads t)

abbrev pub steps_from : Configuration → ℕ → List Thread → List ℕ
steps_from c n [] = []
steps_from c n (th ∷ ths) = if state_runs c th.state then n ∷ steps_from c (n + 1) ths else steps_from c (n + 1) ths

-- the threads that can step, in number order
abbrev pub able_threads : Configuration → List ℕ
able_threads c = steps_from c 0 c.threads
