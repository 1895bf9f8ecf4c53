-- While a fit runs its heap is above every solution, when it has ended heap and value are the weakest one, and a blame
-- says that there is none.
use Rattle.std.proofs.Common.{◌≡◌, ◌⊎◌, ℕ, List, [], Some, refl, sym, ◌∙◌, ap, subst, slice_get, inl, inr}
use Rattle.mono_list.proofs.Cases.{some_is}
use Rattle.mono_syntax.specs.Ty.{Ty}
use Rattle.mono_syntax.specs.declared.value.Val.{Val}
use Rattle.mono_syntax.specs.declared.cast.CastScript.{CastScript}
use Rattle.cast_machine.specs.declared.data.End.{End}
use Rattle.cast_machine.specs.declared.data.End.TheVariants as ends
use Rattle.cast_machine.specs.declared.data.Frame.{Frame}
use Rattle.cast_machine.specs.declared.data.State.{State}
use Rattle.cast_machine.specs.declared.data.State.TheVariants as state
use Rattle.cast_machine.specs.declared.data.Thread.{Thread}
use Rattle.cast_machine.specs.Heap.{Heap}
use Rattle.cast_machine.specs.Step.{Configuration}
use Rattle.cast_machine.specs.Typing.{IsWellTyped}
use Rattle.cast_machine.proofs.Runs.{safe_run}
use Rattle.cast_orders.specs.Below.{IsHeapBelow}
use Rattle.cast_orders.specs.FitSteps.{IsOfRun, Runs, IsFailing, BeginsFit, IsUnderWay, HasEnded, FitReaches}
use Rattle.cast_orders.specs.Solutions.{IsSolution, HasSolution, IsWeakest}
use Rattle.cast_orders.proofs.Bounds.{FitStart, Bounds, Good, Stage, begins, strengthens, ended}
use Rattle.cast_orders.proofs.FitRuns.{Reached, reached, asked_longer, never_longer}

run_typed : (p : CastScript) (c : Configuration) → IsOfRun p c → IsWellTyped p c
run_typed p c r = subst (λ k. IsWellTyped p k) r.is (safe_run p r.script r.settings r.fuel r.picks).typed

module _ (p : CastScript) (c d : Configuration) (t : ℕ) (v : Val) (to : Ty) (reach : FitReaches p c d t v to) where
  abbrev b : BeginsFit p c t v to
  b = reach.begins

  abbrev start : FitStart
  start = record { heap = c.heap; frame = b.frame; rest = b.rest; place = b.place; value = v; to = to }

  there : Reached p (reach.run).script c (run_typed p c reach.run) t v to b d
  there = reached p (reach.run).script c (run_typed p c reach.run) t v to b d reach.leads

  abbrev thread : Thread
  thread = (there.stands).0

  at : slice_get d.threads t ≡ Some thread
  at = (there.stands).1

  good : Good start d.heap thread.state
  good = (there.stands).2

  -- in a state that the thread has
  good_in : (th : Thread) (st : State) → slice_get d.threads t ≡ Some th → th.state ≡ st → Good start d.heap st
  good_in th st e i = subst (λ k. Good start d.heap k) (ap (λ (k : Thread). k.state) (some_is (sym at ∙ e)) ∙ i) good

  bounds_of : (st : State) → Good start d.heap st → Bounds start d.heap
  bounds_of (state.Running f below) i = i.0
  bounds_of (state.Failing e) i = i.0
  bounds_of (state.Finished w) i = absurd i
  bounds_of state.Stopped i = absurd i

  -- every solution is at least as precise as the heap
  pub fit_bounds : (k : Heap) (w : Val) → IsSolution c.heap v to k w → IsHeapBelow k d.heap
  fit_bounds = (bounds_of thread.state good).each

  -- ---- the end of the fit

  ended_stage : (f : Frame) → f.work ≡ b.rest → Stage start d.heap f → (w : Val) × (slice_get f.values b.place ≡ Some w) × IsWeakest c.heap v to d.heap w
  ended_stage f e (begins h i) = absurd (never_longer b.item [] b.rest (sym e ∙ ap (λ (q : Frame). q.work) i ∙ b.top))
  ended_stage f e (strengthens i same) = let z = asked_longer start f.work i in absurd (never_longer z.0 z.1 b.rest (sym e ∙ z.2))
  ended_stage f e (ended i w x y) = (w, x, y)

  pub fit_ended : (e : HasEnded d t b.rest) → (w : Val) × (slice_get (e.frame).values b.place ≡ Some w) × IsWeakest c.heap v to d.heap w
  fit_ended e = ended_stage e.frame e.top (good_in (e.runs).thread (state.Running e.frame e.below) (e.runs).at (e.runs).running).1

  -- ---- blame

  pub fit_blamed : (site : ℕ) → IsFailing d t (ends.Blame site) → HasSolution c.heap v to → ⊥
  fit_blamed site f = (good_in f.thread (state.Failing (ends.Blame site)) f.at f.failing).1

  -- ---- one of three

  stage_is : (f : Frame) (below : List Frame) → Runs d t f below → Stage start d.heap f → IsUnderWay d t b.rest ⊎ HasEnded d t b.rest
  stage_is f below runs (begins h i) = inl (record { frame = f; below = below; runs = runs; item = b.item; more = []; top = ap (λ (q : Frame). q.work) i ∙ b.top })
  stage_is f below runs (strengthens i same) = let z = asked_longer start f.work i in inl (record { frame = f; below = below; runs = runs; item = z.0; more = z.1; top = z.2 })
  stage_is f below runs (ended i w x y) = inr (record { frame = f; below = below; runs = runs; top = i })

  state_is : (st : State) → thread.state ≡ st → Good start d.heap st → (IsUnderWay d t b.rest ⊎ HasEnded d t b.rest) ⊎ ((e : End) × IsFailing d t e)
  state_is (state.Running f below) e i = inl (stage_is f below (record { thread = thread; at = at; running = e }) i.1)
  state_is (state.Failing x) e i = inr (x, record { thread = thread; at = at; failing = e })
  state_is (state.Finished w) e i = absurd i
  state_is state.Stopped e i = absurd i

  pub fit_is : (IsUnderWay d t b.rest ⊎ HasEnded d t b.rest) ⊎ ((e : End) × IsFailing d t e)
  fit_is = state_is thread.state refl good
