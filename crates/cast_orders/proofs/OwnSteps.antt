-- What stands in a thread's place after its step, from what the row of its top item says.
use Rattle.mono_syntax.specs.Limits.{most_items}
use Rattle.std.proofs.Common.{◌≡◌, ℕ, ◌+◌, ◌++◌, Bool, true, false, ◌&&◌, List, [], ◌∷◌, Option, Some, None, is_some, nat_lt, refl, sym, ◌∙◌, subst, slice_get, slice_set}
use Rattle.std.proofs.lemmas.Bool.{false≢true}
use Rattle.mono_syntax.specs.declared.cast.CastScript.{CastScript}
use Rattle.cast_machine.proofs.Heap.{on_test}
use Rattle.cast_machine.proofs.Obligations.{heap_after}
use Rattle.cast_machine.proofs.ThreadLists.{end_there, set_here}
use Rattle.cast_machine.specs.Heap.{Heap, set_cell}
use Rattle.cast_machine.specs.Step.{Configuration, act, changed, fueled, heeds, items_of, moved, placed, step_at, step_of, taken_out, thread_step, top_step}
use Rattle.cast_machine.specs.declared.data.Change.{Change}
use Rattle.cast_machine.specs.declared.data.Change.TheVariants as change
use Rattle.cast_machine.specs.declared.data.End.TheVariants as ends
use Rattle.cast_machine.specs.declared.data.Frame.{Frame}
use Rattle.cast_machine.specs.declared.data.Outcome.{Outcome}
use Rattle.cast_machine.specs.declared.data.Outcome.TheVariants as outcome
use Rattle.cast_machine.specs.declared.data.State.{State}
use Rattle.cast_machine.specs.declared.data.State.TheVariants as state
use Rattle.cast_machine.specs.declared.data.Thread.{Thread}
use Rattle.cast_machine.specs.declared.data.Work.{Work}

-- where the row moves, this holds of the heap and of the thread's state
abbrev pub Gives : Heap → (Heap → State → Type 0) → Outcome → Type 0
Gives h Q (outcome.Moves d st) = Q (heap_after d h) st
Gives h Q o = Unit {0}

-- thread t stands, and this holds of the heap and of its state
abbrev pub Stands : ℕ → (Heap → State → Type 0) → Configuration → Type 0
Stands t Q c = (th : Thread) × (slice_get c.threads t ≡ Some th) × Q c.heap th.state

abbrev StandsAfter : ℕ → (Heap → State → Type 0) → Option Configuration → Type 0
StandsAfter t Q None = Unit {0}
StandsAfter t Q (Some c) = Stands t Q c

module _ (c : Configuration) (t : ℕ) (old : Thread) (at : slice_get c.threads t ≡ Some old) (Q : Heap → State → Type 0) (deep : Q c.heap (state.Failing ends.DepthLimit)) (spent : (h : Heap) (f : Frame) (below : List Frame) → Q h (state.Running f below) → Q h (state.Failing ends.Fuel)) where
  abbrev out : Configuration
  out = record c { threads = slice_set c.threads t taken_out }

  there : slice_get out.threads t ≡ Some taken_out
  there = set_here c.threads t taken_out old at

  put_stands : (ths : List Thread) (x : Thread) → slice_get ths t ≡ Some x → (h : Heap) (st : State) (n : ℕ) → Q h st → (th : Thread) × (slice_get (slice_set ths t (record old { state = st; steps = n })) t ≡ Some th) × Q h th.state
  put_stands ths x e h st n i = (record old { state = st; steps = n }, set_here ths t (record old { state = st; steps = n }) x e, i)

  placed_stands : (d : Change) (st : State) (n : ℕ) → Q (heap_after d c.heap) st → Stands t Q (placed t old st n (changed d out))
  placed_stands change.Same st n i = put_stands out.threads taken_out there c.heap st n i
  placed_stands (change.Sets a x k) st n i = put_stands out.threads taken_out there (set_cell c.heap a x k) st n i
  placed_stands (change.Adds o) st n i = put_stands out.threads taken_out there (c.heap ++ o ∷ []) st n i
  placed_stands (change.Says line) st n i = put_stands out.threads taken_out there c.heap st n i
  placed_stands (change.Begins th) st n i = put_stands (out.threads ++ th ∷ []) taken_out (end_there out.threads t th taken_out there) c.heap st n i
  placed_stands (change.Ends e) st n i = put_stands out.threads taken_out there c.heap st n i

  fueled_stands : (h : Heap) (fuel n : ℕ) (st : State) → Q h st → Q h (fueled fuel n st)
  fueled_stands h fuel n (state.Running f below) i = on_test (nat_lt n fuel) _ _ (Q h) (λ on. i) (λ over. spent h f below i)
  fueled_stands h fuel n (state.Failing e) i = i
  fueled_stands h fuel n (state.Finished v) i = i
  fueled_stands h fuel n state.Stopped i = i

  moved_stands : (o : Outcome) → Gives c.heap Q o → StandsAfter t Q (moved t old o out)
  moved_stands outcome.NoRow i = tt
  moved_stands outcome.Waits i = tt
  moved_stands (outcome.Moves d st) i =
      on_test (nat_lt most_items (items_of st)) _ _ (λ new. StandsAfter t Q (Some new))
      (λ many. placed_stands change.Same (state.Failing ends.DepthLimit) (old.steps + 1) deep)
      (λ few. placed_stands d (fueled c.settings.fuel (old.steps + 1) st) (old.steps + 1) (fueled_stands (heap_after d c.heap) c.settings.fuel (old.steps + 1) st i))

  no_heed : (a b : Bool) → b ≡ false → (a && b) ≡ false
  no_heed true b e = e
  no_heed false b e = refl

  top_stands : (p : CastScript) (item : Work) (rest : List Work) (f : Frame) (below : List Frame) → heeds item ≡ false → Gives c.heap Q (act p out item (record f { work = rest }) below) → StandsAfter t Q (top_step p t old (item ∷ rest) f below out)
  top_stands p item rest f below quiet i =
      on_test (is_some c.end && heeds item) _ _ (StandsAfter t Q)
      (λ over. absurd (false≢true (sym (no_heed (is_some c.end) (heeds item) quiet) ∙ over)))
      (λ on. moved_stands (act p out item (record f { work = rest }) below) i)

  step_stands : (p : CastScript) (f : Frame) (below : List Frame) (item : Work) (rest : List Work) → old.state ≡ state.Running f below → f.work ≡ item ∷ rest → StandsAfter t Q (top_step p t old (item ∷ rest) f below out) → StandsAfter t Q (step_of p c t)
  unfolding step_of
  step_stands p f below item rest st w i =
      subst (λ o. StandsAfter t Q (step_at p t o c)) (sym at)
      (subst (λ k. StandsAfter t Q (thread_step p t old k out)) (sym st)
      (subst (λ k. StandsAfter t Q (top_step p t old k f below out)) (sym w) i))

  pub step_gives : (p : CastScript) (f : Frame) (below : List Frame) (item : Work) (rest : List Work) → old.state ≡ state.Running f below → f.work ≡ item ∷ rest → heeds item ≡ false → Gives c.heap Q (act p out item (record f { work = rest }) below) → (e : Configuration) → step_of p c t ≡ Some e → Stands t Q e
  step_gives p f below item rest st w quiet i e s =
      subst (StandsAfter t Q) s (step_stands p f below item rest st w (top_stands p item rest f below quiet i))
