-- In a well-typed configuration the threads that can step are those that have a step.
use Rattle.std.proofs.Common.{◌≡◌, ◌⊎◌, ℕ, zero, suc, ◌+◌, Bool, true, false, not, ◌&&◌, ◌||◌, List, [], ◌∷◌, Option, Some, None, cond, is_some, slice_get, slice_set, refl, ap, sym, ◌∙◌, subst, inl, inr, arith}
use Rattle.mono_list.proofs.Cases.{split, some_is, none_some}
use Rattle.mono_syntax.specs.Ty.{Ty}
use Rattle.mono_syntax.specs.declared.value.Val.{Val}
use Rattle.mono_syntax.specs.declared.cast.CastScript.{CastScript}
use Rattle.mono_tree.specs.TypedPrograms.{IsTypedProgram}
use Rattle.cast_machine.specs.declared.data.Frame.{Frame}
use Rattle.cast_machine.specs.declared.data.Thread.{Thread}
use Rattle.cast_machine.specs.declared.data.State.{State}
use Rattle.cast_machine.specs.declared.data.State.TheVariants as state
use Rattle.cast_machine.specs.declared.data.Outcome.TheVariants as outcome
use Rattle.cast_machine.specs.declared.data.Work.{Work}
use Rattle.cast_machine.specs.declared.data.Work.TheVariants as work
use Rattle.cast_machine.specs.Heap.{Heap}
use Rattle.cast_machine.specs.Calls.{finished, value_of, join_of, all_finished, leave, leave_with, leave_to}
use Rattle.cast_machine.specs.Step.{Configuration, act, heeds, is_runnable, moved, placed, runnable_from, runnable_threads, step_at, step_of, taken_out, thread_step, top_step}
use Rattle.cast_machine.specs.Safety.{no_row, is_waiting, waits}
use Rattle.cast_machine.specs.HeapTyping.{AreTyped}
use Rattle.cast_machine.specs.Typing.{IsWellTyped, around, IsWellTypedFrame, IsWellTypedState, result_type, results_of}
use Rattle.cast_machine.specs.WorkTyping.{LeaveUse, IsWellTypedTop}
use Rattle.cast_machine.proofs.Progress.{not_stuck}
use Rattle.cast_machine.proofs.Threads.{all_finished_out, finished_out}
use Rattle.cast_calculus.specs.computed.Runnable.{top_runs, state_runs, thread_runs, can_step, steps_from, able_threads}

-- ---- items

by_kind : (i : Work) (ths : List Thread) (f : Frame) → (waits ths i f ≡ false) ⊎ (((u : ℕ) × (i ≡ work.Join u)) ⊎ (i ≡ work.Leave))
by_kind (work.Join u) ths f = inr (inl (u, refl))
by_kind work.Leave ths f = inr (inr refl)
by_kind i ths f = inl refl

is_there : {A : Type 0} (o : Option A) → (o ≡ None → ⊥) → is_some o ≡ true
is_there None h = absurd (h refl)
is_there (Some x) h = refl

or_true : (b : Bool) → (b || true) ≡ true
or_true true = refl
or_true false = refl

join_steps : (t : ℕ) (th : Thread) (o : Option Val) (f : Frame) (below : List Frame) (c : Configuration) → is_some (moved t th (join_of o f below) c) ≡ not (not (is_some o))
join_steps t th None f below c = refl
join_steps t th (Some v) f below c = refl

leave_to_steps : (t : ℕ) (th : Thread) (v : Val) (below : List Frame) (c : Configuration) → is_some (moved t th (leave_to v below) c) ≡ true
leave_to_steps t th v [] c = refl
leave_to_steps t th v (f ∷ below) c = refl

leave_with_steps : (p : CastScript) (h : Heap) (t : ℕ) (th : Thread) (vs : List Val) (ts : List Ty) (a : Option Ty) (below : List Frame) (c : Configuration) →
    AreTyped p h vs ts → LeaveUse a ts → is_some (moved t th (leave_with vs a below) c) ≡ true
leave_with_steps p h t th vs ts None below c typed left = refl
leave_with_steps p h t th [] [] (Some r) below c typed left = absurd left
leave_with_steps p h t th [] (u ∷ ts) (Some r) below c typed left = absurd typed
leave_with_steps p h t th (v ∷ vs) ts (Some r) below c typed left = leave_to_steps t th v below c

leave_steps : (t : ℕ) (th : Thread) (b : Bool) (vs : List Val) (a : Option Ty) (below : List Frame) (c : Configuration) →
    is_some (moved t th (leave_with vs a below) c) ≡ true → is_some (moved t th (cond b (leave_with vs a below) outcome.Waits) c) ≡ not (not b)
leave_steps t th true vs a below c s = s
leave_steps t th false vs a below c s = refl

-- ---- a thread

module _ (p : CastScript) (pok : IsTypedProgram p) (c : Configuration) (ok : IsWellTyped p c) (t : ℕ) (th : Thread) (here : slice_get c.threads t ≡ Some th) where
  abbrev pub out : Configuration
  out = record c { threads = slice_set c.threads t taken_out }

  stepped : is_runnable p c t ≡ is_some (thread_step p t th th.state out)
  unfolding step_of
  stepped = ap (λ (o : Option Thread). is_some (step_at p t o c)) here

  waiting : (i : Work) (rest : List Work) (f : Frame) (below : List Frame) → th.state ≡ state.Running f below → f.work ≡ i ∷ rest →
      is_some (moved t th (act p out i (record f { work = rest }) below) out) ≡ not (waits c.threads i f) →
      is_some (top_step p t th (i ∷ rest) f below out) ≡ top_runs c (i ∷ rest) f
  waiting i rest f below s w step =
      split (is_some c.end && heeds i)
      (λ b. is_some (cond b (Some (placed t th state.Stopped th.steps out)) (moved t th (act p out i (record f { work = rest }) below) out)) ≡ (b || not (waits c.threads i f)))
      (λ _. refl)
      (λ _. step)

  runs_none : (f : Frame) (below : List Frame) → th.state ≡ state.Running f below → value_of th.state ≡ None
  runs_none f below s = ap value_of s

  running : (f : Frame) (below : List Frame) → th.state ≡ state.Running f below → is_runnable p c t ≡ is_some (top_step p t th f.work f below out)
  running f below s = stepped ∙ ap (λ (st : State). is_some (thread_step p t th st out)) s

  other_same : (i : Work) (rest : List Work) (f : Frame) (below : List Frame) → th.state ≡ state.Running f below → f.work ≡ i ∷ rest →
      waits c.threads i f ≡ false → is_some (top_step p t th f.work f below out) ≡ top_runs c f.work f
  other_same i rest f below s w n =
      let waiting_not : is_waiting c.threads f.work f ≡ false = ap (λ (items : List Work). is_waiting c.threads items f) w ∙ n in
      let steps : is_some (step_of p c t) ≡ true = is_there (step_of p c t) (λ none. not_stuck p pok c ok (no_row t th f below here s waiting_not none)) in
      let able : top_runs c f.work f ≡ true = ap (λ (items : List Work). top_runs c items f) w ∙ ap (λ (b : Bool). (is_some c.end && heeds i) || not b) n ∙ or_true (is_some c.end && heeds i) in
      sym (running f below s) ∙ steps ∙ sym able

  join_same : (u : ℕ) (rest : List Work) (f : Frame) (below : List Frame) → th.state ≡ state.Running f below → f.work ≡ work.Join u ∷ rest →
      is_some (top_step p t th f.work f below out) ≡ top_runs c f.work f
  join_same u rest f below s w =
      let same : finished out.threads u ≡ finished c.threads u = finished_out c.threads t u th here (runs_none f below s) in
      let step : is_some (moved t th (join_of (finished out.threads u) (record f { work = rest }) below) out) ≡ not (not (is_some (finished c.threads u))) =
      join_steps t th (finished out.threads u) (record f { work = rest }) below out ∙ ap (λ (o : Option Val). not (not (is_some o))) same in
      subst (λ (items : List Work). is_some (top_step p t th items f below out) ≡ top_runs c items f) (sym w) (waiting (work.Join u) rest f below s w step)

  leave_same : (rest : List Work) (f : Frame) (below : List Frame) → th.state ≡ state.Running f below → f.work ≡ work.Leave ∷ rest →
      (frame : IsWellTypedFrame p (results_of c.threads) t c.heap f) → is_some (top_step p t th f.work f below out) ≡ top_runs c f.work f
  leave_same rest f below s w frame =
      let same : all_finished out.threads f.started ≡ all_finished c.threads f.started = all_finished_out c.threads t th f.started here (runs_none f below s) in
      let top : IsWellTypedTop p (around (frame.scope) f.asked (results_of c.threads) t) c.heap [] (work.Leave ∷ rest) f.values frame.types =
      subst (λ (items : List Work). IsWellTypedTop p (around (frame.scope) f.asked (results_of c.threads) t) c.heap [] items f.values frame.types) w frame.work in
      let step : is_some (moved t th (leave out.threads (record f { work = rest }) below) out) ≡ not (not (all_finished c.threads f.started)) =
      leave_steps t th (all_finished out.threads f.started) f.values f.asked below out (leave_with_steps p c.heap t th f.values frame.types f.asked below out frame.values top.1)
      ∙ ap (λ (b : Bool). not (not b)) same in
      subst (λ (items : List Work). is_some (top_step p t th items f below out) ≡ top_runs c items f) (sym w) (waiting work.Leave rest f below s w step)

  items_same : (items : List Work) (f : Frame) (below : List Frame) → th.state ≡ state.Running f below → f.work ≡ items →
      IsWellTypedFrame p (results_of c.threads) t c.heap f → is_some (top_step p t th f.work f below out) ≡ top_runs c f.work f
  items_same [] f below s w frame = subst (λ (items : List Work). is_some (top_step p t th items f below out) ≡ top_runs c items f) (sym w) refl
  items_same (i ∷ rest) f below s w frame = by (by_kind i c.threads f)
    where
      by : (waits c.threads i f ≡ false) ⊎ (((u : ℕ) × (i ≡ work.Join u)) ⊎ (i ≡ work.Leave)) → is_some (top_step p t th f.work f below out) ≡ top_runs c f.work f
      by (inl k) = other_same i rest f below s w k
      by (inr (inl j)) = join_same j.0 rest f below s (w ∙ ap (λ (x : Work). x ∷ rest) j.1)
      by (inr (inr l)) = leave_same rest f below s (w ∙ ap (λ (x : Work). x ∷ rest) l) frame

  state_same : (st : State) → th.state ≡ st → is_some (thread_step p t th st out) ≡ state_runs c st
  state_same (state.Running f below) s = items_same f.work f below s refl (subst (IsWellTypedState p (results_of c.threads) t c.heap (result_type th)) s (ok.threads t th here)).0
  state_same (state.Failing e) s = refl
  state_same (state.Finished v) s = refl
  state_same state.Stopped s = refl

  pub thread_same : is_runnable p c t ≡ state_runs c th.state
  thread_same = stepped ∙ state_same th.state refl

-- ---- all threads

module _ (p : CastScript) (pok : IsTypedProgram p) (c : Configuration) (ok : IsWellTyped p c) where
  from_same : (ths : List Thread) (n : ℕ) → ((k : ℕ) (th : Thread) → slice_get ths k ≡ Some th → slice_get c.threads (n + k) ≡ Some th) → runnable_from p c n ths ≡ steps_from c n ths
  from_same [] n at = refl
  from_same (th ∷ ths) n at =
      let first : slice_get c.threads n ≡ Some th = subst (λ (m : ℕ). slice_get c.threads m ≡ Some th) (omega arith) (at 0 th refl) in
      let rest : runnable_from p c (n + 1) ths ≡ steps_from c (n + 1) ths =
      from_same ths (n + 1) (λ k x e. subst (λ (m : ℕ). slice_get c.threads m ≡ Some x) (omega arith) (at (suc k) x e)) in
      λ i. cond (thread_same p pok c ok n th first i) (n ∷ rest i) (rest i)

  pub able_same : runnable_threads p c ≡ able_threads c
  able_same = from_same c.threads 0 (λ k th e. subst (λ (m : ℕ). slice_get c.threads m ≡ Some th) (omega arith) e)

  place_same : (t : ℕ) (o : Option Thread) → slice_get c.threads t ≡ o → can_step c t ≡ is_runnable p c t
  unfolding step_of
  place_same t None e = ap (thread_runs c) e ∙ sym (ap (λ (o : Option Thread). is_some (step_at p t o c)) e)
  place_same t (Some th) e = ap (thread_runs c) e ∙ sym (thread_same p pok c ok t th e)

  pub step_same : (t : ℕ) → can_step c t ≡ is_runnable p c t
  step_same t = place_same t (slice_get c.threads t) refl
