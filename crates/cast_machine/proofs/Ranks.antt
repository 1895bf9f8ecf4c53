-- Each step leaves a smaller rank: what the threads may still do, and what threads that aren't made may do.
use Rattle.std.proofs.Math.Nat.{suc-mul}
use Rattle.std.proofs.Common.{List, None, Option, Some, [], ap, arith, is_some, length, length-append, nat_lt, refl, slice_get, slice_set, subst, suc, suc-mul, sym, true, unwrap_or, zero, ℕ, ◌&&◌, ◌*◌, ◌++◌, ◌+◌, ◌-◌, ◌<◌, ◌∙◌, ◌∷◌, ◌≡◌, ◌≤◌}
use Rattle.std.proofs.lemmas.Bool.{false≢true}
use Rattle.mono_list.proofs.Cases.{none_some, some_is}
use Rattle.mono_syntax.specs.Limits.{most_items, most_threads}
use Rattle.mono_syntax.specs.Ty.{Ty}
use Rattle.mono_syntax.specs.declared.cast.CastScript.{CastScript}
use Rattle.mono_tree.specs.TypedPrograms.{IsTypedProgram}
use Rattle.cast_machine.proofs.Heap.{on_test}
use Rattle.cast_machine.proofs.Obligations.{BegunOk, Kept, heap_after, results_after}
use Rattle.cast_machine.proofs.Rows.{ActOk, act_ok}
use Rattle.cast_machine.proofs.ThreadLists.{length-slice_set, results_length, set_again, set_append, set_here}
use Rattle.cast_machine.proofs.Threads.{here_ok}
use Rattle.cast_machine.specs.Heap.{Heap}
use Rattle.cast_machine.specs.Step.{Configuration, act, changed, counted, first_end, fueled, heeds, is_runnable, items_of, moved, picked, placed, start_of, step_at, step_of, taken_out, thread_step, top_step}
use Rattle.cast_machine.specs.Typing.{IsWellTyped, IsWellTypedFrame, IsWellTypedStack, IsWellTypedState, around, result_type, results_of}
use Rattle.cast_machine.specs.WorkTyping.{IsWellTypedTop}
use Rattle.cast_machine.specs.declared.data.Change.{Change}
use Rattle.cast_machine.specs.declared.data.Change.TheVariants as change
use Rattle.cast_machine.specs.declared.data.End.{End}
use Rattle.cast_machine.specs.declared.data.End.TheVariants as ends
use Rattle.cast_machine.specs.declared.data.Frame.{Frame}
use Rattle.cast_machine.specs.declared.data.Outcome.{Outcome}
use Rattle.cast_machine.specs.declared.data.Outcome.TheVariants as outcome
use Rattle.cast_machine.specs.declared.data.Settings.{Settings}
use Rattle.cast_machine.specs.declared.data.State.{State}
use Rattle.cast_machine.specs.declared.data.State.TheVariants as state
use Rattle.cast_machine.specs.declared.data.Thread.{Thread}
use Rattle.cast_machine.specs.declared.data.Work.{Work}

-- a running thread's steps that are left, and two more to fail and to record its end
abbrev pub state_rank : ℕ → State → ℕ → ℕ
state_rank fuel (state.Running f below) n = 2 + (fuel - n)
state_rank fuel (state.Failing e) n = 1
state_rank fuel (state.Finished v) n = 0
state_rank fuel state.Stopped n = 0

abbrev pub thread_rank : ℕ → Thread → ℕ
thread_rank fuel th = state_rank fuel th.state th.steps

abbrev pub threads_rank : ℕ → List Thread → ℕ
threads_rank fuel [] = 0
threads_rank fuel (th ∷ ths) = thread_rank fuel th + threads_rank fuel ths

-- with the threads that may still be made
abbrev pub total : ℕ → List Thread → ℕ
total fuel ths = threads_rank fuel ths + (most_threads - length ths) * (fuel + 2)

abbrev pub rank : Configuration → ℕ
rank c = total c.settings.fuel c.threads

-- ---- lists of threads

rank-set : (fuel : ℕ) (ths : List Thread) (t : ℕ) (old new : Thread) → slice_get ths t ≡ Some old → thread_rank fuel new < thread_rank fuel old → threads_rank fuel (slice_set ths t new) < threads_rank fuel ths
rank-set fuel [] t old new e less = none_some _ e
rank-set fuel (x ∷ ths) zero old new e less =
    let same : thread_rank fuel x ≡ thread_rank fuel old = ap (thread_rank fuel) (some_is e) in
    smaller (thread_rank fuel new) (thread_rank fuel x) (threads_rank fuel ths) (subst (λ k. thread_rank fuel new < k) (sym same) less)
  where
    smaller : (a b c : ℕ) → a < b → a + c < b + c
    smaller a b c h = omega arith
rank-set fuel (x ∷ ths) (suc t) old new e less = later (thread_rank fuel x) (threads_rank fuel (slice_set ths t new)) (threads_rank fuel ths) (rank-set fuel ths t old new e less)
  where
    later : (a b c : ℕ) → b < c → a + b < a + c
    later a b c h = omega arith

rank-append : (fuel : ℕ) (ths : List Thread) (th : Thread) → threads_rank fuel (ths ++ th ∷ []) ≡ threads_rank fuel ths + thread_rank fuel th
rank-append fuel [] th = omega arith
rank-append fuel (x ∷ ths) th = plus (thread_rank fuel x) (threads_rank fuel (ths ++ th ∷ [])) (threads_rank fuel ths) (thread_rank fuel th) (rank-append fuel ths th)
  where
    plus : (a b c d : ℕ) → b ≡ c + d → a + b ≡ a + c + d
    plus a b c d h = omega arith

total-set : (fuel : ℕ) (ths : List Thread) (t : ℕ) (old new : Thread) → slice_get ths t ≡ Some old → thread_rank fuel new < thread_rank fuel old → total fuel (slice_set ths t new) < total fuel ths
total-set fuel ths t old new e less =
    let r = rank-set fuel ths t old new e less in
    let l = length-slice_set ths t new in
    subst (λ n. threads_rank fuel (slice_set ths t new) + (most_threads - n) * (fuel + 2) < total fuel ths) (sym l)
    (smaller (threads_rank fuel (slice_set ths t new)) (threads_rank fuel ths) ((most_threads - length ths) * (fuel + 2)) r)
  where
    smaller : (a b c : ℕ) → a < b → a + c < b + c
    smaller a b c h = omega arith

-- one thread fewer that may be made
fewer : (n k : ℕ) → n < most_threads → (most_threads - n) * k ≡ (most_threads - (n + 1)) * k + k
fewer n k h = let e : most_threads - n ≡ suc (most_threads - (n + 1)) = omega arith in ap (λ m. m * k) e ∙ suc-mul (most_threads - (n + 1)) k

total-append : (fuel : ℕ) (ths : List Thread) (th : Thread) → length ths < most_threads → thread_rank fuel th ≤ fuel + 2 → total fuel (ths ++ th ∷ []) ≤ total fuel ths
total-append fuel ths th room small =
    let l : length (ths ++ th ∷ []) ≡ length ths + 1 = omega (arith, length-append ths (th ∷ [])) in
    subst (λ n. threads_rank fuel (ths ++ th ∷ []) + (most_threads - n) * (fuel + 2) ≤ total fuel ths) (sym l)
    (joined (threads_rank fuel (ths ++ th ∷ [])) (threads_rank fuel ths) (thread_rank fuel th) (fuel + 2) ((most_threads - (length ths + 1)) * (fuel + 2)) ((most_threads - length ths) * (fuel + 2)) (rank-append fuel ths th) small (fewer (length ths) (fuel + 2) room))
  where
    joined : (a b c k m n : ℕ) → a ≡ b + c → c ≤ k → n ≡ m + k → a + m ≤ b + n
    joined a b c k m n e h d = omega arith

-- ---- a step

fueled_rank : (fuel n : ℕ) (st : State) → state_rank fuel (fueled fuel (n + 1) st) (n + 1) < 2 + (fuel - n)
fueled_rank fuel n (state.Running f below) =
    on_test (nat_lt (n + 1) fuel) _ _ (λ s. state_rank fuel s (n + 1) < 2 + (fuel - n))
    (λ on. let less : n + 1 < fuel = nat_lt-below (n + 1) fuel on in omega arith)
    (λ out. omega arith)
  where
    nat_lt-below : (a b : ℕ) → nat_lt a b ≡ true → a < b
    nat_lt-below a b e = grind arith
fueled_rank fuel n (state.Failing e) = omega arith
fueled_rank fuel n (state.Finished v) = omega arith
fueled_rank fuel n state.Stopped = omega arith

begun_rank : (fuel : ℕ) (th : Thread) → th.steps ≡ 0 → thread_rank fuel th ≤ fuel + 2
begun_rank fuel th e = go th.state th.steps e
  where
    go : (st : State) (n : ℕ) → n ≡ 0 → state_rank fuel st n ≤ fuel + 2
    go (state.Running f below) n d = omega arith
    go (state.Failing x) n d = omega arith
    go (state.Finished v) n d = omega arith
    go state.Stopped n d = omega arith

abbrev pub StepFalls : Configuration → Option Configuration → Type 0
StepFalls c None = Unit {0}
StepFalls c (Some after) = rank after < rank c

module _ (p : CastScript) (pok : IsTypedProgram p) (c : Configuration) (ok : IsWellTyped p c) (t : ℕ) where
  abbrev fuel : ℕ
  fuel = c.settings.fuel

  abbrev out : Configuration
  out = record c { threads = slice_set c.threads t taken_out }

  module _ (old : Thread) (at : slice_get c.threads t ≡ Some old) (st : State) (n : ℕ) (less : state_rank c.settings.fuel st n < thread_rank c.settings.fuel old) where
    abbrev new : Thread
    new = record old { state = st; steps = n }

    back : total fuel (slice_set (slice_set c.threads t taken_out) t new) < total fuel c.threads
    back = subst (λ l. total fuel l < total fuel c.threads) (sym (set_again c.threads t taken_out new)) (total-set fuel c.threads t old new at less)

    stays_falls : (e : Option End) → StepFalls c (Some (placed t old st n (record out { end = e })))
    stays_falls e = back

    changed_falls : (d : Change) (h : Heap) (rs : List Ty) → BegunOk p rs (length c.threads) h d → StepFalls c (Some (placed t old st n (changed d out)))
    changed_falls change.Same h rs i = back
    changed_falls (change.Sets a x k) h rs i = back
    changed_falls (change.Adds o) h rs i = back
    changed_falls (change.Says line) h rs i = back
    changed_falls (change.Begins th) h rs i =
        let ths = slice_set c.threads t new in
        let l = length-slice_set c.threads t new in
        let first : total fuel ths < total fuel c.threads = total-set fuel c.threads t old new at less in
        let more : total fuel (ths ++ th ∷ []) ≤ total fuel ths = total-append fuel ths th (subst (λ k. k < most_threads) (sym l) i.2) (begun_rank fuel th i.3) in
        let same : slice_set (slice_set c.threads t taken_out ++ th ∷ []) t new ≡ ths ++ th ∷ [] =
        set_append (slice_set c.threads t taken_out) t new th taken_out (set_here c.threads t taken_out old at) ∙ ap (λ k. k ++ th ∷ []) (set_again c.threads t taken_out new) in
        subst (λ k. total fuel k < total fuel c.threads) (sym same) (below_both (total fuel (ths ++ th ∷ [])) (total fuel ths) (total fuel c.threads) more first)
      where
        below_both : (a b k : ℕ) → a ≤ b → b < k → a < k
        below_both a b k x y = omega arith
    changed_falls (change.Ends e) h rs i = back

  running_rank : (old : Thread) (f : Frame) (below : List Frame) → old.state ≡ state.Running f below → thread_rank fuel old ≡ 2 + (fuel - old.steps)
  running_rank old f below e = ap (λ s. state_rank fuel s old.steps) e

  counted_falls : (old : Thread) → slice_get c.threads t ≡ Some old → (f : Frame) (below : List Frame) → old.state ≡ state.Running f below → (d : Change) (st : State) → Kept p (results_of c.threads) t c.heap (result_type old) d st → StepFalls c (Some (counted t old d st out))
  counted_falls old at f below e d st k =
      let r = running_rank old f below e in
      on_test (nat_lt most_items (items_of st)) _ _ (λ after. StepFalls c (Some after))
      (λ deep. stays_falls old at (state.Failing ends.DepthLimit) (old.steps + 1) (subst (λ m. 1 < m) (sym r) (omega arith)) c.end)
      (λ fits. changed_falls old at (fueled fuel (old.steps + 1) st) (old.steps + 1) (subst (λ m. state_rank fuel (fueled fuel (old.steps + 1) st) (old.steps + 1) < m) (sym r) (fueled_rank fuel old.steps st)) d
      (heap_after d c.heap) (results_after d (results_of c.threads)) (subst (λ m. BegunOk p (results_after d (results_of c.threads)) m (heap_after d c.heap) d) (results_length c.threads) k.begun))

  moved_falls : (old : Thread) → slice_get c.threads t ≡ Some old → (f : Frame) (below : List Frame) → old.state ≡ state.Running f below → (items : List Work) (o : Outcome) → ActOk p (results_of c.threads) t out.threads c.heap (result_type old) items o → StepFalls c (moved t old o out)
  moved_falls old at f below e items outcome.NoRow i = tt
  moved_falls old at f below e items outcome.Waits i = tt
  moved_falls old at f below e items (outcome.Moves d st) i = counted_falls old at f below e d st i

  top_falls : (old : Thread) → slice_get c.threads t ≡ Some old → (f : Frame) (below : List Frame) → old.state ≡ state.Running f below → (i : IsWellTypedFrame p (results_of c.threads) t c.heap f) → IsWellTypedStack p (results_of c.threads) t c.heap f.asked below (result_type old) → (items : List Work) → f.work ≡ items → StepFalls c (top_step p t old items f below out)
  top_falls old at f below e i st [] w = tt
  top_falls old at f below e i st (item ∷ items) w =
      on_test (is_some c.end && heeds item) _ _ (StepFalls c)
      (λ over. stays_falls old at state.Stopped old.steps (subst (λ m. 0 < m) (sym (running_rank old f below e)) (omega arith)) c.end)
      (λ on. moved_falls old at f below e (item ∷ items) (act p out item (record f { work = items }) below)
      (act_ok p pok out i.scope (results_of c.threads) t (result_type old) (record f { work = items }) below (here_ok p pok c ok t old at f below i items st) item i.types i.values
      (subst (λ k. IsWellTypedTop p (around i.scope f.asked (results_of c.threads) t) c.heap [] k f.values i.types) w i.work)))

  state_falls : (old : Thread) → slice_get c.threads t ≡ Some old → (st : State) → old.state ≡ st → IsWellTypedState p (results_of c.threads) t c.heap (result_type old) st → StepFalls c (thread_step p t old st out)
  state_falls old at (state.Running f below) e i = top_falls old at f below e i.0 i.1 f.work refl
  state_falls old at (state.Failing x) e i = stays_falls old at state.Stopped old.steps (subst (λ s. 0 < state_rank fuel s old.steps) (sym e) (omega arith)) (first_end c.end x)
  state_falls old at (state.Finished v) e i = tt
  state_falls old at state.Stopped e i = tt

  at_falls : (o : Option Thread) → slice_get c.threads t ≡ o → StepFalls c (step_at p t o c)
  at_falls None e = tt
  at_falls (Some th) e = state_falls th e th.state refl (ok.threads t th e)

  pub step_falls : StepFalls c (step_of p c t)
  unfolding step_of
  step_falls = at_falls (slice_get c.threads t) refl

  -- a pick of a runnable thread
  pub pick_falls : is_runnable p c t ≡ true → rank (picked p c t) < rank c
  pick_falls e = go (step_of p c t) e step_falls
    where
      go : (o : Option Configuration) → is_some o ≡ true → StepFalls c o → rank (unwrap_or o c) < rank c
      go None i j = absurd (false≢true i)
      go (Some after) i j = j

-- the rank at the start
pub start_rank : (p : CastScript) (s : Settings) → rank (start_of p s) ≤ most_threads * (s.fuel + 2)
start_rank p s = omega arith
