-- A well-typed configuration isn't stuck.
use Rattle.std.proofs.Common.{Bool, List, None, Option, Some, [], ap, arith, false, if◌then◌else◌, is_some, length, nat_eq, nat_lt, refl, slice_get, subst, suc, sym, true, zero, ℕ, ◌+◌, ◌<◌, ◌∙◌, ◌∷◌, ◌≡◌, ◌≤◌}
use Rattle.std.proofs.lemmas.Bool.{false≢true}
use Rattle.std.proofs.lemmas.Option.{slice_get_past, slice_get_within}
use Rattle.mono_list.proofs.Cases.{none_some, some_is, split}
use Rattle.mono_syntax.specs.declared.cast.CastScript.{CastScript}
use Rattle.mono_tree.specs.TypedPrograms.{IsTypedProgram}
use Rattle.cast_machine.proofs.Heap.{nat_eq-same}
use Rattle.cast_machine.proofs.ThreadLists.{results_back}
use Rattle.cast_machine.proofs.Threads.{Rests, StepOk, step_ok}
use Rattle.cast_machine.specs.Calls.{value_in, value_of}
use Rattle.cast_machine.specs.Safety.{IsStuck, no_row, no_thread}
use Rattle.cast_machine.specs.Step.{Configuration, is_runnable, runnable_from, runnable_threads, step_at, step_of}
use Rattle.cast_machine.specs.Typing.{IsWellTyped, Lives}
use Rattle.cast_machine.specs.declared.data.State.{State}
use Rattle.cast_machine.specs.declared.data.State.TheVariants as state
use Rattle.cast_machine.specs.declared.data.Thread.{Thread}

-- where no thread has a step and no end is recorded, all are finished, the last ones first
module _ (p : CastScript) (pok : IsTypedProgram p) (c : Configuration) (ok : IsWellTyped p c) (e : c.end ≡ None) (none : (t : ℕ) → step_of p c t ≡ None) where
  abbrev IsFinished : State → Type 0
  IsFinished (state.Finished v) = Unit {0}
  IsFinished st = ⊥

  rest_at : (t : ℕ) (th : Thread) → slice_get c.threads t ≡ Some th → Rests c t th.state
  rest_at t th at = let i : StepOk p c t None = subst (λ o. StepOk p c t o) (none t) (step_ok p pok c ok t) in i th at

  value_there : (o : Option Thread) (th : Thread) → o ≡ Some th → value_in o ≡ None → IsFinished th.state → ⊥
  value_there o th d i f = go th.state refl f
    where
      go : (st : State) → th.state ≡ st → IsFinished st → ⊥
      go (state.Finished v) x y = let z : value_in o ≡ Some v = ap value_in d ∙ ap value_of x in none_some _ (sym i ∙ z)
      go (state.Running g below) x y = y
      go (state.Failing k) x y = y
      go state.Stopped x y = y

  all_done : (k t : ℕ) (th : Thread) → length c.threads ≤ t + k → slice_get c.threads t ≡ Some th → IsFinished th.state
  all_done zero t th le at = let w = slice_get_within c.threads t th at in absurd (omega arith)
  all_done (suc k) t th le at = go (λ u uh le' at'. all_done k u uh le' at') th.state (rest_at t th at) (ok.lives e t th at)
    where
      go : ((u : ℕ) (uh : Thread) → length c.threads ≤ u + k → slice_get c.threads u ≡ Some uh → IsFinished uh.state) → (st : State) → Rests c t st → Lives t st → IsFinished st
      go next (state.Running f below) r l =
          let w = r.1 in
          let b = results_back c.threads w.0 (w.1).result (w.1).at in
          absurd (value_there (slice_get c.threads w.0) b.0 b.1 w.2 (next w.0 b.0 (omega (arith, (w.1).later)) b.1))
      go next (state.Failing x) r l = r
      go next (state.Finished v) r l = tt
      go next state.Stopped r l = absurd l

  no_progress : ⊥
  no_progress =
      let m = ok.main in
      let f = all_done (length c.threads) 0 m.0 (omega arith) m.1 in
      go (m.0).state f (ok.lives e 0 m.0 m.1)
    where
      go : (st : State) → IsFinished st → Lives 0 st → ⊥
      go (state.Finished v) i l = omega arith
      go (state.Running f below) i l = i
      go (state.Failing x) i l = i
      go state.Stopped i l = i

pub not_stuck : (p : CastScript) (pok : IsTypedProgram p) (c : Configuration) → IsWellTyped p c → IsStuck p c → ⊥
not_stuck p pok c ok (no_row t th f below at st w e) =
    let i : StepOk p c t None = subst (λ o. StepOk p c t o) e (step_ok p pok c ok t) in
    let r : Rests c t (state.Running f below) = subst (Rests c t) st (i th at) in
    false≢true (sym w ∙ r.0)
not_stuck p pok c ok (no_thread e none) = no_progress p pok c ok e none

-- ---- progress: while no end is recorded some thread has a step

none_some_test : {A : Type 0} (o : Option A) → is_some o ≡ false → o ≡ None
none_some_test None e = refl
none_some_test (Some x) e = absurd (false≢true (sym e))

past_place : (n t : ℕ) → n ≤ t → nat_eq n t ≡ false → n + 1 ≤ t
past_place n t low other = grind arith

-- the thread at a place has no step, and none behind it has
here_or_past : (p : CastScript) (c : Configuration) (n t : ℕ) → n ≤ t → step_of p c n ≡ None → (n + 1 ≤ t → step_of p c t ≡ None) → (b : Bool) → nat_eq n t ≡ b → step_of p c t ≡ None
here_or_past p c n t low x next true same = subst (λ k. step_of p c k ≡ None) (nat_eq-same n t same) x
here_or_past p c n t low x next false other = next (past_place n t low other)

-- where no thread of a list is runnable, none has a step
none_from : (p : CastScript) (c : Configuration) (ths : List Thread) (n : ℕ) → runnable_from p c n ths ≡ [] → (t : ℕ) → n ≤ t → t < n + length ths → step_of p c t ≡ None
none_from p c [] n e t low high = absurd (omega arith)
none_from p c (th ∷ ths) n e t low high =
    split (is_runnable p c n) (λ b. (if b then n ∷ runnable_from p c (n + 1) ths else runnable_from p c (n + 1) ths) ≡ [] → step_of p c t ≡ None)
    (λ y z. absurd cc)
    (λ f z. here_or_past p c n t low (none_some_test (step_of p c n) f) (λ le. none_from p c ths (n + 1) z t le (omega arith)) (nat_eq n t) refl)
    e

-- there is no thread past the list
none_past : (p : CastScript) (c : Configuration) (t : ℕ) → length c.threads ≤ t → step_of p c t ≡ None
unfolding step_of
none_past p c t le = ap (λ o. step_at p t o c) (slice_get_past c.threads t le)

pub all_none : (p : CastScript) (c : Configuration) → runnable_threads p c ≡ [] → (t : ℕ) → step_of p c t ≡ None
all_none p c e t = go (nat_lt t (length c.threads)) refl
  where
    go : (b : Bool) → nat_lt t (length c.threads) ≡ b → step_of p c t ≡ None
    go true d = none_from p c c.threads 0 e t (omega arith) (grind arith)
    go false d = none_past p c t (grind arith)

first_or_later : (p : CastScript) (c : Configuration) (n k t : ℕ) (later : List ℕ) → is_runnable p c n ≡ true → ((j : ℕ) → slice_get later j ≡ Some t → is_runnable p c t ≡ true) → slice_get (n ∷ later) k ≡ Some t → is_runnable p c t ≡ true
first_or_later p c n zero t later y next z = subst (λ u. is_runnable p c u ≡ true) (some_is z) y
first_or_later p c n (suc k) t later y next z = next k z

-- a thread of the runnable ones has a step
pub runnable_steps : (p : CastScript) (c : Configuration) (ths : List Thread) (n k t : ℕ) → slice_get (runnable_from p c n ths) k ≡ Some t → is_runnable p c t ≡ true
runnable_steps p c [] n k t e = none_some _ e
runnable_steps p c (th ∷ ths) n k t e =
    split (is_runnable p c n) (λ b. slice_get (if b then n ∷ runnable_from p c (n + 1) ths else runnable_from p c (n + 1) ths) k ≡ Some t → is_runnable p c t ≡ true)
    (λ y z. first_or_later p c n k t (runnable_from p c (n + 1) ths) y (λ j w. runnable_steps p c ths (n + 1) j t w) z)
    (λ f z. runnable_steps p c ths (n + 1) k t z)
    e

-- some thread is runnable
pub progress : (p : CastScript) (pok : IsTypedProgram p) (c : Configuration) → IsWellTyped p c → c.end ≡ None → 0 < length (runnable_threads p c)
progress p pok c ok e = go (runnable_threads p c) refl
  where
    go : (r : List ℕ) → runnable_threads p c ≡ r → 0 < length r
    go [] d = absurd (no_progress p pok c ok e (all_none p c d))
    go (t ∷ r) d = omega arith
