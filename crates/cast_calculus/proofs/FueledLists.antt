-- Lists of threads with fuel.
use Rattle.std.proofs.Common.{◌≡◌, ℕ, zero, suc, ◌+◌, ◌<◌, ◌≤◌, ◌&&◌, List, [], ◌∷◌, ◌++◌, length, Option, Some, None, is_some, nat_lt, slice_get, slice_set, set, refl, ap, sym, ◌∙◌, subst, arith, length-append}
use Rattle.std.specs.Prelude.{if◌then◌else◌}
use Rattle.std.proofs.lemmas.Option.{slice_get_past}
use borrow.Author.Tests.{ltb-true}
use Rattle.mono_syntax.specs.declared.cast.CastScript.{CastScript}
use Rattle.mono_syntax.specs.declared.value.Val.{Val}
use Rattle.cast_machine.specs.declared.data.Change.{Change}
use Rattle.cast_machine.specs.declared.data.Change.TheVariants as change
use Rattle.cast_machine.specs.declared.data.Outcome.{Outcome}
use Rattle.cast_machine.specs.declared.data.Outcome.TheVariants as outcome
use Rattle.cast_machine.specs.declared.data.Settings.{Settings}
use Rattle.cast_machine.specs.declared.data.State.{State}
use Rattle.cast_machine.specs.declared.data.State.TheVariants as state
use Rattle.cast_machine.specs.declared.data.Frame.{Frame}
use Rattle.cast_machine.specs.declared.data.Work.{Work}
use Rattle.cast_machine.specs.Calls.{words_of}
use Rattle.cast_machine.specs.Step.{Configuration, act, changed, fueled, heeds, moved, placed, step_at, step_of, taken_out, thread_step, top_step}
use Rattle.cast_machine.proofs.Heap.{on_test}
use Rattle.mono_list.proofs.Cases.{some_is, none_some}
use Rattle.cast_machine.specs.declared.data.Thread.{Thread}
use Rattle.cast_machine.proofs.WithinLimits.{words_of-append}
use Rattle.cast_machine.specs.RunLimits.{IsFueledIn}
use Rattle.cast_calculus.specs.Fueled.{IsFueled, AreFueled, IsBegun, IsFresh}

pub are_fueled_set : (fuel : ℕ) (ths : List Thread) (i : ℕ) (th : Thread) → AreFueled fuel ths → IsFueled fuel th → AreFueled fuel (set ths i th)
are_fueled_set fuel [] i th h f = tt
are_fueled_set fuel (x ∷ ths) zero th h f = (f, h.1)
are_fueled_set fuel (x ∷ ths) (suc i) th h f = (h.0, are_fueled_set fuel ths i th h.1 f)

pub are_fueled_more : (fuel : ℕ) (ths : List Thread) (th : Thread) → AreFueled fuel ths → IsFueled fuel th → AreFueled fuel (ths ++ th ∷ [])
are_fueled_more fuel [] th h f = (f, tt)
are_fueled_more fuel (x ∷ ths) th h f = (h.0, are_fueled_more fuel ths th h.1 f)

pub is_fueled_at : (fuel : ℕ) (ths : List Thread) (i : ℕ) (th : Thread) → AreFueled fuel ths → slice_get ths i ≡ Some th → IsFueled fuel th
is_fueled_at fuel [] i th h e = none_some _ e
is_fueled_at fuel (x ∷ ths) zero th h e = subst (IsFueled fuel) (some_is e) h.0
is_fueled_at fuel (x ∷ ths) (suc i) th h e = is_fueled_at fuel ths i th h.1 e

-- ---- what a change leaves

pub changed_within : (d : Change) (c : Configuration) (t : ℕ) → t < length c.threads → t < length (changed d c).threads
changed_within change.Same c t h = h
changed_within (change.Sets a x e) c t h = h
changed_within (change.Adds o) c t h = h
changed_within (change.Says line) c t h = h
changed_within (change.Begins th) c t h = omega (arith, length-append c.threads (th ∷ []))
changed_within (change.Ends e) c t h = h

pub changed_settings : (d : Change) (c : Configuration) → (changed d c).settings ≡ c.settings
changed_settings change.Same c = refl
changed_settings (change.Sets a x e) c = refl
changed_settings (change.Adds o) c = refl
changed_settings (change.Says line) c = refl
changed_settings (change.Begins th) c = refl
changed_settings (change.Ends e) c = refl

pub fueled_fueled : (fuel n : ℕ) (s : State) → IsFueledIn fuel n (fueled fuel n s)
fueled_fueled fuel n (state.Running f below) = on_test (nat_lt n fuel) _ _ (λ (s : State). IsFueledIn fuel n s) (λ t. ltb-true _ _ t) (λ _. tt)
fueled_fueled fuel n (state.Failing e) = tt
fueled_fueled fuel n (state.Finished v) = tt
fueled_fueled fuel n state.Stopped = tt

pub changed_fueled : (d : Change) (c e : Configuration) (n : ℕ) (s : State) → e ≡ changed d c → IsFueledIn e.settings.fuel n (fueled c.settings.fuel n s)
changed_fueled d c e n s is =
    subst (λ (q : Settings). IsFueledIn q.fuel n (fueled c.settings.fuel n s)) (sym (ap (λ (k : Configuration). k.settings) is ∙ changed_settings d c)) (fueled_fueled c.settings.fuel n s)

pub changed_room : (d : Change) (c e : Configuration) (t : ℕ) → e ≡ changed d c → t < length c.threads → t < length e.threads
changed_room d c e t is h = subst (λ (k : Configuration). t < length k.threads) (sym is) (changed_within d c t h)

-- a thread that begins has fuel
pub begun_fueled : (fuel : ℕ) (d : Change) (s : State) → 1 ≤ fuel → IsFresh (outcome.Moves d s) → IsBegun fuel d
begun_fueled fuel change.Same s h f = tt
begun_fueled fuel (change.Sets a x e) s h f = tt
begun_fueled fuel (change.Adds o) s h f = tt
begun_fueled fuel (change.Says line) s h f = tt
begun_fueled fuel (change.Begins th) s h f = by th.state th.steps f
  where
    by : (q : State) (n : ℕ) → n ≡ 0 → IsFueledIn fuel n q
    by (state.Running g below) n e = omega arith
    by (state.Failing e) n z = tt
    by (state.Finished v) n z = tt
    by state.Stopped n z = tt
begun_fueled fuel (change.Ends e) s h f = tt

-- ---- a thread that was taken out

moved_same : (t : ℕ) (th : Thread) (o : Outcome) (c : Configuration) → moved t (record { asked = th.asked; state = state.Stopped; steps = th.steps }) o c ≡ moved t th o c
moved_same t th outcome.NoRow c = refl
moved_same t th outcome.Waits c = refl
moved_same t th (outcome.Moves d s) c = refl

pub top_same : (p : CastScript) (t : ℕ) (th : Thread) (items : List Work) (f : Frame) (below : List Frame) (c : Configuration) →
    top_step p t (record { asked = th.asked; state = state.Stopped; steps = th.steps }) items f below c ≡ top_step p t th items f below c
top_same p t th [] f below c = refl
top_same p t th (i ∷ rest) f below c =
    ap (λ (o : Option Configuration). if is_some c.end && heeds i then Some (placed t th state.Stopped th.steps c) else o) (moved_same t th (act p c i (record f { work = rest }) below) c)

-- the step of a thread that is there
pub step_there : (p : CastScript) (c : Configuration) (t : ℕ) (th : Thread) → slice_get c.threads t ≡ Some th → thread_step p t th th.state (record c { threads = slice_set c.threads t taken_out }) ≡ step_of p c t
unfolding step_of
step_there p c t th e = sym (ap (λ (o : Option Thread). step_at p t o c) e)

pub step_past : (p : CastScript) (c : Configuration) (t : ℕ) → length c.threads ≤ t → None ≡ step_of p c t
unfolding step_of
step_past p c t h = sym (ap (λ (o : Option Thread). step_at p t o c) (slice_get_past c.threads t h))

pub ruleset fueled_lists = (are_fueled_set, are_fueled_more, is_fueled_at, words_of-append)

pub ruleset counting = (changed_fueled, changed_room)

pub ruleset begun = (begun_fueled)

pub ruleset stepping = (top_same, step_there, step_past)
