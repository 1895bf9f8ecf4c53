-- Where a cast goes, its value has the target type.
use Rattle.cast_machine.specs.BlamedSites.{IsFitSite}
use Rattle.std.proofs.Common.{◌⊎◌, Bool, List, None, Option, Some, [], ap, false, inl, inr, is_some, nat_lt, refl, slice_get, slice_set, subst, sym, true, unwrap_or, ℕ, ◌&&◌, ◌++◌, ◌+◌, ◌∙◌, ◌∷◌, ◌≡◌}
use Rattle.std.proofs.lemmas.Bool.{false≢true}
use Rattle.mono_list.proofs.Cases.{some_is}
use Rattle.mono_syntax.specs.Limits.{most_items}
use Rattle.mono_syntax.specs.Ty.{Ty}
use Rattle.mono_syntax.specs.declared.cast.CastScript.{CastScript}
use Rattle.mono_syntax.specs.declared.value.Val.{Val}
use Rattle.mono_tree.specs.Sites.{IsSite}
use Rattle.mono_syntax.specs.declared.leaf.Kind.TheVariants as kinds
use Rattle.cast_machine.proofs.Blames.{fit_target}
use Rattle.mono_tree.specs.CastScripts.{target_of}
use Rattle.cast_machine.proofs.Fitting.{FitOk, fit_ok}
use Rattle.cast_machine.proofs.Grows.{HeapOk}
use Rattle.cast_machine.proofs.Heap.{on_test}
use Rattle.cast_machine.proofs.Obligations.{heap_after, owns-all}
use Rattle.cast_machine.proofs.ThreadLists.{end_there, set_here}
use Rattle.cast_machine.specs.Fits.{fit_of}
use Rattle.cast_machine.specs.Heap.{Heap, set_cell}
use Rattle.cast_machine.specs.HeapTyping.{AreTyped, HasType}
use Rattle.cast_machine.specs.Rows.{fit_at, fit_top, fit_value}
use Rattle.cast_machine.specs.Safety.{CastsHold, LeavesAt, Went}
use Rattle.cast_machine.specs.Step.{Configuration, act, changed, fueled, heeds, items_of, moved, placed, step_at, step_of, taken_out, thread_step, top_step}
use Rattle.cast_machine.specs.Typing.{IsWellTyped, IsWellTypedState, around, result_type, results_of}
use Rattle.cast_machine.specs.WorkTyping.{Around, IsWellTypedTop, OnTop}
use Rattle.cast_machine.specs.declared.data.Change.{Change}
use Rattle.cast_machine.specs.declared.data.Change.TheVariants as change
use Rattle.cast_machine.specs.declared.data.End.TheVariants as ends
use Rattle.cast_machine.specs.declared.data.Fit.{Fit}
use Rattle.cast_machine.specs.declared.data.Fit.TheVariants as fits
use Rattle.cast_machine.specs.declared.data.Frame.{Frame}
use Rattle.cast_machine.specs.declared.data.Outcome.{Outcome}
use Rattle.cast_machine.specs.declared.data.Outcome.TheVariants as outcome
use Rattle.cast_machine.specs.declared.data.State.{State}
use Rattle.cast_machine.specs.declared.data.State.TheVariants as state
use Rattle.cast_machine.specs.declared.data.Thread.{Thread}
use Rattle.cast_machine.specs.declared.data.Work.{Work}
use Rattle.cast_machine.specs.declared.data.Work.TheVariants as work

abbrev pub StateHas : (Frame → Type 0) → State → Type 0
StateHas Q (state.Running f below) = Q f
StateHas Q s = Unit {0}

abbrev pub OutcomeHas : Heap → (Heap → Frame → Type 0) → Outcome → Type 0
OutcomeHas h Q outcome.NoRow = ⊥
OutcomeHas h Q outcome.Waits = ⊥
OutcomeHas h Q (outcome.Moves d st) = StateHas (Q (heap_after d h)) st

set_get : (vs : List Val) (j : ℕ) (u v : Val) → slice_get vs j ≡ Some v → slice_get (slice_set vs j u) j ≡ Some u
set_get vs j u v e = set_here vs j u v e

fit_has : (p : CastScript) (h : Heap) (f : Frame) (below : List Frame) (k : ℕ) (T : Ty) (v : Val) → slice_get f.values 0 ≡ Some v → (o : Fit) → FitOk p h v T o → OutcomeHas h (λ g x. Went g (work.Cast k) f.work T 0 x) (fit_value k T 0 o f below)
fit_has p h f below k T v at fits.Unfit i = tt
fit_has p h f below k T v at (fits.Holds u) i = inl (refl, (u, set_get f.values 0 u v at, i.1))
fit_has p h f below k T v at (fits.Opens c b) i = inr (k, c, b, refl, refl)

top_has : (p : CastScript) (h : Heap) → HeapOk p h → (f : Frame) (below : List Frame) (k : ℕ) (T : Ty) (vs : List Val) (ts : List Ty) → f.values ≡ vs → AreTyped p h vs ts → (P : Ty → List Ty → Type 0) → OnTop ts P → OutcomeHas h (λ g x. Went g (work.Cast k) f.work T 0 x) (fit_at p k T 0 (slice_get vs 0) f below)
top_has p h ok f below k T (v ∷ vs) (S ∷ ts) e vok P i = fit_has p h f below k T v (ap (λ l. slice_get l 0) e) (fit_of p v T) (fit_ok p h ok v T vok.0.0)
top_has p h ok f below k T [] [] e vok P i = absurd i
top_has p h ok f below k T [] (S ∷ ts) e vok P i = absurd vok
top_has p h ok f below k T (v ∷ vs) [] e vok P i = absurd vok

cast_has : (p : CastScript) (h : Heap) → HeapOk p h → (f : Frame) (below : List Frame) (k : ℕ) (T : Ty) (ts : List Ty) → AreTyped p h f.values ts → (P : Ty → List Ty → Type 0) → OnTop ts P → target_of p k ≡ Some T → OutcomeHas h (λ g x. Went g (work.Cast k) f.work T 0 x) (fit_top p k (target_of p k) f below)
cast_has p h ok f below k T ts vok P i e =
    subst (λ o. OutcomeHas h (λ g x. Went g (work.Cast k) f.work T 0 x) (fit_top p k o f below)) (sym e) (top_has p h ok f below k T f.values ts refl vok P i)

-- a Fitted's type is the one that it is said to leave
left_type : (p : CastScript) (k : ℕ) (U T : Ty) → IsFitSite p k U → (U ≡ T) ⊎ (IsSite p k kinds.Cast × (target_of p k ≡ Some T)) → U ≡ T
left_type p k U T s (inl e) = e
left_type p k U T s (inr i) = fit_target p k U T s i.0 i.1

item_has : (p : CastScript) (c : Configuration) → HeapOk p c.heap → (q : Around) (item : Work) (f : Frame) (below : List Frame) (ts : List Ty) (T : Ty) (j : ℕ) → AreTyped p c.heap f.values ts → IsWellTypedTop p q c.heap [] (item ∷ f.work) f.values ts → LeavesAt p item T j → OutcomeHas c.heap (λ g x. Went g item f.work T j x) (act p c item f below)
item_has p c ok q (work.Cast k) f below ts T j vok tok x =
    subst (λ n. OutcomeHas c.heap (λ g y. Went g (work.Cast k) f.work T n y) (fit_top p k (target_of p k) f below)) (sym x.1)
    (cast_has p c.heap ok f below k T ts vok _ tok.1 x.0)
item_has p c ok q (work.Fitted k U n) f below ts T j vok tok x =
    inl (refl, (tok.value, subst (λ m. slice_get f.values m ≡ Some tok.value) x.1 tok.at, subst (λ V. HasType c.heap tok.value V) (left_type p k U T tok.site x.0) (owns-all p c.heap tok.value U tok.owns).1))
item_has p c ok q item f below ts T j vok tok x = absurd x

no_heed : (p : CastScript) (item : Work) (T : Ty) (j : ℕ) → LeavesAt p item T j → heeds item ≡ false
no_heed p (work.Cast k) T j x = refl
no_heed p (work.Fitted k U n) T j x = refl
no_heed p item T j x = absurd x

and_no : (a b : Bool) → b ≡ false → (a && b) ≡ false
and_no true b e = e
and_no false b e = refl

-- what stands at t after the step
abbrev pub NextHas : ℕ → (Heap → Frame → Type 0) → Option Configuration → Type 0
NextHas t Q None = ⊥
NextHas t Q (Some c) = (th : Thread) → slice_get c.threads t ≡ Some th → StateHas (Q c.heap) th.state

module _ (c : Configuration) (t : ℕ) (old : Thread) (at : slice_get c.threads t ≡ Some old) (Q : Heap → Frame → Type 0) where
  abbrev out : Configuration
  out = record c { threads = slice_set c.threads t taken_out }

  there : slice_get out.threads t ≡ Some taken_out
  there = set_here c.threads t taken_out old at

  put_has : (ths : List Thread) (x : Thread) → slice_get ths t ≡ Some x → (h : Heap) (st : State) (n : ℕ) → StateHas (Q h) st → (th : Thread) → slice_get (slice_set ths t (record old { state = st; steps = n })) t ≡ Some th → StateHas (Q h) th.state
  put_has ths x e h st n i th z = subst (λ (k : Thread). StateHas (Q h) k.state) (some_is (sym (set_here ths t (record old { state = st; steps = n }) x e) ∙ z)) i

  placed_has : (d : Change) (st : State) (n : ℕ) → StateHas (Q (heap_after d c.heap)) st → NextHas t Q (Some (placed t old st n (changed d out)))
  placed_has change.Same st n i = put_has out.threads taken_out there c.heap st n i
  placed_has (change.Sets a x k) st n i = put_has out.threads taken_out there (set_cell c.heap a x k) st n i
  placed_has (change.Adds o) st n i = put_has out.threads taken_out there (c.heap ++ o ∷ []) st n i
  placed_has (change.Says line) st n i = put_has out.threads taken_out there c.heap st n i
  placed_has (change.Begins th) st n i = put_has (out.threads ++ th ∷ []) taken_out (end_there out.threads t th taken_out there) c.heap st n i
  placed_has (change.Ends e) st n i = put_has out.threads taken_out there c.heap st n i

  fueled_has : (h : Heap) (fuel n : ℕ) (st : State) → StateHas (Q h) st → StateHas (Q h) (fueled fuel n st)
  fueled_has h fuel n (state.Running f below) i = on_test (nat_lt n fuel) _ _ (StateHas (Q h)) (λ on. i) (λ out. tt)
  fueled_has h fuel n (state.Failing e) i = i
  fueled_has h fuel n (state.Finished v) i = i
  fueled_has h fuel n state.Stopped i = i

  moved_has : (o : Outcome) → OutcomeHas c.heap Q o → NextHas t Q (moved t old o out)
  moved_has outcome.NoRow i = i
  moved_has outcome.Waits i = i
  moved_has (outcome.Moves d st) i =
      on_test (nat_lt most_items (items_of st)) _ _ (λ new. NextHas t Q (Some new))
      (λ deep. placed_has change.Same (state.Failing ends.DepthLimit) (old.steps + 1) tt)
      (λ fits. placed_has d (fueled c.settings.fuel (old.steps + 1) st) (old.steps + 1) (fueled_has (heap_after d c.heap) c.settings.fuel (old.steps + 1) st i))

  top_step_has : (p : CastScript) (item : Work) (rest : List Work) (f : Frame) (below : List Frame) → (is_some c.end && heeds item) ≡ false → OutcomeHas c.heap Q (act p out item (record f { work = rest }) below) → NextHas t Q (top_step p t old (item ∷ rest) f below out)
  top_step_has p item rest f below quiet i =
      on_test (is_some c.end && heeds item) _ _ (NextHas t Q)
      (λ over. absurd (false≢true (sym quiet ∙ over)))
      (λ on. moved_has (act p out item (record f { work = rest }) below) i)

picked_has : (c : Configuration) (t : ℕ) (Q : Heap → Frame → Type 0) (o : Option Configuration) → NextHas t Q o → (th : Thread) (g : Frame) (under : List Frame) → slice_get (unwrap_or o c).threads t ≡ Some th → th.state ≡ state.Running g under → Q (unwrap_or o c).heap g
picked_has c t Q None x th g under at st = absurd x
picked_has c t Q (Some after) x th g under at st = subst (StateHas (Q after.heap)) st (x th at)

step_has : (p : CastScript) (c : Configuration) (t : ℕ) (Q : Heap → Frame → Type 0) (th : Thread) (f : Frame) (below : List Frame) (item : Work) (rest : List Work) → slice_get c.threads t ≡ Some th → th.state ≡ state.Running f below → f.work ≡ item ∷ rest → NextHas t Q (top_step p t th (item ∷ rest) f below (record c { threads = slice_set c.threads t taken_out })) → NextHas t Q (step_of p c t)
unfolding step_of
step_has p c t Q th f below item rest at st w i =
    let out : Configuration = record c { threads = slice_set c.threads t taken_out } in
    subst (λ o. NextHas t Q (step_at p t o c)) (sym at)
    (subst (λ k. NextHas t Q (thread_step p t th k out)) (sym st)
    (subst (λ k. NextHas t Q (top_step p t th k f below out)) (sym w) i))

pub casts_hold : (p : CastScript) (c : Configuration) → IsWellTyped p c → CastsHold p c
casts_hold p c ok t th f below item rest T j at st w x after g under at' st' =
    let rs = results_of c.threads in
    let typed : IsWellTypedState p rs t c.heap (result_type th) (state.Running f below) = subst (λ k. IsWellTypedState p rs t c.heap (result_type th) k) st (ok.threads t th at) in
    let fok = typed.0 in
    let tok = subst (λ k. IsWellTypedTop p (around fok.scope f.asked rs t) c.heap [] k f.values fok.types) w fok.work in
    let hok : HeapOk p c.heap = record { letter = ok.heap; own = ok.own } in
    let out : Configuration = record c { threads = slice_set c.threads t taken_out } in
    let Q = λ (h : Heap) (y : Frame). Went h item rest T j y in
    let acts : OutcomeHas c.heap Q (act p out item (record f { work = rest }) below) =
    item_has p out hok (around fok.scope f.asked rs t) item (record f { work = rest }) below fok.types T j fok.values tok x in
    let quiet = and_no (is_some c.end) (heeds item) (no_heed p item T j x) in
    picked_has c t Q (step_of p c t) (step_has p c t Q th f below item rest at st w (top_step_has c t th at Q p item rest f below quiet acts)) after g under at' st'
