-- Every configuration that a fit leads to.
use Rattle.std.proofs.Common.{◌≡◌, ℕ, ◌++◌, ◌<◌, false, List, [], ◌∷◌, length, Some, refl, sym, ◌∙◌, ap, subst, slice_get, slice_set, unwrap_or, suc, zero, arith}
use Rattle.std.proofs.lemmas.List.{length-append}
use Rattle.mono_list.proofs.Cases.{some_is, none_some}
use Rattle.mono_syntax.specs.Ty.{Ty}
use Rattle.mono_syntax.specs.declared.value.Val.{Val}
use Rattle.mono_syntax.specs.declared.cast.CastScript.{CastScript}
use Rattle.mono_tree.specs.TypedPrograms.{IsTypedProgram}
use Rattle.cast_machine.specs.declared.data.End.{End}
use Rattle.cast_machine.specs.declared.data.End.TheVariants as ends
use Rattle.cast_machine.specs.declared.data.Frame.{Frame}
use Rattle.cast_machine.specs.declared.data.State.TheVariants as state
use Rattle.cast_machine.specs.declared.data.Thread.{Thread}
use Rattle.cast_machine.specs.declared.data.Work.{Work}
use Rattle.cast_machine.specs.declared.data.Work.TheVariants as work
use Rattle.cast_machine.specs.Heap.{Heap}
use Rattle.cast_machine.specs.HeapTyping.{HasType, IsValueOf, AreTyped}
use Rattle.cast_machine.specs.Step.{Configuration, act, heeds, step_of, taken_out}
use Rattle.cast_machine.specs.Typing.{IsWellTyped, IsWellTypedFrame, IsWellTypedState, around, result_type, results_of}
use Rattle.cast_machine.specs.WorkTyping.{IsWellTypedTop, IsWellTypedFitted}
use Rattle.cast_machine.proofs.Grows.{HeapOk}
use Rattle.cast_machine.proofs.Obligations.{owns-all}
use Rattle.cast_machine.proofs.Threads.{pick_ok}
use Rattle.cast_orders.specs.FitSteps.{BeginsFit, IsUnderWay, FitLeads, begun, steps}
use Rattle.cast_orders.proofs.Beginning.{first_bounds, first_out, fits_quiet, last_out}
use Rattle.cast_orders.proofs.Bounds.{FitStart, AreAsked, Good, Stage, Unsolved, begins, strengthens, ended}
use Rattle.cast_orders.proofs.OwnSteps.{Gives, Stands, step_gives}
use Rattle.cast_orders.proofs.Strengthening.{obligation_out}

-- ---- what a well-typed configuration says of a thread

value_own : (p : CastScript) (h : Heap) (vs : List Val) (ts : List Ty) (j : ℕ) (v : Val) → AreTyped p h vs ts → slice_get vs j ≡ Some v → IsValueOf p h v
value_own p h [] ts j v i e = none_some _ e
value_own p h (u ∷ vs) [] j v i e = absurd i
value_own p h (u ∷ vs) (t ∷ ts) zero v i e = subst (λ x. IsValueOf p h x) (some_is e) i.0.0
value_own p h (u ∷ vs) (t ∷ ts) (suc j) v i e = value_own p h vs ts j v i.1 e

frame_typed : (p : CastScript) (d : Configuration) → IsWellTyped p d → (t : ℕ) (th : Thread) → slice_get d.threads t ≡ Some th → (g : Frame) (below : List Frame) → th.state ≡ state.Running g below → IsWellTypedFrame p (results_of d.threads) t d.heap g
frame_typed p d ok t th at g below st =
    let typed : IsWellTypedState p (results_of d.threads) t d.heap (result_type th) (state.Running g below) = subst (λ k. IsWellTypedState p (results_of d.threads) t d.heap (result_type th) k) st (ok.threads t th at) in
    typed.0

heap_ok : (p : CastScript) (d : Configuration) → IsWellTyped p d → HeapOk p d.heap
heap_ok p d ok = record { letter = ok.heap; own = ok.own }

-- the value below a Fitted has its type
fitted_has : (p : CastScript) (d : Configuration) → IsWellTyped p d → (t : ℕ) (g : Frame) → IsWellTypedFrame p (results_of d.threads) t d.heap g → (k : ℕ) (u : Ty) (j : ℕ) (items : List Work) → g.work ≡ work.Fitted k u j ∷ items → (v : Val) → slice_get g.values j ≡ Some v → HasType d.heap v u
fitted_has p d ok t g fok k u j items w v at =
    let tok : IsWellTypedFitted p (around fok.scope g.asked (results_of d.threads) t) d.heap [] items k u j g.values fok.types = subst (λ l. IsWellTypedTop p (around fok.scope g.asked (results_of d.threads) t) d.heap [] l g.values fok.types) w fok.work in
    subst (λ x. HasType d.heap x u) (some_is (sym tok.at ∙ at)) (owns-all p d.heap tok.value u tok.owns).1

-- ---- how much work there is

longer : (item : Work) (more rest : List Work) → length rest < length (item ∷ more ++ rest)
longer item more rest = let e = length-append more rest in omega (arith, e)

pub asked_longer : (s : FitStart) (items : List Work) → AreAsked s items → (item : Work) × (more : List Work) × (items ≡ item ∷ more ++ s.rest)
asked_longer s (work.Obligation c a x t r ∷ items) i =
    let z = asked_longer s items i.1 in (work.Obligation c a x t r, z.0 ∷ z.1, ap (λ l. work.Obligation c a x t r ∷ l) z.2)
asked_longer s (work.Fitted k t j ∷ items) i = (work.Fitted k t j, [], ap (λ l. work.Fitted k t j ∷ l) i.2)
asked_longer s items i = absurd i

pub never_longer : (item : Work) (more rest : List Work) → rest ≡ item ∷ more ++ rest → ⊥
never_longer item more rest e = let n = longer item more rest in let z : length rest ≡ length (item ∷ more ++ rest) = ap length e in absurd (omega (arith, n, z))

-- ---- one step

module _ (p : CastScript) (pok : IsTypedProgram p) (c : Configuration) (cok : IsWellTyped p c) (t : ℕ) (v : Val) (to : Ty) (b : BeginsFit p c t v to) where
  abbrev pub start : FitStart
  start = record { heap = c.heap; frame = b.frame; rest = b.rest; place = b.place; value = v; to = to }

  own : IsValueOf p c.heap v
  own = let fok = frame_typed p c cok t (b.runs).thread (b.runs).at b.frame b.below (b.runs).running in value_own p c.heap (b.frame).values fok.types b.place v fok.values b.value

  deep : (h : Heap) (g : Frame) (below : List Frame) (e : End) → Unsolved start e → Good start h (state.Running g below) → Good start h (state.Failing e)
  deep h g below e n i = (i.0, n)

  module _ (d : Configuration) (dok : IsWellTyped p d) (th : Thread) (at : slice_get d.threads t ≡ Some th) (g : Frame) (below : List Frame) (st : th.state ≡ state.Running g below) (good : Good start d.heap (state.Running g below)) (e : Configuration) (step : step_of p d t ≡ Some e) where
    abbrev out : Configuration
    out = record d { threads = slice_set d.threads t taken_out }

    takes : (item : Work) (items : List Work) → g.work ≡ item ∷ items → heeds item ≡ false → Gives d.heap (Good start) (act p out item (record g { work = items }) below) → Stands t (Good start) e
    takes item items w quiet i =
        step_gives d t th at (Good start) (deep d.heap g below ends.DepthLimit tt good) (λ h f under x. deep h f under ends.Fuel tt x) p g below item items st w quiet i e step

    strengthened : (items : List Work) → g.work ≡ items → AreAsked start items → g.values ≡ (b.frame).values → Stands t (Good start) e
    strengthened (work.Obligation k a x u r ∷ items) w i same =
        takes (work.Obligation k a x u r) items w refl
        (obligation_out p start d.heap (heap_ok p d dok) good.0 below a x u i.0 (record g { work = items }) i.1 same k r)
    strengthened (work.Fitted k u j ∷ items) w i same =
        let here : slice_get g.values b.place ≡ Some v = ap (λ vs. slice_get vs b.place) same ∙ b.value in
        let has : HasType d.heap v u = fitted_has p d dok t g (frame_typed p d dok t th at g below st) k u j items w v (subst (λ n. slice_get g.values n ≡ Some v) (sym i.1) here) in
        takes (work.Fitted k u j) items w refl
        (last_out p start d.heap (heap_ok p d dok) good.0 (subst (λ q. HasType d.heap v q) i.0 has) (record g { work = items }) below i.2 here)
    strengthened items w i same = absurd i

    stage_goes : Stage start d.heap g → IsUnderWay d t b.rest → Stands t (Good start) e
    stage_goes (begins h f) u =
        takes b.item b.rest (ap (λ (q : Frame). q.work) f ∙ b.top) (fits_quiet p (b.frame).asked b.item to b.place b.fits)
        (first_out p start (heap_ok p c cok) own b.value below out b.item b.fits d.heap h (record g { work = b.rest }) (ap (λ (q : Frame). record q { work = b.rest }) f))
    stage_goes (strengthens i same) u = strengthened g.work refl i same
    stage_goes (ended w x y z) u =
        let one : th ≡ (u.runs).thread = some_is (sym at ∙ (u.runs).at) in
        let same : g ≡ u.frame = frame_is g below u.frame u.below (sym st ∙ ap (λ (k : Thread). k.state) one ∙ (u.runs).running) in
        absurd (never_longer u.item u.more b.rest (sym w ∙ ap (λ (q : Frame). q.work) same ∙ u.top))
      where
        frame_is : (f : Frame) (fs : List Frame) (k : Frame) (ks : List Frame) → state.Running f fs ≡ state.Running k ks → f ≡ k
        frame_is f fs k ks i = cc

    pub goes_on : IsUnderWay d t b.rest → Stands t (Good start) e
    goes_on u = stage_goes good.1 u

  -- ---- every step

  pub record Reached (d : Configuration) : Type 0 where
    pub typed : IsWellTyped p d
    pub stands : Stands t (Good start) d

  next_typed : (d e : Configuration) → IsWellTyped p d → step_of p d t ≡ Some e → IsWellTyped p e
  next_typed d e ok i = subst (λ o. IsWellTyped p (unwrap_or o d)) i (pick_ok p pok d ok t).0

  pub reached : (d : Configuration) → FitLeads p c t b.rest d → Reached d
  reached d begun = record {
    typed = cok;
    stands = (
      (b.runs).thread,
      (b.runs).at,
      subst (λ k. Good start c.heap k) (sym (b.runs).running) (first_bounds start, begins refl refl),
    );
  }
  reached e (steps d _ before u i) =
      let r = reached d before in
      let th = (r.stands).0 in
      let one : th ≡ (u.runs).thread = some_is (sym (r.stands).1 ∙ (u.runs).at) in
      let st : th.state ≡ state.Running u.frame u.below = ap (λ (k : Thread). k.state) one ∙ (u.runs).running in
      record {
        typed = next_typed d e r.typed i;
        stands = goes_on d r.typed th (r.stands).1 u.frame u.below st (subst (λ k. Good start d.heap k) st (r.stands).2) e i u;
      }
