-- A step keeps a configuration well typed.
use Rattle.std.proofs.Common.{if◌then◌else◌, zero, suc, not, ap₂, Bool, List, None, Option, Some, [], ap, false, is_some, length, nat_lt, refl, set, slice_get, slice_set, subst, sym, true, unwrap_or, ℕ, ⊎_elim, ◌&&◌, ◌++◌, ◌+◌, ◌<◌, ◌∙◌, ◌∷◌, ◌≡◌}
use Rattle.std.proofs.lemmas.Bool.{false≢true}
use Rattle.std.proofs.lemmas.Option.{slice_get_within}
use Rattle.mono_list.proofs.Cases.{none_some, some_is, some_none, split}
use Rattle.mono_syntax.specs.Limits.{most_items}
use Rattle.mono_syntax.specs.Ty.{Ty, dyn}
use Rattle.mono_syntax.specs.declared.cast.CastScript.{CastScript}
use Rattle.mono_syntax.specs.declared.value.Val.{Val}
use Rattle.mono_tree.specs.TypedPrograms.{IsTypedProgram}
use Rattle.cast_machine.proofs.Grows.{HeapOk, extends_refl, state_grows, lines_grow, lines_more}
use Rattle.cast_machine.proofs.Heap.{on_test}
use Rattle.cast_machine.proofs.Obligations.{BegunOk, HereOk, Kept, end_after, heap_after, results_after, SaidOk}
use Rattle.cast_machine.proofs.Rows.{ActOk, act_ok}
use Rattle.cast_machine.proofs.ThreadLists.{after_cases, after_there, begun_ok, length-slice_set, more_results, results_at, results_length, results_set, results_threads_after, set_again, set_append, set_cases, set_here, set_past, set_there, threads_after}
use Rattle.cast_machine.specs.Calls.{finished, value_in, value_of, all_finished, join_of, leave, leave_with}
use Rattle.cast_machine.specs.Heap.{Heap, set_cell}
use Rattle.cast_machine.specs.HeapTyping.{Extends, IsTyped, AreLinesOf}
use Rattle.cast_machine.specs.Safety.{is_waiting, waits}
use Rattle.cast_machine.specs.Step.{Configuration, act, changed, counted, first_end, fueled, heeds, items_of, moved, picked, placed, step_at, step_of, taken_out, thread_step, top_step}
use Rattle.cast_machine.specs.Typing.{AreRightEnds, IsRightEnd, IsWellTyped, IsWellTypedFrame, IsWellTypedStack, IsWellTypedState, Lives, around, result_type, results_of}
use Rattle.cast_machine.specs.WorkTyping.{IsLater, IsWellTypedTop}
use Rattle.cast_machine.specs.declared.data.Change.{Change}
use Rattle.cast_machine.specs.declared.data.Change.TheVariants as change
use Rattle.cast_machine.specs.declared.data.End.{End}
use Rattle.cast_machine.specs.declared.data.End.TheVariants as ends
use Rattle.cast_machine.specs.declared.data.Frame.{Frame}
use Rattle.cast_machine.specs.declared.data.Outcome.{Outcome}
use Rattle.cast_machine.specs.declared.data.Outcome.TheVariants as outcome
use Rattle.cast_machine.specs.declared.data.Settings.{Settings}
use Rattle.cast_machine.specs.declared.data.State.{State}
use Rattle.cast_machine.specs.declared.data.State.TheVariants as state
use Rattle.cast_machine.specs.declared.data.Thread.{Thread}
use Rattle.cast_machine.specs.declared.data.Work.{Work}
use Rattle.cast_machine.specs.declared.data.Work.TheVariants as work

-- what holds of every thread after thread t of c is in another state, and a change
thread_ok : (p : CastScript) (c : Configuration) → IsWellTyped p c → (set : Settings) (lines : List (List Val)) (h : Heap) → Extends c.heap h → HeapOk p h → AreLinesOf p h lines → (t : ℕ) (old : Thread) → slice_get c.threads t ≡ Some old → (st : State) (n : ℕ) (d : Change) → IsWellTypedState p (results_after d (results_of c.threads)) t h (result_type old) st → BegunOk p (results_after d (results_of c.threads)) (length (results_of c.threads)) h d → (e : Option End) → AreRightEnds p e → (e ≡ None → (c.end ≡ None) × Lives t st) → IsWellTyped p (record { settings = set; heap = h; lines = lines; threads = threads_after d (slice_set c.threads t (record old { state = st; steps = n })); end = e })
thread_ok p c ok set lines h x hok lok t old at st n d sok bok e eok act =
    let new : Thread = record old { state = st; steps = n } in
    let ths = slice_set c.threads t new in
    let rs = results_of c.threads in
    let rs' = results_after d rs in
    let same : results_of (threads_after d ths) ≡ rs' = results_threads_after d ths ∙ ap (λ k. results_after d k) (results_set c.threads t old new at refl) in
    let len : length ths ≡ length rs = length-slice_set c.threads t new ∙ sym (results_length c.threads) in
    record {
      heap = hok.letter;
      own = hok.own;
      lines = lok;
      threads = λ u th i. subst (λ k. IsWellTypedState p k u h (result_type th) th.state) (sym same)
          (⊎_elim
          (λ stays. ⊎_elim
          (λ here. subst (λ j. IsWellTypedState p rs' j h (result_type th) th.state) here.0 (subst (λ (k : Thread). IsWellTypedState p rs' t h (result_type k) k.state) here.1 sok))
          (λ other. state_grows p rs rs' u (more_results d rs) x (result_type th) th.state (ok.threads u th other))
          (set_cases c.threads t u new th stays))
          (λ fresh. subst (λ j. IsWellTypedState p rs' j h (result_type th) th.state) (sym (fresh.0 ∙ len)) (begun_ok p rs' (length rs) h d th fresh.1 bok).0)
          (after_cases d ths u th i));
      end = eok;
      lives = λ none u th i. ⊎_elim
          (λ stays. ⊎_elim
          (λ here. subst (λ j. Lives j th.state) here.0 (subst (λ (k : Thread). Lives t k.state) here.1 (act none).1))
          (λ other. ok.lives (act none).0 u th other)
          (set_cases c.threads t u new th stays))
          (λ fresh. subst (λ j. Lives j th.state) (sym (fresh.0 ∙ len)) (begun_ok p rs' (length rs) h d th fresh.1 bok).1)
          (after_cases d ths u th i);
      main = let z = set_there c.threads t 0 new (ok.main).0 (ok.main).1 in (z.0, after_there d ths 0 z.0 z.1);
    }

-- ---- ends

pub first_right : (p : CastScript) (o : Option End) (e : End) → AreRightEnds p o → IsRightEnd p e → AreRightEnds p (Some e) → AreRightEnds p (first_end o e)
first_right p None e i j k = j
first_right p (Some d) e i j k = i

first_some : (o : Option End) (e : End) → first_end o e ≡ None → ⊥
first_some None e i = some_none _ i
first_some (Some d) e i = some_none _ i

pub fueled_ok : (p : CastScript) (rs : List Ty) (me : ℕ) (h : Heap) (R : Ty) (fuel n : ℕ) (st : State) → IsWellTypedState p rs me h R st → IsWellTypedState p rs me h R (fueled fuel n st)
fueled_ok p rs me h R fuel n (state.Running f below) i = on_test (nat_lt n fuel) _ _ (λ k. IsWellTypedState p rs me h R k) (λ on. i) (λ out. tt)
fueled_ok p rs me h R fuel n (state.Failing e) i = i
fueled_ok p rs me h R fuel n (state.Finished v) i = i
fueled_ok p rs me h R fuel n state.Stopped i = i

fueled_lives : (me fuel n : ℕ) (st : State) → Lives me st → Lives me (fueled fuel n st)
fueled_lives me fuel n (state.Running f below) i = on_test (nat_lt n fuel) _ _ (Lives me) (λ on. tt) (λ out. tt)
fueled_lives me fuel n (state.Failing e) i = i
fueled_lives me fuel n (state.Finished v) i = i
fueled_lives me fuel n state.Stopped i = i

has_none : (o : Option End) → is_some o ≡ true → o ≡ None → ⊥
has_none None i e = false≢true i
has_none (Some x) i e = some_none _ e

left_true : (a b : Bool) → (a && b) ≡ true → a ≡ true
left_true true b j = refl
left_true false b j = j

-- ---- who waits

-- a running thread that is taken out had no result
pub finished_out : (ths : List Thread) (t u : ℕ) (th : Thread) → slice_get ths t ≡ Some th → value_of th.state ≡ None → finished (slice_set ths t taken_out) u ≡ finished ths u
finished_out [] t u th e n = none_some _ e
finished_out (x ∷ ths) zero zero th e n = sym (ap (λ (y : Thread). value_of y.state) (some_is e) ∙ n)
finished_out (x ∷ ths) zero (suc u) th e n = refl
finished_out (x ∷ ths) (suc t) zero th e n = refl
finished_out (x ∷ ths) (suc t) (suc u) th e n = finished_out ths t u th e n

pub all_finished_out : (ths : List Thread) (t : ℕ) (th : Thread) (us : List ℕ) → slice_get ths t ≡ Some th → value_of th.state ≡ None → all_finished (slice_set ths t taken_out) us ≡ all_finished ths us
all_finished_out ths t th [] e n = refl
all_finished_out ths t th (u ∷ us) e n = ap₂ (λ (o : Option Val) (b : Bool). is_some o && b) (finished_out ths t u th e n) (all_finished_out ths t th us e n)

waiting_out : (ths : List Thread) (t : ℕ) (th : Thread) (items : List Work) (f : Frame) → slice_get ths t ≡ Some th → value_of th.state ≡ None → is_waiting (slice_set ths t taken_out) items f ≡ is_waiting ths items f
waiting_out ths t th [] f e n = refl
waiting_out ths t th (work.Join u ∷ rest) f e n = ap (λ o. not (is_some o)) (finished_out ths t u th e n)
waiting_out ths t th (work.Leave ∷ rest) f e n = ap not (all_finished_out ths t th f.started e n)
waiting_out ths t th (item ∷ rest) f e n = refl

join_waits : (o : Option Val) (f : Frame) (below : List Frame) → join_of o f below ≡ outcome.Waits → not (is_some o) ≡ true
join_waits None f below e = refl
join_waits (Some v) f below e = absurd cc

left_moves : (vs : List Val) (a : Option Ty) (below : List Frame) → leave_with vs a below ≡ outcome.Waits → ⊥
left_moves vs None below e = cc
left_moves [] (Some r) below e = cc
left_moves (v ∷ vs) (Some r) [] e = cc
left_moves (v ∷ vs) (Some r) (f ∷ below) e = cc

leave_waits : (threads : List Thread) (f : Frame) (below : List Frame) → leave threads f below ≡ outcome.Waits → not (all_finished threads f.started) ≡ true
leave_waits threads f below =
    split (all_finished threads f.started) (λ b. (if b then leave_with f.values f.asked below else outcome.Waits) ≡ outcome.Waits → not b ≡ true)
    (λ t e. absurd (left_moves f.values f.asked below e))
    (λ n e. refl)

-- where a row waits, its item does
waits_really : (p : CastScript) (c : Configuration) (rs : List Ty) (me : ℕ) (R : Ty) (items : List Work) (f : Frame) (below : List Frame) (item : Work) → ActOk p rs me c.threads c.heap R (item ∷ items) (act p c item (record f { work = items }) below) → act p c item (record f { work = items }) below ≡ outcome.Waits → waits c.threads item f ≡ true
waits_really p c rs me R items f below (work.Join u) i e = join_waits (finished c.threads u) (record f { work = items }) below e
waits_really p c rs me R items f below work.Leave i e = leave_waits c.threads (record f { work = items }) below e
waits_really p c rs me R items f below item i e = absurd (false≢true (subst (λ o. ActOk p rs me c.threads c.heap R (item ∷ items) o) e i).0)

-- ---- a step

-- a thread without a step
abbrev pub Rests : Configuration → ℕ → State → Type 0
Rests c t (state.Running f below) = (is_waiting c.threads f.work f ≡ true) × ((u : ℕ) × IsLater (results_of c.threads) t u dyn × (finished c.threads u ≡ None))
Rests c t (state.Failing e) = ⊥
Rests c t (state.Finished v) = Unit {0}
Rests c t state.Stopped = Unit {0}

abbrev pub StepOk : CastScript → Configuration → ℕ → Option Configuration → Type 0
StepOk p c t None = (th : Thread) → slice_get c.threads t ≡ Some th → Rests c t th.state
StepOk p c t (Some new) = IsWellTyped p new × Extends c.heap new.heap

module _ (p : CastScript) (pok : IsTypedProgram p) (c : Configuration) (ok : IsWellTyped p c) (t : ℕ) where
  abbrev rs : List Ty
  rs = results_of c.threads

  -- without the thread
  abbrev out : Configuration
  out = record c { threads = slice_set c.threads t taken_out }

  heap_ok : HeapOk p c.heap
  heap_ok = record { letter = ok.heap; own = ok.own }

  -- the thread is put back in another state
  abbrev back : Thread → State → ℕ → Configuration → Configuration
  back old st n d = record d { threads = slice_set c.threads t (record old { state = st; steps = n }) }

  placed_back : (old : Thread) (st : State) (n : ℕ) → placed t old st n out ≡ back old st n c
  placed_back old st n = ap (λ ths. record c { threads = ths }) (set_again c.threads t taken_out (record old { state = st; steps = n }))

  -- with no change of the rest, but for the end
  stays_ok : (old : Thread) → slice_get c.threads t ≡ Some old → (st : State) (n : ℕ) → IsWellTypedState p rs t c.heap (result_type old) st → (e : Option End) → AreRightEnds p e → (e ≡ None → (c.end ≡ None) × Lives t st) → StepOk p c t (Some (placed t old st n (record out { end = e })))
  stays_ok old at st n sok e eok act =
      subst (λ ths. StepOk p c t (Some (record c { threads = ths; end = e }))) (sym (set_again c.threads t taken_out (record old { state = st; steps = n })))
      (thread_ok p c ok c.settings c.lines c.heap (extends_refl c.heap) heap_ok ok.lines t old at st n change.Same sok tt e eok act, extends_refl c.heap)

  module _ (old : Thread) (at : slice_get c.threads t ≡ Some old) (st : State) (n : ℕ) where
    abbrev new : Thread
    new = record old { state = st; steps = n }

    abbrev Good : Configuration → Type 0
    Good d = StepOk p c t (Some d)

    -- the thread is put back at its place of the threads after a change
    set_out : slice_set (slice_set c.threads t taken_out) t new ≡ slice_set c.threads t new
    set_out = set_again c.threads t taken_out new

    begun_out : (th : Thread) → slice_set (slice_set c.threads t taken_out ++ th ∷ []) t new ≡ slice_set c.threads t new ++ th ∷ []
    begun_out th = set_append (slice_set c.threads t taken_out) t new th taken_out (set_here c.threads t taken_out old at) ∙ ap (λ l. l ++ th ∷ []) set_out

    changed_ok : (d : Change) → Extends c.heap (heap_after d c.heap) → HeapOk p (heap_after d c.heap) → IsWellTypedState p (results_after d rs) t (heap_after d c.heap) (result_type old) st → BegunOk p (results_after d rs) (length rs) (heap_after d c.heap) d → SaidOk p (heap_after d c.heap) d → AreRightEnds p (end_after d) → (end_after d ≡ None → Lives t st) → Good (placed t old st n (changed d out))
    changed_ok change.Same x hok sok bok said eok act =
        subst (λ ths. Good (record c { threads = ths })) (sym set_out)
        (thread_ok p c ok c.settings c.lines c.heap x hok ok.lines t old at st n change.Same sok bok c.end ok.end (λ e. (e, act refl)), x)
    changed_ok (change.Sets a y k) x hok sok bok said eok act =
        subst (λ ths. Good (record c { heap = set_cell c.heap a y k; threads = ths })) (sym set_out)
        (thread_ok p c ok c.settings c.lines (set_cell c.heap a y k) x hok (lines_grow p x c.lines ok.lines) t old at st n (change.Sets a y k) sok bok c.end ok.end (λ e. (e, act refl)), x)
    changed_ok (change.Adds o) x hok sok bok said eok act =
        subst (λ ths. Good (record c { heap = c.heap ++ o ∷ []; threads = ths })) (sym set_out)
        (thread_ok p c ok c.settings c.lines (c.heap ++ o ∷ []) x hok (lines_grow p x c.lines ok.lines) t old at st n (change.Adds o) sok bok c.end ok.end (λ e. (e, act refl)), x)
    changed_ok (change.Says line) x hok sok bok said eok act =
        subst (λ ths. Good (record c { lines = c.lines ++ line ∷ []; threads = ths })) (sym set_out)
        (thread_ok p c ok c.settings (c.lines ++ line ∷ []) c.heap x hok (lines_more p c.heap c.lines line ok.lines said) t old at st n (change.Says line) sok bok c.end ok.end (λ e. (e, act refl)), x)
    changed_ok (change.Begins th) x hok sok bok said eok act =
        subst (λ ths. Good (record c { threads = ths })) (sym (begun_out th))
        (thread_ok p c ok c.settings c.lines c.heap x hok ok.lines t old at st n (change.Begins th) sok bok c.end ok.end (λ e. (e, act refl)), x)
    changed_ok (change.Ends e) x hok sok bok said eok act =
        subst (λ ths. Good (record c { threads = ths; end = first_end c.end e })) (sym set_out)
        (thread_ok p c ok c.settings c.lines c.heap x hok ok.lines t old at st n (change.Ends e) sok bok (first_end c.end e) (first_right p c.end e ok.end eok eok) (λ z. absurd (first_some c.end e z)), x)

  counted_ok : (old : Thread) → slice_get c.threads t ≡ Some old → (d : Change) (st : State) → Kept p rs t c.heap (result_type old) d st → StepOk p c t (Some (counted t old d st out))
  counted_ok old at d st k =
      on_test (nat_lt most_items (items_of st)) _ _ (λ new. StepOk p c t (Some new))
      (λ deep. stays_ok old at (state.Failing ends.DepthLimit) (old.steps + 1) tt c.end ok.end (λ e. (e, tt)))
      (λ fits. changed_ok old at (fueled c.settings.fuel (old.steps + 1) st) (old.steps + 1) d k.grows k.heap
      (fueled_ok p (results_after d rs) t (heap_after d c.heap) (result_type old) c.settings.fuel (old.steps + 1) st k.state) k.begun k.said k.ends
      (λ e. fueled_lives t c.settings.fuel (old.steps + 1) st (k.lives e)))

  rests : (old : Thread) → slice_get c.threads t ≡ Some old → (st : State) → old.state ≡ st → Rests c t st → (th : Thread) → slice_get c.threads t ≡ Some th → Rests c t th.state
  rests old at st e i th at' = subst (λ (k : Thread). Rests c t k.state) (some_is (sym at ∙ at')) (subst (Rests c t) (sym e) i)

  -- a later thread stands where it stood
  later_same : (u : ℕ) → t < u → finished out.threads u ≡ None → finished c.threads u ≡ None
  later_same u less e = ap value_in (sym (set_past c.threads t u taken_out less)) ∙ e

  moved_ok : (old : Thread) → slice_get c.threads t ≡ Some old → (f : Frame) (below : List Frame) → old.state ≡ state.Running f below → (items : List Work) → f.work ≡ items → (o : Outcome) → ActOk p rs t out.threads c.heap (result_type old) items o → (o ≡ outcome.Waits → is_waiting out.threads items f ≡ true) → StepOk p c t (moved t old o out)
  moved_ok old at f below e items w outcome.NoRow i really = absurd i
  moved_ok old at f below e items w outcome.Waits i really =
      rests old at (state.Running f below) e
      (ap (λ l. is_waiting c.threads l f) w ∙ sym (waiting_out c.threads t old items f at (ap value_of e)) ∙ really refl, ((i.1).0, (i.1).1, later_same (i.1).0 ((i.1).1).later (i.1).2))
  moved_ok old at f below e items w (outcome.Moves d st) i really = counted_ok old at d st i

  mine : (old : Thread) → slice_get c.threads t ≡ Some old → t < length rs
  mine old at = slice_get_within rs t (result_type old) (results_at c.threads t old at)

  -- a thread that is finished, while t is taken out
  finished_typed : (u : ℕ) (v : Val) (U : Ty) (o : Option Thread) → slice_get out.threads u ≡ o → value_in o ≡ Some v → slice_get rs u ≡ Some U → IsTyped p c.heap v U
  finished_typed u v U None at e r = none_some _ e
  finished_typed u v U (Some th) at e r =
      ⊎_elim
      (λ here. none_some _ (ap (λ (k : Thread). value_of k.state) here.1 ∙ e))
      (λ other. go th.state refl e other)
      (set_cases c.threads t u taken_out th at)
    where
      go : (st : State) → th.state ≡ st → value_of st ≡ Some v → slice_get c.threads u ≡ Some th → IsTyped p c.heap v U
      go (state.Finished w) d i here =
          let same : result_type th ≡ U = some_is (sym (results_at c.threads u th here) ∙ r) in
          subst (λ k. IsTyped p c.heap k U) (some_is i) (subst (λ k. IsTyped p c.heap w k) same (subst (λ k. IsWellTypedState p rs u c.heap (result_type th) k) d (ok.threads u th here)))
      go (state.Running f below) d i here = none_some _ i
      go (state.Failing x) d i here = none_some _ i
      go state.Stopped d i here = none_some _ i

  pub here_ok : (old : Thread) → slice_get c.threads t ≡ Some old → (f : Frame) (below : List Frame) (i : IsWellTypedFrame p rs t c.heap f) (items : List Work) → IsWellTypedStack p rs t c.heap f.asked below (result_type old) → HereOk p c.heap out.threads i.scope rs t (result_type old) (record f { work = items }) below
  here_ok old at f below i items st = record {
    heap = heap_ok;
    named = i.named;
    stack = st;
    mine = mine old at;
    made = length-slice_set c.threads t taken_out ∙ sym (results_length c.threads);
    results = λ u v U e r. finished_typed u v U (slice_get out.threads u) refl e r;
  }

  top_ok : (old : Thread) → slice_get c.threads t ≡ Some old → (f : Frame) (below : List Frame) → old.state ≡ state.Running f below → (i : IsWellTypedFrame p rs t c.heap f) → IsWellTypedStack p rs t c.heap f.asked below (result_type old) → (items : List Work) → f.work ≡ items → StepOk p c t (top_step p t old items f below out)
  top_ok old at f below e i st [] w = absurd (subst (λ k. IsWellTypedTop p (around i.scope f.asked rs t) c.heap [] k f.values i.types) w i.work).1
  top_ok old at f below e i st (item ∷ items) w =
      on_test (is_some c.end && heeds item) _ _ (λ new. StepOk p c t new)
      (λ over. stays_ok old at state.Stopped old.steps tt c.end ok.end (λ z. absurd (has_none c.end (left_true (is_some c.end) (heeds item) over) z)))
      (λ on.
      let row = act_ok p pok out i.scope rs t (result_type old) (record f { work = items }) below (here_ok old at f below i items st) item i.types i.values
      (subst (λ k. IsWellTypedTop p (around i.scope f.asked rs t) c.heap [] k f.values i.types) w i.work) in
      moved_ok old at f below e (item ∷ items) w (act p out item (record f { work = items }) below) row
      (λ z. waits_really p out rs t (result_type old) items f below item row z))

  state_ok : (old : Thread) → slice_get c.threads t ≡ Some old → (st : State) → old.state ≡ st → IsWellTypedState p rs t c.heap (result_type old) st → StepOk p c t (thread_step p t old st out)
  state_ok old at (state.Running f below) e i = top_ok old at f below e i.0 i.1 f.work refl
  state_ok old at (state.Failing x) e i =
      stays_ok old at state.Stopped old.steps tt (first_end c.end x) (first_right p c.end x ok.end i i) (λ z. absurd (first_some c.end x z))
  state_ok old at (state.Finished v) e i = rests old at (state.Finished v) e tt
  state_ok old at state.Stopped e i = rests old at state.Stopped e tt

  at_ok : (o : Option Thread) → slice_get c.threads t ≡ o → StepOk p c t (step_at p t o c)
  at_ok None e = λ th at. none_some _ (sym e ∙ at)
  at_ok (Some th) e = state_ok th e th.state refl (ok.threads t th e)

  pub step_ok : StepOk p c t (step_of p c t)
  unfolding step_of
  step_ok = at_ok (slice_get c.threads t) refl

  picked_from : (o : Option Configuration) → StepOk p c t o → IsWellTyped p (unwrap_or o c) × Extends c.heap (unwrap_or o c).heap
  picked_from None i = (ok, extends_refl c.heap)
  picked_from (Some after) i = i

  pub pick_ok : IsWellTyped p (picked p c t) × Extends c.heap (picked p c t).heap
  pick_ok = picked_from (step_of p c t) step_ok
