-- What each kind of change of the words and of one thread comes to.
use Rattle.std.proofs.Common.{◌≡◌, ℕ, zero, suc, ◌+◌, ◌<◌, Bool, true, false, ◌&&◌, List, [], ◌∷◌, ◌++◌, length, Option, Some, None}
use Rattle.std.proofs.Common.{is_some, nat_lt, if◌then◌else◌, refl, sym, ap, ◌∙◌, subst, slice_get, slice_set}
use Rattle.std.proofs.lemmas.Option.{slice_get_within}
use Rattle.mono_list.proofs.Cases.{none_some, some_is, split}
use Rattle.mono_syntax.specs.Ty.{Ty}
use Rattle.mono_syntax.specs.declared.value.Val.{Val}
use Rattle.mono_syntax.specs.declared.cast.CastScript.{CastScript}
use Rattle.mono_tree.specs.TypedPrograms.{IsTypedProgram}
use Rattle.cast_machine.specs.declared.data.End.{End}
use Rattle.cast_machine.specs.declared.data.End.TheVariants as ends
use Rattle.cast_machine.specs.declared.data.Frame.{Frame}
use Rattle.cast_machine.specs.declared.data.Settings.{Settings}
use Rattle.cast_machine.specs.declared.data.Thread.{Thread}
use Rattle.cast_machine.specs.declared.data.State.{State}
use Rattle.cast_machine.specs.declared.data.State.TheVariants as state
use Rattle.cast_machine.specs.declared.data.Change.{Change}
use Rattle.cast_machine.specs.declared.data.Change.TheVariants as change
use Rattle.cast_machine.specs.declared.data.Outcome.{Outcome}
use Rattle.cast_machine.specs.declared.data.Outcome.TheVariants as outcome
use Rattle.cast_machine.specs.declared.data.Work.{Work}
use Rattle.cast_machine.specs.Heap.{Heap}
use Rattle.cast_machine.specs.Calls.{finished, value_of}
use Rattle.cast_machine.specs.HeapTyping.{Extends, IsTyped}
use Rattle.cast_machine.specs.Step.{Configuration, act, changed, counted, first_end, fueled, heeds, moved, placed, step_at, step_of}
use Rattle.cast_machine.specs.Step.{taken_out, top_step}
use Rattle.cast_machine.specs.Typing.{IsWellTypedFrame, IsWellTypedStack, IsWellTypedState, around}
use Rattle.cast_machine.proofs.Grows.{HeapOk, extends_refl}
use Rattle.cast_machine.proofs.Heap.{on_test}
use Rattle.cast_machine.proofs.Obligations.{HereOk, Kept, heap_after, results_after}
use Rattle.cast_machine.specs.WorkTyping.{IsWellTypedTop}
use Rattle.cast_machine.proofs.Rows.{ActOk, act_ok}
use Rattle.cast_machine.proofs.ThreadLists.{length-slice_set, results_at, results_length, set_again, set_append, set_here}
use Rattle.word_machine.specs.Follows.{Matches}
use Rattle.word_machine.specs.Seats.{Micro, Quick, Filling, Seeing, Seat, deep, after, moves, halts}
use Rattle.word_machine.specs.Ticks.{Core, thread_of, threads_of, reveal, stands}
use Rattle.word_machine.specs.Words.{Words, result_at}
use Rattle.word_machine.proofs.CoreOk.{res, threads_get, threads_set, threads_length, fin, fin_seat, fin_grows, Finishes, threads_new}
use Rattle.word_machine.proofs.CoreOk.{SeatBy, CoreOk, Keeps, keeps_refl, core_ok, ShownOk, CountsOk, counts_keep, counts_begin}

set_self : {A : Type 0} (l : List A) (t : ℕ) (x : A) → slice_get l t ≡ Some x → slice_set l t x ≡ l
set_self [] t x e = refl
set_self (y ∷ l) zero x e = ap (λ k. k ∷ l) (sym (some_is e))
set_self (y ∷ l) (suc t) x e = ap (λ r. y ∷ r) (set_self l t x e)

-- a running thread that is taken out is finished as little as before
pub finished_out : (ths : List Thread) (t u : ℕ) (th : Thread) → slice_get ths t ≡ Some th → value_of th.state ≡ None
    → finished (slice_set ths t taken_out) u ≡ finished ths u
finished_out [] t u th e v = refl
finished_out (x ∷ ths) zero zero th e v = sym (ap (λ (k : Thread). value_of k.state) (some_is e) ∙ v)
finished_out (x ∷ ths) zero (suc u) th e v = refl
finished_out (x ∷ ths) (suc t) zero th e v = refl
finished_out (x ∷ ths) (suc t) (suc u) th e v = finished_out ths t u th e v

-- what one tick of thread t comes to, and whether it is the step
pub record Good (p : CastScript) (s : Settings) (rs : List Ty) (k : Core) (t : ℕ) (b : Bool) (k' : Core) : Type 0 where
  pub results : List Ty
  pub ok : CoreOk p results k'
  pub grows : Extends (k.words).heap (k'.words).heap
  pub sim : (k.words).end ≡ None → Matches p s k t b k'
  pub seen : (e : End) → (k.words).end ≡ Some e → ((k'.words).end ≡ Some e) × ((k'.words).lines ≡ (k.words).lines)

abbrev pub seat : Option Ty → State → ℕ → Micro → Seat
seat a st n m = record { asked = a; state = st; steps = n; micro = m }

abbrev pub typ : Option Ty → Ty
typ a = res (seat a state.Stopped 0 Quick)

pub fueled_by : (p : CastScript) (rs : List Ty) (t : ℕ) (h : Heap) (R : Ty) (fuel n : ℕ) (st : State) → IsWellTypedState p rs t h R st
    → IsWellTypedState p rs t h R (fueled fuel n st)
fueled_by p rs me h R fuel n (state.Running f below) i = on_test (nat_lt n fuel) _ _ (λ k. IsWellTypedState p rs me h R k) (λ on. i)
    (λ out. tt)
fueled_by p rs me h R fuel n (state.Failing e) i = i
fueled_by p rs me h R fuel n (state.Finished v) i = i
fueled_by p rs me h R fuel n state.Stopped i = i

pub after_by : (p : CastScript) (s : Settings) (rs : List Ty) (t : ℕ) (h : Heap) (R : Ty) (n : ℕ) (st : State)
    → IsWellTypedState p rs t h R st → IsWellTypedState p rs t h R (after s n st)
after_by p s rs t h R n st i = on_test (deep st) _ _ (λ x. IsWellTypedState p rs t h R x) (λ d. tt)
    (λ d. fueled_by p rs t h R s.fuel n st i)

-- no step but the last finishes a thread
pub after_busy : (s : Settings) (n : ℕ) (st : State) → value_of st ≡ None → value_of (after s n st) ≡ None
after_busy s n st e = on_test (deep st) _ _ (λ x. value_of x ≡ None) (λ d. refl) (λ d. fuels st e)
  where
    fuels : (y : State) → value_of y ≡ None → value_of (fueled s.fuel n y) ≡ None
    fuels (state.Running f below) i = on_test (nat_lt n s.fuel) _ _ (λ x. value_of x ≡ None) (λ e'. refl) (λ e'. refl)
    fuels (state.Failing x) i = i
    fuels (state.Finished v) i = i
    fuels state.Stopped i = i

module _ (p : CastScript) (pok : IsTypedProgram p) (s : Settings) (rs : List Ty) (k : Core) (ok : CoreOk p rs k) (t : ℕ) where
  abbrev ths : List Thread
  ths = threads_of k.seats

  -- the configuration without thread t, and the same with the heap without the hidden objects
  abbrev pub there : Configuration
  there = record (stands s k) { threads = slice_set (threads_of k.seats) t taken_out }

  abbrev pub typed : Configuration
  typed = record (stands s k) { heap = (k.words).heap; threads = slice_set (threads_of k.seats) t taken_out }

  abbrev pub ends_in : Seat → Words → Core
  ends_in q w = record { words = w; seats = slice_set k.seats t q }

  abbrev pub OkIn : Bool → Core → Type 0
  OkIn b k' = Good p s rs k t b k'

  -- a running frame without its top item
  abbrev pub without : Frame → List Work → Frame
  without f is = record f { work = is }

  same_result : (u : ℕ) (r : Seat) (U : Ty) → slice_get k.seats u ≡ Some r → slice_get rs u ≡ Some U → res r ≡ U
  same_result u r U at e = some_is
      (sym (subst (λ l. slice_get l u ≡ Some (res r)) ok.same (results_at ths u (thread_of r) (threads_get k.seats u r at))) ∙ e)

  -- a result, by what a seat is
  result_of_state : (h : Heap) (u : ℕ) (R : Ty) (st : State) (v : Val) → value_of st ≡ Some v → IsWellTypedState p rs u h R st
      → IsTyped p h v R
  result_of_state h u R (state.Finished w) v e i = subst (λ x. IsTyped p h x R) (some_is e) i
  result_of_state h u R (state.Running f below) v e i = none_some _ e
  result_of_state h u R (state.Failing x) v e i = none_some _ e
  result_of_state h u R state.Stopped v e i = none_some _ e

  plain_state : (u : ℕ) (R : Ty) (st : State) (m : Micro) (v : Val) → value_of st ≡ Some v
      → SeatBy p rs (fin k.seats) u (k.words).heap R st m → IsWellTypedState p rs u (k.words).heap R st
  plain_state u R st (Filling b l) v e i = none_some _ (sym i.busy ∙ e)
  plain_state u R st (Seeing l j) v e i = i.0
  plain_state u R st m v e i = i

  pub fin_out : (u : ℕ) (q : Seat) → slice_get k.seats t ≡ Some q → value_of q.state ≡ None
      → finished (slice_set ths t taken_out) u ≡ fin k.seats u
  fin_out u q at e = finished_out ths t u (thread_of q) (threads_get k.seats t q at) e

  module _ (a : Option Ty) (f : Frame) (below : List Frame) (n : ℕ) (m : Micro)
      (at : slice_get k.seats t ≡ Some (seat a (state.Running f below) n m)) where
    abbrev old : Seat
    old = seat a (state.Running f below) n m

    mine : t < length rs
    mine = slice_get_within rs t (res old)
        (subst (λ l. slice_get l t ≡ Some (res old)) ok.same (results_at ths t (thread_of old) (threads_get k.seats t old at)))

    made : length (slice_set ths t taken_out) ≡ length rs
    made = length-slice_set ths t taken_out ∙ sym (results_length ths) ∙ ap length ok.same

    here_ok : (i : IsWellTypedFrame p rs t (k.words).heap f) (is : List Work)
        → IsWellTypedStack p rs t (k.words).heap f.asked below (res old) → HereOk p (k.words).heap (slice_set ths t taken_out) i.scope rs t
        (res old) (without f is) below
    here_ok i is st = record {
      heap = ok.heap;
      named = i.named;
      stack = st;
      mine = mine;
      made = made;
      results = λ u v U e r.
          let x = fin_seat k.seats u v (sym (fin_out u old at refl) ∙ e) in
          subst (λ T. IsTyped p (k.words).heap v T) (same_result u x.0 U x.1 r)
          (result_of_state (k.words).heap u (res x.0) (x.0).state v x.2
          (plain_state u (res x.0) (x.0).state (x.0).micro v x.2 (ok.seats u x.0 x.1)));
    }

    there_ok : (i : IsWellTypedFrame p rs t (reveal (k.words).heap) f) (is : List Work)
        → IsWellTypedStack p rs t (reveal (k.words).heap) f.asked below (res old)
        → HereOk p (reveal (k.words).heap) (slice_set ths t taken_out) i.scope rs t (res old) (without f is) below
    there_ok i is st = record {
      heap = ok.shown;
      named = i.named;
      stack = st;
      mine = mine;
      made = made;
      results = λ u v U e r.
          let x = fin_seat k.seats u v (sym (fin_out u old at refl) ∙ e) in
          subst (λ T. IsTyped p (reveal (k.words).heap) v T) (same_result u x.0 U x.1 r)
          (result_of_state (reveal (k.words).heap) u (res x.0) (x.0).state v x.2 (ok.states u x.0 x.1));
    }

    module _ (item : Work) (is : List Work) (top : f.work ≡ item ∷ is) where
      -- the step keeps both heaps well typed
      pub kept : IsWellTypedState p rs t (k.words).heap (res old) (state.Running f below) → (d : Change) (st : State)
          → act p typed item (without f is) below ≡ outcome.Moves d st → Kept p rs t (k.words).heap (res old) d st
      kept i d st e =
          subst (λ o. ActOk p rs t (slice_set ths t taken_out) (k.words).heap (res old) (item ∷ is) o) e
          (act_ok p pok typed (i.0).scope rs t (res old) (without f is) below (here_ok i.0 is i.1) item (i.0).types (i.0).values
          (subst (λ w. IsWellTypedTop p (around (i.0).scope f.asked rs t) (k.words).heap [] w f.values (i.0).types) top (i.0).work))

      -- the row in the heap that is shown
      pub shown_row : ActOk p rs t (slice_set ths t taken_out) (reveal (k.words).heap) (res old) (item ∷ is)
          (act p there item (without f is) below)
      shown_row =
          let i = ok.states t old at in
          act_ok p pok there (i.0).scope rs t (res old) (without f is) below (there_ok i.0 is i.1) item (i.0).types (i.0).values
          (subst (λ w. IsWellTypedTop p (around (i.0).scope f.asked rs t) (reveal (k.words).heap) [] w f.values (i.0).types) top (i.0).work)

      -- there is a row
      pub no_row : IsWellTypedState p rs t (k.words).heap (res old) (state.Running f below)
          → act p typed item (without f is) below ≡ outcome.NoRow → ⊥
      no_row i e =
          subst (λ o. ActOk p rs t (slice_set ths t taken_out) (k.words).heap (res old) (item ∷ is) o) e
          (act_ok p pok typed (i.0).scope rs t (res old) (without f is) below (here_ok i.0 is i.1) item (i.0).types (i.0).values
          (subst (λ w. IsWellTypedTop p (around (i.0).scope f.asked rs t) (k.words).heap [] w f.values (i.0).types) top (i.0).work))

      pub shown_kept : (d : Change) (st : State) → act p there item (without f is) below ≡ outcome.Moves d st
          → Kept p rs t (reveal (k.words).heap) (res old) d st
      shown_kept d st e =
          let i = ok.states t old at in
          subst (λ o. ActOk p rs t (slice_set ths t taken_out) (reveal (k.words).heap) (res old) (item ∷ is) o) e
          (act_ok p pok there (i.0).scope rs t (res old) (without f is) below (there_ok i.0 is i.1) item (i.0).types (i.0).values
          (subst (λ w. IsWellTypedTop p (around (i.0).scope f.asked rs t) (reveal (k.words).heap) [] w f.values (i.0).types) top
          (i.0).work))

      -- the step of the thread at t
      pub stepped : (k.words).end ≡ None → (o : Outcome) → act p there item (without f is) below ≡ o
          → step_of p (stands s k) t ≡ moved t (thread_of old) o there
      unfolding step_of
      stepped none o e =
          ap (λ x. step_at p t x (stands s k)) (threads_get k.seats t old at)
          ∙ ap (λ w. top_step p t (thread_of old) w f below there) top
          ∙ ap (λ x. if is_some x && heeds item then Some (placed t (thread_of old) state.Stopped n there)
          else moved t (thread_of old) (act p there item (without f is) below) there) none
          ∙ ap (λ x. moved t (thread_of old) x there) e

  -- the thread is put back
  back : (q : Seat) → slice_set (slice_set ths t taken_out) t (thread_of q) ≡ threads_of (slice_set k.seats t q)
  back q = set_again ths t taken_out (thread_of q) ∙ sym (threads_set k.seats t q)

  -- ---- configurations

  abbrev config : Heap → List (List Val) → List Thread → Option End → Configuration
  config h l us e = record { settings = s; heap = h; lines = l; threads = us; end = e }

  config_eq : (h h' : Heap) (l l' : List (List Val)) (us us' : List Thread) (e e' : Option End) → h ≡ h' → l ≡ l' → us ≡ us' → e ≡ e'
      → config h l us e ≡ config h' l' us' e'
  config_eq h h' l l' us us' e e' i j m o =
      ap (λ x. config x l us e) i ∙ ap (λ x. config h' x us e) j ∙ ap (λ x. config h' l' x e) m ∙ ap (λ x. config h' l' us' x) o

  -- the thread is put back in another state, and the words are w
  put_is : (q : Seat) (w : Words) (h : Heap) (l : List (List Val)) (e : Option End) → h ≡ reveal w.heap → l ≡ w.lines → e ≡ w.end
      → (th : Thread) → th.asked ≡ q.asked →
      placed t th q.state q.steps (config h l (slice_set ths t taken_out) e) ≡ stands s (ends_in q w)
  put_is q w h l e i j m th as_ =
      config_eq h (reveal w.heap) l w.lines
      (slice_set (slice_set ths t taken_out) t (record { asked = th.asked; state = q.state; steps = q.steps }))
      (threads_of (slice_set k.seats t q)) e w.end
      i j (ap (λ x. slice_set (slice_set ths t taken_out) t (record { asked = x; state = q.state; steps = q.steps })) as_ ∙ back q) m

  counted_shallow : (th : Thread) (d : Change) (st : State) → deep st ≡ false
      → counted t th d st there ≡ placed t th (after s (th.steps + 1) st) (th.steps + 1) (changed d there)
  counted_shallow th d st e =
      ap (λ b. if b then placed t th (state.Failing ends.DepthLimit) (th.steps + 1) there
      else placed t th (fueled s.fuel (th.steps + 1) st) (th.steps + 1) (changed d there)) e
      ∙ sym (ap (λ b. placed t th (if b then state.Failing ends.DepthLimit else fueled s.fuel (th.steps + 1) st) (th.steps + 1)
      (changed d there)) e)

  counted_same : (th : Thread) (st : State) → counted t th change.Same st there ≡ placed t th (after s (th.steps + 1) st)
      (th.steps + 1) there
  counted_same th st =
      split (deep st) (λ b. (if b then placed t th (state.Failing ends.DepthLimit) (th.steps + 1) there
      else placed t th (fueled s.fuel (th.steps + 1) st) (th.steps + 1) there) ≡ placed t th (if b then state.Failing ends.DepthLimit
      else fueled s.fuel (th.steps + 1) st) (th.steps + 1) there)
      (λ _. refl) (λ _. refl)

  counted_deep : (th : Thread) (d : Change) (st : State) → deep st ≡ true
      → counted t th d st there ≡ placed t th (state.Failing ends.DepthLimit) (th.steps + 1) there
  counted_deep th d st e = ap (λ b. if b then placed t th (state.Failing ends.DepthLimit) (th.steps + 1) there
      else placed t th (fueled s.fuel (th.steps + 1) st) (th.steps + 1) (changed d there)) e

  -- ---- leaves

  -- a state that is well typed in any heap
  shown_same : (q : Seat) (h' : Heap) → reveal (k.words).heap ≡ h' → IsWellTypedState p rs t (reveal (k.words).heap) (res q) q.state
      → ShownOk p rs t (length k.seats) (reveal (k.words).heap) h' q None
  shown_same q h' e i = subst (λ x. ShownOk p rs t (length k.seats) (reveal (k.words).heap) x q None) e
      (record { grows = extends_refl (reveal (k.words).heap); heap = ok.shown; state = i; begun = tt })

  -- the result words are as before
  pub counts_same : (w : Words) → w.results ≡ (k.words).results → (old q : Seat) → slice_get k.seats t ≡ Some old
      → value_of q.state ≡ value_of old.state → CountsOk w (slice_set k.seats t q)
  counts_same w ws old q at e =
      let c = counts_keep k.words k.seats t old q at e ok.counts in
      record { room = ap length ws ∙ c.room; few = c.few; results = λ u. ap (λ r. result_at r u) ws ∙ c.results u }

  -- nothing was done
  pub rest_leaf : OkIn false k
  rest_leaf = record { results = rs; ok = ok; grows = extends_refl (k.words).heap; sim = λ none. refl; seen = λ e i. (i, refl) }

  -- words that stand for the same, and a seat that stands for the same thread
  pub look_leaf : (a : Option Ty) (st : State) (n : ℕ) (m m' : Micro) → slice_get k.seats t ≡ Some (seat a st n m) → (w : Words)
      → reveal w.heap ≡ reveal (k.words).heap → w.lines ≡ (k.words).lines → w.end ≡ (k.words).end → w.results ≡ (k.words).results
      → Keeps t (k.words).heap w.heap → HeapOk p w.heap
      → ((d : ℕ → Option Val) → Finishes (fin k.seats) d → SeatBy p rs d t w.heap (typ a) st m') → OkIn false (ends_in (seat a st n m') w)
  look_leaf a st n m m' at w hs ls es ws x hok qok = record {
    results = rs;
    ok = core_ok p rs k ok t (seat a st n m) at w x hok (seat a st n m') None refl (λ v e. e)
        (qok (fin (slice_set k.seats t (seat a st n m'))) (fin_grows k.seats t (seat a st n m) (seat a st n m') None at (λ v e. e))) tt
        (shown_same (seat a st n m') (reveal w.heap) (sym hs) (ok.states t (seat a st n m) at))
        (counts_same w ws (seat a st n m) (seat a st n m') at refl);
    grows = x.grows;
    sim = λ none.
        (config_eq (reveal w.heap) (reveal (k.words).heap) w.lines (k.words).lines
        (threads_of (slice_set k.seats t (seat a st n m'))) ths w.end (k.words).end
        hs ls
        (threads_set k.seats t (seat a st n m') ∙ set_self ths t (thread_of (seat a st n m)) (threads_get k.seats t (seat a st n m) at))
        es);
    seen = λ e i. (es ∙ i, ls);
  }

  pub still_leaf : (a : Option Ty) (st : State) (n : ℕ) (m m' : Micro) → slice_get k.seats t ≡ Some (seat a st n m)
      → ((d : ℕ → Option Val) → Finishes (fin k.seats) d → SeatBy p rs d t (k.words).heap (typ a) st m')
      → OkIn false (ends_in (seat a st n m') k.words)
  still_leaf a st n m m' at qok = look_leaf a st n m m' at k.words refl refl refl refl (keeps_refl t (k.words).heap) ok.heap qok

  -- it has seen an end
  pub halt_leaf : (a : Option Ty) (st : State) (n : ℕ) (m : Micro) → slice_get k.seats t ≡ Some (seat a st n m) → value_of st ≡ None
      → (e : End) → (k.words).end ≡ Some e → OkIn false (ends_in (halts (seat a st n m)) k.words)
  halt_leaf a st n m at un e i = record {
    results = rs;
    ok = core_ok p rs k ok t (seat a st n m) at k.words (keeps_refl t (k.words).heap) ok.heap (halts (seat a st n m)) None refl
        (λ v j. none_some _ (sym un ∙ j)) tt tt (shown_same (halts (seat a st n m)) (reveal (k.words).heap) refl tt)
        (counts_same k.words refl (seat a st n m) (halts (seat a st n m)) at (sym un));
    grows = extends_refl (k.words).heap;
    sim = λ none. none_some _ (sym none ∙ i);
    seen = λ z j. (j, refl);
  }

  -- it records its end
  pub end_leaf : (a : Option Ty) (e : End) (n : ℕ) (m : Micro) → slice_get k.seats t ≡ Some (seat a (state.Failing e) n m)
      → (k.words).end ≡ None → OkIn true (ends_in (halts (seat a (state.Failing e) n m)) (record k.words { end = Some e }))
  unfolding step_of
  end_leaf a e n m at none = record {
    results = rs;
    ok = core_ok p rs k ok t (seat a (state.Failing e) n m) at (record k.words { end = Some e }) (keeps_refl t (k.words).heap) ok.heap
        (halts (seat a (state.Failing e) n m)) None refl (λ v j. none_some _ j) tt tt
        (shown_same (halts (seat a (state.Failing e) n m)) (reveal (k.words).heap) refl tt)
        (counts_same (record k.words { end = Some e }) refl (seat a (state.Failing e) n m) (halts (seat a (state.Failing e) n m)) at refl);
    grows = extends_refl (k.words).heap;
    sim = λ _. step;
    seen = λ z i. none_some _ (sym none ∙ i);
  }
    where
      step : step_of p (stands s k) t ≡ Some (stands s (ends_in (halts (seat a (state.Failing e) n m)) (record k.words { end = Some e })))
      step =
          ap (λ x. step_at p t x (stands s k)) (threads_get k.seats t (seat a (state.Failing e) n m) at)
          ∙ ap (λ x. Some (placed t (thread_of (seat a (state.Failing e) n m)) state.Stopped n (record there { end = first_end x e }))) none
          ∙ ap Some (put_is (halts (seat a (state.Failing e) n m)) (record k.words { end = Some e }) (reveal (k.words).heap)
          (k.words).lines (Some e) refl refl refl (thread_of (seat a (state.Failing e) n m)) refl)

  module _ (a : Option Ty) (f : Frame) (below : List Frame) (n : ℕ) (m : Micro)
      (at : slice_get k.seats t ≡ Some (seat a (state.Running f below) n m)) (item : Work) (is : List Work) (top : f.work ≡ item ∷ is) where
    abbrev was : Seat
    was = seat a (state.Running f below) n m

    -- a step that changes the words to w
    pub change_leaf : (m' : Micro) (w : Words) (d : Change) (st : State) → act p there item (without f is) below ≡ outcome.Moves d st
        → deep st ≡ false → heap_after d (reveal (k.words).heap) ≡ reveal w.heap → results_after d rs ≡ rs
        → ((k.words).end ≡ None → changed d there ≡ config (reveal w.heap) w.lines (slice_set ths t taken_out) w.end)
        → w.end ≡ (k.words).end → Keeps t (k.words).heap w.heap → HeapOk p w.heap
        → ((d : ℕ → Option Val) → SeatBy p rs d t w.heap (typ a) (after s (n + 1) st) m')
        → ((e : End) → (k.words).end ≡ Some e → w.lines ≡ (k.words).lines) → CountsOk w (slice_set k.seats t (moves s was m' st))
        → OkIn true (ends_in (moves s was m' st) w)
    change_leaf m' w d st e shallow hs rsame cs es ks hok qok li cok = record {
      results = rs;
      ok = core_ok p rs k ok t was at w ks hok (moves s was m' st) None refl (λ v i. none_some _ i)
          (qok (fin (slice_set k.seats t (moves s was m' st)))) tt
          (let sk = shown_kept a f below n m at item is top d st e in
          subst (λ y. ShownOk p rs t (length k.seats) (reveal (k.words).heap) y (moves s was m' st) None) hs
          (record {
            grows = sk.grows;
            heap = sk.heap;
            state = after_by p s rs t (heap_after d (reveal (k.words).heap)) (typ a) (n + 1) st
                (subst (λ l. IsWellTypedState p l t (heap_after d (reveal (k.words).heap)) (typ a) st) rsame sk.state);
            begun = tt;
          }))
          cok;
      grows = ks.grows;
      sim = λ none.
          (stepped a f below n m at item is top none (outcome.Moves d st) e
          ∙ ap Some
          (counted_shallow (thread_of was) d st shallow
          ∙ ap (λ c. placed t (thread_of was) (after s (n + 1) st) (n + 1) c) (cs none)
          ∙ put_is (moves s was m' st) w (reveal w.heap) w.lines w.end refl refl refl (thread_of was) refl));
      seen = λ z i. (es ∙ i, li z i);
    }

    -- a step that changes no word
    pub own_leaf : IsWellTypedState p rs t (k.words).heap (typ a) (state.Running f below) → (st : State) → value_of st ≡ None
        → act p there item (without f is) below ≡ outcome.Moves change.Same st
        → act p typed item (without f is) below ≡ outcome.Moves change.Same st → OkIn true (ends_in (moves s was Quick st) k.words)
    own_leaf i st busy e1 e2 = record {
      results = rs;
      ok = core_ok p rs k ok t was at k.words (keeps_refl t (k.words).heap) ok.heap (moves s was Quick st) None refl (λ v j. none_some _ j)
          (after_by p s rs t (k.words).heap (typ a) (n + 1) st (kept a f below n m at item is top i change.Same st e2).state) tt
          (shown_same (moves s was Quick st) (reveal (k.words).heap) refl
          (after_by p s rs t (reveal (k.words).heap) (typ a) (n + 1) st
          (shown_kept a f below n m at item is top change.Same st e1).state))
          (counts_same k.words refl was (moves s was Quick st) at (after_busy s (n + 1) st busy));
      grows = extends_refl (k.words).heap;
      sim = λ none.
          (stepped a f below n m at item is top none (outcome.Moves change.Same st) e1
          ∙ ap Some (counted_same (thread_of was) st ∙ put_is (moves s was Quick st) k.words (reveal (k.words).heap) (k.words).lines
          (k.words).end refl refl refl (thread_of was) refl));
      seen = λ z j. (j, refl);
    }

    -- a step after which the thread would have too many items
    pub deep_leaf : (d : Change) (st : State) → act p there item (without f is) below ≡ outcome.Moves d st → deep st ≡ true
        → OkIn true (ends_in (moves s was Quick (state.Failing ends.DepthLimit)) k.words)
    deep_leaf d st e dp = record {
      results = rs;
      ok = core_ok p rs k ok t was at k.words (keeps_refl t (k.words).heap) ok.heap
          (moves s was Quick (state.Failing ends.DepthLimit)) None refl (λ v j. none_some _ j) tt tt
          (shown_same (moves s was Quick (state.Failing ends.DepthLimit)) (reveal (k.words).heap) refl tt)
          (counts_same k.words refl was (moves s was Quick (state.Failing ends.DepthLimit)) at refl);
      grows = extends_refl (k.words).heap;
      sim = λ none.
          (stepped a f below n m at item is top none (outcome.Moves d st) e
          ∙ ap Some (counted_deep (thread_of was) d st dp ∙ put_is (moves s was Quick (state.Failing ends.DepthLimit)) k.words
          (reveal (k.words).heap) (k.words).lines (k.words).end refl refl refl (thread_of was) refl));
      seen = λ z j. (j, refl);
    }

    -- main's end
    pub done_leaf : (k.words).end ≡ None → act p there item (without f is) below ≡ outcome.Moves (change.Ends ends.Done) state.Stopped
        → OkIn true (ends_in (moves s was Quick state.Stopped) (record k.words { end = Some ends.Done }))
    done_leaf none e = record {
      results = rs;
      ok = core_ok p rs k ok t was at (record k.words { end = Some ends.Done }) (keeps_refl t (k.words).heap) ok.heap
          (moves s was Quick state.Stopped) None refl (λ v j. none_some _ j) tt tt
          (shown_same (moves s was Quick state.Stopped) (reveal (k.words).heap) refl tt)
          (counts_same (record k.words { end = Some ends.Done }) refl was (moves s was Quick state.Stopped) at refl);
      grows = extends_refl (k.words).heap;
      sim = λ _.
          (stepped a f below n m at item is top none (outcome.Moves (change.Ends ends.Done) state.Stopped) e
          ∙ ap (λ x. Some (placed t (thread_of was) state.Stopped (n + 1) (record there { end = first_end x ends.Done }))) none
          ∙ ap Some (put_is (moves s was Quick state.Stopped) (record k.words { end = Some ends.Done }) (reveal (k.words).heap)
          (k.words).lines (Some ends.Done) refl refl refl (thread_of was) refl));
      seen = λ z i. none_some _ (sym none ∙ i);
    }

    -- a step that makes a thread
    pub begin_leaf : IsWellTypedState p rs t (k.words).heap (typ a) (state.Running f below) → (new : Seat) → new.micro ≡ Quick
        → value_of new.state ≡ None → length k.seats < 256 → (st : State) → value_of st ≡ None
        → act p there item (without f is) below ≡ outcome.Moves (change.Begins (thread_of new)) st
        → act p typed item (without f is) below ≡ outcome.Moves (change.Begins (thread_of new)) st → deep st ≡ false
        → OkIn true (record { words = k.words; seats = slice_set k.seats t (moves s was Quick st) ++ new ∷ [] })
    begin_leaf i new quick nbusy few st busy e1 e2 shallow =
        let q : Seat = moves s was Quick st in
        let kp = kept a f below n m at item is top i (change.Begins (thread_of new)) st e2 in
        let sk = shown_kept a f below n m at item is top (change.Begins (thread_of new)) st e1 in
        let rs' : List Ty = rs ++ res new ∷ [] in
        let count : length rs ≡ length k.seats = sym (ap length ok.same) ∙ results_length ths ∙ threads_length k.seats in
        let d = fin (slice_set k.seats t q ++ new ∷ []) in
        record {
          results = rs';
          ok = core_ok p rs k ok t was at k.words (keeps_refl t (k.words).heap) ok.heap q (Some new) refl (λ v j. none_some _ j)
              (after_by p s rs' t (k.words).heap (typ a) (n + 1) st kp.state)
              (subst (λ x. SeatBy p rs' d (length k.seats) (k.words).heap (res new) new.state x) (sym quick)
              (subst (λ j. IsWellTypedState p rs' j (k.words).heap (res new) new.state) count (kp.begun).0))
              (record {
                grows = extends_refl (reveal (k.words).heap);
                heap = ok.shown;
                state = after_by p s rs' t (reveal (k.words).heap) (typ a) (n + 1) st sk.state;
                begun = subst (λ j. IsWellTypedState p rs' j (reveal (k.words).heap) (res new) new.state) count (sk.begun).0;
              })
              (counts_begin k.words k.seats t was q new at (after_busy s (n + 1) st busy) nbusy few ok.counts);
          grows = extends_refl (k.words).heap;
          sim = λ none.
              (stepped a f below n m at item is top none (outcome.Moves (change.Begins (thread_of new)) st) e1
              ∙ ap Some
              (counted_shallow (thread_of was) (change.Begins (thread_of new)) st shallow
              ∙ ap (λ l. config (reveal (k.words).heap) (k.words).lines l (k.words).end)
              (set_append (slice_set ths t taken_out) t (thread_of q) (thread_of new) taken_out
              (set_here ths t taken_out (thread_of was) (threads_get k.seats t was at))
              ∙ ap (λ l. l ++ thread_of new ∷ []) (back q)
              ∙ sym (threads_new (slice_set k.seats t q) (Some new)))));
          seen = λ z j. (j, refl);
        }
