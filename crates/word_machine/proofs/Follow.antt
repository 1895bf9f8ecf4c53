-- Every list of events.
use Rattle.std.proofs.Common.{◌≡◌, arith, is_some, ℕ, zero, suc, Bool, true, false, List, [], ◌∷◌, ◌++◌, Option, Some, None, if◌then◌else◌}
use Rattle.std.proofs.Common.{refl, sym, ap, ◌∙◌, subst, slice_get, unwrap_or}
use Rattle.std.proofs.lemmas.Bool.{false≢true}
use Rattle.mono_list.proofs.Cases.{none_some, some_is}
use Rattle.mono_syntax.specs.Ty.{Ty, dyn}
use Rattle.mono_syntax.specs.declared.value.Val.{Val}
use Rattle.mono_syntax.specs.declared.cast.CastScript.{CastScript}
use Rattle.mono_tree.specs.TypedPrograms.{IsTypedProgram}
use Rattle.cast_machine.specs.declared.data.End.{End}
use Rattle.cast_machine.specs.declared.data.Frame.{Frame}
use Rattle.cast_machine.specs.declared.data.Ready.{Ready}
use Rattle.cast_machine.specs.declared.data.Settings.{Settings}
use Rattle.cast_machine.specs.declared.data.Thread.{Thread}
use Rattle.cast_machine.specs.declared.data.State.{State}
use Rattle.cast_machine.specs.declared.data.State.TheVariants as state
use Rattle.cast_machine.specs.declared.data.Work.{Work}
use Rattle.cast_machine.specs.declared.data.Work.TheVariants as work
use Rattle.cast_machine.specs.Heap.{Heap}
use Rattle.cast_machine.specs.HeapTyping.{HasType, Extends}
use Rattle.cast_machine.specs.WorkTyping.{IsWellTypedTop}
use Rattle.cast_machine.specs.Typing.{IsWellTypedState, around, result_type}
use Rattle.cast_machine.specs.Step.{Configuration, main_frame, picked, run_from, run_of, start_of}
use Rattle.cast_machine.proofs.Obligations.{owns-all}
use Rattle.cast_machine.proofs.Runs.{start_ok}
use Rattle.word_machine.specs.Follows.{Matches, tick_picks, event_picks, is_local, local_seat, event, is_filling, Follows, OnlyOf, Trace}
use Rattle.word_machine.specs.Follows.{WordsFollow}
use Rattle.word_machine.specs.Seats.{NBegins, Seeing, Micro, Quick, Filling, Seat, Next, NLocal, NRest, NWants, next_action, resume}
use Rattle.word_machine.specs.Ticks.{tick_steps, Core, acted, tick_seat, tick, thread_of, threads_of, reveal, stands, empty_results}
use Rattle.word_machine.specs.Ticks.{core_start}
use Rattle.word_machine.specs.Words.{result_at, Words}
use Rattle.word_machine.proofs.CoreOk.{res, fin, extends_trans, SeatBy, CoreOk}
use Rattle.word_machine.proofs.Leaf.{Good}
use Rattle.word_machine.proofs.Tick.{tick_ok}

run_more : (p : CastScript) (c : Configuration) (xs ys : List ℕ) → run_from p c (xs ++ ys) ≡ run_from p (run_from p c xs) ys
run_more p c [] ys = refl
run_more p c (x ∷ xs) ys = run_more p (picked p c x) xs ys

-- these picks of t lead on
pub record Ran (p : CastScript) (s : Settings) (k : Core) (t : ℕ) (more : List ℕ) (k' : Core) : Type 0 where
  pub results : List Ty
  pub ok : CoreOk p results k'
  pub grows : Extends (k.words).heap (k'.words).heap
  pub only : OnlyOf t more
  pub sim : (k.words).end ≡ None → run_from p (stands s k) more ≡ stands s k'
  pub seen : (e : End) → (k.words).end ≡ Some e → ((k'.words).end ≡ Some e) × ((k'.words).lines ≡ (k.words).lines) × (more ≡ [])

abbrev picks_by : ℕ → Option End → Bool → List ℕ
picks_by t e b = if is_some e then [] else (if b then t ∷ [] else [])

ran_one : (p : CastScript) (s : Settings) (rs : List Ty) (k : Core) (t : ℕ) (b : Bool) (k' : Core) → Good p s rs k t b k'
    → Ran p s k t (picks_by t (k.words).end b) k'
ran_one p s rs k t b k' g = record {
  results = g.results;
  ok = g.ok;
  grows = g.grows;
  only = only (k.words).end b;
  sim = λ none. subst (λ o. run_from p (stands s k) (picks_by t o b) ≡ stands s k') (sym none) (one b (g.sim none));
  seen = λ z j. ((g.seen z j).0, (g.seen z j).1, ap (λ o. picks_by t o b) j);
}
  where
    only : (o : Option End) (z : Bool) → OnlyOf t (picks_by t o z)
    only (Some e) z = tt
    only None true = (refl, tt)
    only None false = tt

    one : (z : Bool) → Matches p s k t z k' → run_from p (stands s k) (picks_by t None z) ≡ stands s k'
    one true i = ap (λ o. unwrap_or o (stands s k)) i
    one false i = sym i

only_more : (t : ℕ) (xs ys : List ℕ) → OnlyOf t xs → OnlyOf t ys → OnlyOf t (xs ++ ys)
only_more t [] ys i j = j
only_more t (x ∷ xs) ys i j = (i.0, only_more t xs ys i.1 j)

ran_two : (p : CastScript) (s : Settings) (k : Core) (t : ℕ) (k' k'' : Core) (xs ys : List ℕ) → (k'.words).end ≡ (k.words).end
    → Ran p s k t xs k' → Ran p s k' t ys k'' → Ran p s k t (xs ++ ys) k''
ran_two p s k t k' k'' xs ys same a b = record {
  results = b.results;
  ok = b.ok;
  grows = extends_trans a.grows b.grows;
  only = only_more t xs ys a.only b.only;
  sim = λ none. run_more p (stands s k) xs ys ∙ ap (λ c. run_from p c ys) (a.sim none) ∙ b.sim (same ∙ none);
  seen = λ e i.
      let x = a.seen e i in
      let y = b.seen e x.0 in
      (y.0, y.1 ∙ x.1, ap (λ l. l ++ ys) x.2 ∙ y.2);
}

-- a local step leaves the words
local_words : (p : CastScript) (s : Settings) (k : Core) (t : ℕ) (q : Seat) (n : Next) → is_local n ≡ true
    → (acted s k t (resume p s q) n).words ≡ k.words
local_words p s k t q (NLocal r) e = refl
local_words p s k t q NRest e = refl
local_words p s k t q (NWants a) e = absurd (false≢true e)
local_words p s k t q (NBegins c j m args new) e = absurd (false≢true e)

local_tick : (p : CastScript) (s : Settings) (k : Core) (t : ℕ) (o : Option Seat) → local_seat p s t o ≡ true
    → (tick_seat p s k t o).words ≡ k.words
local_tick p s k t None e = refl
local_tick p s k t (Some q) e = local_words p s k t q (next_action p s t q) e

threads_back : (qs : List Seat) (t : ℕ) (th : Thread) → slice_get (threads_of qs) t ≡ Some th → (q : Seat) × (thread_of q ≡ th)
    × (slice_get qs t ≡ Some q)
threads_back [] t th e = none_some _ e
threads_back (q ∷ qs) zero th e = (q, some_is e, refl)
threads_back (q ∷ qs) (suc t) th e = threads_back qs t th e

module _ (p : CastScript) (pok : IsTypedProgram p) (s : Settings) where
  pub ran_tick : (rs : List Ty) (k : Core) → CoreOk p rs k → (t : ℕ) → Ran p s k t (tick_picks p s k t) (tick p s k t)
  ran_tick rs k ok t = ran_one p s rs k t (tick_steps p s k t) (tick p s k t) (tick_ok p pok s rs k ok t)

  pub event_ok : (n : ℕ) (rs : List Ty) (k : Core) → CoreOk p rs k → (t : ℕ) → Ran p s k t (event_picks p s n k t) (event p s n k t)
  event_ok zero rs k ok t = ran_tick rs k ok t
  event_ok (suc n) rs k ok t = go (local_seat p s t (slice_get k.seats t)) refl (λ rs' ok'. event_ok n rs' (tick p s k t) ok' t)
    where
      go : (b : Bool) → local_seat p s t (slice_get k.seats t) ≡ b
          → ((rs' : List Ty) → CoreOk p rs' (tick p s k t)
          → Ran p s (tick p s k t) t (event_picks p s n (tick p s k t) t) (event p s n (tick p s k t) t)) →
          Ran p s k t (if b then tick_picks p s k t ++ event_picks p s n (tick p s k t) t else tick_picks p s k t)
          (if b then event p s n (tick p s k t) t else tick p s k t)
      go false e next = ran_tick rs k ok t
      go true e next =
          let one = ran_tick rs k ok t in
          ran_two p s k t (tick p s k t) (event p s n (tick p s k t) t) (tick_picks p s k t) (event_picks p s n (tick p s k t) t)
          (ap (λ (w : Words). w.end) (local_tick p s k t (slice_get k.seats t) e)) one (next one.results one.ok)

  -- a ready pair on top
  plain : (rs : List Ty) (d : ℕ → Option Val) (t : ℕ) (h : Heap) (R : Ty) (st : State) (m : Micro) → is_filling m ≡ false
      → SeatBy p rs d t h R st m → IsWellTypedState p rs t h R st
  plain rs d t h R st (Filling b left) e i = absurd (false≢true (sym e))
  plain rs d t h R st (Seeing left n) e i = i.0
  plain rs d t h R st m e i = i

  ready_pair : (rs : List Ty) (k : Core) → CoreOk p rs k → (t : ℕ) (q : Seat) (f : Frame) (below : List Frame) (c a : ℕ) (x : List ℕ)
      (to : Ty) (r : Ready) (rest : List Work) → slice_get k.seats t ≡ Some q → is_filling q.micro ≡ false
      → q.state ≡ state.Running f below → f.work ≡ work.Obligation c a x to (Some r) ∷ rest → HasType (k.words).heap r.value r.ty
  ready_pair rs k ok t q f below c a x to r rest at e st w =
      let i = subst (λ z. IsWellTypedState p rs t (k.words).heap (res q) z) st
      (plain rs (fin k.seats) t (k.words).heap (res q) q.state q.micro e (ok.seats t q at)) in
      let top = subst (λ z. IsWellTypedTop p (around (i.0).scope f.asked rs t) (k.words).heap [] z f.values (i.0).types) w (i.0).work in
      (owns-all p (k.words).heap r.value r.ty top.1).1

  abbrev pub Now : Core → List ℕ → Type 0
  Now k picks = ((k.words).end ≡ None → run_of p s picks ≡ stands s k) × ((run_of p s picks).lines ≡ (k.words).lines)
      × ((run_of p s picks).end ≡ (k.words).end)

  pub now_more : (k : Core) (picks : List ℕ) (t : ℕ) (more : List ℕ) (k' : Core) → Now k picks → (r : Ran p s k t more k')
      → Now k' (picks ++ more)
  now_more k picks t more k' i r = go (k.words).end refl
    where
      all : run_of p s (picks ++ more) ≡ run_from p (run_of p s picks) more
      all = run_more p (start_of p s) picks more

      go : (o : Option End) → (k.words).end ≡ o → Now k' (picks ++ more)
      go None e =
          let same : run_of p s (picks ++ more) ≡ stands s k' = all ∙ ap (λ x. run_from p x more) (i.0 e) ∙ r.sim e in
          ((λ none. same), ap (λ (x : Configuration). x.lines) same, ap (λ (x : Configuration). x.end) same)
      go (Some x) e =
          let y = r.seen x e in
          let same : run_of p s (picks ++ more) ≡ run_of p s picks = all ∙ ap (λ l. run_from p (run_of p s picks) l) y.2 in (
            (λ none. none_some _ (sym none ∙ y.0)),
            ap (λ (z : Configuration). z.lines) same ∙ i.1 ∙ sym y.1,
            ap (λ (z : Configuration). z.end) same ∙ i.2 ∙ e ∙ sym y.0,
          )

  pub follows : (rs : List Ty) (k : Core) → CoreOk p rs k → (picks : List ℕ) → Now k picks → Follows p s k picks
  follows rs k ok picks i = record {
    same = i.0;
    lines = i.1;
    end = i.2;
    steps = λ t none. (tick_ok p pok s rs k ok t).sim none;
    results = (ok.counts).results;
    heap = (ok.shown).letter;
    own = (ok.shown).own;
    threads = λ t th at. let b = threads_back k.seats t th at in subst
        (λ l. IsWellTypedState p l t (reveal (k.words).heap) (result_type th) th.state) (sym ok.same)
        (subst (λ (x : Thread). IsWellTypedState p rs t (reveal (k.words).heap) (result_type x) x.state) b.1 (ok.states t b.0 b.2));
    typed = (ok.heap).letter.typed;
    ready = ready_pair rs k ok;
  }

  pub trace : (n : ℕ) (ts : List ℕ) (rs : List Ty) (k : Core) → CoreOk p rs k → (picks : List ℕ)
      → ((k.words).end ≡ None → run_of p s picks ≡ stands s k) × ((run_of p s picks).lines ≡ (k.words).lines)
      × ((run_of p s picks).end ≡ (k.words).end) → Trace p s n ts k picks
  trace n [] rs k ok picks i = follows rs k ok picks i
  trace n (t ∷ ts) rs k ok picks i =
      let r = event_ok n rs k ok t in (
        follows rs k ok picks i,
        r.grows,
        r.only,
        trace n ts r.results (event p s n k t) r.ok (picks ++ event_picks p s n k t)
            (now_more k picks t (event_picks p s n k t) (event p s n k t) i r),
      )

  main_typed : (t : ℕ) (q : Seat) → slice_get (core_start p).seats t ≡ Some q → IsWellTypedState p (dyn ∷ []) t [] (res q) q.state
  main_typed zero q e = subst (λ (x : Seat). IsWellTypedState p (dyn ∷ []) 0 [] (res x) x.state) (some_is e)
      ((start_ok p pok s).threads 0 (record { asked = None; state = state.Running (main_frame p) []; steps = 0 }) refl)
  main_typed (suc t) q e = none_some _ e

  main_quick : (t : ℕ) (q : Seat) → slice_get (core_start p).seats t ≡ Some q → q.micro ≡ Quick
  main_quick zero q e = sym (ap (λ (x : Seat). x.micro) (some_is e))
  main_quick (suc t) q e = none_some _ e

  no_results : (u : ℕ) → result_at (empty_results 256) u ≡ fin (core_start p).seats u
  no_results u = none_at 256 u ∙ sym (none_there u)
    where
      none_at : (n u : ℕ) → result_at (empty_results n) u ≡ None
      none_at zero u = refl
      none_at (suc n) zero = refl
      none_at (suc n) (suc u) = none_at n u

      none_there : (u : ℕ) → fin (core_start p).seats u ≡ None
      none_there zero = refl
      none_there (suc u) = refl

  pub start_core : CoreOk p (dyn ∷ []) (core_start p)
  start_core = record {
    heap = record { letter = (start_ok p pok s).heap; own = (start_ok p pok s).own };
    seats = λ t q e. subst (λ m. SeatBy p (dyn ∷ []) (fin (core_start p).seats) t [] (res q) q.state m) (sym (main_quick t q e))
        (main_typed t q e);
    same = refl;
    shown = record { letter = (start_ok p pok s).heap; own = (start_ok p pok s).own };
    states = main_typed;
    counts = record { room = refl; few = omega arith; results = no_results };
  }

pub words_follow : WordsFollow
words_follow p pok s n events = trace p pok s n events (dyn ∷ []) (core_start p) (start_core p pok s) [] ((λ none. refl), refl, refl)
