-- The runnable threads by words, and the run in the order of a seed.
use Rattle.std.proofs.Common.{◌≡◌, ℕ, zero, suc, ◌+◌, Bool, true, false, ◌&&◌, List, [], ◌∷◌}
use Rattle.std.proofs.Common.{length, Option, Some, None, is_some, if◌then◌else◌, refl, sym, ap, ◌∙◌, subst}
use Rattle.std.proofs.Common.{arith, slice_get}
use Rattle.std.proofs.lemmas.Bool.{false≢true}
use Rattle.mono_syntax.specs.Ty.{Ty, dyn}
use Rattle.mono_syntax.specs.declared.value.Val.{Val}
use Rattle.mono_syntax.specs.declared.cast.CastScript.{CastScript}
use Rattle.mono_tree.specs.TypedPrograms.{IsTypedProgram}
use Rattle.cast_machine.specs.declared.data.End.{End}
use Rattle.cast_machine.specs.declared.data.Frame.{Frame}
use Rattle.cast_machine.specs.declared.data.Settings.{Settings}
use Rattle.cast_machine.specs.declared.data.State.{State}
use Rattle.cast_machine.specs.declared.data.State.TheVariants as state
use Rattle.cast_machine.specs.declared.data.Outcome.{Outcome}
use Rattle.cast_machine.specs.declared.data.Outcome.TheVariants as outcome
use Rattle.cast_machine.specs.declared.data.Work.{Work}
use Rattle.cast_machine.specs.declared.data.Work.TheVariants as work
use Rattle.cast_machine.specs.Calls.{all_finished, finished, join_of, leave_with}
use Rattle.cast_machine.specs.Step.{Configuration, act, is_runnable, moved, next_seed, runnable_from, runnable_threads}
use Rattle.cast_machine.specs.Step.{step_at, step_of}
use Rattle.cast_machine.specs.Safety.{is_wait}
use Rattle.cast_machine.specs.computed.Seeded.{seeded, seeded_thread, picked_at}
use Rattle.cast_machine.proofs.SeededRuns.{seeded-suc, seeded-ended, seeded-zero}
use Rattle.cast_machine.proofs.Rows.{ActOk}
use Rattle.cast_machine.specs.Typing.{around}
use Rattle.cast_machine.specs.WorkTyping.{IsWellTypedTop}
use Rattle.word_machine.specs.Seats.{Micro, Seat}
use Rattle.word_machine.specs.SeedOrder.{SeededByWords}
use Rattle.word_machine.specs.Ticks.{Core, thread_of, stands, core_start}
use Rattle.word_machine.specs.Words.{Words}
use Rattle.word_machine.specs.computed.Ranks.{rank}
use Rattle.word_machine.specs.computed.SeededTicks.{all_results, work_runs, state_runs, runs_from, word_thread, word_pick, word_seeded}
use Rattle.word_machine.specs.Ticks as TheTicks
use Rattle.word_machine.specs.Words as TheWords
use Rattle.cast_machine.specs.RunLimits.{HasSmallBlocks}
use Rattle.word_machine.proofs.CoreOk.{threads_get, CoreOk}
use Rattle.word_machine.proofs.Leaf.{there, typ, stepped, shown_row, fin_out}
use Rattle.word_machine.proofs.Follow.{start_core}
use Rattle.word_machine.proofs.Lively.{AllLively, main_lively}
use Rattle.word_machine.proofs.Nearer.{no_step}
use Rattle.word_machine.proofs.Picks.{pick_to, solo_ok}

-- ---- the order of a seed

other_runs : (w : Words) (f : Frame) (i : Work) (is : List Work) → is_wait (i ∷ is) ≡ false → work_runs w f (i ∷ is) ≡ true
other_runs w f (work.Join u) is e = absurd (false≢true (sym e))
other_runs w f work.Leave is e = absurd (false≢true (sym e))
other_runs w f i is e = refl

module _ (p : CastScript) (pok : IsTypedProgram p) (s : Settings) (rs : List Ty) (k : Core) (ok : CoreOk p rs k)
    (none : (k.words).end ≡ None) (t : ℕ) where
  abbrev Runs : State → Type 0
  Runs st = is_runnable p (stands s k) t ≡ state_runs k.words st

  module _ (a : Option Ty) (f : Frame) (below : List Frame) (n : ℕ) (m : Micro)
      (at : slice_get k.seats t ≡ Some (record { asked = a; state = state.Running f below; steps = n; micro = m })) (item : Work)
      (is : List Work) (top : f.work ≡ item ∷ is) where
    abbrev cc : Configuration
    cc = there p pok s rs k ok t

    abbrev moves_by : Outcome → Bool
    moves_by (outcome.Moves d st) = true
    moves_by o = false

    moves_some : (o : Outcome)
        → is_some (moved t (thread_of (record { asked = a; state = state.Running f below; steps = n; micro = m })) o cc) ≡ moves_by o
    moves_some outcome.NoRow = refl
    moves_some outcome.Waits = refl
    moves_some (outcome.Moves d st) = refl

    runs_by : (o : Outcome) → act p cc item (record f { work = is }) below ≡ o → is_runnable p (stands s k) t ≡ moves_by o
    runs_by o e = ap is_some (stepped p pok s rs k ok t a f below n m at item is top none o e) ∙ moves_some o

    -- a row that doesn't wait is a step
    goes : (o : Outcome) → is_wait (item ∷ is) ≡ false → ActOk p rs t cc.threads cc.heap (typ a) (item ∷ is) o → moves_by o ≡ true
    goes outcome.NoRow e i = absurd i
    goes outcome.Waits e i = absurd (false≢true (sym e ∙ i.0))
    goes (outcome.Moves d st) e i = refl

    row_ok : ActOk p rs t cc.threads cc.heap (typ a) (item ∷ is) (act p cc item (record f { work = is }) below)
    row_ok = shown_row p pok s rs k ok t a f below n m at item is top

    done_same : (u : ℕ) → finished cc.threads u ≡ TheWords.result_at (k.words).results u
    done_same u = fin_out p pok s rs k ok t u (record { asked = a; state = state.Running f below; steps = n; micro = m }) at refl
        ∙ sym ((ok.counts).results u)

    all_done : (us : List ℕ) → all_finished cc.threads us ≡ all_results (k.words).results us
    all_done [] = refl
    all_done (u ∷ us) = ap (λ o. is_some o && all_finished cc.threads us) (done_same u)
        ∙ ap (λ b. is_some (TheWords.result_at (k.words).results u) && b) (all_done us)

    item_runs : (i : Work) → item ≡ i → is_runnable p (stands s k) t ≡ work_runs k.words f (i ∷ is)
    item_runs i e = go (is_wait (i ∷ is)) refl i e
      where
        joins : (u : ℕ) (o : Option Val) → moves_by (join_of o (record f { work = is }) below) ≡ is_some o
        joins u None = refl
        joins u (Some v) = refl

        leaves : (vs : List Val) (o : Option Ty) (bl : List Frame)
            → ActOk p rs t cc.threads cc.heap (typ a) (item ∷ is) (leave_with vs o bl) → moves_by (leave_with vs o bl) ≡ true
        leaves vs None bl i = refl
        leaves [] (Some T) bl i = absurd i
        leaves (v ∷ vs) (Some T) [] i = refl
        leaves (v ∷ vs) (Some T) (g ∷ bl) i = refl

        left : (b : Bool) → act p cc item (record f { work = is }) below ≡ (if b then leave_with f.values f.asked below else outcome.Waits)
            → is_runnable p (stands s k) t ≡ b
        left true e = runs_by (leave_with f.values f.asked below) e
            ∙ leaves f.values f.asked below (subst (λ o. ActOk p rs t cc.threads cc.heap (typ a) (item ∷ is) o) e row_ok)
        left false e = runs_by outcome.Waits e

        go : (b : Bool) → is_wait (i ∷ is) ≡ b → (j : Work) → item ≡ j → is_runnable p (stands s k) t ≡ work_runs k.words f (j ∷ is)
        go b w (work.Join u) z =
            let e : act p cc item (record f { work = is }) below ≡ join_of (TheWords.result_at (k.words).results u)
            (record f { work = is }) below = ap (λ x. act p cc x (record f { work = is }) below) z
            ∙ ap (λ o. join_of o (record f { work = is }) below) (done_same u) in
            runs_by _ e ∙ joins u (TheWords.result_at (k.words).results u)
        go b w work.Leave z =
            left (all_results (k.words).results f.started) (ap (λ x. act p cc x (record f { work = is }) below) z
            ∙ ap (λ b'. if b' then leave_with f.values f.asked below else outcome.Waits) (all_done f.started))
        go b w j z = other j z refl
          where
            other : (j : Work) → item ≡ j → is_wait (j ∷ is) ≡ false → is_runnable p (stands s k) t ≡ work_runs k.words f (j ∷ is)
            other j z w =
                runs_by _ refl ∙ goes (act p cc item (record f { work = is }) below)
                (subst (λ y. is_wait (y ∷ is) ≡ false) (sym z) w) row_ok ∙ sym (other_runs k.words f j is w)

  work_is : (a : Option Ty) (f : Frame) (below : List Frame) (n : ℕ) (m : Micro)
      → slice_get k.seats t ≡ Some (record { asked = a; state = state.Running f below; steps = n; micro = m }) → (w : List Work)
      → f.work ≡ w → is_runnable p (stands s k) t ≡ work_runs k.words f w
  work_is a f below n m at [] e =
      let i = ok.states t (record { asked = a; state = state.Running f below; steps = n; micro = m }) at in
      absurd ((subst (λ w. IsWellTypedTop p (around (i.0).scope f.asked rs t) (TheTicks.reveal (k.words).heap) [] w f.values (i.0).types) e
      (i.0).work).1)
  work_is a f below n m at (item ∷ is) e = item_runs a f below n m at item is e item refl

  failing_runs : (a : Option Ty) (x : End) (n : ℕ) (m : Micro)
      → slice_get k.seats t ≡ Some (record { asked = a; state = state.Failing x; steps = n; micro = m })
      → is_runnable p (stands s k) t ≡ true
  unfolding step_of
  failing_runs a x n m at = ap (λ o. is_some (step_at p t o (stands s k)))
      (threads_get k.seats t (record { asked = a; state = state.Failing x; steps = n; micro = m }) at)

  seat_is : (a : Option Ty) (st : State) (n : ℕ) (m : Micro)
      → slice_get k.seats t ≡ Some (record { asked = a; state = st; steps = n; micro = m }) → (small : HasSmallBlocks p)
      → is_runnable p (stands s k) t ≡ state_runs k.words st
  seat_is a (state.Running f below) n m at small = work_is a f below n m at f.work refl
  seat_is a (state.Failing x) n m at small = failing_runs a x n m at
  seat_is a (state.Finished v) n m at small = ap is_some (no_step p pok s rs k ok none t small a (state.Finished v) n m at refl)
  seat_is a state.Stopped n m at small = ap is_some (no_step p pok s rs k ok none t small a state.Stopped n m at refl)

-- the runnable threads are those that the words say
runs_same : (p : CastScript) (c : Configuration) (w : Words) (qs : List Seat) (n : ℕ)
    → ((i : ℕ) (q : Seat) → slice_get qs i ≡ Some q → is_runnable p c (n + i) ≡ state_runs w q.state)
    → runs_from w n qs ≡ runnable_from p c n (TheTicks.threads_of qs)
runs_same p c w [] n same = refl
runs_same p c w (q ∷ qs) n same =
    ap (λ b. if b then n ∷ runs_from w (n + 1) qs else runs_from w (n + 1) qs) (sym (same 0 q refl) ∙ ap (is_runnable p c) (plus n))
    ∙ ap (λ l. if is_runnable p c n then n ∷ l else l)
    (runs_same p c w qs (n + 1) (λ i r e. ap (is_runnable p c) (plus_one n i) ∙ same (suc i) r e))
  where
    plus : (a : ℕ) → a + 0 ≡ a
    plus a = omega arith

    plus_one : (a b : ℕ) → a + 1 + b ≡ a + suc b
    plus_one a b = omega arith

module _ (p : CastScript) (pok : IsTypedProgram p) (small : HasSmallBlocks p) (s : Settings) where
  pub runs_right : (rs : List Ty) (k : Core) → CoreOk p rs k → (k.words).end ≡ None
      → runs_from k.words 0 k.seats ≡ runnable_threads p (stands s k)
  runs_right rs k ok none = runs_same p (stands s k) k.words k.seats 0 (λ i q e. ap (is_runnable p (stands s k)) (zero_plus i)
      ∙ seat_is p pok s rs k ok none i q.asked q.state q.steps q.micro e small)
    where
      zero_plus : (i : ℕ) → 0 + i ≡ i
      zero_plus i = omega arith

  thread_right : (rs : List Ty) (k : Core) → CoreOk p rs k → (k.words).end ≡ None → (seed : ℕ)
      → word_thread k seed ≡ seeded_thread p (stands s k) seed
  thread_right rs k ok none seed = ap (λ l. slice_get l (Rattle.cast_machine.specs.Step.pick seed (length l))) (runs_right rs k ok none)

  pick_right : (rs : List Ty) (k : Core) → CoreOk p rs k → (k.words).end ≡ None → AllLively p small s k.seats → (o : Option ℕ)
      → stands s (word_pick p s k o) ≡ picked_at p (stands s k) o
  pick_right rs k ok none all None = refl
  pick_right rs k ok none all (Some t) = pick_to p pok small s t rs k ok none all (rank p k t) (omega arith)

  pick_ok : (rs : List Ty) (k : Core) → CoreOk p rs k → AllLively p small s k.seats → (o : Option ℕ)
      → ((rs' : List Ty) × CoreOk p rs' (word_pick p s k o)) × AllLively p small s (word_pick p s k o).seats
  pick_ok rs k ok all None = ((rs, ok), all)
  pick_ok rs k ok all (Some t) = solo_ok p pok small s t (suc (rank p k t)) rs k ok all

  seeded_to : (n seed : ℕ) (rs : List Ty) (k : Core) → CoreOk p rs k → AllLively p small s k.seats
      → stands s (word_seeded p s n seed k) ≡ seeded p n seed (stands s k)
  seeded_to zero seed rs k ok all = sym (seeded-zero p seed (stands s k))
  seeded_to (suc n) seed rs k ok all =
      let o = word_thread k (next_seed seed) in
      let next = pick_ok rs k ok all o in
      let rest = seeded_to n (next_seed seed) (next.0).0 (word_pick p s k o) (next.0).1 next.1 in
      go (k.words).end refl rest
    where
      go : (e : Option End) → (k.words).end ≡ e
          → stands s (word_seeded p s n (next_seed seed) (word_pick p s k (word_thread k (next_seed seed)))) ≡ seeded p n (next_seed seed)
          (stands s (word_pick p s k (word_thread k (next_seed seed)))) →
          stands s (if is_some e then k else word_seeded p s n (next_seed seed) (word_pick p s k (word_thread k (next_seed seed))))
          ≡ seeded p (suc n) seed (stands s k)
      go (Some x) e rest = sym (seeded-ended p (suc n) seed (stands s k) (ap is_some e))
      go None e rest =
          rest
          ∙ ap (seeded p n (next_seed seed)) (pick_right rs k ok e all (word_thread k (next_seed seed))
          ∙ ap (picked_at p (stands s k)) (thread_right rs k ok e (next_seed seed)))
          ∙ sym (seeded-suc p n seed (stands s k) e)

pub seeded_by_words : SeededByWords
seeded_by_words p pok small s n seed = seeded_to p pok small s n seed (dyn ∷ []) (core_start p) (start_core p pok s) (main_lively p small)
