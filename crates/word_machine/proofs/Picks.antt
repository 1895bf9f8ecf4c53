-- A pick of the calculus is boundedly many ticks of its thread alone.
use Rattle.std.proofs.Common.{◌≡◌, ⊎_elim, ℕ, zero, suc, ◌<◌, ◌≤◌, Bool, true, false, List, [], ◌∷◌}
use Rattle.std.proofs.Common.{Option, Some, None, unwrap_or, if◌then◌else◌, refl, sym, ap, ◌∙◌, subst}
use Rattle.std.proofs.Common.{arith}
use Rattle.std.proofs.lemmas.Bool.{false≢true}
use Rattle.mono_list.proofs.Cases.{none_some, some_is}
use Rattle.mono_syntax.specs.Ty.{Ty, dyn}
use Rattle.mono_syntax.specs.declared.cast.CastScript.{CastScript}
use Rattle.mono_tree.specs.TypedPrograms.{IsTypedProgram}
use Rattle.cast_machine.specs.declared.data.Settings.{Settings}
use Rattle.cast_machine.specs.Step.{Configuration, picked}
use Rattle.cast_machine.specs.Step.{step_of}
use Rattle.cast_machine.proofs.Heap.{on_test}
use Rattle.word_machine.specs.Follows.{Matches}
use Rattle.word_machine.specs.SeedOrder.{PicksByWords}
use Rattle.word_machine.specs.Ticks.{Core, stands, tick, tick_steps, core_start, after_ticks}
use Rattle.word_machine.specs.computed.Ranks.{solo}
use Rattle.word_machine.specs.computed.Ranks.{rank}
use Rattle.cast_machine.specs.RunLimits.{HasSmallBlocks}
use Rattle.word_machine.proofs.CoreOk.{CoreOk}
use Rattle.word_machine.proofs.Tick.{tick_ok}
use Rattle.word_machine.proofs.Follow.{start_core}
use Rattle.word_machine.proofs.Lively.{AllLively, main_lively, tick_lively, ticks_lively}
use Rattle.word_machine.proofs.Lively.{core_after}
use Rattle.word_machine.proofs.Nearer.{near}

-- ---- a pick

module _ (p : CastScript) (pok : IsTypedProgram p) (small : HasSmallBlocks p) (s : Settings) (t : ℕ) where
  pub solo_first : (m : ℕ) (k : Core) → tick_steps p s k t ≡ true → solo p s (suc m) k t ≡ tick p s k t
  solo_first m k e = ap (λ b. if b then tick p s k t else solo p s m (tick p s k t) t) e

  pub solo_more : (m : ℕ) (k : Core) → tick_steps p s k t ≡ false → solo p s (suc m) k t ≡ solo p s m (tick p s k t) t
  solo_more m k e = ap (λ b. if b then tick p s k t else solo p s m (tick p s k t) t) e

  matches : (rs : List Ty) (k : Core) → CoreOk p rs k → (k.words).end ≡ None → (b : Bool) → tick_steps p s k t ≡ b
      → Matches p s k t b (tick p s k t)
  matches rs k ok none b e = subst (λ z. Matches p s k t z (tick p s k t)) e ((tick_ok p pok s rs k ok t).sim none)

  -- what is known of a configuration with a smaller rank
  abbrev Smaller : Core → Configuration → ℕ → Type 0
  Smaller k c zero = Unit {0}
  Smaller k c (suc j) = (k.words).end ≡ None → AllLively p small s k.seats → step_of p (stands s k) t ≡ Some c → rank p k t ≤ j
      → stands s (solo p s (suc j) k t) ≡ c

  one_tick : (n : ℕ) (rs : List Ty) (k : Core) → CoreOk p rs k → (k.words).end ≡ None → AllLively p small s k.seats → (c : Configuration)
      → step_of p (stands s k) t ≡ Some c → rank p k t ≤ n → Smaller (tick p s k t) c n → (b : Bool) → tick_steps p s k t ≡ b
      → stands s (solo p s (suc n) k t) ≡ c
  one_tick n rs k ok none all c e l next true z = ap (stands s) (solo_first n k z) ∙ some_is (sym (matches rs k ok none true z) ∙ e)
  one_tick n rs k ok none all c e l next false z = ⊎_elim (λ y. absurd (false≢true (sym z ∙ y))) (λ y. further n l y next)
      (near p pok s rs k ok none t small c e all)
    where
      further : (n : ℕ) → rank p k t ≤ n → rank p (tick p s k t) t < rank p k t → Smaller (tick p s k t) c n
          → stands s (solo p s (suc n) k t) ≡ c
      further zero l y next = absurd (omega (arith, l, y))
      further (suc j) l y next =
          let same = matches rs k ok none false z in
          ap (stands s) (solo_more (suc j) k z) ∙ next (ap (λ (x : Configuration). x.end) same ∙ none) (tick_lively p small s k t all)
          (ap (λ x. step_of p x t) same ∙ e) (omega (arith, l, y))

  steps_to : (n : ℕ) (rs : List Ty) (k : Core) → CoreOk p rs k → (k.words).end ≡ None → AllLively p small s k.seats → (c : Configuration)
      → step_of p (stands s k) t ≡ Some c → rank p k t ≤ n → stands s (solo p s (suc n) k t) ≡ c
  steps_to zero rs k ok none all c e l = one_tick zero rs k ok none all c e l tt (tick_steps p s k t) refl
  steps_to (suc n) rs k ok none all c e l =
      let g = tick_ok p pok s rs k ok t in
      one_tick (suc n) rs k ok none all c e l (λ none' all' e' l'. steps_to n g.results (tick p s k t) g.ok none' all' c e' l')
      (tick_steps p s k t) refl

  stay_tick : (n : ℕ) (rs : List Ty) (k : Core) → CoreOk p rs k → (k.words).end ≡ None → step_of p (stands s k) t ≡ None
      → (((tick p s k t).words).end ≡ None → step_of p (stands s (tick p s k t)) t ≡ None
      → stands s (solo p s n (tick p s k t) t) ≡ stands s (tick p s k t)) → (b : Bool) → tick_steps p s k t ≡ b
      → stands s (solo p s (suc n) k t) ≡ stands s k
  stay_tick n rs k ok none e next true z = none_some _ (sym e ∙ matches rs k ok none true z)
  stay_tick n rs k ok none e next false z =
      let same = matches rs k ok none false z in
      ap (stands s) (solo_more n k z) ∙ next (ap (λ (x : Configuration). x.end) same ∙ none) (ap (λ x. step_of p x t) same ∙ e) ∙ same

  stays : (n : ℕ) (rs : List Ty) (k : Core) → CoreOk p rs k → (k.words).end ≡ None → step_of p (stands s k) t ≡ None
      → stands s (solo p s n k t) ≡ stands s k
  stays zero rs k ok none e = refl
  stays (suc n) rs k ok none e =
      let g = tick_ok p pok s rs k ok t in
      stay_tick n rs k ok none e (λ none' e'. stays n g.results (tick p s k t) g.ok none' e') (tick_steps p s k t) refl

  pub pick_to : (rs : List Ty) (k : Core) → CoreOk p rs k → (k.words).end ≡ None → AllLively p small s k.seats → (n : ℕ) → rank p k t ≤ n
      → stands s (solo p s (suc n) k t) ≡ picked p (stands s k) t
  pick_to rs k ok none all n l = go (step_of p (stands s k) t) refl
    where
      go : (o : Option Configuration) → step_of p (stands s k) t ≡ o → stands s (solo p s (suc n) k t) ≡ unwrap_or o (stands s k)
      go None e = stays (suc n) rs k ok none e
      go (Some c) e = steps_to n rs k ok none all c e l

  -- what is true of all that is reached
  pub solo_ok : (n : ℕ) (rs : List Ty) (k : Core) → CoreOk p rs k → AllLively p small s k.seats
      → ((rs' : List Ty) × CoreOk p rs' (solo p s n k t)) × AllLively p small s (solo p s n k t).seats
  solo_ok zero rs k ok all = ((rs, ok), all)
  solo_ok (suc n) rs k ok all =
      let g = tick_ok p pok s rs k ok t in
      let next = solo_ok n g.results (tick p s k t) g.ok (tick_lively p small s k t all) in
      on_test (tick_steps p s k t) _ _ (λ (x : Core). ((rs' : List Ty) × CoreOk p rs' x) × AllLively p small s x.seats)
      (λ e. ((g.results, g.ok), tick_lively p small s k t all)) (λ e. next)

pub picks_by_words : PicksByWords
picks_by_words p pok small s ticks none t n l =
    let c = core_after p pok s (dyn ∷ []) (core_start p) (start_core p pok s) ticks in
    pick_to p pok small s t c.0 (after_ticks p s (core_start p) ticks) c.1 none
    (ticks_lively p small s (core_start p) ticks (main_lively p small)) n l
