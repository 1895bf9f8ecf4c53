-- The computed picks are those of the seed's order, and the run by them is the computed one.
use Rattle.std.proofs.Common.{◌≡◌, ℕ, zero, suc, ◌≤◌, Bool, true, false, List, [], ◌∷◌, length, Option, Some, None, is_some, if◌then◌else◌, refl, ap, ◌∙◌, arith}
use Rattle.mono_syntax.specs.declared.cast.CastScript.{CastScript}
use Rattle.cast_machine.specs.Step.{Configuration, IsSeededRun, ended, next_seed, picked, picks, run_from}
use Rattle.cast_machine.specs.SeededPicks.{picks_then, seeded_picks}
use Rattle.cast_machine.specs.computed.Seeded.{picked_at, seeded, seeded_thread}

-- the run by the computed picks
pub seeded-run_from : (p : CastScript) (n s : ℕ) (c : Configuration) → seeded p n s c ≡ run_from p c (seeded_picks p n s c)
unfolding seeded seeded_picks
seeded-run_from p zero s c = refl
seeded-run_from p (suc n) s c = go (λ d. seeded-run_from p n (next_seed s) d) (is_some c.end) (seeded_thread p c (next_seed s))
  where
    go : ((d : Configuration) → seeded p n (next_seed s) d ≡ run_from p d (seeded_picks p n (next_seed s) d)) → (b : Bool) (o : Option ℕ) →
        (if b then c else seeded p n (next_seed s) (picked_at p c o)) ≡ run_from p c (if b then [] else picks_then p c (seeded_picks p n (next_seed s)) o)
    go next true o = refl
    go next false (Some t) = next (picked p c t)
    go next false None = next c

-- a list of picks in the seed's order, where it isn't longer than what is computed
pub seeded_picks-run : (p : CastScript) (n s : ℕ) (c : Configuration) (ts : List ℕ) → IsSeededRun p c s ts → length ts ≤ n → seeded_picks p n s c ≡ ts
unfolding seeded_picks
seeded_picks-run p zero s c [] (ended _ _ e) le = refl
seeded_picks-run p (suc n) s c [] (ended _ _ e) le = ap (λ b. if b then [] else picks_then p c (seeded_picks p n (next_seed s)) (seeded_thread p c (next_seed s))) e
seeded_picks-run p zero s c (t ∷ ts) (picks _ _ _ _ e at rest) le = absurd (omega arith)
seeded_picks-run p (suc n) s c (t ∷ ts) (picks _ _ _ _ e at rest) le =
    ap (λ b. if b then [] else picks_then p c (seeded_picks p n (next_seed s)) (seeded_thread p c (next_seed s))) (ap is_some e)
    ∙ ap (λ o. picks_then p c (seeded_picks p n (next_seed s)) o) at
    ∙ ap (λ l. t ∷ l) (seeded_picks-run p n (next_seed s) (picked p c t) ts rest (omega arith))
