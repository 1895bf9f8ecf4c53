-- A run in the order of a seed records an end within a bound.
use Rattle.std.proofs.Math.Nat.{mod-lt}
use Rattle.std.proofs.Common.{Bool, List, None, Option, Some, [], ap, arith, false, if◌then◌else◌, is_some, length, mod-lt, refl, set, slice_get, suc, sym, true, zero, ℕ, ◌*◌, ◌+◌, ◌/◌, ◌<◌, ◌^◌, ◌∙◌, ◌∷◌, ◌≡◌, ◌≤◌}
use Rattle.std.proofs.lemmas.Bool.{false≢true}
use Rattle.mono_syntax.specs.Limits.{most_threads}
use Rattle.mono_syntax.specs.declared.cast.CastScript.{CastScript}
use Rattle.mono_tree.specs.TypedPrograms.{IsTypedProgram}
use Rattle.cast_machine.proofs.Progress.{progress, runnable_steps}
use Rattle.cast_machine.proofs.Ranks.{pick_falls, rank, start_rank}
use Rattle.cast_machine.proofs.Runs.{start_ok}
use Rattle.cast_machine.proofs.Threads.{pick_ok}
use Rattle.cast_machine.specs.computed.Seeded.{picked_at, seeded, seeded_thread}
use Rattle.cast_machine.specs.Step.{Configuration, IsSeededRun, ended, is_runnable, next_seed, pick, picked, picks, run_from, runnable_threads, start_of}
use Rattle.cast_machine.specs.Typing.{IsWellTyped}
use Rattle.cast_machine.specs.declared.data.End.{End}
use Rattle.cast_machine.specs.declared.data.Settings.{Settings}

pick_below : (s r : ℕ) → 0 < r → pick s r < r
unfolding pick
pick_below s r h = mod-lt (s / 2 ^ 33) h

found : {A : Type 0} (l : List A) (k : ℕ) → k < length l → (x : A) × (slice_get l k ≡ Some x)
found [] k h = absurd (omega arith)
found (x ∷ l) zero h = (x, refl)
found (x ∷ l) (suc k) h = found l k (omega arith)

-- what a run by n picks comes to: it is the run of a list of picks in the seed's order, and an end is recorded
pub record EndsBy (p : CastScript) (n s : ℕ) (c : Configuration) : Type 0 where
  pub order : List ℕ
  pub seeded_run : IsSeededRun p c s order
  pub is : seeded p n s c ≡ run_from p c order
  pub ends : is_some (run_from p c order).end ≡ true

-- an end is recorded already
ended_by : (p : CastScript) (n s : ℕ) (c : Configuration) → is_some c.end ≡ true → EndsBy p n s c
unfolding seeded
ended_by p zero s c e = record { order = []; seeded_run = ended c s e; is = refl; ends = e }
ended_by p (suc n) s c e =
    record { order = []; seeded_run = ended c s e; is = ap (λ b. if b then c else seeded p n (next_seed s) (picked_at p c (seeded_thread p c (next_seed s)))) e; ends = e }

-- one pick, and the rest
picked_by : (p : CastScript) (n s : ℕ) (c : Configuration) → c.end ≡ None → (t : ℕ) → seeded_thread p c (next_seed s) ≡ Some t → EndsBy p n (next_seed s) (picked p c t) → EndsBy p (suc n) s c
unfolding seeded
picked_by p n s c e t at i = record {
  order = t ∷ i.order;
  seeded_run = picks c s t i.order e at i.seeded_run;
  is = ap (λ b. if b then c else seeded p n (next_seed s) (picked_at p c (seeded_thread p c (next_seed s)))) (ap is_some e) ∙ ap (λ o. seeded p n (next_seed s) (picked_at p c o)) at ∙ i.is;
  ends = i.ends;
}

no_end : (o : Option End) → is_some o ≡ false → o ≡ None
no_end None e = refl
no_end (Some x) e = absurd (false≢true (sym e))

-- while no end is recorded, a seed picks a runnable thread
pub picks_one : (p : CastScript) → IsTypedProgram p → (s : ℕ) (c : Configuration) → IsWellTyped p c → c.end ≡ None → (t : ℕ) × (seeded_thread p c s ≡ Some t) × (is_runnable p c t ≡ true)
picks_one p pok s c ok e =
    let r = runnable_threads p c in
    let x = found r (pick s (length r)) (pick_below s (length r) (progress p pok c ok e)) in
    (x.0, x.1, runnable_steps p c c.threads 0 (pick s (length r)) x.0 x.1)

none_left : (p : CastScript) → IsTypedProgram p → (s : ℕ) (c : Configuration) → IsWellTyped p c → rank c ≤ 0 → (b : Bool) → is_some c.end ≡ b → EndsBy p 0 s c
none_left p pok s c ok le true e = ended_by p 0 s c e
none_left p pok s c ok le false e =
    let x = picks_one p pok s c ok (no_end c.end e) in
    let less = pick_falls p pok c ok x.0 x.2 in
    absurd (omega (arith, less, le))

one_more : (p : CastScript) → IsTypedProgram p → (n s : ℕ) (c : Configuration) → IsWellTyped p c → rank c ≤ suc n → ((t : ℕ) → rank (picked p c t) ≤ n → EndsBy p n (next_seed s) (picked p c t)) → (b : Bool) → is_some c.end ≡ b → EndsBy p (suc n) s c
one_more p pok n s c ok le next true e = ended_by p (suc n) s c e
one_more p pok n s c ok le next false e =
    let x = picks_one p pok (next_seed s) c ok (no_end c.end e) in
    let less = pick_falls p pok c ok x.0 x.2 in
    picked_by p n s c (no_end c.end e) x.0 x.1 (next x.0 (below (rank (picked p c x.0)) (rank c) n less le))
  where
    below : (a b n : ℕ) → a < b → b ≤ suc n → a ≤ n
    below a b n h k = omega arith

-- a configuration whose rank is at most n records an end within n picks
pub ends_within : (p : CastScript) → IsTypedProgram p → (n s : ℕ) (c : Configuration) → IsWellTyped p c → rank c ≤ n → EndsBy p n s c
ends_within p pok zero s c ok le = none_left p pok s c ok le (is_some c.end) refl
ends_within p pok (suc n) s c ok le =
    one_more p pok n s c ok le (λ t small. ends_within p pok n (next_seed s) (picked p c t) (pick_ok p pok c ok t).0 small) (is_some c.end) refl

-- the run of a script
pub run_ends : (p : CastScript) → IsTypedProgram p → (set : Settings) (s : ℕ) → EndsBy p (most_threads * (set.fuel + 2)) s (start_of p set)
run_ends p pok set s = ends_within p pok (most_threads * (set.fuel + 2)) s (start_of p set) (start_ok p pok set) (start_rank p set)

-- ---- the loop that computes it

-- one turn
pub seeded-suc : (p : CastScript) (n s : ℕ) (c : Configuration) → c.end ≡ None → seeded p (suc n) s c ≡ seeded p n (next_seed s) (picked_at p c (seeded_thread p c (next_seed s)))
unfolding seeded
seeded-suc p n s c e = ap (λ b. if b then c else seeded p n (next_seed s) (picked_at p c (seeded_thread p c (next_seed s)))) (ap is_some e)

-- once an end is recorded nothing changes
pub seeded-ended : (p : CastScript) (n s : ℕ) (c : Configuration) → is_some c.end ≡ true → seeded p n s c ≡ c
unfolding seeded
seeded-ended p zero s c e = refl
seeded-ended p (suc n) s c e = ap (λ b. if b then c else seeded p n (next_seed s) (picked_at p c (seeded_thread p c (next_seed s)))) e

pub seeded-zero : (p : CastScript) (s : ℕ) (c : Configuration) → seeded p 0 s c ≡ c
unfolding seeded
seeded-zero p s c = refl
