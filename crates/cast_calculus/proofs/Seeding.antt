-- The run in the order of a seed, turn by turn.
use Rattle.mono_syntax.specs.Limits.{most_threads}
use Rattle.std.proofs.Common.{◌≡◌, ℕ, ◌+◌, ◌-◌, ◌*◌, ◌<◌, true, false, List, length, Option, Some, None, is_some, slice_get, unwrap_or, refl, ap, sym, ◌∙◌, subst, arith}
use Rattle.mono_list.proofs.Cases.{some_is, some_none}
use Rattle.mono_syntax.specs.declared.cast.CastScript.{CastScript}
use Rattle.mono_tree.specs.TypedPrograms.{IsTypedProgram}
use Rattle.cast_machine.specs.Step.{Configuration, is_runnable, next_seed, pick, run_from, start_of, step_of}
use Rattle.cast_machine.specs.computed.Seeded.{picked_at, seeded, seeded_thread}
use Rattle.cast_machine.specs.Typing.{IsWellTyped}
use Rattle.cast_machine.proofs.Progress.{progress}
use Rattle.cast_machine.proofs.Runs.{start_ok}
use Rattle.cast_machine.proofs.SeededRuns.{picks_one, run_ends, seeded-suc, seeded-ended, seeded-zero}
use Rattle.cast_machine.proofs.Threads.{pick_ok}
use Rattle.cast_calculus.specs.computed.Runnable.{able_threads}
use Rattle.cast_calculus.specs.SeededEnds.{EndsBySeed}
use Rattle.cast_calculus.proofs.Able.{able_same}

module _ (p : CastScript) (pok : IsTypedProgram p) (c : Configuration) (ok : IsWellTyped p c) (e : c.end ≡ None) where
  pub able_some : 0 < length (able_threads c)
  able_some = subst (λ (l : List ℕ). 0 < length l) (able_same p pok c ok) (progress p pok c ok e)

  able_thread : (s : ℕ) → slice_get (able_threads c) (pick s (length (able_threads c))) ≡ seeded_thread p c s
  able_thread s = sym (ap (λ (l : List ℕ). slice_get l (pick s (length l))) (able_same p pok c ok))

  pub thread_found : (s : ℕ) → slice_get (able_threads c) (pick s (length (able_threads c))) ≡ None → ⊥
  thread_found s n = let one = picks_one p pok s c ok e in some_none ⊥ (sym (one.1) ∙ sym (able_thread s) ∙ n)

  picks : (s t : ℕ) → slice_get (able_threads c) (pick s (length (able_threads c))) ≡ Some t → is_runnable p c t ≡ true
  picks s t f =
      let one = picks_one p pok s c ok e in
      let same : one.0 ≡ t = some_is (sym (one.1) ∙ sym (able_thread s) ∙ f) in
      subst (λ (u : ℕ). is_runnable p c u ≡ true) same one.2

  pub step_found : (s t : ℕ) → slice_get (able_threads c) (pick s (length (able_threads c))) ≡ Some t → None ≡ step_of p c t → ⊥
  step_found s t f n = absurd_false (ap is_some n ∙ picks s t f)
    where
      absurd_false : false ≡ true → ⊥
      absurd_false q = cc

  pub step_picks : (s t : ℕ) (n : Configuration) → slice_get (able_threads c) (pick s (length (able_threads c))) ≡ Some t → Some n ≡ step_of p c t → n ≡ picked_at p c (seeded_thread p c s)
  step_picks s t n f g = ap (λ (o : Option Configuration). unwrap_or o c) g ∙ sym (ap (picked_at p c) (sym (able_thread s) ∙ f))

-- ---- turns

pub no_end : {A : Type 0} (o : Option A) → is_some o ≡ false → o ≡ None
no_end None e = refl
no_end (Some x) e = absurd_true e
  where
    absurd_true : true ≡ false → Some x ≡ None
    absurd_true q = cc

pub start_typed : (p : CastScript) (c : Configuration) → IsTypedProgram p → c ≡ start_of p c.settings → IsWellTyped p c
start_typed p c pok s = subst (IsWellTyped p) (sym s) (start_ok p pok c.settings)

pub turn_typed : (p : CastScript) (c : Configuration) (o : Option ℕ) → IsTypedProgram p → IsWellTyped p c → IsWellTyped p (picked_at p c o)
turn_typed p c None pok ok = ok
turn_typed p c (Some t) pok ok = (pick_ok p pok c ok t).0

pub turn_same : (p : CastScript) (n i s : ℕ) (c : Configuration) → i < n → c.end ≡ None →
    seeded p (n - i) s c ≡ seeded p (n - (i + 1)) (next_seed s) (picked_at p c (seeded_thread p c (next_seed s)))
turn_same p n i s c h e = ap (λ (k : ℕ). seeded p k s c) (omega arith) ∙ seeded-suc p (n - (i + 1)) s c e

-- the run has come to its end
pub ended_by : (p : CastScript) (c : Configuration) (s : ℕ) (last : Configuration) → IsTypedProgram p → c ≡ start_of p c.settings →
    seeded p (most_threads * (c.settings.fuel + 2)) s c ≡ last → EndsBySeed p c s last
ended_by p c s last pok starts same =
    let r = run_ends p pok c.settings s in
    let is : last ≡ run_from p (start_of p c.settings) r.order = sym same ∙ ap (seeded p (most_threads * (c.settings.fuel + 2)) s) starts ∙ r.is in
    subst (λ (d : Configuration). EndsBySeed p d s last) (sym starts)
    (record { order = r.order; seeded = r.seeded_run; is = is; ends = ap (λ (d : Configuration). is_some d.end) is ∙ r.ends })

pub ruleset seeding = (able_some, thread_found, step_found, step_picks)

pub ruleset turns = (start_typed, turn_typed, turn_same, seeded-ended, seeded-zero, ended_by)
