-- A run in the order of a seed is one that the answer speaks of.
use Rattle.std.proofs.Common.{◌≡◌, Result, Ok, Err, IfOk, [], ℕ, ◌≤◌, sym, subst}
use Rattle.mono_syntax.specs.declared.cast.CastScript.{CastScript}
use Rattle.mono_tree.specs.TypedPrograms.{IsTypedProgram}
use Rattle.cast_machine.specs.Step.{Configuration, start_of}
use Rattle.cast_machine.proofs.Runs.{safe_run}
use Rattle.cast_calculus.specs.SeededEnds.{EndsBySeed}
use Rattle.cast_machine.specs.declared.data.Settings.{Settings}
use Rattle.mono_cli.specs.Answer.{Answer}
use Rattle.mono_cli.specs.Scripts.{IsHeaded, IsRunAnswer, RunsTo}

runs_to : (p : CastScript) → IsTypedProgram p → (s : Settings) → 1 ≤ s.fuel → (seed : ℕ) (c : Configuration) → EndsBySeed p (start_of p s) seed c → RunsTo p s seed c
runs_to p ok s some seed c h = record {
  order = h.order;
  seeded = h.seeded;
  reaches = h.is;
  ends = h.ends;
  safe = safe_run p ok s some;
}

pub seed_runs_to : {E : Type 0} (p : CastScript) → IsTypedProgram p → (s : Settings) → 1 ≤ s.fuel → (seed : ℕ) (start : Configuration) → start ≡ start_of p s →
    (r : Result Configuration E) → IfOk r (λ c. EndsBySeed p start seed c) → IfOk r (λ c. RunsTo p s seed c)
seed_runs_to p ok s some seed start is (Ok c) h = runs_to p ok s some seed c (subst (λ (x : Configuration). EndsBySeed p x seed c) is h)
seed_runs_to p ok s some seed start is (Err f) h = tt

-- an answer behind an empty head line is that answer
pub headless : (p : CastScript) (s : Settings) (seed : ℕ) (a : Answer) → IsHeaded [] (IsRunAnswer p s seed) a → IsRunAnswer p s seed a
headless p s seed a h = subst (λ (x : Answer). IsRunAnswer p s seed x) (sym h.says) h.is
