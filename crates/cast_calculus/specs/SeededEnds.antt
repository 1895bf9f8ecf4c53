-- A run in the order of a seed that has come to its end.
use Rattle.std.specs.Prelude.{◌≡◌, ℕ, true, List, is_some}
use Rattle.mono_syntax.specs.declared.cast.CastScript.{CastScript}
use Rattle.cast_machine.specs.Step.{Configuration, run_from, IsSeededRun}

-- the picks are those of the seed until an end is recorded, and this is the configuration after them
pub record EndsBySeed (p : CastScript) (c : Configuration) (seed : ℕ) (last : Configuration) : Type 0 where
  pub order : List ℕ
  pub seeded : IsSeededRun p c seed order
  pub is : last ≡ run_from p c order
  pub ends : is_some last.end ≡ true
