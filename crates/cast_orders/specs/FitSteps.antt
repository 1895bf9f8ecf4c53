-- A fit of a value to a type in a run, from the step that begins it to the one after which its work is gone.
use Rattle.std.specs.Prelude.{◌≡◌, ℕ, ◌≤◌, List, ◌∷◌, ◌++◌, Option, Some, slice_get}
use Rattle.mono_syntax.specs.Ty.{Ty}
use Rattle.mono_syntax.specs.declared.value.Val.{Val}
use Rattle.mono_syntax.specs.declared.cast.CastScript.{CastScript}
use Rattle.mono_tree.specs.CastScripts.{target_of}
use Rattle.mono_tree.specs.TypedPrograms.{IsTypedProgram}
use Rattle.cast_machine.specs.declared.data.End.{End}
use Rattle.cast_machine.specs.declared.data.Frame.{Frame}
use Rattle.cast_machine.specs.declared.data.Settings.{Settings}
use Rattle.cast_machine.specs.declared.data.State.TheVariants as state
use Rattle.cast_machine.specs.declared.data.Thread.{Thread}
use Rattle.cast_machine.specs.declared.data.Work.{Work}
use Rattle.cast_machine.specs.declared.data.Work.TheVariants as work
use Rattle.cast_machine.specs.Step.{Configuration, run_of, step_of}

-- a configuration of a run of a well-typed script
pub record IsOfRun (p : CastScript) (c : Configuration) : Type 0 where
  pub script : IsTypedProgram p
  pub settings : Settings
  pub fuel : 1 ≤ settings.fuel
  pub picks : List ℕ
  pub is : run_of p settings picks ≡ c

-- thread t runs with f on top of these frames
pub record Runs (c : Configuration) (t : ℕ) (f : Frame) (below : List Frame) : Type 0 where
  pub thread : Thread
  pub at : slice_get c.threads t ≡ Some thread
  pub running : thread.state ≡ state.Running f below

-- thread t is failing with an end
pub record IsFailing (c : Configuration) (t : ℕ) (e : End) : Type 0 where
  pub thread : Thread
  pub at : slice_get c.threads t ≡ Some thread
  pub failing : thread.state ≡ state.Failing e

-- The item fits the value at a place of the value list to a type: an argument to its parameter's type, the top value to
-- a cast's target, or the top value to the type that the frame's result is asked at.
abbrev pub FitsAt : CastScript → Option Ty → Work → Ty → ℕ → Type 0
FitsAt p asked (work.Arg k t j) to place = (t ≡ to) × (j ≡ place)
FitsAt p asked (work.Cast k) to place = (target_of p k ≡ Some to) × (place ≡ 0)
FitsAt p asked (work.Result k) to place = (asked ≡ Some to) × (place ≡ 0)
FitsAt p asked i to place = ⊥

-- A fit of v to a type begins: thread t runs, and its top item fits v to the type. The rest is the work below the item.
pub record BeginsFit (p : CastScript) (c : Configuration) (t : ℕ) (v : Val) (to : Ty) : Type 0 where
  pub frame : Frame
  pub below : List Frame
  pub runs : Runs c t frame below
  pub item : Work
  pub rest : List Work
  pub top : frame.work ≡ item ∷ rest
  pub place : ℕ
  pub fits : FitsAt p frame.asked item to place
  pub value : slice_get frame.values place ≡ Some v

-- It has not ended: the thread runs, and work of the fit stands above the rest. That is the item, or what it became: a
-- Fitted, maybe with obligations above it.
pub record IsUnderWay (d : Configuration) (t : ℕ) (rest : List Work) : Type 0 where
  pub frame : Frame
  pub below : List Frame
  pub runs : Runs d t frame below
  pub item : Work
  pub more : List Work
  pub top : frame.work ≡ item ∷ more ++ rest

-- it has ended: the thread runs, and the rest is its work
pub record HasEnded (d : Configuration) (t : ℕ) (rest : List Work) : Type 0 where
  pub frame : Frame
  pub below : List Frame
  pub runs : Runs d t frame below
  pub top : frame.work ≡ rest

-- Steps of thread t alone lead from c to a configuration, each taken while the fit above the rest has not ended.
pub data FitLeads (p : CastScript) (c : Configuration) (t : ℕ) (rest : List Work) : Configuration → Type 0 where
  begun : FitLeads p c t rest c
  steps : (d e : Configuration) → FitLeads p c t rest d → IsUnderWay d t rest → step_of p d t ≡ Some e → FitLeads p c t rest e

-- In a run a fit of v to a type begins at c, and steps of its thread alone lead to d, none taken after the fit has ended
-- or the thread is failing.
pub record FitReaches (p : CastScript) (c d : Configuration) (t : ℕ) (v : Val) (to : Ty) : Type 0 where
  pub run : IsOfRun p c
  pub begins : BeginsFit p c t v to
  pub leads : FitLeads p c t begins.rest d
