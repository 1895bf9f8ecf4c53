-- A thread that a row begins has taken no step.
use Rattle.std.proofs.Common.{◌≡◌, List, sym, subst}
use Rattle.mono_syntax.specs.declared.cast.CastScript.{CastScript}
use Rattle.cast_machine.proofs.RowLimits.{RowWithin, act_within}
use Rattle.cast_machine.specs.Step.{Configuration, act}
use Rattle.cast_machine.specs.declared.data.Change.TheVariants as change
use Rattle.cast_machine.specs.declared.data.Frame.{Frame}
use Rattle.cast_machine.specs.declared.data.Outcome.{Outcome}
use Rattle.cast_machine.specs.declared.data.Outcome.TheVariants as outcome
use Rattle.cast_machine.specs.declared.data.Work.{Work}
use Rattle.cast_calculus.specs.Fueled.{IsFresh}

within_fresh : (p : CastScript) (c : Configuration) (o : Outcome) → RowWithin p c o → IsFresh o
within_fresh p c outcome.NoRow i = tt
within_fresh p c outcome.Waits i = tt
within_fresh p c (outcome.Moves change.Same s) i = tt
within_fresh p c (outcome.Moves (change.Sets a x d) s) i = tt
within_fresh p c (outcome.Moves (change.Adds o) s) i = tt
within_fresh p c (outcome.Moves (change.Says line) s) i = tt
within_fresh p c (outcome.Moves (change.Begins th) s) i = i.1
within_fresh p c (outcome.Moves (change.Ends e) s) i = tt

pub fresh_row : (p : CastScript) (c : Configuration) (i : Work) (f : Frame) (below : List Frame) (o : Outcome) → o ≡ act p c i f below → IsFresh o
fresh_row p c i f below o e = subst IsFresh (sym e) (within_fresh p c (act p c i f below) (act_within p c i f below))

pub ruleset fresh = (fresh_row)
