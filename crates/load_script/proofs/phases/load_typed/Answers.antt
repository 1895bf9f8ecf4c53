use Rattle.std.proofs.Common.{◌≡◌, ◌∙◌, sym, subst}
use Rattle.mono_syntax.specs.declared.script.Scoped.{Scoped}
use Rattle.static_types.specs.Scripts.{IsTypeFault}
use Rattle.cast_rules.specs.HasCasts.{HasCasts}
use Rattle.cast_rules.proofs.WellTypedScript.{well_typed_by}
use Rattle.load_script.proofs.phases.load_typed.Goals as goal

pub returns-clause-refuses : goal.returns-clause-refuses
returns-clause-refuses c = λ r f. c.in_ok-typed.ensures.refuses r (subst (λ (d : Scoped). IsTypeFault d.script r) (sym c.in_ok-scoped.ensures) f)

pub returns-clause-typed : goal.returns-clause-typed
returns-clause-typed c = λ r f. c.in_ok-typed.ensures.refuses r (subst (λ (d : Scoped). IsTypeFault d.script r) (sym c.in_ok-scoped.ensures) f)

pub returns-clause-well_typed : goal.returns-clause-well_typed
returns-clause-well_typed c =
    let same : c.in_ok-typed.typed.scoped ≡ c.args.scoped = c.in_ok-typed.ensures.accepted.scoped ∙ c.in_ok-scoped.ensures in
    well_typed_by c.args.scoped c.in_ok-script.script c.requires.shape c.requires.right c.requires.scope
    (subst (λ (d : Scoped). HasCasts d c.in_ok-script.script) same c.in_ok-script.ensures.casts)
