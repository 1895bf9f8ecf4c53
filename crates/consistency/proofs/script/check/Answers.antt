use Rattle.std.proofs.Common.{subst}
use Rattle.mono_syntax.specs.declared.script.Scoped.{Scoped}
use Rattle.known_names.specs.IsKnown.{IsKnownScript}
use Rattle.consistency.proofs.ScriptLaws.{answer_accepted, answer_refused, answer_accepts, answer_refuses}
use Rattle.consistency.proofs.script.check.Goals as goal

pub returns-clause-accepted : goal.returns-clause-accepted
returns-clause-accepted c =
    let known = subst (λ (z : Scoped). IsKnownScript z.script c.in_ok-known.known) c.get.ensures c.in_ok-known.ensures in
    answer_accepted c.args.scoped.now c.in_ok-known.known known c.checked.result c.checked.ensures

pub returns-clause-refused : goal.returns-clause-refused
returns-clause-refused c =
    let known = subst (λ (z : Scoped). IsKnownScript z.script c.in_ok-known.known) c.get.ensures c.in_ok-known.ensures in
    answer_refused c.args.scoped.now c.in_ok-known.known known c.checked.result c.checked.ensures

pub returns-clause-accepts : goal.returns-clause-accepts
returns-clause-accepts c =
    let known = subst (λ (z : Scoped). IsKnownScript z.script c.in_ok-known.known) c.get.ensures c.in_ok-known.ensures in
    answer_accepts c.args.scoped.now c.in_ok-known.known known c.checked.result c.checked.ensures

pub returns-clause-refuses : goal.returns-clause-refuses
returns-clause-refuses c =
    let known = subst (λ (z : Scoped). IsKnownScript z.script c.in_ok-known.known) c.get.ensures c.in_ok-known.ensures in
    answer_refuses c.args.scoped.now c.in_ok-known.known known c.checked.result c.checked.ensures
