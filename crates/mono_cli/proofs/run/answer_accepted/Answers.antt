use Rattle.std.proofs.Common.{◌≡◌, ◌∙◌, ap, sym, subst}
use Rattle.mono_syntax.specs.declared.tree.Script.{Script}
use Rattle.mono_cli.specs.declared.verb.Verb.{Verb}
use Rattle.mono_cli.specs.Answer.{passed, types_listed}
use Rattle.mono_cli.specs.Scripts.{IsAccepted, IsCastList, IsHeaded, IsListing, IsRunAnswer}
use Rattle.mono_cli.proofs.Running.{headless}
use Rattle.mono_cli.proofs.PutAnswers.{answers_also}
use Rattle.mono_cli.proofs.run.answer_accepted.Goals as goal

pub returns-in-Show : goal.returns-in-Show
returns-in-Show g c =
    let same : c.get-in-Show.result.now ≡ c.args.accepted.now.script.scoped.script = c.get-in-Show.ensures ∙ ap (λ d. d.script) c.get.ensures in
    answers_also (λ a. IsListing c.get-in-Show.result.now a) (λ a. IsAccepted c.args.verb c.args.accepted.now a)
    (λ a h. subst (λ (v : Verb). IsAccepted v c.args.accepted.now a) (sym c.in-Show.is) (subst (λ (s : Script). IsListing s a) same h))
    _ _ _ (c.put_listing.ensures (g.E.Sink.told c.args.err.now) (g.E.Sink.faults c.args.err.now))

pub returns-in-Check : goal.returns-in-Check
returns-in-Check g c =
    answers_also (λ a. a ≡ passed) (λ a. IsAccepted c.args.verb c.args.accepted.now a)
    (λ a h. subst (λ (v : Verb). IsAccepted v c.args.accepted.now a) (sym c.in-Check.is) h)
    _ _ _ (c.put_passed.ensures (g.E.Sink.told c.args.err.now) (g.E.Sink.faults c.args.err.now))

pub returns-in-Casts : goal.returns-in-Casts
returns-in-Casts g c =
    answers_also (λ a. IsCastList c.args.accepted.now.script a) (λ a. IsAccepted c.args.verb c.args.accepted.now a)
    (λ a h. subst (λ (v : Verb). IsAccepted v c.args.accepted.now a) (sym c.in-Casts.is) h)
    _ _ _ (c.put_casts.ensures (g.E.Sink.told c.args.err.now) (g.E.Sink.faults c.args.err.now))

pub returns-in-Types : goal.returns-in-Types
returns-in-Types g c =
    answers_also (λ a. a ≡ types_listed c.as_slice.result.now) (λ a. IsAccepted c.args.verb c.args.accepted.now a)
    (λ a h. subst (λ (v : Verb). IsAccepted v c.args.accepted.now a) (sym c.in-Types.is) (h ∙ ap types_listed c.as_slice.ensures))
    _ _ _ (c.put_types.ensures (g.E.Sink.told c.args.err.now) (g.E.Sink.faults c.args.err.now))

pub returns-in-Step : goal.returns-in-Step
returns-in-Step g c =
    answers_also _ _
    (λ a h. subst (λ (v : Verb). IsAccepted v c.args.accepted.now a) (sym c.in-Step.is) (headless _ _ _ a h))
    _ _ _ c.answer_run.ensures
