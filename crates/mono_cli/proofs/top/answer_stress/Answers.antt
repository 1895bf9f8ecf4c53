use Rattle.std.proofs.Common.{rules, ◌≡◌, ◌∙◌, ◌<◌, List, ℕ, length, subst}
use Rattle.std.specs.Prelude.{string_bytes}
use Rattle.mono_syntax.specs.Limits.{most_bytes}
use Rattle.stress_gen.specs.StressText.{stress_text}
use Rattle.mono_cli.proofs.CommandAnswers.{long_made, made_is}
use Rattle.mono_cli.proofs.top.answer_stress.Goals as goal

pub returns-then-len-gt-LIMIT : goal.returns-then-len-gt-LIMIT
returns-then-len-gt-LIMIT g c =
    let long : most_bytes < length (string_bytes c.in-Ok.text) = search rules in
    long_made _ (stress_text c.args.tasks) (subst (λ (t : List ℕ). most_bytes < length t) c.in-Ok.ensures long) _ _ _ c.put_refusal.ensures

pub returns : goal.returns
returns g c = made_is _ c.as_bytes.result.now (stress_text c.args.tasks) (c.as_bytes.ensures.value ∙ c.in-Ok.ensures) _ _ _ c.answer_text.ensures
