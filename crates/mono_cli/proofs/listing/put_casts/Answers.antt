use Rattle.std.proofs.Common.{◌≡◌, ◌∙◌, ℕ, List, [], Option, ap, inl}
use Rattle.cast_lines.specs.CastLines.{rows_text}
use Rattle.mono_cli.specs.Answer.{Answer}
use Rattle.mono_cli.proofs.listing.put_casts.Goals as goal

pub returns : goal.returns
returns g c = λ x e.
    let found = c.in-Ok.ensures in
    let made : List ℕ → Answer = λ o. record { status = 0; out = o; err = [] } in
    let text : c.as_bytes.result.now ≡ rows_text c.args.script.now found.0 = c.as_bytes.ensures.value ∙ found.2 in
    inl (made c.as_bytes.result.now, record { rows = found.0; are = found.1; says = ap made text }, c.put_text.ensures x e)
