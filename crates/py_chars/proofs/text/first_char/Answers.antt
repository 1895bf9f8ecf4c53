use Rattle.std.proofs.Common.{◌∙◌, sym}
use Rattle.std.proofs.lemmas.Str.{chars_past_char}
use Rattle.py_chars.proofs.text.first_char.Goals as goal

pub returns-in-Some-clause-parts : goal.returns-in-Some-clause-parts
returns-in-Some-clause-parts c =
    let step = c.in-Some.ensures.steps.0 in
    chars_past_char c.args.text.now c.as_str.result.now c.in-Some.first c.utf8.text
    (rw (c.as_str.ensures) (sym c.chars-rest.ensures.rest ∙ step))
