use Rattle.std.proofs.Common.{◌∙◌, sym, chars}
use Rattle.std.specs.Cmp.Lexicographic.{bytes_decides}
use Rattle.unicode_normalization.specs.Forms.{Nfkc, normalize, is_in_form}
use Rattle.py_chars.specs.Spellings.{is_name}
use Rattle.py_chars.proofs.Answering.{same_test}
use Rattle.py_chars.proofs.name.name_ok.Goals as goal

pub returns : goal.returns
unfolding is_name
returns c =
    let cs = chars c.args.text.now in
    let formed = same_test c.in_ok-in_form.in_form (is_in_form Nfkc cs) _ c.in_ok-in_form.ensures.answer (bytes_decides (normalize Nfkc cs) cs) in
    rw (sym c.is_identifier.ensures ∙ c.if-not-is_identifier.false) formed
