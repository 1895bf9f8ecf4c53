use Rattle.std.proofs.Common.{◌≡◌, ◌-◌, ap, arith, length}
use Rattle.std.specs.Str.{encode_utf8_all}
use Rattle.std.proofs.lemmas.Str.{IsCharBoundary-at_seam}
use Rattle.std.proofs.lemmas.List.{length-append}
use Rattle.py_lexer.proofs.Seams.{seam, seam_length, seam_take}
use Rattle.py_lexer.proofs.text.before.Goals as goal

pub overflow_sub-text : goal.overflow_sub-text
overflow_sub-text c = omega (arith, seam_length _ _ _ c.utf8.text c.utf8.behind c.requires.1)

pub range-requires-clause-end_boundary : goal.range-requires-clause-end_boundary
range-requires-clause-end_boundary c =
    let e = seam _ _ _ c.utf8.text c.utf8.behind c.requires.1 in
    let l : length (encode_utf8_all c.requires.0) ≡ length c.args.text.now - length c.args.behind.now = omega (arith, ap length e, length-append (encode_utf8_all c.requires.0) c.args.behind.now) in
    rw l at (IsCharBoundary-at_seam c.args.text.now (encode_utf8_all c.requires.0) c.args.behind.now e c.utf8.behind)

pub returns-clause-front : goal.returns-clause-front
returns-clause-front c = λ w e.
    seam_take c.args.text.now c.args.behind.now w c.range.result.now c.utf8.text c.utf8.behind c.range.utf8 e (grind (arith, c.range.ensures.value))

pub returns-clause-len : goal.returns-clause-len
returns-clause-len c = omega (arith, c.range.ensures.len, seam_length _ _ _ c.utf8.text c.utf8.behind c.requires.1)
