use Rattle.std.proofs.Common.{◌*◌, ◌+◌, ◌-◌, chars, ap, sym, ◌∙◌, arith}
use Rattle.py_chars.proofs.Numbers.{number_some, number_none, with_read, read_on, all_read, too_great}
use Rattle.py_chars.proofs.number.number_value.Goals as goal

pub returns-then-value-gt-GREATEST_INTEGER : goal.returns-then-value-gt-GREATEST_INTEGER
returns-then-value-gt-GREATEST_INTEGER c =
    let v = c.loop-c.value in
    let read = read_on v c.in-Some.c (chars c.in-Some.behind.now) ∙ ap (with_read v) (sym c.in-Some.ensures.parts) ∙ c.loop-c.invariant.read in
    let above = too_great (v * 10 + (c.in-Some.c - 48)) (chars c.in-Some.behind.now) in
    let step = c.from.ensures in
    sym (number_none (chars c.args.text.now) (omega (arith, read, above, step)))

pub returns : goal.returns
returns c =
    let value = sym c.loop-c.invariant.read ∙ ap (with_read c.loop-c.value) c.in_default.ensures.parts ∙ all_read c.loop-c.value in
    sym (number_some _ _ (sym c.is_numeral.ensures ∙ c.if-not-is_numeral.false) value c.loop-c.invariant.small)
