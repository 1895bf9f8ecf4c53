use Rattle.std.proofs.Common.{◌++◌, map, refl, ap, sym, ◌∙◌, arith, rules, append-nil, string_bytes}
use Rattle.py_chars.specs.Spellings.{string_of, bad_escape, plain, escape, items_of, item_value, first_bad}
use Rattle.std.specs.Str.{encode_utf8_all}
use Rattle.py_chars.proofs.Items.{value_more, plain_further, escape_further}
use Rattle.py_chars.proofs.string.string_value.Goals as goal

pub loop-c-init : goal.loop-c-init
unfolding string_of bad_escape
loop-c-init c = record { text = c.utf8.text; value = rw (c.new-value.ensures.bytes) refl; bad = refl; short = omega arith }

pub loop-c-preserved-in-None : goal.loop-c-preserved-in-None
loop-c-preserved-in-None c =
    let item = ap items_of c.in-Some.ensures.parts ∙ c.in-None.ensures.item in
    record {
      text = search rules;
      value = value_more _ _ (plain c.in-Some.c) _ _ _ item c.in_ok-push-in-None.ensures.bytes c.loop-c.invariant.value;
      bad = sym (plain_further c.loop-c.at c.in-Some.c _ _ item) ∙ c.loop-c.invariant.bad;
      short = omega (arith, c.in-Some.ensures.shorter);
    }

pub loop-c-preserved : goal.loop-c-preserved
loop-c-preserved c =
    let item = ap items_of c.in-Some.ensures.parts ∙ c.in-Some-escape_at.ensures.item in
    let meant = c.in-Some-escaped.ensures in
    record {
      text = search rules;
      value = value_more _ _ (escape c.in-Some-escape_at.d) _ _ _ item (rw meant.1 at c.in_ok-push-in-Some-escape_at.ensures.bytes) c.loop-c.invariant.value;
      bad = sym (escape_further c.loop-c.at c.in-Some-escape_at.d _ _ meant.0 item) ∙ c.loop-c.invariant.bad;
      short = omega (arith, c.in-Some.ensures.shorter, c.in-Some-escape_at.ensures.shorter);
    }

pub returns-clause-value : goal.returns-clause-value
returns-clause-value c =
    let none = c.in_default.ensures.parts in (
      sym c.loop-c.invariant.bad ∙ ap (λ cs. first_bad c.loop-c.at (items_of cs)) none,
      sym (append-nil _) ∙ sym (ap (λ cs. string_bytes c.loop-c.value ++ encode_utf8_all (map item_value (items_of cs))) none) ∙ c.loop-c.invariant.value,
    )
