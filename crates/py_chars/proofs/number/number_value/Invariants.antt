use Rattle.std.proofs.Common.{◌≡◌, ◌≤◌, true, length, chars}
use denote.Text.{Utf8}
use denote.Shadow.{shadow}
use Rattle.std.specs.List.{list_all}
use Rattle.std.specs.Char.{is_ascii_digit}
use Rattle.py_chars.specs.Spellings.{digits_value}
use Rattle.mono_syntax.specs.Limits.{greatest_integer}
use Rattle.py_chars.proofs.Numbers.{with_read}
use Rattle.py_chars.proofs.number.number_value.Given as goal

abbrev pub invariant-loop-c : goal.invariant-loop-c
invariant-loop-c l = record {
  text : shadow (Utf8 l.rest);
  read : with_read l.value (chars l.rest) ≡ digits_value (chars l.fn.text);
  digits : list_all is_ascii_digit (chars l.rest) ≡ true;
  small : l.value ≤ greatest_integer;
}

abbrev pub decreases-loop-c : goal.decreases-loop-c
decreases-loop-c l = length l.rest
