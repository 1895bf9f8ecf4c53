use Rattle.std.proofs.Common.{◌≡◌, length, chars}
use Rattle.std.specs.List.{list_all}
use Rattle.std.specs.Char.{is_ascii_digit}
use denote.Text.{Utf8}
use denote.Shadow.{shadow}
use Rattle.py_chars.proofs.number.all_digits.Given as goal

abbrev pub invariant-loop-c : goal.invariant-loop-c
invariant-loop-c l = record { text : shadow (Utf8 l.rest); read : list_all is_ascii_digit (chars l.rest) ≡ list_all is_ascii_digit (chars l.fn.text) }

abbrev pub decreases-loop-c : goal.decreases-loop-c
decreases-loop-c l = length l.rest
