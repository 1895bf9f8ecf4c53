use Rattle.std.proofs.Common.{◌≡◌, ◌+◌, ◌≤◌, length, chars}
use denote.Text.{Utf8}
use denote.Shadow.{shadow}
use Rattle.py_chars.specs.Spellings.{first_bad, items_of, bad_escape}
use Rattle.py_chars.proofs.string.bad_escape.Given as goal

abbrev pub invariant-loop-c : goal.invariant-loop-c
invariant-loop-c l = record { text : shadow (Utf8 l.rest); read : first_bad l.at (items_of (chars l.rest)) ≡ bad_escape (chars l.fn.text); short : l.at + length l.rest ≤ length l.fn.text }

abbrev pub decreases-loop-c : goal.decreases-loop-c
decreases-loop-c l = length l.rest
