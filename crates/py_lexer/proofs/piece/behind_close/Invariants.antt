use Rattle.std.proofs.Common.{◌≡◌, length, chars, false}
use denote.Text.{Utf8}
use denote.Shadow.{shadow}
use Rattle.py_lexer.specs.computed.Reading.{at_close}
use Rattle.py_lexer.proofs.piece.behind_close.Given as goal

abbrev pub invariant-loop-c : goal.invariant-loop-c
invariant-loop-c l = record { text : shadow (Utf8 l.rest); read : at_close l.escaped l.quote (chars l.rest) ≡ at_close false l.quote (chars l.fn.text) }

abbrev pub decreases-loop-c : goal.decreases-loop-c
decreases-loop-c l = length l.rest
