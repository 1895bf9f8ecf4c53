use Rattle.std.proofs.Common.{◌≡◌, length, chars}
use denote.Text.{Utf8}
use denote.Shadow.{shadow}
use Rattle.py_lexer.specs.computed.Reading.{skip_line}
use Rattle.py_lexer.proofs.piece.skip_line.Given as goal

abbrev pub invariant-loop-behind : goal.invariant-loop-behind
invariant-loop-behind l = record { text : shadow (Utf8 l.rest); read : skip_line (chars l.rest) ≡ skip_line (chars l.fn.text) }

abbrev pub decreases-loop-behind : goal.decreases-loop-behind
decreases-loop-behind l = length l.rest
