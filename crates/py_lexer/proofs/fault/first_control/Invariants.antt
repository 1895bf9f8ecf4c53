use Rattle.std.proofs.Common.{◌≡◌, length, chars}
use denote.Text.{Utf8}
use denote.Shadow.{shadow}
use Rattle.py_lexer.specs.computed.Scanning.{first_control}
use Rattle.py_lexer.specs.Bounds.{Fits}
use Rattle.py_lexer.proofs.fault.first_control.Given as goal

abbrev pub invariant-loop-c : goal.invariant-loop-c
invariant-loop-c l = record { text : shadow (Utf8 l.rest); read : first_control l.at (chars l.rest) ≡ first_control l.fn.spot (chars l.fn.text); fits : Fits l.at (length l.rest) }

abbrev pub decreases-loop-c : goal.decreases-loop-c
decreases-loop-c l = length l.rest
