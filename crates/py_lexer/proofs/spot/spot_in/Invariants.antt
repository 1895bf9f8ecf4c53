use Rattle.std.proofs.Common.{◌≡◌, ◌-◌, take, length, chars}
use denote.Text.{Utf8}
use denote.Shadow.{shadow}
use Rattle.py_lexer.specs.Characters.{behind}
use Rattle.py_lexer.specs.Bounds.{Fits}
use Rattle.py_lexer.proofs.spot.spot_in.Given as goal

abbrev pub invariant-loop-i : goal.invariant-loop-i
invariant-loop-i l = record { text : shadow (Utf8 l.rest); read : behind l.at (take (l.n - l._i) (chars l.rest)) ≡ behind l.fn.spot (take l.n (chars l.fn.text)); fits : Fits l.at (length l.rest) }
