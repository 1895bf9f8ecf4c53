use Rattle.std.proofs.Common.{length, chars}
use denote.Text.{Utf8}
use denote.Shadow.{shadow}
use Rattle.py_lexer.specs.Bounds.{Fits}
use Rattle.py_lexer.proofs.Progress.{ReadsOn}
use Rattle.py_lexer.proofs.lexer.scanned.Given as goal

abbrev pub invariant-loop-rest : goal.invariant-loop-rest
invariant-loop-rest l = record {
  text : shadow (Utf8 l.rest);
  reads : ReadsOn (chars l.fn.text) l.tokens.items l.state l.spot (chars l.rest);
  fits : Fits l.spot (length l.rest);
}

abbrev pub decreases-loop-rest : goal.decreases-loop-rest
decreases-loop-rest l = length l.rest
