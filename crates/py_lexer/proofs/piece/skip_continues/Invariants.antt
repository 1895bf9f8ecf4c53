use Rattle.std.proofs.Common.{◌≡◌, length, chars}
use denote.Text.{Utf8}
use denote.Shadow.{shadow}
use Rattle.unicode_ident.specs.Ident.{is_xid_continue}
use Rattle.py_lexer.specs.computed.Reading.{skip}
use Rattle.py_lexer.proofs.piece.skip_continues.Given as goal

abbrev pub invariant-loop-c : goal.invariant-loop-c
invariant-loop-c l = record { text : shadow (Utf8 l.rest); read : skip is_xid_continue (chars l.rest) ≡ skip is_xid_continue (chars l.fn.text) }

abbrev pub decreases-loop-c : goal.decreases-loop-c
decreases-loop-c l = length l.rest
