use Rattle.std.proofs.Common.{◌≡◌, length, chars}
use Rattle.std.specs.List.{list_all}
use Rattle.unicode_ident.specs.Ident.{is_xid_continue}
use denote.Text.{Utf8}
use denote.Shadow.{shadow}
use Rattle.py_chars.proofs.name.all_continue.Given as goal

abbrev pub invariant-loop-c : goal.invariant-loop-c
invariant-loop-c l = record { text : shadow (Utf8 l.rest); read : list_all is_xid_continue (chars l.rest) ≡ list_all is_xid_continue (chars l.fn.text) }

abbrev pub decreases-loop-c : goal.decreases-loop-c
decreases-loop-c l = length l.rest
