use Rattle.std.proofs.Common.{◌≡◌, ◌+◌, ◌≤◌, ◌++◌, map, length, chars, string_bytes}
use Rattle.std.specs.Str.{encode_utf8_all}
use denote.Text.{Utf8}
use denote.Shadow.{shadow}
use Rattle.py_chars.specs.Spellings.{string_of, bad_escape, first_bad, items_of, item_value}
use Rattle.py_chars.proofs.string.string_value.Given as goal

abbrev pub invariant-loop-c : goal.invariant-loop-c
invariant-loop-c l = record {
  text : shadow (Utf8 l.rest);
  value : string_bytes l.value ++ encode_utf8_all (map item_value (items_of (chars l.rest))) ≡ encode_utf8_all (string_of (chars l.fn.text));
  bad : first_bad l.at (items_of (chars l.rest)) ≡ bad_escape (chars l.fn.text);
  short : l.at + length l.rest ≤ length l.fn.text;
}

abbrev pub decreases-loop-c : goal.decreases-loop-c
decreases-loop-c l = length l.rest
