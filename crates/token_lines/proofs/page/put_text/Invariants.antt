use Rattle.std.proofs.Common.{◌≡◌, ◌++◌, drop}
use Rattle.token_lines.specs.Tokens.{quoted}
use Rattle.token_lines.proofs.page.put_text.Given as goal

-- the text so far, and the bytes that are left
abbrev pub invariant-loop-byte : goal.invariant-loop-byte
invariant-loop-byte l = l.text.items ++ quoted (drop l.byte-index l.value) ≡ l.initial.text.items ++ quoted l.value
