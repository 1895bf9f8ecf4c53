-- The sizes that a text within the limit keeps small.
use Rattle.std.specs.Prelude.{ℕ, ◌+◌, ◌≤◌}
use Rattle.mono_syntax.specs.Limits.{most_bytes}
use Rattle.py_lexer.specs.declared.spot.Spot.{Spot}

-- n bytes stand behind the spot, and its place is no further than its offset
pub record Fits (s : Spot) (n : ℕ) : Type 0 where
  pub bytes : s.offset + n ≤ most_bytes
  pub lines : s.place.line ≤ s.offset + 1
  pub columns : s.place.column ≤ s.offset + 1
