-- What tokens spell.
use Rattle.std.specs.Prelude.{ℕ, ◌+◌, ◌-◌, Bool, ◌&&◌, ◌||◌, nat_le, nat_lt, List, length, Option, Some, None, if◌then◌else◌, slice_range, slice_index}
use Rattle.std.specs.Borrow.{Bor}
use Rattle.py_lexer.specs.declared.token.Token.{Token}

-- the text behind a reference
abbrev pub text_behind : Option (Bor (List ℕ)) → Option (List ℕ)
text_behind None = None
text_behind (Some w) = Some w.now

-- whether a character of the text begins at this byte, or the text ends there
abbrev pub is_boundary : List ℕ → ℕ → Bool
is_boundary text i = nat_le i (length text) && (nat_le (length text) i || nat_lt (slice_index text i) 128 || nat_le 192 (slice_index text i))

-- the text between two of its bytes, where both begin a character or end the text
unfoldable pub cut : List ℕ → ℕ → ℕ → Option (List ℕ)
cut text from to = if nat_le from to && is_boundary text from && is_boundary text to then Some (slice_range text from to) else None

-- what a token spells: its slice of the text
abbrev pub spelling : List ℕ → Token → Option (List ℕ)
spelling text t = cut text t.from t.to

-- what stands between the quotes of a string
abbrev pub inside : List ℕ → Token → Option (List ℕ)
inside text t = cut text (t.from + 1) (t.to - 1)
