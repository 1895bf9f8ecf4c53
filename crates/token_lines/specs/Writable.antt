-- Lines whose text has just their tokens.
use Rattle.std.specs.Prelude.{◌≡◌, ℕ, suc, ◌+◌, ◌-◌, ◌<◌, ◌≤◌, Bool, true, false, ◌||◌, ◌==◌, not, List, [], ◌∷◌, length, chars}
use Rattle.std.specs.Str.{IsUtf8}
use Rattle.std.specs.List.{list_all, All}
use Rattle.mono_syntax.specs.Limits.{greatest_integer}
use Rattle.py_chars.specs.Spellings.{is_name}
use Rattle.py_lexer.specs.Characters.{is_control}
use Rattle.py_lexer.specs.Layout.{is_reserved}
use Rattle.spelled_tokens.specs.declared.token.Mark.{Mark}
use Rattle.spelled_tokens.specs.declared.token.Mark.TheVariants as mark
use Rattle.spelled_tokens.specs.declared.token.What.{What}
use Rattle.spelled_tokens.specs.declared.token.What.TheVariants as what
use Rattle.token_lines.specs.declared.printed.Printed.{Printed}
use Rattle.token_lines.specs.Tokens.{what_of}
use Rattle.token_lines.specs.Lines.{Line}

-- what a string may hold: no control characters but tab and line feed
abbrev pub may_hold : ℕ → Bool
may_hold c = not (is_control c) || c == 10

-- what a token of a text can be: a name is one of the language, a number is in range, and a string holds no other characters
abbrev pub IsSound : What → Type 0
IsSound (what.Name x) = IsUtf8 x × (is_name (chars x) ≡ true) × (is_reserved x ≡ false)
IsSound (what.Number n) = n ≤ greatest_integer
IsSound (what.Text t) = IsUtf8 t × (list_all may_hold (chars t) ≡ true)
IsSound _ = Unit {0}

-- the layout is never written as a token, nor is a word of no form
abbrev pub IsWritableMark : Mark → Type 0
IsWritableMark mark.Newline = ⊥
IsWritableMark mark.Indent = ⊥
IsWritableMark mark.Dedent = ⊥
IsWritableMark mark.End = ⊥
IsWritableMark mark.Unused = ⊥
IsWritableMark _ = Unit {0}

-- a token that can be written
abbrev pub IsWritable : What → Type 0
IsWritable (what.Mark m) = IsWritableMark m
IsWritable w = IsSound w

-- how many brackets are open behind a token; one that closes takes one away
abbrev pub opened_by : ℕ → What → ℕ
opened_by n what.Open = suc n
opened_by n what.Close = n - 1
opened_by n (what.Mark mark.OpenSquare) = suc n
opened_by n (what.Mark mark.CloseSquare) = n - 1
opened_by n _ = n

abbrev pub open_after : ℕ → List Printed → ℕ
open_after n [] = n
open_after n (t ∷ ts) = open_after (opened_by n (what_of t)) ts

-- a line behind one at this depth: it is at most one block deeper, and its brackets are closed
pub record IsLine (before : ℕ) (l : Line) : Type 0 where
  pub depth : l.depth ≤ before + 1
  pub some : 0 < length l.tokens
  pub writable : All (λ t. IsWritable (what_of t)) l.tokens
  pub closed : open_after 0 l.tokens ≡ 0

abbrev pub AreLines : ℕ → List Line → Type 0
AreLines d [] = Unit {0}
AreLines d (l ∷ ls) = IsLine d l × AreLines l.depth ls
