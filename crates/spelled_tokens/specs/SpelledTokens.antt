-- Tokens with what they spell: what the grammar speaks of.
use Rattle.std.specs.Prelude.{ℕ, List, Option, Some, None, chars, map}
use Rattle.std.specs.Str.{encode_utf8_all}
use Rattle.mono_syntax.specs.declared.leaf.Place.{Place}
use Rattle.py_chars.specs.Spellings.{number_of, bad_escape, string_of}
use Rattle.py_lexer.specs.declared.token.Token.{Token}
use Rattle.py_lexer.specs.declared.token.TokenKind.{TokenKind}
use Rattle.py_lexer.specs.declared.token.TokenKind.TheVariants as kind
use Rattle.spelled_tokens.specs.declared.token.What.{What}
use Rattle.spelled_tokens.specs.declared.token.What.TheVariants as what
use Rattle.spelled_tokens.specs.declared.token.Mark.{Mark}
use Rattle.spelled_tokens.specs.declared.token.Mark.TheVariants as mark
use Rattle.spelled_tokens.specs.declared.token.Spelled.{Spelled}
use Rattle.spelled_tokens.specs.Spelling.{spelling, inside}
use Rattle.spelled_tokens.specs.Words.{word_what, sign_what}

-- a token that is this, at this place
abbrev pub tok : What → Place → Spelled
tok w p = record { what = w; place = p }

-- a token of a word, an operator or the layout that no expression has
abbrev pub sign : Mark → Place → Spelled
sign m p = tok (what.Mark m) p

-- what stands in no form
abbrev pub unused : What
unused = what.Mark mark.Unused

-- a name is its text
abbrev pub name_what : Option (List ℕ) → What
name_what None = unused
name_what (Some w) = what.Name w

abbrev pub number_when : Option ℕ → What
number_when None = unused
number_when (Some n) = what.Number n

-- a number is its value
abbrev pub number_what : Option (List ℕ) → What
number_what None = unused
number_what (Some w) = number_when (number_of (chars w))

abbrev pub text_when : List ℕ → Option ℕ → What
text_when w None = what.Text (encode_utf8_all (string_of (chars w)))
text_when w (Some n) = unused

-- a string is the value of its inside
abbrev pub text_what : Option (List ℕ) → What
text_what None = unused
text_what (Some w) = text_when w (bad_escape (chars w))

abbrev pub reserved_what : Option (List ℕ) → What
reserved_what None = unused
reserved_what (Some w) = word_what w

abbrev pub operator_what : Option (List ℕ) → What
operator_what None = unused
operator_what (Some w) = sign_what w

-- what a token of a kind is, by what it spells and what is inside
abbrev pub what_when : TokenKind → Option (List ℕ) → Option (List ℕ) → What
what_when kind.Name w v = name_what w
what_when kind.Reserved w v = reserved_what w
what_when kind.Number w v = number_what w
what_when kind.Str w v = text_what v
what_when kind.Sign w v = operator_what w
what_when kind.Newline w v = what.Mark mark.Newline
what_when kind.Indent w v = what.Mark mark.Indent
what_when kind.Dedent w v = what.Mark mark.Dedent
what_when kind.End w v = what.Mark mark.End

-- a token of the text, with what it spells
abbrev pub spell : List ℕ → Token → Spelled
spell text t = tok (what_when t.what (spelling text t) (inside text t)) t.place

-- the tokens of the text, each with what it spells
abbrev pub all_spelled : List ℕ → List Token → List Spelled
all_spelled text = map (spell text)
