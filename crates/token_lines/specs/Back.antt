-- What the tokens of a text are.
use Rattle.std.specs.Prelude.{◌≡◌, ℕ, List, map, chars}
use Rattle.py_lexer.specs.declared.token.Token.{Token}
use Rattle.py_lexer.specs.Lexes.{Lexes}
use Rattle.spelled_tokens.specs.declared.token.What.{What}
use Rattle.spelled_tokens.specs.declared.token.Spelled.{Spelled}
use Rattle.spelled_tokens.specs.SpelledTokens.{all_spelled}

-- the tokens without their places
abbrev pub whats : List Spelled → List What
whats = map (λ t. t.what)

-- by the lexical rules the text has these tokens
pub record LexesAs (text : List ℕ) (ws : List What) : Type 0 where
  pub tokens : List Token
  pub lexes : Lexes (chars text) tokens
  pub are : whats (all_spelled text tokens) ≡ ws
