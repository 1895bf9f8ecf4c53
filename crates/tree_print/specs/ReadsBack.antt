-- Scripts that the grammar gives, and texts that read back as a script.
use Rattle.std.specs.Prelude.{ℕ, List, chars}
use Rattle.std.specs.Str.{IsUtf8}
use Rattle.mono_syntax.specs.declared.tree.Script.{Script}
use Rattle.py_lexer.specs.declared.token.Token.{Token}
use Rattle.py_lexer.specs.Lexes.{Lexes}
use Rattle.parse_script.specs.Script.{DerivesScript}
use Rattle.tree_print.specs.Placeless.{IsSameButPlaces}

-- a text has this tree by the lexical rules and the grammar
pub record HasTree (text : List ℕ) (s : Script) : Type 0 where
  pub is_text : IsUtf8 text
  pub tokens : List Token
  pub lexes : Lexes (chars text) tokens
  pub derives : DerivesScript text tokens s

-- the grammar gives this tree for some text
pub record IsGrammatical (s : Script) : Type 0 where
  pub source : List ℕ
  pub has_tree : HasTree source s

-- the text has this tree, but for places
pub record ReadsBack (text : List ℕ) (s : Script) : Type 0 where
  pub tree : Script
  pub has_tree : HasTree text tree
  pub same : IsSameButPlaces tree s
