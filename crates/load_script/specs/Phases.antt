-- From the bytes of a script to its program, phase by phase: bytes are decoded, text is cut into tokens, and tokens are read as a
-- tree, which comes to its program as TreePhases says. The first phase that refuses ends it.
use Rattle.std.specs.Prelude.{ℕ, ◌<◌, ◌≤◌, List, length, chars}
use Rattle.std.specs.Str.{IsUtf8}
use Rattle.mono_syntax.specs.Limits.{most_bytes}
use Rattle.mono_syntax.specs.declared.refusal.Reason.TheVariants.{TooLong}
use Rattle.mono_syntax.specs.declared.refusal.Refusal.{Refusal}
use Rattle.mono_syntax.specs.declared.tree.Script.{Script}
use Rattle.py_lexer.specs.declared.token.Token.{Token}
use Rattle.py_lexer.specs.Lexes.{Lexes, FirstLexFault, RefusesBytes}
use Rattle.parse_script.specs.Script.{DerivesScript, IsRefusedAt}
use Rattle.load_script.specs.declared.accepted.Accepted.{Accepted}
use Rattle.load_script.specs.TreePhases.{IsTreeProgram, RefusesTree}

-- ---- what tokens come to

pub record IsTokensProgram (text : List ℕ) (tokens : List Token) (p : Accepted) : Type 0 where
  pub script : Script
  pub tree : DerivesScript text tokens script
  pub program : IsTreeProgram script p

pub data RefusesTokens (text : List ℕ) (tokens : List Token) : Refusal → Type 0 where
  -- the first token that no script has there
  unread : {r : Refusal} → IsRefusedAt text tokens r → RefusesTokens text tokens r
  in_tree : {r : Refusal} {s : Script} → DerivesScript text tokens s → RefusesTree s r → RefusesTokens text tokens r

-- ---- what a text comes to

pub record IsTextProgram (text : List ℕ) (p : Accepted) : Type 0 where
  pub tokens : List Token
  pub lexes : Lexes (chars text) tokens
  pub program : IsTokensProgram text tokens p

pub data RefusesText (text : List ℕ) : Refusal → Type 0 where
  unlexed : {r : Refusal} → FirstLexFault (chars text) r → RefusesText text r
  in_tokens : {r : Refusal} {tokens : List Token} → Lexes (chars text) tokens → RefusesTokens text tokens r → RefusesText text r

-- ---- what bytes come to

-- the refusal of more bytes than a script may have
abbrev pub too_long : Refusal
too_long = record { place = record { line = 1; column = 1 }; reason = TooLong }

-- p is the accepted script of these bytes
pub record IsProgramOf (bytes : List ℕ) (p : Accepted) : Type 0 where
  pub fits : length bytes ≤ most_bytes
  pub is_text : IsUtf8 bytes
  pub program : IsTextProgram bytes p

-- the bytes are refused so
pub data IsFirstRefusal (bytes : List ℕ) : Refusal → Type 0 where
  long : most_bytes < length bytes → IsFirstRefusal bytes too_long
  undecoded : {r : Refusal} → length bytes ≤ most_bytes → RefusesBytes bytes r → IsFirstRefusal bytes r
  in_text : {r : Refusal} → length bytes ≤ most_bytes → IsUtf8 bytes → RefusesText bytes r → IsFirstRefusal bytes r
