-- The tokens of a text, and the refusal of a text that has none.
use Rattle.std.specs.Prelude.{◌≡◌, ℕ, ◌⊎◌, List, [], take}
use Rattle.mono_syntax.specs.declared.Refusal.{Refusal}
use Rattle.mono_syntax.specs.declared.LoadFault.{LoadFault}
use Rattle.mono_syntax.specs.declared.LoadFault.TheVariants.{Refused, Memory}
use Rattle.mono_syntax.specs.declared.Reason.TheVariants.{BadChar}
use Rattle.std.specs.Str.{chars, IsUtf8}
use Rattle.std.specs.Str.Lossy.{utf8_valid_len}
use Rattle.py_lexer.specs.declared.token.Token.{Token}
use Rattle.py_lexer.specs.declared.spot.Spot.{Spot}
use Rattle.py_lexer.specs.Characters.{start_of, unmarked, behind}
use Rattle.py_lexer.specs.Pieces.{Piece, Cuts}
use Rattle.py_lexer.specs.Layout.{tokens_of}
use Rattle.py_lexer.specs.Faults.{Fault, IsFirst, faults_of}

-- the text's pieces have no fault, and these are their tokens
pub record Lexes (cs : List ℕ) (tokens : List Token) : Type 0 where
  pub pieces : List Piece
  pub cut : Cuts (unmarked cs) pieces
  pub faultless : faults_of (start_of cs) pieces ≡ []
  pub tokens_are : tokens ≡ tokens_of (start_of cs) pieces

-- the first fault of the text's pieces refuses it
pub record FirstLexFault (cs : List ℕ) (refusal : Refusal) : Type 0 where
  pub pieces : List Piece
  pub cut : Cuts (unmarked cs) pieces
  pub at_fault : Fault
  pub first : IsFirst (faults_of (start_of cs) pieces) at_fault
  pub refused : refusal ≡ record { place = at_fault.place; reason = at_fault.reason }

-- a refusal is the text's; want of memory says nothing of it
abbrev pub RefusesText : List ℕ → LoadFault → Type 0
RefusesText cs Memory = Unit {0}
RefusesText cs (Refused r) = FirstLexFault cs r

-- every text, whatever its length, has tokens or a first fault
abbrev pub AlwaysLexes : Type 0
AlwaysLexes = (cs : List ℕ) → ((ts : List Token) × Lexes cs ts) ⊎ ((r : Refusal) × FirstLexFault cs r)

-- no text has both
abbrev pub NeverBoth : Type 0
NeverBoth = (cs : List ℕ) (ts : List Token) (r : Refusal) → Lexes cs ts → FirstLexFault cs r → ⊥

-- the tokens of a text are one list
abbrev pub OneTokenList : Type 0
OneTokenList = (cs : List ℕ) (ts us : List Token) → Lexes cs ts → Lexes cs us → ts ≡ us

-- the first fault of a text is one refusal
abbrev pub OneFirstFault : Type 0
OneFirstFault = (cs : List ℕ) (r s : Refusal) → FirstLexFault cs r → FirstLexFault cs s → r ≡ s

-- the spot behind the characters of a text
abbrev pub end_of : List ℕ → Spot
end_of cs = behind (start_of cs) (unmarked cs)

-- the bytes are no text: they are refused at the first byte that begins no UTF-8 sequence, behind the characters before it
pub record RefusesBytes (bs : List ℕ) (refusal : Refusal) : Type 0 where
  pub no_text : ¬ IsUtf8 bs
  pub refused : refusal ≡ record { place = (end_of (chars (take (utf8_valid_len bs) bs))).place; reason = BadChar }
