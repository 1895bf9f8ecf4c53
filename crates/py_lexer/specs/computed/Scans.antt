-- computed: what the code of `scanned` computes from the pieces of a text.
use Rattle.std.specs.Prelude.{◌≡◌, ℕ, List, Result, Err}
use Rattle.mono_syntax.specs.declared.Refusal.{Refusal}
use Rattle.mono_syntax.specs.declared.LoadFault.{LoadFault}
use Rattle.mono_syntax.specs.declared.LoadFault.TheVariants.{Refused, Memory}
use Rattle.py_lexer.specs.declared.token.Token.{Token}
use Rattle.py_lexer.specs.Characters.{start_of, unmarked}
use Rattle.py_lexer.specs.Pieces.{Piece, Cuts}
use Rattle.py_lexer.specs.computed.Scanning.{scan, start_state}

-- some pieces of the text give this when they are scanned
pub record Scans (cs : List ℕ) (r : Result (List Token) Refusal) : Type 0 where
  pub pieces : List Piece
  pub cut : Cuts (unmarked cs) pieces
  pub gives : scan start_state (start_of cs) pieces ≡ r

abbrev pub RefusedScan : List ℕ → LoadFault → Type 0
RefusedScan cs Memory = Unit {0}
RefusedScan cs (Refused r) = Scans cs (Err r)
