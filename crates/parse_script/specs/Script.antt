-- The grammar of scripts, and how tokens are refused that have no tree.
use Rattle.std.specs.Prelude.{◌≡◌, ℕ, ◌+◌, ◌<◌, length, false, List, [], ◌∷◌, ◌++◌, take, slice_get, Some}
use Rattle.mono_syntax.specs.declared.leaf.Place.{Place}
use Rattle.mono_syntax.specs.declared.refusal.LoadFault.{LoadFault}
use Rattle.mono_syntax.specs.declared.refusal.LoadFault.TheVariants.{Refused, Memory}
use Rattle.mono_syntax.specs.declared.refusal.Reason.TheVariants.{Syntax}
use Rattle.mono_syntax.specs.declared.refusal.Refusal.{Refusal}
use Rattle.mono_syntax.specs.declared.tree.ClassDef.{ClassDef}
use Rattle.mono_syntax.specs.declared.tree.FuncDef.{FuncDef}
use Rattle.mono_syntax.specs.declared.tree.Item.{Item}
use Rattle.mono_syntax.specs.declared.tree.Item.TheVariants as item
use Rattle.mono_syntax.specs.declared.tree.Script.{Script}
use Rattle.mono_syntax.specs.Stmt.{Stmt}
use Rattle.py_lexer.specs.declared.token.Token.{Token}
use Rattle.spelled_tokens.specs.declared.token.Mark.TheVariants as mark
use Rattle.spelled_tokens.specs.declared.token.Spelled.{Spelled}
use Rattle.spelled_tokens.specs.SpelledTokens.{sign, all_spelled}
use Rattle.parse_script.specs.Definitions.{DerivesClass, DerivesDef}
use Rattle.parse_script.specs.Statements.{DerivesStmt}

-- a class, a function, or a statement of the main block
pub data DerivesItem : List Spelled → Item → Type 0 where
  class : (ts : List Spelled) (c : ClassDef) → DerivesClass ts c → DerivesItem ts (item.Class c)
  def : (ts : List Spelled) (f : FuncDef) → DerivesDef ts f → DerivesItem ts (item.Def f)
  statement : (ts : List Spelled) (s : Stmt) → DerivesStmt false 0 ts s → DerivesItem ts (item.Stmt s)

-- any number of items, in any order
pub data DerivesItems : List Spelled → List Item → Type 0 where
  no_items : DerivesItems [] []
  more_items : (ts us : List Spelled) (i : Item) (is : List Item) → DerivesItem ts i → DerivesItems us is → DerivesItems (ts ++ us) (i ∷ is)

-- items and END
pub data DerivesWhole : List Spelled → Script → Type 0 where
  script : (p : Place) (ts : List Spelled) (is : List Item) → DerivesItems ts is → DerivesWhole (ts ++ (sign mark.End p ∷ [])) (record { items = is })

-- the tokens of a text, each with what it spells, have this tree
abbrev pub DerivesScript : List ℕ → List Token → Script → Type 0
DerivesScript text tokens s = DerivesWhole (all_spelled text tokens) s

-- tokens that more tokens make a script
abbrev pub Begins : List Spelled → Type 0
Begins ts = (more : List Spelled) × (s : Script) × DerivesWhole (ts ++ more) s

-- The tokens are refused at the first one such that the tokens up to and with it begin no script: those before it begin one.
pub record IsRefusedAt (text : List ℕ) (tokens : List Token) (r : Refusal) : Type 0 where
  pub before : ℕ
  pub token : Token
  pub stands : slice_get tokens before ≡ Some token
  pub begins : Begins (take before (all_spelled text tokens))
  pub stops : Begins (take (before + 1) (all_spelled text tokens)) → ⊥
  pub refusal : r ≡ record { place = token.place; reason = Syntax }

-- a refusal is this one; want of memory says nothing of the tokens
abbrev pub IsRefused : List ℕ → List Token → LoadFault → Type 0
IsRefused text tokens Memory = Unit {0}
IsRefused text tokens (Refused r) = IsRefusedAt text tokens r

-- a refusal at the first token that is left behind END; want of memory says nothing
pub record IsLeftAt (tokens : List Token) (behind : ℕ) (r : Refusal) : Type 0 where
  pub token : Token
  pub within : behind < length tokens
  pub stands : slice_get tokens behind ≡ Some token
  pub refusal : r ≡ record { place = token.place; reason = Syntax }

abbrev pub IsLeft : List Token → ℕ → LoadFault → Type 0
IsLeft tokens behind Memory = Unit {0}
IsLeft tokens behind (Refused r) = IsLeftAt tokens behind r

-- a token list has at most one tree
abbrev pub OneTree : Type 0
OneTree = (ts : List Spelled) (a b : Script) → DerivesWhole ts a → DerivesWhole ts b → a ≡ b
