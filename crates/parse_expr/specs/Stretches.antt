-- What a reader of one expression or one type answers: how far tokens can be the beginning of one, and whether they are one.
use Rattle.std.specs.Prelude.{◌≡◌, ℕ, ◌+◌, ◌≤◌, ◌⊎◌, List, [], ◌++◌, length, take, drop, slice_get, Some}
use Rattle.mono_syntax.specs.declared.refusal.LoadFault.{LoadFault}
use Rattle.mono_syntax.specs.declared.refusal.LoadFault.TheVariants.{Refused, Memory}
use Rattle.mono_syntax.specs.declared.refusal.Reason.TheVariants.{Syntax}
use Rattle.mono_syntax.specs.declared.refusal.Refusal.{Refusal}
use Rattle.py_lexer.specs.declared.token.Token.{Token}
use Rattle.spelled_tokens.specs.declared.token.Spelled.{Spelled}
use Rattle.spelled_tokens.specs.SpelledTokens.{all_spelled}

-- trees of a kind, by their tokens
module _ {A : Type 0} (Is : List Spelled → A → Type 0) where
  -- tokens that more tokens make a tree
  abbrev pub BeginsTree : List Spelled → Type 0
  BeginsTree ts = (more : List Spelled) × (a : A) × Is (ts ++ more) a

  -- no token begins a tree of any kind
  abbrev pub MayBegin : List Spelled → Type 0
  MayBegin ts = (ts ≡ []) ⊎ BeginsTree ts

  -- the first n tokens are the longest front that begins a tree
  pub record IsStretch (tokens : List Spelled) (n : ℕ) : Type 0 where
    pub within : n ≤ length tokens
    pub begins : MayBegin (take n tokens)
    pub longest : (m : ℕ) → m ≤ length tokens → MayBegin (take m tokens) → m ≤ n

  -- the stretch of the text's tokens from a position on is a tree, and ends before that position
  pub record IsRead (text : List ℕ) (tokens : List Token) (from : ℕ) (a : A) (behind : ℕ) : Type 0 where
    pub long : ℕ
    pub ends : behind ≡ from + long
    pub stretch : IsStretch (drop from (all_spelled text tokens)) long
    pub tree : Is (take long (drop from (all_spelled text tokens))) a

  -- the stretch is no tree: it is refused at the token behind it
  pub record IsRefusedBehind (text : List ℕ) (tokens : List Token) (from : ℕ) (r : Refusal) : Type 0 where
    pub long : ℕ
    pub token : Token
    pub behind : slice_get tokens (from + long) ≡ Some token
    pub stretch : IsStretch (drop from (all_spelled text tokens)) long
    pub no_tree : (a : A) → Is (take long (drop from (all_spelled text tokens))) a → ⊥
    pub refusal : r ≡ record { place = token.place; reason = Syntax }

  -- a refusal is this one; want of memory says nothing of the tokens
  abbrev pub IsReadFault : List ℕ → List Token → ℕ → LoadFault → Type 0
  IsReadFault text tokens from Memory = Unit {0}
  IsReadFault text tokens from (Refused r) = IsRefusedBehind text tokens from r
