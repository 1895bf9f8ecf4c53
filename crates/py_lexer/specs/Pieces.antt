-- How a text is cut into pieces: white space, comments, line ends and spellings, each the longest of its kind.
use Rattle.std.specs.Prelude.{◌≡◌, ℕ, ◌<◌, ◌≤◌, Bool, true, false, ◌&&◌, ◌||◌, ◌==◌, ◌⊎◌, not, List, [], ◌∷◌, ◌++◌, length, slice_index}
use Rattle.std.specs.List.{list_all}
use Rattle.std.specs.Char.{is_ascii_digit}
use Rattle.unicode_ident.specs.Ident.{is_xid_continue}
use Rattle.py_chars.specs.Spellings.{is_identifier, Item, plain, escape, items_of}
use Rattle.py_lexer.specs.declared.piece.Kind.{Kind}
use Rattle.py_lexer.specs.declared.piece.Kind.TheVariants as kind
use Rattle.py_lexer.specs.Characters.{is_among, is_blank, is_quote, line_of}

pub data Piece : Type 0 where
  piece : Kind → List ℕ → Piece

abbrev pub spelling : Piece → List ℕ
spelling (piece k w) = w

-- the text that pieces spell
abbrev pub spelled : List Piece → List ℕ
spelled [] = []
spelled (p ∷ ps) = spelling p ++ spelled ps

-- no line ends inside w, where u stands behind it
abbrev pub IsOnLine : List ℕ → List ℕ → Type 0
IsOnLine w u = length w ≤ length (line_of (w ++ u))

-- `( ) [ ] , : . = + - * % < >`
abbrev pub is_short_sign : ℕ → Bool
is_short_sign = is_among (40 ∷ 41 ∷ 91 ∷ 93 ∷ 44 ∷ 58 ∷ 46 ∷ 61 ∷ 43 ∷ 45 ∷ 42 ∷ 37 ∷ 60 ∷ 62 ∷ [])

-- `-> // == != <= >=`
abbrev pub is_long_sign : ℕ → ℕ → Bool
is_long_sign c d =
    (c == 45 && d == 62) || (c == 47 && d == 47) || (is_among (61 ∷ 33 ∷ 60 ∷ 62 ∷ []) c && d == 61)

abbrev pub is_sign : List ℕ → Bool
is_sign [] = false
is_sign (c ∷ []) = is_short_sign c
is_sign (c ∷ d ∷ []) = is_long_sign c d
is_sign (c ∷ d ∷ e ∷ cs) = false

-- an ASCII digit, then XID_Continue
abbrev pub is_number : List ℕ → Bool
is_number [] = false
is_number (c ∷ cs) = is_ascii_digit c && list_all is_xid_continue cs

-- what may stand inside a literal in the quote q: no q and no lone backslash, but escapes of any character
abbrev pub stays_inside : ℕ → Item → Bool
stays_inside q (plain c) = not (c == q) && not (c == 92)
stays_inside q (escape d) = true

-- a string literal: its inside between two quotes of one kind
abbrev pub IsLiteral : List ℕ → Type 0
IsLiteral w = (q : ℕ) × (inside : List ℕ) × (is_quote q ≡ true) × (list_all (stays_inside q) (items_of inside) ≡ true) × (w ≡ q ∷ (inside ++ q ∷ []))

-- w, with u behind it, may be cut off as a piece of this kind
abbrev pub Spells : Kind → List ℕ → List ℕ → Type 0
Spells kind.Blank w u = (0 < length w) × (list_all is_blank w ≡ true)
Spells kind.Comment w u = (slice_index w 0 ≡ 35) × IsOnLine w u
Spells kind.LineEnd w u = (w ≡ 10 ∷ []) ⊎ (w ≡ 13 ∷ 10 ∷ [])
Spells kind.Word w u = is_identifier w ≡ true
Spells kind.Number w u = is_number w ≡ true
Spells kind.Text w u = IsLiteral w × IsOnLine w u
Spells kind.Unclosed w u =
    (is_quote (slice_index w 0) ≡ true) × IsOnLine w u × ((v x : List ℕ) → v ++ x ≡ w ++ u → IsLiteral v → IsOnLine v x → ⊥)
Spells kind.Sign w u = is_sign w ≡ true
Spells kind.Stray w u = ⊥

-- nothing longer of the kind begins there
abbrev pub IsLongest : Kind → List ℕ → List ℕ → Type 0
IsLongest k w u = (v x : List ℕ) → v ++ x ≡ w ++ u → Spells k v x → length v ≤ length w

-- a character that begins nothing
abbrev pub IsStray : List ℕ → List ℕ → Type 0
IsStray w u = (length w ≡ 1) × ((k : Kind) (v x : List ℕ) → v ++ x ≡ w ++ u → Spells k v x → ⊥)

abbrev pub IsPiece : Piece → List ℕ → Type 0
IsPiece (piece kind.Stray w) u = IsStray w u
IsPiece (piece k w) u = Spells k w u × IsLongest k w u

abbrev pub ArePieces : List Piece → Type 0
ArePieces [] = Unit {0}
ArePieces (p ∷ ps) = IsPiece p (spelled ps) × ArePieces ps

-- the text cut into these pieces
pub record Cuts (cs : List ℕ) (ps : List Piece) : Type 0 where
  pub text_is : cs ≡ spelled ps
  pub are_pieces : ArePieces ps
