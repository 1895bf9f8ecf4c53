-- Logical lines, brackets and indentation: from the pieces of a text to its tokens.
use Rattle.std.specs.Prelude.{ℕ, ◌+◌, ◌-◌, Bool, true, false, ◌&&◌, ◌||◌, ◌==◌, not, nat_lt, List, [], ◌∷◌, ◌++◌, drop, replicate, map, Option, Some, None, bytes_eq, slice_index, if◌then◌else◌}
use Rattle.std.specs.Str.{encode_utf8_all}
use Rattle.py_lexer.specs.declared.reserved.TheConstants.{RESERVED}
use Rattle.py_lexer.specs.declared.token.Token.{Token}
use Rattle.py_lexer.specs.declared.token.TokenKind.{TokenKind}
use Rattle.py_lexer.specs.declared.token.TokenKind.TheVariants.{Name, Reserved, Number, Str, Sign, Newline, Indent, Dedent, End}
use Rattle.py_lexer.specs.declared.spot.Spot.{Spot}
use Rattle.py_lexer.specs.Characters.{behind, behind_one}
use Rattle.py_lexer.specs.declared.piece.Kind.{Kind}
use Rattle.py_lexer.specs.declared.piece.Kind.TheVariants as kind
use Rattle.py_lexer.specs.Pieces.{Piece, piece, spelled}

-- whether a word, in its bytes, is one of those
abbrev pub is_in : List (List ℕ) → List ℕ → Bool
is_in [] w = false
is_in (x ∷ xs) w = if bytes_eq x w then true else is_in xs w

-- the words that are no names
unfoldable pub is_reserved : List ℕ → Bool
is_reserved = is_in (map (λ w. w.now) RESERVED)

-- the brackets open behind a piece, the innermost first: a closing one takes the innermost away, of whichever kind
abbrev pub opened : List Spot → List ℕ → Spot → List Spot
opened opens w s =
    if slice_index w 0 == 40 || slice_index w 0 == 91 then s ∷ opens
    else (if slice_index w 0 == 41 || slice_index w 0 == 93 then drop 1 opens else opens)

abbrev pub brackets : List Spot → Piece → Spot → List Spot
brackets opens (piece kind.Sign w) s = opened opens w s
brackets opens (piece k w) s = opens

-- what a reader of the pieces meets in order: a logical line that begins, with the first tab before its first
-- character and that character's spot; a spelling in it; its end
pub data Event : Type 0 where
  begins : Option Spot → Spot → Event
  spells : Kind → List ℕ → Spot → Event
  ends : Spot → Event

abbrev pub first_tab : Spot → List ℕ → Option Spot
first_tab s [] = None
first_tab s (c ∷ cs) = if c == 9 then Some s else first_tab (behind_one s c) cs

abbrev pub ending : Bool → Spot → List Event
ending true s = ends s ∷ []
ending false s = []

abbrev pub beginning : Bool → Option Spot → Spot → List Event
beginning true tab s = []
beginning false tab s = begins tab s ∷ []

abbrev pub is_open : List Spot → Bool
is_open [] = false
is_open (s ∷ opens) = true

-- the events of pieces from a spot on, where these brackets are open, a logical line has begun or not, and the white
-- space just before has this first tab. While a bracket is open, line ends end no logical line.
abbrev pub events : List Spot → Bool → Option Spot → Spot → List Piece → List Event
events opens inside tab s [] = ending inside s
events opens inside tab s (piece kind.Blank w ∷ ps) = events opens inside (first_tab s w) (behind s w) ps
events opens inside tab s (piece kind.Comment w ∷ ps) = events opens inside None (behind s w) ps
events opens inside tab s (piece kind.LineEnd w ∷ ps) =
    if is_open opens then events opens inside None (behind s w) ps else ending inside s ++ events opens false None (behind s w) ps
events opens inside tab s (piece k w ∷ ps) =
    beginning inside tab s ++ (spells k w s ∷ events (brackets opens (piece k w) s) true None (behind s w) ps)

-- the columns of blocks, the innermost first; 0 stands below them all
abbrev pub top : List ℕ → ℕ
top [] = 0
top (l ∷ ls) = l

-- the columns that a line at column n doesn't leave behind
abbrev pub kept : List ℕ → ℕ → List ℕ
kept [] n = []
kept (l ∷ ls) n = if nat_lt n l then kept ls n else l ∷ ls

-- how many columns it leaves behind
abbrev pub left : List ℕ → ℕ → ℕ
left [] n = 0
left (l ∷ ls) n = if nat_lt n l then left ls n + 1 else 0

abbrev pub levels_at : List ℕ → ℕ → List ℕ
levels_at ls n = if nat_lt (top ls) n then n ∷ ls else kept ls n

-- a smaller column that is none of those of the blocks
abbrev pub is_misfit : List ℕ → ℕ → Bool
is_misfit ls n = not (nat_lt (top ls) n) && not (top (kept ls n) == n)

-- how many columns a logical line that begins at this spot is indented by
abbrev pub indent : Spot → ℕ
indent s = s.place.column - 1

-- a token without a slice
abbrev pub mark : TokenKind → Spot → Token
mark what s = record { what = what; from = s.offset; to = s.offset; place = s.place }

abbrev pub what_of : Kind → List ℕ → TokenKind
what_of kind.Word w = if is_reserved (encode_utf8_all w) then Reserved else Name
what_of kind.Number w = Number
what_of kind.Text w = Str
what_of _ w = Sign

abbrev pub token : Kind → List ℕ → Spot → Token
token k w s = record { what = what_of k w; from = s.offset; to = (behind s w).offset; place = s.place }

-- INDENT, or a DEDENT for each column left behind
abbrev pub dents : List ℕ → Spot → List Token
dents ls s = if nat_lt (top ls) (indent s) then mark Indent s ∷ [] else replicate (left ls (indent s)) (mark Dedent s)

-- the tokens of events, where blocks of these columns are open, in a text that ends at a spot
abbrev pub laid : Spot → List ℕ → List Event → List Token
laid end ls [] = replicate (left ls 0) (mark Dedent end) ++ mark End end ∷ []
laid end ls (begins tab s ∷ es) = dents ls s ++ laid end (levels_at ls (indent s)) es
laid end ls (spells k w s ∷ es) = token k w s ∷ laid end ls es
laid end ls (ends s ∷ es) = mark Newline s ∷ laid end ls es

-- the tokens of pieces from a spot on
abbrev pub tokens_of : Spot → List Piece → List Token
tokens_of s ps = laid (behind s (spelled ps)) [] (events [] false None s ps)
