-- The faults of a text, and which of them is the first.
use Rattle.std.specs.Prelude.{◌≡◌, ℕ, ◌+◌, ◌<◌, ◌≤◌, ◌⊎◌, Bool, true, false, ◌&&◌, ◌||◌, ◌==◌, not, is_some, List, [], ◌∷◌, ◌++◌, take, drop, Option, Some, None, if◌then◌else◌}
use Rattle.std.specs.List.{list_any, All, Contains}
use Rattle.mono_syntax.specs.declared.Place.{Place}
use Rattle.mono_syntax.specs.declared.Reason.{Reason}
use Rattle.mono_syntax.specs.declared.Reason.TheVariants.{BadChar, Tab, BadDedent, OpenBracket, BadName, BadNumber, BadString}
use Rattle.py_chars.specs.Spellings.{is_name, number_of, bad_escape}
use Rattle.py_lexer.specs.declared.spot.Spot.{Spot}
use Rattle.py_lexer.specs.Characters.{behind, behind_one, is_control}
use Rattle.py_lexer.specs.declared.piece.Kind.{Kind}
use Rattle.py_lexer.specs.declared.piece.Kind.TheVariants as kind
use Rattle.py_lexer.specs.Pieces.{Piece, piece, spelling, spelled}
use Rattle.py_lexer.specs.Layout.{brackets, Event, begins, spells, ends, events, levels_at, is_misfit, indent}

-- a fault: how many bytes stand before the spot at which it is met, where it stands, and why
pub record Fault : Type 0 where
  pub met : ℕ
  pub place : Place
  pub reason : Reason

abbrev pub fault : Reason → Spot → Fault
fault r s = record { met = s.offset; place = s.place; reason = r }

-- the numbers by which faults at one spot are ordered
abbrev pub number_of_reason : Reason → ℕ
number_of_reason BadChar = 1
number_of_reason Tab = 2
number_of_reason BadDedent = 3
number_of_reason OpenBracket = 4
number_of_reason _ = 5

abbrev pub fault_if : Bool → Reason → Spot → List Fault
fault_if true r s = fault r s ∷ []
fault_if false r s = []

-- each control character of a comment or a string
abbrev pub controls : Spot → List ℕ → List Fault
controls s [] = []
controls s (c ∷ cs) = fault_if (is_control c) BadChar s ++ controls (behind_one s c) cs

-- whether the text begins with the character
abbrev pub begins_with : ℕ → List ℕ → Bool
begins_with c [] = false
begins_with c (d ∷ ds) = d == c

-- an empty literal, directly followed by its quote
abbrev pub is_doubled : List ℕ → List ℕ → Bool
is_doubled (c ∷ d ∷ []) u = begins_with c u
is_doubled _ u = false

abbrev pub escape_fault : Option ℕ → Spot → List ℕ → List Fault
escape_fault None s w = []
escape_fault (Some n) s w = fault BadString (behind s (take (n + 1) w)) ∷ []

-- of the faults inside one string only the first of this order counts: a doubled empty string, control characters, a
-- string that isn't closed, a bad escape behind the opening quote
abbrev pub string_faults : Bool → Spot → List ℕ → List ℕ → List Fault
string_faults closed s w u =
    if closed && is_doubled w u then fault BadString s ∷ []
    else (if list_any is_control w then controls s w
    else (if closed then escape_fault (bad_escape (drop 1 w)) s w else fault BadString s ∷ []))

-- the faults of a piece w at a spot, with u behind it, where a word stands directly before it or not
abbrev pub own_faults : Kind → Bool → Spot → List ℕ → List ℕ → List Fault
own_faults kind.Comment joined s w u = controls s w
own_faults kind.Word joined s w u = fault_if (not (is_name w)) BadName s
own_faults kind.Number joined s w u = fault_if (not (is_some (number_of w)) || begins_with 46 u) BadNumber s
own_faults kind.Text joined s w u = fault_if joined BadString s ++ string_faults true s w u
own_faults kind.Unclosed joined s w u = fault_if joined BadString s ++ string_faults false s w u
own_faults kind.Stray joined s w u = fault BadChar s ∷ []
own_faults _ joined s w u = []

abbrev pub is_word : Kind → Bool
is_word kind.Word = true
is_word _ = false

abbrev pub piece_faults : Bool → Spot → List Piece → List Fault
piece_faults joined s [] = []
piece_faults joined s (piece k w ∷ ps) = own_faults k joined s w (spelled ps) ++ piece_faults (is_word k) (behind s w) ps

abbrev pub tab_fault : Option Spot → List Fault
tab_fault None = []
tab_fault (Some s) = fault Tab s ∷ []

-- a logical line may begin behind a tab, or at a column that is none of those of the blocks
abbrev pub begin_faults : List ℕ → Option Spot → Spot → List Fault
begin_faults ls tab s = tab_fault tab ++ fault_if (is_misfit ls (indent s)) BadDedent s

abbrev pub line_faults : List ℕ → List Event → List Fault
line_faults ls [] = []
line_faults ls (begins tab s ∷ es) = begin_faults ls tab s ++ line_faults (levels_at ls (indent s)) es
line_faults ls (spells k w s ∷ es) = line_faults ls es
line_faults ls (ends s ∷ es) = line_faults ls es

-- the brackets that are open behind all the pieces
abbrev pub open_behind : List Spot → Spot → List Piece → List Spot
open_behind opens s [] = opens
open_behind opens s (p ∷ ps) = open_behind (brackets opens p s) (behind s (spelling p)) ps

-- the innermost of them is at fault, which is met at the end of the text
abbrev pub bracket_faults : Spot → List Spot → List Fault
bracket_faults end [] = []
bracket_faults end (s ∷ opens) = record { met = end.offset; place = s.place; reason = OpenBracket } ∷ []

-- the faults of pieces from a spot on
abbrev pub faults_of : Spot → List Piece → List Fault
faults_of s ps =
    piece_faults false s ps ++ line_faults [] (events [] false None s ps) ++ bracket_faults (behind s (spelled ps)) (open_behind [] s ps)

-- the one comes before the other in the text, or is at one spot with it and has no greater number
abbrev pub Precedes : Fault → Fault → Type 0
Precedes f g = (f.met < g.met) ⊎ ((f.met ≡ g.met) × (number_of_reason f.reason ≤ number_of_reason g.reason))

pub record IsFirst (faults : List Fault) (f : Fault) : Type 0 where
  pub stands : Contains faults f
  pub first : All (Precedes f) faults
