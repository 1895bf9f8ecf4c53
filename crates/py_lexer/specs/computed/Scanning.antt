-- computed: what the code of `step` and `finish` computes, which reads pieces one by one.
use Rattle.std.specs.Prelude.{◌≡◌, ℕ, ◌+◌, Bool, true, false, ◌&&◌, ◌||◌, not, is_some, List, [], ◌∷◌, ◌++◌, take, drop, replicate, Option, Some, None, Result, Ok, Err, if◌then◌else◌}
use Rattle.mono_syntax.specs.declared.Refusal.{Refusal}
use Rattle.mono_syntax.specs.declared.Reason.{Reason}
use Rattle.mono_syntax.specs.declared.Reason.TheVariants.{BadChar, Tab, BadDedent, OpenBracket, BadName, BadNumber, BadString}
use Rattle.mono_syntax.specs.declared.LoadFault.{LoadFault}
use Rattle.mono_syntax.specs.declared.LoadFault.TheVariants.{Refused, Memory}
use Rattle.py_chars.specs.Spellings.{is_name, number_of, bad_escape}
use Rattle.py_lexer.specs.declared.spot.Spot.{Spot}
use Rattle.py_lexer.specs.declared.piece.Kind.{Kind}
use Rattle.py_lexer.specs.declared.piece.Kind.TheVariants as kind
use Rattle.py_lexer.specs.declared.state.State.{State}
use Rattle.py_lexer.specs.declared.token.Token.{Token}
use Rattle.py_lexer.specs.declared.token.TokenKind.TheVariants.{Newline, Dedent, End}
use Rattle.py_lexer.specs.Characters.{behind, behind_one, is_control}
use Rattle.py_lexer.specs.Pieces.{Piece, piece, spelled}
use Rattle.py_lexer.specs.Layout.{brackets, first_tab, is_open, left, levels_at, is_misfit, indent, mark, token, dents}
use Rattle.py_lexer.specs.Faults.{begins_with, is_doubled, is_word}

-- want of memory is merged with no refusal
abbrev pub RefusedBy : Option Refusal → LoadFault → Type 0
RefusedBy o Memory = Unit {0}
RefusedBy o (Refused r) = o ≡ Some r

abbrev pub refusal : Reason → Spot → Refusal
refusal r s = record { place = s.place; reason = r }

abbrev pub refuse_if : Bool → Reason → Spot → Option Refusal
refuse_if b r s = if b then Some (refusal r s) else None

abbrev pub or_else : Option Refusal → Option Refusal → Option Refusal
or_else None o = o
or_else (Some r) o = Some r

abbrev pub first_control : Spot → List ℕ → Option Refusal
first_control s [] = None
first_control s (c ∷ cs) = if is_control c then Some (refusal BadChar s) else first_control (behind_one s c) cs

abbrev pub escape_refusal : Option ℕ → Spot → List ℕ → Option Refusal
escape_refusal None s w = None
escape_refusal (Some n) s w = Some (refusal BadString (behind s (take (n + 1) w)))

-- what refuses a closed literal for its escapes
abbrev pub inside_refusal : Spot → List ℕ → Option Refusal
inside_refusal s w = escape_refusal (bad_escape (drop 1 w)) s w

abbrev pub string_refusal : Bool → Spot → List ℕ → List ℕ → Option Refusal
string_refusal closed s w u =
    if closed && is_doubled w u then Some (refusal BadString s)
    else or_else (first_control s w) (if closed then inside_refusal s w else Some (refusal BadString s))

abbrev pub quote_refusal : Bool → Bool → Spot → List ℕ → List ℕ → Option Refusal
quote_refusal closed joined s w u = if joined then Some (refusal BadString s) else string_refusal closed s w u

abbrev pub own_refusal : Kind → Bool → Spot → List ℕ → List ℕ → Option Refusal
own_refusal kind.Comment joined s w u = first_control s w
own_refusal kind.Word joined s w u = refuse_if (not (is_name w)) BadName s
own_refusal kind.Number joined s w u = refuse_if (not (is_some (number_of w)) || begins_with 46 u) BadNumber s
own_refusal kind.Text joined s w u = quote_refusal true joined s w u
own_refusal kind.Unclosed joined s w u = quote_refusal false joined s w u
own_refusal kind.Stray joined s w u = Some (refusal BadChar s)
own_refusal _ joined s w u = None

abbrev pub tab_refusal : Option Spot → Option Refusal
tab_refusal None = None
tab_refusal (Some s) = Some (refusal Tab s)

abbrev pub is_stray : Kind → Bool
is_stray kind.Stray = true
is_stray _ = false

-- what refuses a logical line that begins with a piece of this kind
abbrev pub line_refusal : State → Kind → Spot → Option Refusal
line_refusal st k s =
    if st.inside then None
    else or_else (tab_refusal st.tab) (or_else (refuse_if (is_stray k) BadChar s) (refuse_if (is_misfit st.levels (indent s)) BadDedent s))

abbrev pub spelling_refusal : State → Spot → Kind → List ℕ → List ℕ → Option Refusal
spelling_refusal st s k w u = or_else (line_refusal st k s) (own_refusal k st.joined s w u)

-- what refuses a piece
abbrev pub step_refusal : State → Spot → Kind → List ℕ → List ℕ → Option Refusal
step_refusal st s kind.Blank w u = None
step_refusal st s kind.Comment w u = first_control s w
step_refusal st s kind.LineEnd w u = None
step_refusal st s k w u = spelling_refusal st s k w u

abbrev pub end_tokens : State → Spot → List Token
end_tokens st s = if is_open st.opens then [] else (if st.inside then mark Newline s ∷ [] else [])

abbrev pub line_dents : State → Spot → List Token
line_dents st s = if st.inside then [] else dents st.levels s

-- the tokens that a piece adds
abbrev pub step_tokens : State → Spot → Kind → List ℕ → List Token
step_tokens st s kind.Blank w = []
step_tokens st s kind.Comment w = []
step_tokens st s kind.LineEnd w = end_tokens st s
step_tokens st s k w = line_dents st s ++ token k w s ∷ []

-- the state behind a piece
abbrev pub ended_state : State → State
ended_state st = record st { inside = is_open st.opens && st.inside; joined = false; tab = None }

abbrev pub spelled_state : State → Spot → Kind → List ℕ → State
spelled_state st s k w =
    record {
      opens = brackets st.opens (piece k w) s;
      levels = if st.inside then st.levels else levels_at st.levels (indent s);
      inside = true;
      joined = is_word k;
      tab = None;
    }

abbrev pub next_state : State → Spot → Kind → List ℕ → State
next_state st s kind.Blank w = record st { joined = false; tab = first_tab s w }
next_state st s kind.Comment w = record st { joined = false; tab = None }
next_state st s kind.LineEnd w = ended_state st
next_state st s k w = spelled_state st s k w

abbrev pub with_front : List Token → Result (List Token) Refusal → Result (List Token) Refusal
with_front front (Ok rest) = Ok (front ++ rest)
with_front front (Err r) = Err r

abbrev pub refused_or : Option Refusal → Result (List Token) Refusal → Result (List Token) Refusal
refused_or None r = r
refused_or (Some e) r = Err e

-- what the end of the text gives
abbrev pub end_refusal : List Spot → Option Refusal
end_refusal [] = None
end_refusal (s ∷ opens) = Some (refusal OpenBracket s)

abbrev pub last_tokens : State → Spot → List Token
last_tokens st s = (if st.inside then mark Newline s ∷ [] else []) ++ (replicate (left st.levels 0) (mark Dedent s) ++ mark End s ∷ [])

abbrev pub finished : State → Spot → Result (List Token) Refusal
finished st s = refused_or (end_refusal st.opens) (Ok (last_tokens st s))

-- the tokens of pieces, or what refuses them
abbrev pub scan : State → Spot → List Piece → Result (List Token) Refusal
scan st s [] = finished st s
scan st s (piece k w ∷ ps) =
    refused_or (step_refusal st s k w (spelled ps)) (with_front (step_tokens st s k w) (scan (next_state st s k w) (behind s w) ps))

abbrev pub start_state : State
start_state = record { opens = []; levels = []; inside = false; joined = false; tab = None }
