-- Reading a printed text from the back: what stands from a spot on has these tokens.
use Rattle.std.proofs.Common.{ℕ, zero, suc, ◌≡◌, ◌&&◌, true, false, List, [], ◌∷◌, ◌++◌, length, replicate, Option, None, Ok, arith, refl, sym, ap, ◌∙◌, subst, append_assoc}
use Rattle.std.specs.Str.{chars, IsUtf8}
use Rattle.std.proofs.lemmas.List.{map-append, length-append}
use Rattle.std.proofs.lemmas.Str.{chars-append, IsUtf8-append}
use Rattle.py_lexer.specs.declared.piece.Kind.{Kind}
use Rattle.py_lexer.specs.declared.piece.Kind.TheVariants as kind
use Rattle.py_lexer.specs.declared.spot.Spot.{Spot}
use Rattle.py_lexer.specs.declared.state.State.{State}
use Rattle.py_lexer.specs.declared.token.Token.{Token}
use Rattle.py_lexer.specs.Characters.{is_blank, is_quote, behind, behind_one}
use Rattle.py_lexer.specs.Pieces.{Piece, piece, spelled, IsPiece, Cuts}
use Rattle.py_lexer.specs.Layout.{token, first_tab}
use Rattle.py_lexer.specs.computed.Scanning.{scan, with_front, refused_or, or_else, step_refusal, step_tokens, next_state, line_refusal, own_refusal, line_dents, spelled_state, ended_state, end_tokens}
use Rattle.py_lexer.proofs.Fronts.{begins}
use Rattle.py_lexer.proofs.Spots.{behind_text}
use Rattle.py_lexer.proofs.Unique.{piece_more}
use Rattle.spelled_tokens.specs.declared.token.What.{What}
use Rattle.spelled_tokens.specs.SpelledTokens.{spell, all_spelled}
use Rattle.token_lines.specs.declared.printed.Printed.{Printed}
use Rattle.token_lines.specs.Tokens.{what_of, text_of}
use Rattle.token_lines.specs.Spaces.{shape_of}
use Rattle.token_lines.specs.Back.{whats}
use Rattle.token_lines.proofs.Ascii.{is_low, low_chars, low_utf8}
use Rattle.token_lines.proofs.Follows.{may_follow}
use Rattle.token_lines.proofs.FrontPieces.{blank_piece, end_piece}
use Rattle.token_lines.proofs.TokenPieces.{IsToken}

-- from this state and spot on, these characters are read as these tokens of the whole text
pub record Reads (all : List ℕ) (st : State) (s : Spot) (cs : List ℕ) (ws : List What) : Type 0 where
  pub pieces : List Piece
  pub cut : Cuts cs pieces
  pub tokens : List Token
  pub gives : scan st s pieces ≡ Ok tokens
  pub are : whats (all_spelled all tokens) ≡ ws

pub whats_append : (all : List ℕ) (a b : List Token) → whats (all_spelled all (a ++ b)) ≡ whats (all_spelled all a) ++ whats (all_spelled all b)
whats_append all a b = ap whats (map-append (spell all) a b) ∙ map-append (λ t. t.what) (all_spelled all a) (all_spelled all b)

scan_on : (st : State) (s : Spot) (k : Kind) (w : List ℕ) (ps : List Piece) → step_refusal st s k w (spelled ps) ≡ None
    → scan st s (piece k w ∷ ps) ≡ with_front (step_tokens st s k w) (scan (next_state st s k w) (behind s w) ps)
scan_on st s k w ps e = ap (λ o. refused_or o (with_front (step_tokens st s k w) (scan (next_state st s k w) (behind s w) ps))) e

-- one piece before what is read
reads_piece : (all : List ℕ) (st : State) (s : Spot) (cs w u : List ℕ) (k : Kind) (more ws : List What) → cs ≡ w ++ u → IsPiece (piece k w) u
    → step_refusal st s k w u ≡ None → whats (all_spelled all (step_tokens st s k w)) ≡ more
    → (next : State) → next_state st s k w ≡ next → Reads all next (behind s w) u ws → Reads all st s cs (more ++ ws)
reads_piece all st s cs w u k more ws e i ok m next n r =
    record {
      pieces = piece k w ∷ r.pieces;
      cut = piece_more cs k w u r.pieces e i r.cut;
      tokens = step_tokens st s k w ++ r.tokens;
      gives =
          scan_on st s k w r.pieces (ap (step_refusal st s k w) (sym r.cut.text_is) ∙ ok)
          ∙ ap (λ z. with_front (step_tokens st s k w) (scan z (behind s w) r.pieces)) n
          ∙ ap (with_front (step_tokens st s k w)) r.gives;
      are = whats_append all (step_tokens st s k w) r.tokens ∙ ap (λ l. l ++ whats (all_spelled all r.tokens)) m ∙ ap (λ l. more ++ l) r.are;
    }

-- where a spot stands in the bytes of the text
pub record StandsAt (all before text : List ℕ) (s : Spot) : Type 0 where
  pub parts : all ≡ before ++ text
  pub utf8 : IsUtf8 before
  pub offset : s.offset ≡ length before

pub stands_on : (all before w rest : List ℕ) (s : Spot) → IsUtf8 w → StandsAt all before (w ++ rest) s → StandsAt all (before ++ w) rest (behind s (chars w))
stands_on all before w rest s u a =
    record {
      parts = a.parts ∙ sym (append_assoc before w rest);
      utf8 = IsUtf8-append before w a.utf8 u;
      offset = omega (arith, behind_text s w u, a.offset, length-append before w);
    }

pub stands_low : (all before w rest : List ℕ) (s : Spot) → is_low w ≡ true → StandsAt all before (w ++ rest) s → StandsAt all (before ++ w) rest (behind s w)
stands_low all before w rest s h a =
    let P : List ℕ → Type 0 = λ l. StandsAt all (before ++ w) rest (behind s l) in
    subst P (low_chars w h) (stands_on all before w rest s (low_utf8 w h) a)

-- a token before what is read, where it is on a line that has begun or begins one
pub reads_token : (all before rest : List ℕ) (st : State) (s : Spot) (t : Printed) (ds ws : List What) → (i : IsToken t)
    → StandsAt all before (text_of t ++ rest) s → IsUtf8 rest → begins (may_follow (shape_of t)) (chars rest) ≡ true
    → (st.joined && is_quote i.first) ≡ false → line_refusal st i.sort s ≡ None → whats (all_spelled all (line_dents st s)) ≡ ds
    → Reads all (spelled_state st s i.sort (chars (text_of t))) (behind s (chars (text_of t))) (chars rest) ws
    → Reads all st s (chars (text_of t ++ rest)) (ds ++ (what_of t ∷ ws))
reads_token all before rest st s t ds ws i a u f j begun d r =
    let w = i.first ∷ i.others in
    let P : List ℕ → Type 0 = λ l. Reads all (spelled_state st s i.sort l) (behind s l) (chars rest) ws in
    let Q : List ℕ → Type 0 = λ l. (spell l (token i.sort w s)).what ≡ what_of t in
    let refusal : step_refusal st s i.sort w (chars rest) ≡ None =
    i.spelled.refusal st s w (chars rest) ∙ ap (λ o. or_else o (own_refusal i.sort st.joined s w (chars rest))) begun ∙ i.faultless st.joined s (chars rest) j f in
    let here : (spell all (token i.sort w s)).what ≡ what_of t = subst Q (sym a.parts) (i.spells before rest s a.utf8 u a.offset) in
    let added : whats (all_spelled all (step_tokens st s i.sort w)) ≡ ds ++ (what_of t ∷ []) =
    ap (λ l. whats (all_spelled all l)) (i.spelled.tokens st s w) ∙ whats_append all (line_dents st s) (token i.sort w s ∷ [])
    ∙ ap (λ l. l ++ ((spell all (token i.sort w s)).what ∷ [])) d ∙ ap (λ z. ds ++ (z ∷ [])) here in
    let whole : Reads all st s (chars (text_of t ++ rest)) ((ds ++ (what_of t ∷ [])) ++ ws) =
    reads_piece all st s (chars (text_of t ++ rest)) w (chars rest) i.sort (ds ++ (what_of t ∷ [])) ws
    (chars-append (text_of t) rest i.utf8 ∙ ap (λ l. l ++ chars rest) i.letters)
    (i.is_piece (chars rest) f) refusal added (spelled_state st s i.sort w) (i.spelled.next st s w) (subst P i.letters r) in
    let R : List What → Type 0 = λ l. Reads all st s (chars (text_of t ++ rest)) l in
    subst R (append_assoc ds (what_of t ∷ []) ws) whole

-- spaces
pub spaces_low : (n : ℕ) → is_low (replicate n 32) ≡ true
spaces_low zero = refl
spaces_low (suc n) = spaces_low n

pub spaces_utf8 : (n : ℕ) → IsUtf8 (replicate n 32)
spaces_utf8 n = low_utf8 (replicate n 32) (spaces_low n)

pub low_front : (w rest : List ℕ) → is_low w ≡ true → chars (w ++ rest) ≡ w ++ chars rest
low_front w rest h = chars-append w rest (low_utf8 w h) ∙ ap (λ l. l ++ chars rest) (low_chars w h)

pub spaces_front : (n : ℕ) (rest : List ℕ) → chars (replicate n 32 ++ rest) ≡ replicate n 32 ++ chars rest
spaces_front n rest = low_front (replicate n 32) rest (spaces_low n)

no_tab : (s : Spot) (n : ℕ) → first_tab s (replicate n 32) ≡ None
no_tab s zero = refl
no_tab s (suc n) = no_tab (behind_one s 32) n

pub reads_blank : (all rest : List ℕ) (st : State) (s : Spot) (n : ℕ) (ws : List What) → begins is_blank (chars rest) ≡ false
    → Reads all (record st { joined = false; tab = None }) (behind s (replicate (suc n) 32)) (chars rest) ws → Reads all st s (chars (replicate (suc n) 32 ++ rest)) ws
reads_blank all rest st s n ws f r =
    reads_piece all st s (chars (replicate (suc n) 32 ++ rest)) (replicate (suc n) 32) (chars rest) kind.Blank [] ws (spaces_front (suc n) rest) (blank_piece n (chars rest) f) refl refl
    (record st { joined = false; tab = None }) (ap (λ (o : Option Spot). let x : State = record st { joined = false; tab = o } in x) (no_tab s (suc n))) r

-- a line feed
pub reads_end : (all rest : List ℕ) (st : State) (s : Spot) (more ws : List What) → whats (all_spelled all (end_tokens st s)) ≡ more
    → Reads all (ended_state st) (behind s (10 ∷ [])) (chars rest) ws → Reads all st s (chars (10 ∷ rest)) (more ++ ws)
reads_end all rest st s more ws m r =
    reads_piece all st s (chars (10 ∷ rest)) (10 ∷ []) (chars rest) kind.LineEnd more ws (low_front (10 ∷ []) rest refl) (end_piece (chars rest)) refl m (ended_state st) refl r
