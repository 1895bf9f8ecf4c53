-- Reading a text from its start: what the pieces read so far leave to be read.
use Rattle.std.proofs.Common.{ℕ, ◌+◌, ◌<◌, ◌≤◌, ◌≡◌, List, [], ◌∷◌, ◌++◌, length, true, false, ◌==◌, Some, None, Result, Ok, Err, arith, refl, sym, ap, ◌∙◌, subst}
use Rattle.std.specs.Str.{chars, encode_utf8_all, IsUtf8}
use Rattle.std.specs.Char.{encode_utf8}
use Rattle.std.proofs.lemmas.List.{length-append, append_assoc}
use Rattle.std.proofs.lemmas.Str.{encodes-chars, chars-nil}
use Rattle.std.proofs.lemmas.Bool.{eqb-true, eqb-false}
use Rattle.mono_syntax.specs.declared.Refusal.{Refusal}
use Rattle.py_lexer.specs.declared.spot.Spot.{Spot}
use Rattle.py_lexer.specs.declared.piece.Kind.{Kind}
use Rattle.py_lexer.specs.declared.state.State.{State}
use Rattle.py_lexer.specs.declared.token.Token.{Token}
use Rattle.py_lexer.specs.Bounds.{Fits}
use Rattle.py_lexer.specs.Characters.{behind, behind_one, start_of, unmarked}
use Rattle.py_lexer.specs.Pieces.{Piece, piece, spelled, IsPiece, Cuts}
use Rattle.py_lexer.specs.computed.Reading.{front}
use Rattle.py_lexer.specs.computed.Scanning.{scan, with_front, refused_or, step_refusal, step_tokens, next_state, end_refusal, last_tokens, start_state, RefusedBy}
use Rattle.py_lexer.specs.computed.Scans.{Scans, RefusedScan}
use Rattle.mono_syntax.specs.declared.LoadFault.{LoadFault}
use Rattle.mono_syntax.specs.declared.LoadFault.TheVariants.{Refused, Memory}
use Rattle.py_lexer.proofs.Fronts.{Front}
use Rattle.py_lexer.proofs.Signs.{front_is}
use Rattle.py_lexer.proofs.Spots.{fits_on, fits_less}
use Rattle.py_lexer.proofs.Unique.{piece_more, cut_of}

-- whatever the rest is cut into, scanning the whole text gives these tokens and then what scanning the rest does
abbrev pub ReadsOn : List ℕ → List Token → State → Spot → List ℕ → Type 0
ReadsOn all tokens st s cs =
    (ps : List Piece) → Cuts cs ps → (qs : List Piece) × Cuts (unmarked all) qs × (scan start_state (start_of all) qs ≡ with_front tokens (scan st s ps))

with_none : (r : Result (List Token) Refusal) → with_front [] r ≡ r
with_none (Ok ts) = refl
with_none (Err e) = refl

with_more : (a b : List Token) (r : Result (List Token) Refusal) → with_front a (with_front b r) ≡ with_front (a ++ b) r
with_more a b (Ok ts) = ap Ok (sym (append_assoc a b ts))
with_more a b (Err e) = refl

pub reads_start : (all : List ℕ) → ReadsOn all [] start_state (start_of all) (unmarked all)
reads_start all = λ ps c. (ps, c, sym (with_none (scan start_state (start_of all) ps)))

scan_step : (st : State) (s : Spot) (k : Kind) (w : List ℕ) (ps : List Piece) → step_refusal st s k w (spelled ps) ≡ None
    → scan st s (piece k w ∷ ps) ≡ with_front (step_tokens st s k w) (scan (next_state st s k w) (behind s w) ps)
scan_step st s k w ps e = ap (λ o. refused_or o (with_front (step_tokens st s k w) (scan (next_state st s k w) (behind s w) ps))) e

scan_stop : (st : State) (s : Spot) (k : Kind) (w : List ℕ) (ps : List Piece) (r : Refusal) → step_refusal st s k w (spelled ps) ≡ Some r → scan st s (piece k w ∷ ps) ≡ Err r
scan_stop st s k w ps r e = ap (λ o. refused_or o (with_front (step_tokens st s k w) (scan (next_state st s k w) (behind s w) ps))) e

pub reads_on : (all : List ℕ) (tokens : List Token) (st : State) (s : Spot) (cs : List ℕ) (k : Kind) (w u : List ℕ) → ReadsOn all tokens st s cs
    → cs ≡ w ++ u → IsPiece (piece k w) u → step_refusal st s k w u ≡ None
    → (more : List Token) (next : State) (at : Spot) → more ≡ tokens ++ step_tokens st s k w → next ≡ next_state st s k w → at ≡ behind s w → ReadsOn all more next at u
reads_on all tokens st s cs k w u reads e i ok more next at t n b = λ ps c.
    let r = reads (piece k w ∷ ps) (piece_more cs k w u ps e i c) in
    let step = scan_step st s k w ps (ap (step_refusal st s k w) (sym c.text_is) ∙ ok) in (
      r.0,
      r.1,
      r.2 ∙ ap (with_front tokens) step ∙ with_more tokens (step_tokens st s k w) (scan (next_state st s k w) (behind s w) ps)
          ∙ ap (λ l. with_front l (scan (next_state st s k w) (behind s w) ps)) (sym t)
          ∙ ap (λ z. with_front more (scan z (behind s w) ps)) (sym n)
          ∙ ap (λ z. with_front more (scan next z ps)) (sym b),
    )

pub reads_stop : (all : List ℕ) (tokens : List Token) (st : State) (s : Spot) (cs : List ℕ) (k : Kind) (w u : List ℕ) (r : Refusal) → ReadsOn all tokens st s cs
    → cs ≡ w ++ u → IsPiece (piece k w) u → step_refusal st s k w u ≡ Some r → Scans all (Err r)
reads_stop all tokens st s cs k w u r reads e i stop =
    let rest = cut_of u in
    let q = reads (piece k w ∷ rest.0) (piece_more cs k w u rest.0 e i rest.1) in
    let step = scan_stop st s k w rest.0 r (ap (step_refusal st s k w) (sym rest.1.text_is) ∙ stop) in
    record { pieces = q.0; cut = q.1; gives = q.2 ∙ ap (with_front tokens) step }

no_pieces : (cs : List ℕ) → cs ≡ [] → Cuts cs []
no_pieces cs e = record { text_is = e; are_pieces = tt }

pub reads_end : (all : List ℕ) (tokens : List Token) (st : State) (s : Spot) (cs : List ℕ) → ReadsOn all tokens st s cs → cs ≡ [] → end_refusal st.opens ≡ None
    → (more : List Token) → more ≡ tokens ++ last_tokens st s → Scans all (Ok more)
reads_end all tokens st s cs reads e ok more m =
    let q = reads [] (no_pieces cs e) in
    record { pieces = q.0; cut = q.1; gives = q.2 ∙ ap (λ o. with_front tokens (refused_or o (Ok (last_tokens st s)))) ok ∙ ap Ok (sym m) }

pub reads_end_stop : (all : List ℕ) (tokens : List Token) (st : State) (s : Spot) (cs : List ℕ) (r : Refusal) → ReadsOn all tokens st s cs → cs ≡ [] → end_refusal st.opens ≡ Some r → Scans all (Err r)
reads_end_stop all tokens st s cs r reads e stop =
    let q = reads [] (no_pieces cs e) in
    record { pieces = q.0; cut = q.1; gives = q.2 ∙ ap (λ o. with_front tokens (refused_or o (Ok (last_tokens st s)))) stop }

-- what the code finds at the front is a piece
pub front_piece : (cs : List ℕ) → 0 < length cs → Front cs (front cs).0 (front cs).1
unfolding front
front_piece [] h = absurd (omega arith)
front_piece (c ∷ cs) h = front_is c cs

some_encoded : (bs : List ℕ) → (length bs ≡ 0 → ⊥) → (cs : List ℕ) → encode_utf8_all cs ≡ bs → 0 < length cs
some_encoded bs h [] e = absurd (h (sym (ap length e)))
some_encoded bs h (c ∷ cs) e = omega arith

pub some_chars : (bs : List ℕ) → IsUtf8 bs → (length bs ≡ 0 → ⊥) → 0 < length (chars bs)
some_chars bs u h = some_encoded bs h (chars bs) (encodes-chars bs u)

pub fits_behind : (s : Spot) (cs : List ℕ) (n : ℕ) → Fits s (length (encode_utf8_all cs) + n) → Fits (behind s cs) n
fits_behind s [] n f = fits_less s (0 + n) n (omega arith) f
fits_behind s (c ∷ cs) n f =
    let l : length (encode_utf8 c) + (length (encode_utf8_all cs) + n) ≤ length (encode_utf8_all (c ∷ cs)) + n = omega (arith, length-append (encode_utf8 c) (encode_utf8_all cs)) in
    fits_behind (behind_one s c) cs n (fits_on s c (length (encode_utf8_all cs) + n) (fits_less s (length (encode_utf8_all (c ∷ cs)) + n) (length (encode_utf8 c) + (length (encode_utf8_all cs) + n)) l f))

-- the same, of a text in bytes
pub found : (bs us : List ℕ) (k : Kind) → IsUtf8 bs → (length bs == 0) ≡ false → k ≡ (front (chars bs)).0 → chars us ≡ (front (chars bs)).1 → Front (chars bs) k (chars us)
found bs us k u n e g =
    let f = front_piece (chars bs) (some_chars bs u (eqb-false (length bs) 0 n)) in
    let P : Kind → Type 0 = λ j. Front (chars bs) j (chars us) in
    let Q : List ℕ → Type 0 = λ r. Front (chars bs) (front (chars bs)).0 r in
    subst P (sym e) (subst Q (sym g) f)

-- a front whose spelling is this one
pub record Named (cs : List ℕ) (k : Kind) (w u : List ℕ) : Type 0 where
  pub parts : cs ≡ w ++ u
  pub some : 0 < length w
  pub is_piece : IsPiece (piece k w) u

pub named : (cs : List ℕ) (k : Kind) (w u : List ℕ) → (f : Front cs k u) → w ≡ f.spelling → Named cs k w u
named cs k w u f e =
    let P : List ℕ → Type 0 = λ v. Named cs k v u in
    subst P (sym e) (record { parts = f.parts; some = f.some; is_piece = f.is_piece })

pub fits_text : (s : Spot) (ws : List ℕ) (n m : ℕ) → IsUtf8 ws → length ws + n ≡ m → Fits s m → Fits (behind s (chars ws)) n
fits_text s ws n m u l f =
    let e : length (encode_utf8_all (chars ws)) + n ≤ m = omega (arith, ap length (encodes-chars ws u)) in
    fits_behind s (chars ws) n (fits_less s m (length (encode_utf8_all (chars ws)) + n) e f)

-- a text with a character has bytes
pub some_bytes : (ws : List ℕ) → 0 < length (chars ws) → 0 < length ws
some_bytes [] h = absurd (omega (arith, ap length chars-nil))
some_bytes (b ∷ bs) h = omega arith

pub no_chars : (bs : List ℕ) → (length bs == 0) ≡ true → chars bs ≡ []
no_chars [] e = chars-nil
no_chars (b ∷ bs) e = absurd (omega (arith, eqb-true (length (b ∷ bs)) 0 e))

pub refused_on : (all : List ℕ) (tokens : List Token) (st : State) (s : Spot) (cs : List ℕ) (k : Kind) (w u : List ℕ) (fault : LoadFault) → ReadsOn all tokens st s cs
    → Named cs k w u → RefusedBy (step_refusal st s k w u) fault → RefusedScan all fault
refused_on all tokens st s cs k w u Memory reads n h = tt
refused_on all tokens st s cs k w u (Refused r) reads n h = reads_stop all tokens st s cs k w u r reads n.parts n.is_piece h

pub refused_end : (all : List ℕ) (tokens : List Token) (st : State) (s : Spot) (cs : List ℕ) (fault : LoadFault) → ReadsOn all tokens st s cs
    → cs ≡ [] → RefusedBy (end_refusal st.opens) fault → RefusedScan all fault
refused_end all tokens st s cs Memory reads e h = tt
refused_end all tokens st s cs (Refused r) reads e h = reads_end_stop all tokens st s cs r reads e h
