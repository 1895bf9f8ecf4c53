-- The text of lines has the tokens of the lines.
use Rattle.std.proofs.Common.{ℕ, zero, suc, ◌+◌, ◌*◌, ◌<◌, ◌≤◌, ◌≡◌, false, Bool, List, [], ◌∷◌, ◌++◌, length, replicate, None, Ok, if◌then◌else◌, arith, refl, sym, ap, ◌∙◌, subst, append_assoc}
use Rattle.std.specs.Str.{chars, IsUtf8}
use Rattle.std.proofs.lemmas.Str.{chars-nil, chars-append, IsUtf8-nil, IsUtf8-append}
use Rattle.py_lexer.specs.declared.spot.Spot.{Spot}
use Rattle.py_lexer.specs.declared.state.State.{State}
use Rattle.py_lexer.specs.declared.token.TokenKind.TheVariants as token_kind
use Rattle.py_lexer.specs.Characters.{is_blank, behind, marked, unmarked, start_of}
use Rattle.py_lexer.specs.Pieces.{Cuts}
use Rattle.py_lexer.specs.Layout.{indent, mark}
use Rattle.py_lexer.specs.computed.Scanning.{line_refusal, last_tokens, refused_or, end_refusal, start_state}
use Rattle.py_lexer.specs.computed.Scans.{Scans}
use Rattle.py_lexer.proofs.Fronts.{begins}
use Rattle.py_lexer.proofs.Outcome.{scans_lexes}
use Rattle.spelled_tokens.specs.declared.token.What.{What}
use Rattle.spelled_tokens.specs.declared.token.What.TheVariants as what
use Rattle.spelled_tokens.specs.declared.token.Mark.TheVariants as mark_kind
use Rattle.spelled_tokens.specs.SpelledTokens.{all_spelled}
use Rattle.token_lines.specs.declared.printed.Printed.{Printed}
use Rattle.token_lines.specs.declared.printed.Shape.TheVariants as shape
use Rattle.token_lines.specs.Tokens.{what_of, text_of}
use Rattle.token_lines.specs.Spaces.{shape_of}
use Rattle.token_lines.specs.Lines.{Line, row_text, line_text, lines_text, dents_between, whats_of_lines}
use Rattle.token_lines.specs.Writable.{opened_by, open_after, AreLines}
use Rattle.token_lines.specs.Back.{whats, LexesAs}
use Rattle.token_lines.proofs.EachToken.{token_is}
use Rattle.token_lines.proofs.Steps.{whats_append, Reads, StandsAt, stands_low, reads_blank, spaces_low, spaces_utf8, spaces_front}
use Rattle.token_lines.proofs.RowScan.{AreWritable, writable_from, tail, tail_is, tail_utf8, token_first, AtLine, GoesOn, RowReads, row_whats, token_on, row_reads}
use Rattle.token_lines.proofs.Blocks.{levels_of, left_all, dedents, steps_of, spaces_column}

-- the text of a line with what stands behind it
line_is : (l : Line) (rest : List ℕ) → line_text l ++ rest ≡ replicate (4 * l.depth) 32 ++ tail shape.Edge l.tokens rest
line_is l rest =
    append_assoc (replicate (4 * l.depth) 32) (row_text shape.Edge l.tokens ++ 10 ∷ []) rest
    ∙ ap (λ x. replicate (4 * l.depth) 32 ++ x) (append_assoc (row_text shape.Edge l.tokens) (10 ∷ []) rest)

pub lines_utf8 : (d : ℕ) (ls : List Line) → AreLines d ls → IsUtf8 (lines_text ls)
lines_utf8 d [] a = IsUtf8-nil
lines_utf8 d (l ∷ ls) a =
    subst IsUtf8 (sym (line_is l (lines_text ls)))
    (IsUtf8-append (replicate (4 * l.depth) 32) (tail shape.Edge l.tokens (lines_text ls)) (spaces_utf8 (4 * l.depth))
    (tail_utf8 shape.Edge l.tokens (lines_text ls) (writable_from l.tokens a.0.writable) (lines_utf8 l.depth ls a.1)))

-- the end of the text
end_reads : (all : List ℕ) (d : ℕ) (st : State) (s : Spot) → AtLine (levels_of d) st → Reads all st s (chars []) (whats_of_lines d [])
end_reads all d st s a =
    let none : end_refusal st.opens ≡ None = ap end_refusal a.closed in
    let tokens : last_tokens st s ≡ replicate d (mark token_kind.Dedent s) ++ mark token_kind.End s ∷ [] = rw (a.begun, a.blocks, left_all d) refl in
    record {
      pieces = [];
      cut = record { text_is = chars-nil; are_pieces = tt };
      tokens = last_tokens st s;
      gives = ap (λ o. refused_or o (Ok (last_tokens st s))) none;
      are =
          ap (λ l. whats (all_spelled all l)) tokens
          ∙ whats_append all (replicate d (mark token_kind.Dedent s)) (mark token_kind.End s ∷ [])
          ∙ ap (λ l. l ++ what.Mark mark_kind.End ∷ []) (dedents all s d);
    }

module _ (all rest : List ℕ) (d e : ℕ) (ws : List What) (u : IsUtf8 rest) (h : e ≤ d + 1) (go : GoesOn all rest (levels_of e) ws) where
  -- the first token of a line
  first_reads : (t : Printed) (ts : List Printed) → AreWritable (t ∷ ts) → open_after 0 (t ∷ ts) ≡ 0
      → (st : State) (s : Spot) (before : List ℕ) → AtLine (levels_of d) st → s.place.column ≡ 4 * e + 1
      → StandsAt all before (tail shape.Edge (t ∷ ts) rest) s → Reads all st s (chars (tail shape.Edge (t ∷ ts) rest)) (dents_between d e ++ row_whats (t ∷ ts) ws)
  first_reads t ts w o st s before a c stands =
      let i = token_is t w.0 in
      let q = tail_is shape.Edge t ts rest false refl in
      let column : indent s ≡ 4 * e = omega arith in
      let f = steps_of d e h in
      let Stands : List ℕ → Type 0 = λ l. StandsAt all before l s in
      let Goal : List ℕ → Type 0 = λ l. Reads all st s (chars l) (dents_between d e ++ row_whats (t ∷ ts) ws) in
      let more : RowReads all rest (levels_of e) ws ts (shape_of t) (opened_by 0 (what_of t)) = row_reads all rest (levels_of e) ws u go ts (shape_of t) (opened_by 0 (what_of t)) w.1 o in
      let begun : line_refusal st i.sort s ≡ None = rw (a.begun, a.no_tab, i.spelled.no_stray, a.blocks, column, f.no_misfit) refl in
      subst Goal (sym q)
      (token_on all rest (levels_of e) ws u go t ts 0 i w.1 more st s before (dents_between d e) (ap length a.closed)
      (rw (a.begun, a.blocks, column) f.levels) begun (rw (a.begun, a.blocks) (f.marks all s column)) (rw a.apart refl) (subst Stands q stands))

  -- and the spaces before it
  begin_reads : (n : ℕ) → n ≡ 4 * e → (t : Printed) (ts : List Printed) → AreWritable (t ∷ ts) → open_after 0 (t ∷ ts) ≡ 0
      → (st : State) (s : Spot) (before : List ℕ) → AtLine (levels_of d) st → s.place.column ≡ 1
      → StandsAt all before (replicate n 32 ++ tail shape.Edge (t ∷ ts) rest) s
      → Reads all st s (chars (replicate n 32 ++ tail shape.Edge (t ∷ ts) rest)) (dents_between d e ++ row_whats (t ∷ ts) ws)
  begin_reads zero m t ts w o st s before a c stands = first_reads t ts w o st s before a (omega arith) stands
  begin_reads (suc n) m t ts w o st s before a c stands =
      let i = token_is t w.0 in
      let behind_ = tail shape.Edge (t ∷ ts) rest in
      let q = tail_is shape.Edge t ts rest false refl in
      let spaced : State = record st { joined = false; tab = None } in
      let line : AtLine (levels_of d) spaced = record { closed = a.closed; blocks = a.blocks; begun = a.begun; apart = refl; no_tab = refl } in
      let first : begins is_blank (chars behind_) ≡ false = ap (λ l. begins is_blank (chars l)) q ∙ token_first is_blank t (tail (shape_of t) ts rest) i ∙ i.no_blank in
      reads_blank all behind_ st s n (dents_between d e ++ row_whats (t ∷ ts) ws) first
      (first_reads t ts w o spaced (behind s (replicate (suc n) 32)) (before ++ replicate (suc n) 32) line (omega (arith, spaces_column s (suc n)))
      (stands_low all before (replicate (suc n) 32) behind_ s (spaces_low (suc n)) stands))

  line_reads : (ts : List Printed) → 0 < length ts → AreWritable ts → open_after 0 ts ≡ 0
      → (st : State) (s : Spot) (before : List ℕ) → AtLine (levels_of d) st → s.place.column ≡ 1
      → StandsAt all before (replicate (4 * e) 32 ++ tail shape.Edge ts rest) s
      → Reads all st s (chars (replicate (4 * e) 32 ++ tail shape.Edge ts rest)) (dents_between d e ++ row_whats ts ws)
  line_reads [] some w o st s before a c stands = absurd (omega arith)
  line_reads (t ∷ ts) some w o st s before a c stands = begin_reads (4 * e) refl t ts w o st s before a c stands

-- the lines, one by one
lines_read : (all : List ℕ) (d : ℕ) (ls : List Line) → AreLines d ls → GoesOn all (lines_text ls) (levels_of d) (whats_of_lines d ls)
lines_read all d [] a = λ st s before line stands c. end_reads all d st s line
lines_read all d (l ∷ ls) a = λ st s before line stands c.
    let rest = lines_text ls in
    let q = line_is l rest in
    let Stands : List ℕ → Type 0 = λ x. StandsAt all before x s in
    let Goal : List ℕ → Type 0 = λ x. Reads all st s (chars x) (whats_of_lines d (l ∷ ls)) in
    subst Goal (sym q)
    (line_reads all rest d l.depth (whats_of_lines l.depth ls) (lines_utf8 l.depth ls a.1) a.0.depth (lines_read all l.depth ls a.1) l.tokens a.0.some
    (writable_from l.tokens a.0.writable) a.0.closed st s before line c (subst Stands q stands))

-- no byte order mark stands at the front
row_unmarked : (ts : List Printed) (rest : List ℕ) → 0 < length ts → AreWritable ts → marked (chars (tail shape.Edge ts rest)) ≡ false
row_unmarked [] rest h w = absurd (omega arith)
row_unmarked (t ∷ ts) rest h w =
    let i = token_is t w.0 in
    let behind_ = tail (shape_of t) ts rest in
    ap (λ l. marked (chars l)) (tail_is shape.Edge t ts rest false refl)
    ∙ ap marked (chars-append (text_of t) behind_ i.utf8 ∙ ap (λ l. l ++ chars behind_) i.letters) ∙ i.unmarked

line_unmarked : (n : ℕ) (ts : List Printed) (rest : List ℕ) → 0 < length ts → AreWritable ts → marked (chars (replicate n 32 ++ tail shape.Edge ts rest)) ≡ false
line_unmarked zero ts rest h w = row_unmarked ts rest h w
line_unmarked (suc n) ts rest h w = ap marked (spaces_front (suc n) (tail shape.Edge ts rest))

lines_unmarked : (ls : List Line) → AreLines 0 ls → marked (chars (lines_text ls)) ≡ false
lines_unmarked [] a = ap marked chars-nil
lines_unmarked (l ∷ ls) a =
    ap (λ x. marked (chars x)) (line_is l (lines_text ls)) ∙ line_unmarked (4 * l.depth) l.tokens (lines_text ls) a.0.some (writable_from l.tokens a.0.writable)

none_left_out : (cs : List ℕ) → marked cs ≡ false → unmarked cs ≡ cs
none_left_out [] h = refl
none_left_out (c ∷ cs) h = rw h refl

-- the text of lines has the tokens of the lines
pub lines_lex : (ls : List Line) → AreLines 0 ls → LexesAs (lines_text ls) (whats_of_lines 0 ls)
lines_lex ls a =
    let text = lines_text ls in
    let cs = chars text in
    let bare = lines_unmarked ls a in
    let start : AtLine (levels_of 0) start_state = record { closed = refl; blocks = refl; begun = refl; apart = refl; no_tab = refl } in
    let stands : StandsAt text [] text (start_of cs) = record { parts = refl; utf8 = IsUtf8-nil; offset = ap (λ (b : Bool). if b then 3 else 0) bare } in
    let r = lines_read text 0 ls a start_state (start_of cs) [] start stands refl in
    let P : List ℕ → Type 0 = λ l. Cuts l r.pieces in
    let scans : Scans cs (Ok r.tokens) = record { pieces = r.pieces; cut = subst P (sym (none_left_out cs bare)) r.cut; gives = r.gives } in
    record { tokens = r.tokens; lexes = scans_lexes cs r.tokens scans; are = r.are }
