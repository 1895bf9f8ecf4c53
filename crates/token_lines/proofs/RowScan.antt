-- The tokens of a line, read one by one up to its line feed.
use Rattle.std.proofs.Common.{ℕ, suc, ◌≡◌, ◌&&◌, true, false, Bool, List, [], ◌∷◌, ◌++◌, length, map, None, if◌then◌else◌, arith, refl, sym, ap, ◌∙◌, subst, append_assoc}
use Rattle.std.specs.List.{All}
use Rattle.std.specs.Str.{chars, IsUtf8}
use Rattle.std.proofs.lemmas.Str.{chars-append, IsUtf8-append}
use Rattle.mono_list.proofs.Cases.{split}
use Rattle.py_lexer.specs.declared.spot.Spot.{Spot}
use Rattle.py_lexer.specs.declared.state.State.{State}
use Rattle.py_lexer.specs.declared.token.TokenKind.TheVariants as token_kind
use Rattle.py_lexer.specs.Characters.{is_blank, is_quote, behind}
use Rattle.py_lexer.specs.Pieces.{piece}
use Rattle.py_lexer.specs.Layout.{brackets, is_open, levels_at, indent, mark}
use Rattle.py_lexer.specs.computed.Scanning.{line_refusal, line_dents, spelled_state, ended_state, end_tokens}
use Rattle.py_lexer.proofs.Fronts.{begins}
use Rattle.spelled_tokens.specs.declared.token.What.{What}
use Rattle.spelled_tokens.specs.declared.token.What.TheVariants as what
use Rattle.spelled_tokens.specs.declared.token.Mark.TheVariants as mark
use Rattle.spelled_tokens.specs.SpelledTokens.{all_spelled}
use Rattle.token_lines.specs.declared.printed.Printed.{Printed}
use Rattle.token_lines.specs.declared.printed.Shape.{Shape}
use Rattle.token_lines.specs.Tokens.{what_of, text_of}
use Rattle.token_lines.specs.Spaces.{shape_of, gap}
use Rattle.token_lines.specs.Lines.{space_if, row_text}
use Rattle.token_lines.specs.Writable.{IsWritable, opened_by, open_after}
use Rattle.token_lines.specs.Back.{whats}
use Rattle.token_lines.proofs.Ascii.{low_utf8}
use Rattle.token_lines.proofs.Follows.{may_follow, follows, feed_follows, space_follows}
use Rattle.token_lines.proofs.TokenPieces.{IsToken}
use Rattle.token_lines.proofs.EachToken.{token_is}
use Rattle.token_lines.proofs.Steps.{Reads, StandsAt, stands_on, stands_low, reads_token, reads_blank, reads_end, low_front}

abbrev pub AreWritable : List Printed → Type 0
AreWritable [] = Unit {0}
AreWritable (t ∷ ts) = IsWritable (what_of t) × AreWritable ts

pub writable_from : (ts : List Printed) → All (λ t. IsWritable (what_of t)) ts → AreWritable ts
writable_from [] h = tt
writable_from (t ∷ ts) h = (h 0 t (omega arith), writable_from ts (λ k d l. h (suc k) d (omega arith)))

-- the text of a line behind a token of this shape, and what stands behind the line
abbrev pub tail : Shape → List Printed → List ℕ → List ℕ
tail z ts rest = row_text z ts ++ 10 ∷ rest

pub tail_is : (z : Shape) (t : Printed) (ts : List Printed) (rest : List ℕ) (b : Bool) → gap z (shape_of t) ≡ b
    → tail z (t ∷ ts) rest ≡ space_if b ++ (text_of t ++ tail (shape_of t) ts rest)
tail_is z t ts rest b e =
    append_assoc (space_if (gap z (shape_of t))) (text_of t ++ row_text (shape_of t) ts) (10 ∷ rest)
    ∙ ap (λ l. space_if (gap z (shape_of t)) ++ l) (append_assoc (text_of t) (row_text (shape_of t) ts) (10 ∷ rest))
    ∙ ap (λ (x : Bool). space_if x ++ (text_of t ++ tail (shape_of t) ts rest)) e

space_utf8 : (b : Bool) → IsUtf8 (space_if b)
space_utf8 true = low_utf8 (32 ∷ []) refl
space_utf8 false = low_utf8 [] refl

pub tail_utf8 : (z : Shape) (ts : List Printed) (rest : List ℕ) → AreWritable ts → IsUtf8 rest → IsUtf8 (tail z ts rest)
tail_utf8 z [] rest w u = IsUtf8-append (10 ∷ []) rest (low_utf8 (10 ∷ []) refl) u
tail_utf8 z (t ∷ ts) rest w u =
    let i = token_is t w.0 in
    let more = IsUtf8-append (text_of t) (tail (shape_of t) ts rest) i.utf8 (tail_utf8 (shape_of t) ts rest w.1 u) in
    subst IsUtf8 (sym (tail_is z t ts rest (gap z (shape_of t)) refl))
    (IsUtf8-append (space_if (gap z (shape_of t))) (text_of t ++ tail (shape_of t) ts rest) (space_utf8 (gap z (shape_of t))) more)

-- a text that a token begins, begins with the token's first character
pub token_first : (p : ℕ → Bool) (t : Printed) (rest : List ℕ) (i : IsToken t) → begins p (chars (text_of t ++ rest)) ≡ p i.first
token_first p t rest i = ap (begins p) (chars-append (text_of t) rest i.utf8 ∙ ap (λ l. l ++ chars rest) i.letters)

-- what stands behind a token may stand there
pub tail_follows : (z : Shape) (ts : List Printed) (rest : List ℕ) → AreWritable ts → begins (may_follow z) (chars (tail z ts rest)) ≡ true
tail_follows z [] rest w = ap (begins (may_follow z)) (low_front (10 ∷ []) rest refl) ∙ feed_follows z
tail_follows z (t ∷ ts) rest w =
    let i = token_is t w.0 in
    let behind_ = text_of t ++ tail (shape_of t) ts rest in
    split (gap z (shape_of t)) (λ b. gap z (shape_of t) ≡ b → begins (may_follow z) (chars (tail z (t ∷ ts) rest)) ≡ true)
    (λ _ g. ap (λ l. begins (may_follow z) (chars l)) (tail_is z t ts rest true g) ∙ ap (begins (may_follow z)) (low_front (32 ∷ []) behind_ refl) ∙ space_follows z)
    (λ _ g. ap (λ l. begins (may_follow z) (chars l)) (tail_is z t ts rest false g) ∙ token_first (may_follow z) t (tail (shape_of t) ts rest) i ∙ follows (shape_of t) z i.first i.fits g)
    refl

-- the state between the tokens of a line, and the state between lines
pub record InRow (n : ℕ) (levels : List ℕ) (st : State) : Type 0 where
  pub begun : st.inside ≡ true
  pub count : length st.opens ≡ n
  pub blocks : st.levels ≡ levels

pub record AtLine (levels : List ℕ) (st : State) : Type 0 where
  pub closed : st.opens ≡ []
  pub blocks : st.levels ≡ levels
  pub begun : st.inside ≡ false
  pub apart : st.joined ≡ false
  pub no_tab : st.tab ≡ None

-- what stands behind the line is read as these tokens
abbrev pub GoesOn : List ℕ → List ℕ → List ℕ → List What → Type 0
GoesOn all rest levels ws = (st : State) (s : Spot) (before : List ℕ) → AtLine levels st → StandsAt all before rest s → s.place.column ≡ 1 → Reads all st s (chars rest) ws

-- the tokens of what is left of a line, and those behind it
abbrev pub row_whats : List Printed → List What → List What
row_whats ts ws = map what_of ts ++ (what.Mark mark.Newline ∷ ws)

-- what is left of the line is read as its tokens
abbrev pub RowReads : List ℕ → List ℕ → List ℕ → List What → List Printed → Shape → ℕ → Type 0
RowReads all rest levels ws ts z n =
    (st : State) (s : Spot) (before : List ℕ) → InRow n levels st → (st.joined && begins is_quote (chars (tail z ts rest))) ≡ false
    → StandsAt all before (tail z ts rest) s → Reads all st s (chars (tail z ts rest)) (row_whats ts ws)

no_opens : (os : List Spot) → length os ≡ 0 → os ≡ []
no_opens [] h = refl
no_opens (s ∷ os) h = absurd (omega arith)

end_is : (st : State) (s : Spot) → st.inside ≡ true → st.opens ≡ [] → end_tokens st s ≡ mark token_kind.Newline s ∷ []
end_is st s i o = ap (λ os. if is_open os then [] else (if st.inside then mark token_kind.Newline s ∷ [] else [])) o ∙ ap (λ (b : Bool). if b then mark token_kind.Newline s ∷ [] else []) i

module _ (all rest levels : List ℕ) (ws : List What) (u : IsUtf8 rest) (go : GoesOn all rest levels ws) where
  row_end : (z : Shape) → RowReads all rest levels ws [] z 0
  row_end z st s before r j a =
      let none = no_opens st.opens r.count in
      let line : AtLine levels (ended_state st) =
      record { closed = none; blocks = r.blocks; begun = ap (λ os. is_open os && st.inside) none; apart = refl; no_tab = refl } in
      reads_end all rest st s (what.Mark mark.Newline ∷ []) ws (ap (λ l. whats (all_spelled all l)) (end_is st s r.begun none))
      (go (ended_state st) (behind s (10 ∷ [])) (before ++ 10 ∷ []) line (stands_low all before (10 ∷ []) rest s refl a) refl)

  -- one token, where what is left behind it is read
  pub token_on : (t : Printed) (ts : List Printed) (n : ℕ) (i : IsToken t) → AreWritable ts → RowReads all rest levels ws ts (shape_of t) (opened_by n (what_of t))
      → (st : State) (s : Spot) (before : List ℕ) (ds : List What) → length st.opens ≡ n → (if st.inside then st.levels else levels_at st.levels (indent s)) ≡ levels
      → line_refusal st i.sort s ≡ None → whats (all_spelled all (line_dents st s)) ≡ ds → (st.joined && is_quote i.first) ≡ false
      → StandsAt all before (text_of t ++ tail (shape_of t) ts rest) s → Reads all st s (chars (text_of t ++ tail (shape_of t) ts rest)) (ds ++ (what_of t ∷ row_whats ts ws))
  token_on t ts n i w more st s before ds opens blocks begun dents j a =
      let behind_ = tail (shape_of t) ts rest in
      let f = tail_follows (shape_of t) ts rest w in
      let next : InRow (opened_by n (what_of t)) levels (spelled_state st s i.sort (chars (text_of t))) =
      record {
        begun = refl;
        count = ap (λ l. length (brackets st.opens (piece i.sort l) s)) i.letters ∙ i.opens st.opens s ∙ ap (λ m. opened_by m (what_of t)) opens;
        blocks = blocks;
      } in
      reads_token all before behind_ st s t ds (row_whats ts ws) i a (tail_utf8 (shape_of t) ts rest w u) f j begun dents
      (more (spelled_state st s i.sort (chars (text_of t))) (behind s (chars (text_of t))) (before ++ text_of t) next (i.joins (chars behind_) f) (stands_on all before (text_of t) behind_ s i.utf8 a))

  -- a token inside a line
  row_token : (t : Printed) (ts : List Printed) (n : ℕ) (i : IsToken t) → AreWritable ts → RowReads all rest levels ws ts (shape_of t) (opened_by n (what_of t))
      → (st : State) (s : Spot) (before : List ℕ) → InRow n levels st → (st.joined && is_quote i.first) ≡ false
      → StandsAt all before (text_of t ++ tail (shape_of t) ts rest) s → Reads all st s (chars (text_of t ++ tail (shape_of t) ts rest)) (what_of t ∷ row_whats ts ws)
  row_token t ts n i w more st s before r j a =
      token_on t ts n i w more st s before [] r.count (rw r.begun r.blocks) (rw r.begun refl) (rw r.begun refl) j a

  pub row_reads : (ts : List Printed) (z : Shape) (n : ℕ) → AreWritable ts → open_after n ts ≡ 0 → RowReads all rest levels ws ts z n
  row_reads [] z n w o st s before r j a =
      let P : ℕ → Type 0 = λ m. InRow m levels st in row_end z st s before (subst P o r) j a
  row_reads (t ∷ ts) z n w o st s before r j a =
      let i = token_is t w.0 in
      let behind_ = text_of t ++ tail (shape_of t) ts rest in
      let more = row_reads ts (shape_of t) (opened_by n (what_of t)) w.1 o in
      let Goal : List ℕ → Type 0 = λ l. Reads all st s (chars l) (row_whats (t ∷ ts) ws) in
      let Stands : List ℕ → Type 0 = λ l. StandsAt all before l s in
      split (gap z (shape_of t)) (λ b. gap z (shape_of t) ≡ b → Goal (tail z (t ∷ ts) rest))
      (λ _ g.
      let e = tail_is z t ts rest true g in
      let spaced : State = record st { joined = false; tab = None } in
      let row : InRow n levels spaced = record { begun = r.begun; count = r.count; blocks = r.blocks } in
      subst Goal (sym e)
      (reads_blank all behind_ st s 0 (row_whats (t ∷ ts) ws) (token_first is_blank t (tail (shape_of t) ts rest) i ∙ i.no_blank)
      (row_token t ts n i w.1 more spaced (behind s (32 ∷ [])) (before ++ 32 ∷ []) row refl (stands_low all before (32 ∷ []) behind_ s refl (subst Stands e a)))))
      (λ _ g.
      let e = tail_is z t ts rest false g in
      let first = ap (λ l. begins is_quote (chars l)) e ∙ token_first is_quote t (tail (shape_of t) ts rest) i in
      subst Goal (sym e) (row_token t ts n i w.1 more st s before r (sym (ap (λ (b : Bool). st.joined && b) first) ∙ j) (subst Stands e a)))
      refl
