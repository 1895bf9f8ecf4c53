-- A string between its quotes: the characters of its text, and what they are worth.
use Rattle.std.proofs.Common.{ℕ, suc, ◌+◌, ◌<◌, ◌≤◌, ◌≡◌, ◌⊎◌, inl, inr, ◌==◌, not, true, false, List, [], ◌∷◌, ◌++◌, length, get_or, map, Some, None, arith, refl, sym, ap, ◌∙◌, subst}
use Rattle.std.specs.List.{list_all}
use Rattle.std.specs.Char.{encode_utf8}
use Rattle.std.specs.Str.{chars, encode_utf8_all, all_scalars, IsUtf8}
use Rattle.std.proofs.Math.Utf8.{scalar, low_scalar}
use Rattle.std.proofs.lemmas.Bool.{and_parts, and_from, eqb-true, eqb-false, ne_eqb, or_cases, not-true, true≢false, cases_lt}
use Rattle.std.proofs.lemmas.List.{append-nil}
use Rattle.std.proofs.lemmas.Str.{encode_ascii, encodes-append, encodes-chars, scalars-chars, chars_from_encodes, inside_one}
use Rattle.mono_list.proofs.Cases.{split}
use Rattle.py_chars.specs.Spellings.{plain, escape, items_of, item_value, is_escape, escaped, first_bad, string_of, bad_escape}
use Rattle.py_chars.proofs.Items.{plain_item, escape_item}
use Rattle.py_lexer.specs.declared.spot.Spot.{Spot}
use Rattle.py_lexer.specs.Characters.{is_control, ends_line, behind_one}
use Rattle.py_lexer.specs.computed.Reading.{at_close}
use Rattle.py_lexer.specs.computed.Scanning.{first_control}
use Rattle.spelled_tokens.specs.declared.token.What.TheVariants as what
use Rattle.spelled_tokens.specs.SpelledTokens.{text_when}
use Rattle.token_lines.specs.Tokens.{quoted_byte, quoted}
use Rattle.token_lines.specs.Writable.{may_hold}

-- a character that stands behind a backslash
pub record IsEscaped (c : ℕ) : Type 0 where
  pub letter : ℕ
  pub text : quoted_byte c ≡ 92 ∷ letter ∷ []
  pub is_one : is_escape letter ≡ true
  pub value : escaped letter ≡ c
  pub visible : is_control letter ≡ false
  pub small : letter < 128
  pub low : c < 128

-- a character that stands for itself
pub record IsKept (c : ℕ) : Type 0 where
  pub text : quoted_byte c ≡ c ∷ []
  pub no_feed : c ≡ 10 → ⊥
  pub no_slash : c ≡ 92 → ⊥
  pub no_quote : c ≡ 34 → ⊥

escaped_at : (c n : ℕ) → c == n ≡ true → IsEscaped n → IsEscaped c
escaped_at c n t e = subst IsEscaped (sym (eqb-true c n t)) e

pub quoting : (c : ℕ) → IsEscaped c ⊎ IsKept c
quoting c =
    split (c == 10) (λ b. c == 10 ≡ b → IsEscaped c ⊎ IsKept c)
    (λ _ t. inl (escaped_at c 10 t (record { letter = 110; text = refl; is_one = refl; value = refl; visible = refl; small = omega arith; low = omega arith })))
    (λ _ feed.
    split (c == 9) (λ b. c == 9 ≡ b → IsEscaped c ⊎ IsKept c)
    (λ _ t. inl (escaped_at c 9 t (record { letter = 116; text = refl; is_one = refl; value = refl; visible = refl; small = omega arith; low = omega arith })))
    (λ _ tab.
    split (c == 92) (λ b. c == 92 ≡ b → IsEscaped c ⊎ IsKept c)
    (λ _ t. inl (escaped_at c 92 t (record { letter = 92; text = refl; is_one = refl; value = refl; visible = refl; small = omega arith; low = omega arith })))
    (λ _ slash.
    split (c == 34) (λ b. c == 34 ≡ b → IsEscaped c ⊎ IsKept c)
    (λ _ t. inl (escaped_at c 34 t (record { letter = 34; text = refl; is_one = refl; value = refl; visible = refl; small = omega arith; low = omega arith })))
    (λ _ quote. inr (record { text = rw (feed, tab, slash, quote) refl; no_feed = eqb-false c 10 feed; no_slash = eqb-false c 92 slash; no_quote = eqb-false c 34 quote }))
    refl)
    refl)
    refl)
    refl

-- a list's quoted form by its first character's
quoted_by : (c : ℕ) (cs w : List ℕ) → quoted_byte c ≡ w → quoted (c ∷ cs) ≡ w ++ quoted cs
quoted_by c cs w e = ap (λ l. l ++ quoted cs) e

-- quoting works on characters as it does on bytes
high_kept : (bs rest : List ℕ) → ((k : ℕ) → k < length bs → 128 ≤ get_or bs k 0) → quoted (bs ++ rest) ≡ bs ++ quoted rest
high_kept [] rest h = refl
high_kept (b ∷ bs) rest h =
    let high : 128 ≤ b = h 0 (omega arith) in
    let more = high_kept bs rest (λ k l. h (suc k) (omega arith)) in
    elim (quoting b) as (λ _. quoted (b ∷ (bs ++ rest)) ≡ b ∷ (bs ++ quoted rest)) [
      | inl e ↦ absurd (omega (arith, e.low))
      | inr k ↦ quoted_by b (bs ++ rest) (b ∷ []) k.text ∙ ap (λ l. b ∷ l) more
    ]

high_encoded : (c k : ℕ) → 128 ≤ c → k < length (encode_utf8 c) → 128 ≤ get_or (encode_utf8 c) k 0
high_encoded c k h l =
    elim (cases_lt (get_or (encode_utf8 c) k 0) 128) as (λ _. 128 ≤ get_or (encode_utf8 c) k 0) [
      | inl low ↦ absurd (omega (arith, inside_one c [] (encode_utf8 c) k (sym (append-nil (encode_utf8 c))) l low))
      | inr high ↦ high
    ]

one_encoded : (c : ℕ) → encode_utf8_all (c ∷ []) ≡ encode_utf8 c
one_encoded c = append-nil (encode_utf8 c)

pair_encoded : (d : ℕ) → d < 128 → encode_utf8_all (92 ∷ d ∷ []) ≡ 92 ∷ d ∷ []
pair_encoded d h = ap (λ l. l ++ encode_utf8_all (d ∷ [])) (encode_ascii 92 (omega arith)) ∙ ap (λ l. 92 ∷ l) (one_encoded d ∙ encode_ascii d h)

byte_encoded : (c : ℕ) (rest : List ℕ) → quoted (encode_utf8 c ++ rest) ≡ encode_utf8_all (quoted_byte c) ++ quoted rest
byte_encoded c rest =
    let Goal : Type 0 = quoted (encode_utf8 c ++ rest) ≡ encode_utf8_all (quoted_byte c) ++ quoted rest in
    elim (cases_lt c 128) as (λ _. Goal) [
      | inl low ↦ elim (quoting c) as (λ _. Goal) [
        | inl e ↦
            ap (λ l. quoted (l ++ rest)) (encode_ascii c low) ∙ quoted_by c rest (92 ∷ e.letter ∷ []) e.text
            ∙ sym (ap (λ l. encode_utf8_all l ++ quoted rest) e.text ∙ ap (λ l. l ++ quoted rest) (pair_encoded e.letter e.small))
        | inr k ↦ ap (λ l. quoted (l ++ rest)) (encode_ascii c low) ∙ quoted_by c rest (c ∷ []) k.text
            ∙ sym (ap (λ l. encode_utf8_all l ++ quoted rest) k.text ∙ ap (λ l. l ++ quoted rest) (one_encoded c ∙ encode_ascii c low))
      ]
      | inr high ↦ elim (quoting c) as (λ _. Goal) [
        | inl e ↦ absurd (omega (arith, e.low))
        | inr k ↦ high_kept (encode_utf8 c) rest (λ k l. high_encoded c k high l)
            ∙ sym (ap (λ l. encode_utf8_all l ++ quoted rest) k.text ∙ ap (λ l. l ++ quoted rest) (one_encoded c))
      ]
    ]

pub quoted_encoded : (cs : List ℕ) → quoted (encode_utf8_all cs) ≡ encode_utf8_all (quoted cs)
quoted_encoded [] = refl
quoted_encoded (c ∷ cs) =
    byte_encoded c (encode_utf8_all cs) ∙ ap (λ l. encode_utf8_all (quoted_byte c) ++ l) (quoted_encoded cs) ∙ sym (encodes-append (quoted_byte c) (quoted cs))

-- the characters of a quoted text
scalars_quoted : (cs : List ℕ) → all_scalars cs ≡ true → all_scalars (quoted cs) ≡ true
scalars_quoted [] h = refl
scalars_quoted (c ∷ cs) h =
    let both = and_parts (scalar c) (all_scalars cs) h in
    let more = scalars_quoted cs both.1 in
    elim (quoting c) as (λ _. all_scalars (quoted (c ∷ cs)) ≡ true) [
      | inl e ↦
          ap all_scalars (quoted_by c cs (92 ∷ e.letter ∷ []) e.text)
          ∙ and_from (scalar e.letter) (all_scalars (quoted cs)) (low_scalar e.letter (omega (arith, e.small))) more
      | inr k ↦ ap all_scalars (quoted_by c cs (c ∷ []) k.text) ∙ and_from (scalar c) (all_scalars (quoted cs)) both.0 more
    ]

pub quoted_utf8 : (t : List ℕ) → IsUtf8 t → IsUtf8 (quoted t)
quoted_utf8 t u = (quoted (chars t), (scalars_quoted (chars t) (scalars-chars t u), sym (quoted_encoded (chars t)) ∙ ap quoted (encodes-chars t u)))

pub quoted_chars : (t : List ℕ) → IsUtf8 t → chars (quoted t) ≡ quoted (chars t)
quoted_chars t u = sym (chars_from_encodes (quoted (chars t)) (quoted t) (quoted_utf8 t u) (sym (quoted_encoded (chars t)) ∙ ap quoted (encodes-chars t u)))

-- the items of what stands between the quotes: they are worth the characters, and none is bad
items_escaped : (c : ℕ) (cs : List ℕ) (e : IsEscaped c) → items_of (quoted (c ∷ cs)) ≡ escape e.letter ∷ items_of (quoted cs)
items_escaped c cs e =
    ap items_of (quoted_by c cs (92 ∷ e.letter ∷ []) e.text) ∙ escape_item 92 e.letter (e.letter ∷ quoted cs) (quoted cs) refl refl

items_kept : (c : ℕ) (cs : List ℕ) → IsKept c → items_of (quoted (c ∷ cs)) ≡ plain c ∷ items_of (quoted cs)
items_kept c cs k = ap items_of (quoted_by c cs (c ∷ []) k.text) ∙ plain_item c (quoted cs) k.no_slash

values_quoted : (cs : List ℕ) → map item_value (items_of (quoted cs)) ≡ cs
values_quoted [] = refl
values_quoted (c ∷ cs) =
    elim (quoting c) as (λ _. map item_value (items_of (quoted (c ∷ cs))) ≡ c ∷ cs) [
      | inl e ↦ ap (map item_value) (items_escaped c cs e) ∙ ap (λ l. escaped e.letter ∷ l) (values_quoted cs) ∙ ap (λ z. z ∷ cs) e.value
      | inr k ↦ ap (map item_value) (items_kept c cs k) ∙ ap (λ l. c ∷ l) (values_quoted cs)
    ]

none_bad : (n : ℕ) (cs : List ℕ) → first_bad n (items_of (quoted cs)) ≡ None
none_bad n [] = refl
none_bad n (c ∷ cs) =
    elim (quoting c) as (λ _. first_bad n (items_of (quoted (c ∷ cs))) ≡ None) [
      | inl e ↦ ap (first_bad n) (items_escaped c cs e) ∙ rw e.is_one (none_bad (n + 2) cs)
      | inr k ↦ ap (first_bad n) (items_kept c cs k) ∙ none_bad (n + 1) cs
    ]

pub no_bad_escape : (cs : List ℕ) → bad_escape (quoted cs) ≡ None
unfolding bad_escape
no_bad_escape cs = none_bad 0 cs

-- nor with the closing quote behind it
items_escaped_on : (c : ℕ) (cs : List ℕ) (e : IsEscaped c) → items_of (quoted (c ∷ cs) ++ 34 ∷ []) ≡ escape e.letter ∷ items_of (quoted cs ++ 34 ∷ [])
items_escaped_on c cs e =
    ap (λ l. items_of (l ++ 34 ∷ [])) (quoted_by c cs (92 ∷ e.letter ∷ []) e.text)
    ∙ escape_item 92 e.letter (e.letter ∷ (quoted cs ++ 34 ∷ [])) (quoted cs ++ 34 ∷ []) refl refl

items_kept_on : (c : ℕ) (cs : List ℕ) → IsKept c → items_of (quoted (c ∷ cs) ++ 34 ∷ []) ≡ plain c ∷ items_of (quoted cs ++ 34 ∷ [])
items_kept_on c cs k = ap (λ l. items_of (l ++ 34 ∷ [])) (quoted_by c cs (c ∷ []) k.text) ∙ plain_item c (quoted cs ++ 34 ∷ []) k.no_slash

none_bad_on : (n : ℕ) (cs : List ℕ) → first_bad n (items_of (quoted cs ++ 34 ∷ [])) ≡ None
none_bad_on n [] = refl
none_bad_on n (c ∷ cs) =
    elim (quoting c) as (λ _. first_bad n (items_of (quoted (c ∷ cs) ++ 34 ∷ [])) ≡ None) [
      | inl e ↦ ap (first_bad n) (items_escaped_on c cs e) ∙ rw e.is_one (none_bad_on (n + 2) cs)
      | inr k ↦ ap (first_bad n) (items_kept_on c cs k) ∙ none_bad_on (n + 1) cs
    ]

pub no_bad_behind : (cs : List ℕ) → bad_escape (quoted cs ++ 34 ∷ []) ≡ None
unfolding bad_escape
no_bad_behind cs = none_bad_on 0 cs

pub quoted_value : (cs : List ℕ) → string_of (quoted cs) ≡ cs
unfolding string_of
quoted_value cs = values_quoted cs

-- and so a string's inside is the string
pub quoted_what : (t : List ℕ) → IsUtf8 t → text_when (quoted t) (bad_escape (chars (quoted t))) ≡ what.Text t
quoted_what t u =
    ap (λ l. text_when (quoted t) (bad_escape l)) (quoted_chars t u) ∙ ap (text_when (quoted t)) (no_bad_escape (chars t))
    ∙ ap (λ l. what.Text (encode_utf8_all (string_of l))) (quoted_chars t u)
    ∙ ap (λ l. what.Text (encode_utf8_all l)) (quoted_value (chars t))
    ∙ ap what.Text (encodes-chars t u)

-- no line ends at another character
pub no_line_end : (c : ℕ) (r : List ℕ) → (c ≡ 10 → ⊥) → (c ≡ 13 → ⊥) → ends_line (c ∷ r) ≡ false
no_line_end c [] a b = ne_eqb c 10 a
no_line_end c (d ∷ r) a b = rw (ne_eqb c 10 a, ne_eqb c 13 b) refl

visible_not : (c n : ℕ) → is_control c ≡ false → is_control n ≡ true → c ≡ n → ⊥
visible_not c n f t e = true≢false (sym t ∙ ap is_control (sym e) ∙ f)

pub visible_line : (c : ℕ) (r : List ℕ) → is_control c ≡ false → ends_line (c ∷ r) ≡ false
visible_line c r f = no_line_end c r (visible_not c 10 f refl) (visible_not c 13 f refl)

-- a character that a string may hold, and that stands for itself, is no control character
held_visible : (c : ℕ) → may_hold c ≡ true → (c ≡ 10 → ⊥) → is_control c ≡ false
held_visible c h n =
    elim (or_cases (not (is_control c)) (c == 10) h) as (λ _. is_control c ≡ false) [ inl t ↦ not-true (is_control c) t | inr t ↦ absurd (n (eqb-true c 10 t)) ]

close_escaped : (d : ℕ) (r : List ℕ) → is_control d ≡ false → at_close false 34 (92 ∷ d ∷ r) ≡ at_close false 34 r
close_escaped d r f = rw (visible_line d r f) refl

close_kept : (c : ℕ) (r : List ℕ) → is_control c ≡ false → (c ≡ 34 → ⊥) → (c ≡ 92 → ⊥) → at_close false 34 (c ∷ r) ≡ at_close false 34 r
close_kept c r f q b = rw (visible_line c r f, ne_eqb c 34 q, ne_eqb c 92 b) refl

-- the closing quote is found behind what is quoted
pub quoted_close : (cs u : List ℕ) → list_all may_hold cs ≡ true → at_close false 34 (quoted cs ++ 34 ∷ u) ≡ Some u
quoted_close [] u h = rw (visible_line 34 u refl) refl
quoted_close (c ∷ cs) u h =
    let both = and_parts (may_hold c) (list_all may_hold cs) h in
    let more = quoted_close cs u both.1 in
    elim (quoting c) as (λ _. at_close false 34 (quoted (c ∷ cs) ++ 34 ∷ u) ≡ Some u) [
      | inl e ↦ ap (λ l. at_close false 34 (l ++ 34 ∷ u)) (quoted_by c cs (92 ∷ e.letter ∷ []) e.text) ∙ close_escaped e.letter (quoted cs ++ 34 ∷ u) e.visible ∙ more
      | inr k ↦
          ap (λ l. at_close false 34 (l ++ 34 ∷ u)) (quoted_by c cs (c ∷ []) k.text)
          ∙ close_kept c (quoted cs ++ 34 ∷ u) (held_visible c both.0 k.no_feed) k.no_quote k.no_slash ∙ more
    ]

-- and no control character stands there
control_passed : (s : Spot) (c : ℕ) (r : List ℕ) → is_control c ≡ false → first_control s (c ∷ r) ≡ first_control (behind_one s c) r
control_passed s c r f = rw f refl

inside_visible : (s : Spot) (cs : List ℕ) → list_all may_hold cs ≡ true → first_control s (quoted cs ++ 34 ∷ []) ≡ None
inside_visible s [] h = refl
inside_visible s (c ∷ cs) h =
    let both = and_parts (may_hold c) (list_all may_hold cs) h in
    elim (quoting c) as (λ _. first_control s (quoted (c ∷ cs) ++ 34 ∷ []) ≡ None) [
      | inl e ↦
          ap (λ l. first_control s (l ++ 34 ∷ [])) (quoted_by c cs (92 ∷ e.letter ∷ []) e.text)
          ∙ control_passed (behind_one s 92) e.letter (quoted cs ++ 34 ∷ []) e.visible
          ∙ inside_visible (behind_one (behind_one s 92) e.letter) cs both.1
      | inr k ↦
          ap (λ l. first_control s (l ++ 34 ∷ [])) (quoted_by c cs (c ∷ []) k.text)
          ∙ control_passed s c (quoted cs ++ 34 ∷ []) (held_visible c both.0 k.no_feed)
          ∙ inside_visible (behind_one s c) cs both.1
    ]

pub quoted_visible : (s : Spot) (cs : List ℕ) → list_all may_hold cs ≡ true → first_control s (34 ∷ (quoted cs ++ 34 ∷ [])) ≡ None
quoted_visible s cs h = inside_visible (behind_one s 34) cs h
