-- Each token of a text is one that can be: a name is a name, a number is in range, and a string holds no control characters.
use Rattle.std.proofs.Common.{ℕ, ◌≡◌, ◌+◌, ◌≤◌, ◌<◌, inl, inr, Bool, true, false, ◌&&◌, ◌||◌, ◌==◌, not, nat_le, nat_lt, cond, List, [], ◌∷◌, ◌++◌, map, length, replicate, Option, Some, None, if◌then◌else◌, refl, sym, ap, subst, ◌∙◌, append_assoc, append-nil, arith}
use Rattle.std.specs.Prelude.{bytes_eq, codes, IfSome}
use Rattle.std.specs.List.{All, list_all, list_any}
use Rattle.std.specs.Char.{encode_utf8}
use Rattle.std.specs.Str.{IsUtf8, encode_utf8_all, chars}
use Rattle.std.proofs.Math.Utf8.{scalar, scalars}
use Rattle.std.proofs.lemmas.Bool.{and_parts, and_from, or_parts, or_cases, or_left, leb-true, eqb-true, not_from_false}
use Rattle.std.proofs.lemmas.List.{length-append}
use Rattle.std.proofs.lemmas.List.Elements.{All-nil, All-cons, All-append, All-map, All-replicate}
use Rattle.std.proofs.lemmas.List.Folds.{list_any-append}
use Rattle.std.proofs.lemmas.Str.{IsUtf8-append, IsUtf8-encode, IsUtf8-nil, encodes-append, encodes-chars, chars-encodes, scalars-chars, encode_ascii}
use Rattle.mono_syntax.specs.Limits.{greatest_integer}
use Rattle.mono_list.proofs.Cases.{split, some_is, none_some}
use Rattle.mono_syntax.specs.declared.leaf.Op.{Op}
use Rattle.mono_syntax.specs.declared.Reason.TheVariants.{BadChar, BadName, BadString}
use Rattle.py_chars.specs.Spellings.{is_name, number_of, is_numeral, digits_value, plain, escape, items_of, is_escape, escaped, item_value, string_of, first_bad, bad_escape}
use Rattle.py_lexer.specs.declared.spot.Spot.{Spot}
use Rattle.py_lexer.specs.declared.piece.Kind.TheVariants as kind
use Rattle.py_lexer.specs.declared.token.Token.{Token}
use Rattle.py_lexer.specs.declared.token.TokenKind.{TokenKind}
use Rattle.py_lexer.specs.declared.token.TokenKind.TheVariants as token_kind
use Rattle.py_lexer.specs.Characters.{is_control, is_quote, behind, behind_one, first_place, start_of, unmarked}
use Rattle.py_lexer.specs.Pieces.{Piece, piece, spelled, IsLiteral, ArePieces}
use Rattle.py_lexer.specs.Layout.{is_reserved, brackets, Event, begins, spells, ends, events, first_tab, beginning, ending, is_open, levels_at, left, top, indent, mark, token, dents, laid}
use Rattle.py_lexer.specs.Faults.{Fault, fault, fault_if, controls, is_doubled, string_faults, own_faults, piece_faults}
use Rattle.py_lexer.specs.Lexes.{Lexes}
use Rattle.py_lexer.proofs.Spots.{behind_offset, mark_bytes}
use Rattle.spelled_tokens.specs.declared.token.Mark.{Mark}
use Rattle.spelled_tokens.specs.declared.token.Mark.TheVariants as mark
use Rattle.spelled_tokens.specs.declared.token.What.{What}
use Rattle.spelled_tokens.specs.declared.token.What.TheVariants as what
use Rattle.spelled_tokens.specs.declared.token.Spelled.{Spelled}
use Rattle.spelled_tokens.specs.Spelling.{inside, cut}
use Rattle.spelled_tokens.specs.SpelledTokens.{spell, all_spelled, name_what, number_what, number_when, text_what, text_when, reserved_what, operator_what, what_when}
use Rattle.spelled_tokens.specs.Words.{expression_word, type_word, mark_when, word_when, operator, punctuation, sign_when}
use Rattle.token_lines.specs.Writable.{may_hold, IsSound}
use Rattle.token_lines.proofs.Cutting.{cut_between, inside_spells}

-- ---- numbers, reserved words and operators

number_small : (cs : List ℕ) (n : ℕ) → number_of cs ≡ Some n → n ≤ greatest_integer
unfolding number_of
number_small cs n e =
    split (is_numeral cs && nat_le (digits_value cs) greatest_integer) (λ b. cond {A = Option ℕ} b (Some (digits_value cs)) None ≡ Some n → n ≤ greatest_integer)
    (λ t k. rw (← some_is k) (leb-true (digits_value cs) greatest_integer (and_parts (is_numeral cs) (nat_le (digits_value cs) greatest_integer) t).1))
    (λ _ k. none_some (n ≤ greatest_integer) k) e

when_sound : (cs : List ℕ) (o : Option ℕ) → number_of cs ≡ o → IsSound (number_when o)
when_sound cs None e = tt
when_sound cs (Some n) e = number_small cs n e

number_sound : (o : Option (List ℕ)) → IsSound (number_what o)
number_sound None = tt
number_sound (Some w) = when_sound (chars w) (number_of (chars w)) refl

-- the same, in a form that shows what is sound
record Sound (x : What) : Type 0 where
  pub sound : IsSound x

record AnySound (o : Option What) : Type 0 where
  pub sound : IfSome o IsSound

one_sound : (b : Bool) (x y : What) → IsSound x → Sound y → Sound (if b then x else y)
one_sound true x y h k = record { sound = h }
one_sound false x y h k = k

any_sound : (b : Bool) (x : What) (o : Option What) → IsSound x → AnySound o → AnySound (if b then Some x else o)
any_sound true x o h k = record { sound = h }
any_sound false x o h k = k

punctuation_sound : (w : List ℕ) → Sound (punctuation w)
unfolding punctuation
punctuation_sound w =
    one_sound (bytes_eq w (codes ".")) what.Dot _ tt
    (one_sound (bytes_eq w (codes "(")) what.Open _ tt
    (one_sound (bytes_eq w (codes ")")) what.Close _ tt
    (one_sound (bytes_eq w (codes ",")) what.Comma _ tt
    (one_sound (bytes_eq w (codes "[")) (what.Mark mark.OpenSquare) _ tt
    (one_sound (bytes_eq w (codes "]")) (what.Mark mark.CloseSquare) _ tt
    (one_sound (bytes_eq w (codes "=")) (what.Mark mark.Equals) _ tt
    (one_sound (bytes_eq w (codes ":")) (what.Mark mark.Colon) _ tt
    (one_sound (bytes_eq w (codes "->")) (what.Mark mark.Arrow) _ tt (record { sound = tt })))))))))

sign_sound : (o : Option Op) (w : List ℕ) → IsSound (sign_when o w)
sign_sound (Some o) w = tt
sign_sound None w = (punctuation_sound w).sound

operator_sound : (o : Option (List ℕ)) → IsSound (operator_what o)
operator_sound None = tt
operator_sound (Some w) = sign_sound (operator w) w

expression_sound : (w : List ℕ) → AnySound (expression_word w)
unfolding expression_word
expression_sound w =
    any_sound (bytes_eq w (codes "True")) (what.Bool true) _ tt
    (any_sound (bytes_eq w (codes "False")) (what.Bool false) _ tt
    (any_sound (bytes_eq w (codes "None")) what.Nil _ tt
    (any_sound (bytes_eq w (codes "or")) what.Or _ tt
    (any_sound (bytes_eq w (codes "and")) what.And _ tt
    (any_sound (bytes_eq w (codes "not")) what.Not _ tt
    (any_sound (bytes_eq w (codes "cast")) what.Cast _ tt
    (any_sound (bytes_eq w (codes "join")) what.Join _ tt (record { sound = tt }))))))))

mark_sound : (o : Option Mark) (w : List ℕ) → IsSound (mark_when o w)
mark_sound (Some m) w = tt
mark_sound None w = tt

word_sound : (o : Option What) (w : List ℕ) → IfSome o IsSound → IsSound (word_when o w)
word_sound (Some x) w h = h
word_sound None w h = mark_sound (type_word w) w

reserved_sound : (o : Option (List ℕ)) → IsSound (reserved_what o)
reserved_sound None = tt
reserved_sound (Some w) = word_sound (expression_word w) w (expression_sound w).sound

-- ---- characters

scalars_parts : (xs ys : List ℕ) → scalars (xs ++ ys) ≡ true → (scalars xs ≡ true) × (scalars ys ≡ true)
scalars_parts [] ys h = (refl, h)
scalars_parts (x ∷ xs) ys h =
    let k = and_parts (scalar x) (scalars (xs ++ ys)) h in
    let r = scalars_parts xs ys k.1 in
    (and_from (scalar x) (scalars xs) k.0 r.0, r.1)

-- the bytes of characters are a text
chars_utf8 : (cs : List ℕ) → scalars cs ≡ true → IsUtf8 (encode_utf8_all cs)
chars_utf8 cs h = (cs, (h, refl))

first_nil : (xs ys : List Fault) → xs ++ ys ≡ [] → xs ≡ []
first_nil [] ys e = refl
first_nil (x ∷ xs) ys e = absurd cc

rest_nil : (xs ys : List Fault) → xs ++ ys ≡ [] → ys ≡ []
rest_nil [] ys e = e
rest_nil (x ∷ xs) ys e = absurd cc

-- no fault: no control character
no_control : (s : Spot) (cs : List ℕ) → controls s cs ≡ [] → list_any is_control cs ≡ false
no_control s [] e = refl
no_control s (c ∷ cs) e =
    split (is_control c) (λ b. fault_if b BadChar s ++ controls (behind_one s c) cs ≡ [] → (b || list_any is_control cs) ≡ false)
    (λ _ k. absurd cc) (λ _ k. no_control (behind_one s c) cs k) e

clean_if : (b x : Bool) (s : Spot) (w : List ℕ) (fs : List Fault) → list_any is_control w ≡ b
    → (if x then fault BadString s ∷ [] else (if b then controls s w else fs)) ≡ [] → list_any is_control w ≡ false
clean_if b true s w fs e h = absurd cc
clean_if true false s w fs e h = no_control s w h
clean_if false false s w fs e h = e

-- a literal without fault has no control character
clean : (joined : Bool) (s : Spot) (w u : List ℕ) → own_faults kind.Text joined s w u ≡ [] → list_any is_control w ≡ false
clean joined s w u e =
    clean_if (list_any is_control w) (true && is_doubled w u) s w _ refl (rest_nil (fault_if joined BadString s) (string_faults true s w u) e)

-- characters that a string may hold
abbrev Held : List ℕ → Type 0
Held cs = (list_all may_hold cs ≡ true) × (scalars cs ≡ true)

held_on : (c : ℕ) (cs : List ℕ) → may_hold c ≡ true → scalar c ≡ true → Held cs → Held (c ∷ cs)
held_on c cs m k h = (and_from (may_hold c) (list_all may_hold cs) m h.0, and_from (scalar c) (scalars cs) k h.1)

plain_held : (c : ℕ) → is_control c ≡ false → may_hold c ≡ true
plain_held c h = or_left (not (is_control c)) (c == 10) (not_from_false (is_control c) h)

abbrev EscapeHeld : ℕ → Type 0
EscapeHeld d = (may_hold (escaped d) ≡ true) × (scalar (escaped d) ≡ true)

escape_at : (d n : ℕ) → EscapeHeld n → (d == n) ≡ true → EscapeHeld d
escape_at d n h e = subst EscapeHeld (sym (eqb-true d n e)) h

-- what an escape stands for may be held
escape_held : (d : ℕ) → is_escape d ≡ true → EscapeHeld d
escape_held d h =
    elim (or_cases (d == 110 || d == 116 || d == 92 || d == 39) (d == 34) h) [
      | inl h ↦ elim (or_cases (d == 110 || d == 116 || d == 92) (d == 39) h) [
        | inl h ↦ elim (or_cases (d == 110 || d == 116) (d == 92) h) [
          | inl h ↦ elim (or_cases (d == 110) (d == 116) h) [
            | inl e ↦ escape_at d 110 (refl, refl) e
            | inr e ↦ escape_at d 116 (refl, refl) e
          ]
          | inr e ↦ escape_at d 92 (refl, refl) e
        ]
        | inr e ↦ escape_at d 39 (refl, refl) e
      ]
      | inr e ↦ escape_at d 34 (refl, refl) e
    ]

-- a string's value holds what stands inside, and what its escapes stand for
values_held : (cs : List ℕ) (n : ℕ) → scalars cs ≡ true → list_any is_control cs ≡ false → first_bad n (items_of cs) ≡ None
    → Held (map item_value (items_of cs))
values_held [] n s k b = (refl, refl)
values_held (c ∷ []) n s k b =
    held_on c [] (plain_held c (or_parts (is_control c) false k).0) (and_parts (scalar c) true s).0 (refl, refl)
values_held (c ∷ d ∷ cs) n s k b =
    let s1 = and_parts (scalar c) (scalars (d ∷ cs)) s in
    let s2 = and_parts (scalar d) (scalars cs) s1.1 in
    let k1 = or_parts (is_control c) (list_any is_control (d ∷ cs)) k in
    let k2 = or_parts (is_control d) (list_any is_control cs) k1.1 in
    split (c == 92)
    (λ x. first_bad n (if x then escape d ∷ items_of cs else plain c ∷ items_of (d ∷ cs)) ≡ None
    → Held (map item_value (if x then escape d ∷ items_of cs else plain c ∷ items_of (d ∷ cs))))
    (λ _ b. split (is_escape d) (λ y. (if y then first_bad (n + 2) (items_of cs) else Some n) ≡ None → Held (escaped d ∷ map item_value (items_of cs)))
    (λ e b. let h = escape_held d e in held_on (escaped d) (map item_value (items_of cs)) h.0 h.1 (values_held cs (n + 2) s2.1 k2.1 b))
    (λ _ b. absurd cc) b)
    (λ _ b. held_on c (map item_value (items_of (d ∷ cs))) (plain_held c k1.0) s1.0 (values_held (d ∷ cs) (n + 1) s1.1 k1.1 b)) b

string_held : (cs : List ℕ) → scalars cs ≡ true → list_any is_control cs ≡ false → bad_escape cs ≡ None → Held (string_of cs)
unfolding string_of bad_escape
string_held cs s k b = values_held cs 0 s k b

-- ---- a piece at its place

-- these characters stand in the text from the spot to its end
record At (text : List ℕ) (s : Spot) (cs : List ℕ) : Type 0 where
  pub before : List ℕ
  pub utf8 : IsUtf8 before
  pub chars : scalars cs ≡ true
  pub is : text ≡ before ++ encode_utf8_all cs
  pub offset : s.offset ≡ length before

-- the characters behind some of them
at_on : (text : List ℕ) (s : Spot) (w u : List ℕ) → At text s (w ++ u) → At text (behind s w) u
at_on text s w u a =
    let k = scalars_parts w u a.chars in
    record {
      before = a.before ++ encode_utf8_all w;
      utf8 = IsUtf8-append a.before (encode_utf8_all w) a.utf8 (chars_utf8 w k.0);
      chars = k.1;
      is = a.is ∙ ap (λ l. a.before ++ l) (encodes-append w u) ∙ sym (append_assoc a.before (encode_utf8_all w) (encode_utf8_all u));
      offset = omega (arith, behind_offset s w, a.offset, length-append a.before (encode_utf8_all w));
    }

-- the piece there is what its token spells
spelling_at : (text : List ℕ) (s : Spot) (w u : List ℕ) → At text s (w ++ u) → cut text s.offset (behind s w).offset ≡ Some (encode_utf8_all w)
spelling_at text s w u a =
    let k = scalars_parts w u a.chars in
    ap (λ l. cut l s.offset (behind s w).offset) (a.is ∙ ap (λ l. a.before ++ l) (encodes-append w u))
    ∙ cut_between a.before (encode_utf8_all w) (encode_utf8_all u) s.offset (behind s w).offset (chars_utf8 w k.0) (chars_utf8 u k.1) a.offset
    (omega (arith, behind_offset s w, a.offset))

quote_cases : (q : ℕ) → is_quote q ≡ true → q < 128
quote_cases q h =
    elim (or_cases (q == 34) (q == 39) h) [
      | inl e ↦ omega (arith, eqb-true q 34 e)
      | inr e ↦ omega (arith, eqb-true q 39 e)
    ]

-- the bytes of a literal
literal_bytes : (q : ℕ) (inner : List ℕ) → q < 128 → encode_utf8_all (q ∷ (inner ++ q ∷ [])) ≡ q ∷ (encode_utf8_all inner ++ q ∷ [])
literal_bytes q inner h =
    let one : encode_utf8 q ≡ q ∷ [] = encode_ascii q h in
    let last : encode_utf8 q ++ [] ≡ q ∷ [] = append-nil (encode_utf8 q) ∙ one in
    ap (λ l. encode_utf8 q ++ l) (encodes-append inner (q ∷ []) ∙ ap (λ l. encode_utf8_all inner ++ l) last)
    ∙ ap (λ l. l ++ (encode_utf8_all inner ++ q ∷ [])) one

inside_at : (text : List ℕ) (s : Spot) (q : ℕ) (inner w u : List ℕ) → q < 128 → w ≡ q ∷ (inner ++ q ∷ []) → scalars inner ≡ true → At text s (w ++ u)
    → inside text (token kind.Text w s) ≡ Some (encode_utf8_all inner)
inside_at text s q inner w u h e i a =
    let k = scalars_parts w u a.chars in
    let bytes : encode_utf8_all w ≡ q ∷ (encode_utf8_all inner ++ q ∷ []) = ap encode_utf8_all e ∙ literal_bytes q inner h in
    let back : w ≡ chars (q ∷ (encode_utf8_all inner ++ q ∷ [])) = sym (chars-encodes w k.0) ∙ ap chars bytes in
    let whole : text ≡ a.before ++ ((q ∷ (encode_utf8_all inner ++ q ∷ [])) ++ encode_utf8_all u)
    = a.is ∙ ap (λ l. a.before ++ l) (encodes-append w u ∙ ap (λ l. l ++ encode_utf8_all u) bytes) in
    ap (λ l. inside l (token kind.Text w s)) whole
    ∙ ap (λ x. inside (a.before ++ ((q ∷ (encode_utf8_all inner ++ q ∷ [])) ++ encode_utf8_all u)) (token kind.Text x s)) back
    ∙ inside_spells a.before (encode_utf8_all inner) (encode_utf8_all u) q s a.utf8 (chars_utf8 inner i) (chars_utf8 u k.1) h a.offset

-- ---- each token

value_sound : (cs : List ℕ) (o : Option ℕ) → scalars cs ≡ true → list_any is_control cs ≡ false → bad_escape cs ≡ o → IsSound (text_when (encode_utf8_all cs) o)
value_sound cs (Some n) s k e = tt
value_sound cs None s k e =
    let back : chars (encode_utf8_all cs) ≡ cs = chars-encodes cs s in
    let h = string_held cs s k e in
    let P : List ℕ → Type 0 = λ x. IsSound (what.Text (encode_utf8_all (string_of x))) in
    let Q : List ℕ → Type 0 = λ x. list_all may_hold x ≡ true in
    subst P (sym back) (chars_utf8 (string_of cs) h.1, subst Q (sym (chars-encodes (string_of cs) h.1)) h.0)

text_sound : (cs : List ℕ) → scalars cs ≡ true → list_any is_control cs ≡ false → IsSound (text_what (Some (encode_utf8_all cs)))
text_sound cs s k =
    let P : List ℕ → Type 0 = λ x. IsSound (text_when (encode_utf8_all cs) (bad_escape x)) in
    subst P (sym (chars-encodes cs s)) (value_sound cs (bad_escape cs) s k refl)

literal_sound : (text : List ℕ) (s : Spot) (w u : List ℕ) (joined : Bool) → At text s (w ++ u) → IsLiteral w → own_faults kind.Text joined s w u ≡ []
    → IsSound (text_what (inside text (token kind.Text w s)))
literal_sound text s w u joined a l f =
    let q = l.0 in
    let inner = l.1 in
    let k = scalars_parts w u a.chars in
    let S : List ℕ → Type 0 = λ x. scalars x ≡ true in
    let C : List ℕ → Type 0 = λ x. list_any is_control x ≡ false in
    let small : q < 128 = quote_cases q l.2 in
    let scalar_in = scalars_parts inner (q ∷ []) (and_parts (scalar q) (scalars (inner ++ q ∷ [])) (subst S l.4 k.0)).1 in
    let clean_rest = (or_parts (is_control q) (list_any is_control (inner ++ q ∷ [])) (subst C l.4 (clean joined s w u f))).1 in
    let clean_in = or_parts (list_any is_control inner) (list_any is_control (q ∷ [])) (sym (list_any-append is_control inner (q ∷ [])) ∙ clean_rest) in
    let P : Option (List ℕ) → Type 0 = λ o. IsSound (text_what o) in
    subst P (sym (inside_at text s q inner w u small l.4 scalar_in.0 a)) (text_sound inner scalar_in.0 clean_in.0)

is_true_name : (b : Bool) (s : Spot) → fault_if (not b) BadName s ≡ [] → b ≡ true
is_true_name true s e = refl
is_true_name false s e = absurd cc

name_sound : (w : List ℕ) → scalars w ≡ true → is_name w ≡ true → is_reserved (encode_utf8_all w) ≡ false → IsSound (name_what (Some (encode_utf8_all w)))
name_sound w s n r =
    let P : List ℕ → Type 0 = λ x. is_name x ≡ true in
    (chars_utf8 w s, subst P (sym (chars-encodes w s)) n, r)

word_at : (text : List ℕ) (s : Spot) (w u : List ℕ) (joined : Bool) → At text s (w ++ u) → own_faults kind.Word joined s w u ≡ []
    → IsSound (spell text (token kind.Word w s)).what
word_at text s w u joined a f =
    split (is_reserved (encode_utf8_all w))
    (λ b.
    let w_of : TokenKind = if b then token_kind.Reserved else token_kind.Name in
    IsSound (what_when w_of (cut text s.offset (behind s w).offset) (inside text (record { what = w_of; from = s.offset; to = (behind s w).offset; place = s.place }))))
    (λ _. reserved_sound (cut text s.offset (behind s w).offset))
    (λ r.
    let P : Option (List ℕ) → Type 0 = λ o. IsSound (name_what o) in
    subst P (sym (spelling_at text s w u a)) (name_sound w (scalars_parts w u a.chars).0 (is_true_name (is_name w) s f) r))

-- ---- all tokens

-- a token of the text that is sound
abbrev Sounds : List ℕ → Token → Type 0
Sounds text x = IsSound (spell text x).what

-- every token that these events give is sound
abbrev AllSound : List ℕ → List Event → Type 0
AllSound text [] = Unit {0}
AllSound text (begins tab s ∷ es) = AllSound text es
AllSound text (spells k w s ∷ es) = Sounds text (token k w s) × AllSound text es
AllSound text (ends s ∷ es) = AllSound text es

begun : (text : List ℕ) (inside : Bool) (tab : Option Spot) (s : Spot) (es : List Event) → AllSound text es → AllSound text (beginning inside tab s ++ es)
begun text true tab s es h = h
begun text false tab s es h = h

ended : (text : List ℕ) (inside : Bool) (s : Spot) (es : List Event) → AllSound text es → AllSound text (ending inside s ++ es)
ended text true s es h = h
ended text false s es h = h

last_ended : (text : List ℕ) (inside : Bool) (s : Spot) → AllSound text (ending inside s)
last_ended text true s = tt
last_ended text false s = tt

-- pieces without fault give sound tokens
events_sound : (text : List ℕ) (ps : List Piece) (opens : List Spot) (inside joined : Bool) (tab : Option Spot) (s : Spot)
    → At text s (spelled ps) → ArePieces ps → piece_faults joined s ps ≡ [] → AllSound text (events opens inside tab s ps)
events_sound text [] opens inside joined tab s a c f = last_ended text inside s
events_sound text (piece kind.Blank w ∷ ps) opens inside joined tab s a c f =
    events_sound text ps opens inside false (first_tab s w) (behind s w) (at_on text s w (spelled ps) a) c.1 f
events_sound text (piece kind.Comment w ∷ ps) opens inside joined tab s a c f =
    events_sound text ps opens inside false None (behind s w)
    (at_on text s w (spelled ps) a) c.1 (rest_nil (controls s w) (piece_faults false (behind s w) ps) f)
events_sound text (piece kind.LineEnd w ∷ ps) opens inside joined tab s a c f =
    let b = at_on text s w (spelled ps) a in
    split (is_open opens)
    (λ x. AllSound text (if x then events opens inside None (behind s w) ps else ending inside s ++ events opens false None (behind s w) ps))
    (λ _. events_sound text ps opens inside false None (behind s w) b c.1 f)
    (λ _. ended text inside s (events opens false None (behind s w) ps) (events_sound text ps opens false false None (behind s w) b c.1 f))
events_sound text (piece kind.Word w ∷ ps) opens inside joined tab s a c f =
    let own = own_faults kind.Word joined s w (spelled ps) in
    let rest = piece_faults true (behind s w) ps in
    begun text inside tab s (spells kind.Word w s ∷ events opens true None (behind s w) ps) (
      word_at text s w (spelled ps) joined a (first_nil own rest f),
      events_sound text ps opens true true None (behind s w) (at_on text s w (spelled ps) a) c.1 (rest_nil own rest f),
    )
events_sound text (piece kind.Number w ∷ ps) opens inside joined tab s a c f =
    let own = own_faults kind.Number joined s w (spelled ps) in
    let rest = piece_faults false (behind s w) ps in
    begun text inside tab s (spells kind.Number w s ∷ events opens true None (behind s w) ps) (
      number_sound (cut text s.offset (behind s w).offset),
      events_sound text ps opens true false None (behind s w) (at_on text s w (spelled ps) a) c.1 (rest_nil own rest f),
    )
events_sound text (piece kind.Text w ∷ ps) opens inside joined tab s a c f =
    let own = own_faults kind.Text joined s w (spelled ps) in
    let rest = piece_faults false (behind s w) ps in
    begun text inside tab s (spells kind.Text w s ∷ events opens true None (behind s w) ps) (
      literal_sound text s w (spelled ps) joined a c.0.0.0 (first_nil own rest f),
      events_sound text ps opens true false None (behind s w) (at_on text s w (spelled ps) a) c.1 (rest_nil own rest f),
    )
events_sound text (piece kind.Unclosed w ∷ ps) opens inside joined tab s a c f =
    let own = own_faults kind.Unclosed joined s w (spelled ps) in
    let rest = piece_faults false (behind s w) ps in
    begun text inside tab s (spells kind.Unclosed w s ∷ events opens true None (behind s w) ps) (
      operator_sound (cut text s.offset (behind s w).offset),
      events_sound text ps opens true false None (behind s w) (at_on text s w (spelled ps) a) c.1 (rest_nil own rest f),
    )
events_sound text (piece kind.Sign w ∷ ps) opens inside joined tab s a c f =
    let opens2 = brackets opens (piece kind.Sign w) s in
    begun text inside tab s (spells kind.Sign w s ∷ events opens2 true None (behind s w) ps)
    (operator_sound (cut text s.offset (behind s w).offset), events_sound text ps opens2 true false None (behind s w) (at_on text s w (spelled ps) a) c.1 f)
events_sound text (piece kind.Stray w ∷ ps) opens inside joined tab s a c f =
    let own = own_faults kind.Stray joined s w (spelled ps) in
    let rest = piece_faults false (behind s w) ps in
    begun text inside tab s (spells kind.Stray w s ∷ events opens true None (behind s w) ps) (
      operator_sound (cut text s.offset (behind s w).offset),
      events_sound text ps opens true false None (behind s w) (at_on text s w (spelled ps) a) c.1 (rest_nil own rest f),
    )

dents_sound : (text : List ℕ) (ls : List ℕ) (s : Spot) → All (Sounds text) (dents ls s)
dents_sound text ls s =
    split (nat_lt (top ls) (indent s)) (λ b. All (Sounds text) (if b then mark token_kind.Indent s ∷ [] else replicate (left ls (indent s)) (mark token_kind.Dedent s)))
    (λ _. All-cons (Sounds text) (mark token_kind.Indent s) [] tt (All-nil (Sounds text)))
    (λ _. All-replicate (Sounds text) (left ls (indent s)) (mark token_kind.Dedent s) tt)

-- with the layout around them
laid_sound : (text : List ℕ) (end : Spot) (ls : List ℕ) (es : List Event) → AllSound text es → All (Sounds text) (laid end ls es)
laid_sound text end ls [] h =
    All-append (Sounds text) (replicate (left ls 0) (mark token_kind.Dedent end)) (mark token_kind.End end ∷ [])
    (All-replicate (Sounds text) (left ls 0) (mark token_kind.Dedent end) tt) (All-cons (Sounds text) (mark token_kind.End end) [] tt (All-nil (Sounds text)))
laid_sound text end ls (begins tab s ∷ es) h =
    All-append (Sounds text) (dents ls s) (laid end (levels_at ls (indent s)) es) (dents_sound text ls s) (laid_sound text end (levels_at ls (indent s)) es h)
laid_sound text end ls (spells k w s ∷ es) h = All-cons (Sounds text) (token k w s) (laid end ls es) h.0 (laid_sound text end ls es h.1)
laid_sound text end ls (ends s ∷ es) h = All-cons (Sounds text) (mark token_kind.Newline s) (laid end ls es) tt (laid_sound text end ls es h)

-- behind a byte order mark stands the text without it
start_at : (cs : List ℕ) → scalars cs ≡ true → At (encode_utf8_all cs) (start_of cs) (unmarked cs)
start_at [] h = record { before = []; utf8 = IsUtf8-nil; chars = refl; is = refl; offset = refl }
start_at (c ∷ cs) h =
    let k = and_parts (scalar c) (scalars cs) h in
    split (c == 65279)
    (λ b. At (encode_utf8_all (c ∷ cs)) (record { offset = if b then 3 else 0; place = first_place }) (if b then cs else c ∷ cs))
    (λ e.
    record {
      before = encode_utf8 c;
      utf8 = IsUtf8-encode c k.0;
      chars = k.1;
      is = refl;
      offset = sym (ap (λ x. length (encode_utf8 x)) (eqb-true c 65279 e) ∙ mark_bytes);
    })
    (λ _. record { before = []; utf8 = IsUtf8-nil; chars = h; is = refl; offset = refl })

first_of_three : (xs ys zs : List Fault) → xs ++ ys ++ zs ≡ [] → xs ≡ []
first_of_three [] ys zs e = refl
first_of_three (x ∷ xs) ys zs e = absurd cc

-- each token of a text is sound
pub sound_tokens : (text : List ℕ) (tokens : List Token) → IsUtf8 text → Lexes (chars text) tokens → All (λ t. IsSound t.what) (all_spelled text tokens)
sound_tokens text tokens u x =
    let cs = chars text in
    let A : List ℕ → Type 0 = λ l. At l (start_of cs) (unmarked cs) in
    let B : List ℕ → Type 0 = λ l. At text (start_of cs) l in
    let C : List Token → Type 0 = λ ts. All (Sounds text) ts in
    let a = subst B x.cut.text_is (subst A (encodes-chars text u) (start_at cs (scalars-chars text u))) in
    let f = first_of_three (piece_faults false (start_of cs) x.pieces) _ _ x.faultless in
    let es = events_sound text x.pieces [] false false None (start_of cs) a x.cut.are_pieces f in
    let l = laid_sound text (behind (start_of cs) (spelled x.pieces)) [] (events [] false None (start_of cs) x.pieces) es in
    All-map (λ (z : Spelled). IsSound z.what) (spell text) tokens (subst C (sym x.tokens_are) l)
