-- One printed token: the piece that its text is, and the token that the piece is.
use Rattle.std.proofs.Common.{ℕ, ◌≡◌, ◌&&◌, ◌==◌, not, nat_lt, true, false, Bool, List, [], ◌∷◌, ◌++◌, length, Option, Some, None, if◌then◌else◌, arith, refl, sym, ap, ◌∙◌, subst}
use Rattle.std.specs.Str.{chars, IsUtf8}
use Rattle.std.proofs.lemmas.Bool.{and_parts, and_from, ne_eqb, not-true, ltb-true, true≢false}
use Rattle.std.proofs.lemmas.Str.{encodes-chars}
use Rattle.unicode_ident.proofs.Computing.{unicode_ident}
use Rattle.py_chars.specs.Spellings.{starts_name, is_identifier, is_name}
use Rattle.py_lexer.specs.declared.piece.Kind.{Kind}
use Rattle.py_lexer.specs.declared.piece.Kind.TheVariants as kind
use Rattle.py_lexer.specs.declared.spot.Spot.{Spot}
use Rattle.py_lexer.specs.declared.state.State.{State}
use Rattle.py_lexer.specs.declared.token.TokenKind.TheVariants as token_kind
use Rattle.py_lexer.specs.Characters.{is_blank, is_quote}
use Rattle.py_lexer.specs.Pieces.{piece, IsPiece, is_short_sign, is_long_sign}
use Rattle.py_lexer.specs.Layout.{brackets, token, is_reserved}
use Rattle.py_lexer.specs.Layout as layout
use Rattle.py_lexer.specs.Faults.{is_word}
use Rattle.py_lexer.specs.computed.Scanning.{own_refusal, is_stray, spelling_refusal, step_refusal, line_dents, step_tokens, spelled_state, next_state}
use Rattle.py_lexer.proofs.Fronts.{begins}
use Rattle.spelled_tokens.specs.declared.token.What.{What}
use Rattle.spelled_tokens.specs.Spelling.{inside}
use Rattle.spelled_tokens.specs.SpelledTokens.{what_when, spell}
use Rattle.spelled_tokens.specs.Words.{word_what, sign_what}
use Rattle.token_lines.specs.declared.printed.Printed.{Printed}
use Rattle.token_lines.specs.declared.printed.Shape.{Shape}
use Rattle.token_lines.specs.Tokens.{what_of, text_of}
use Rattle.token_lines.specs.Spaces.{shape_of}
use Rattle.token_lines.specs.Writable.{opened_by}
use Rattle.token_lines.proofs.Ascii.{is_low, low_chars, low_utf8, low_name}
use Rattle.token_lines.proofs.Cutting.{token_spells}
use Rattle.token_lines.proofs.Follows.{is_apart, ends_word, may_follow, fits_behind, word_ends, no_quote, sign_ends}
use Rattle.token_lines.proofs.FrontPieces.{word_piece, begins_sign, short_piece, long_piece}

-- a kind of pieces that spell tokens
pub record IsSpelled (k : Kind) : Type 0 where
  pub refusal : (st : State) (s : Spot) (w u : List ℕ) → step_refusal st s k w u ≡ spelling_refusal st s k w u
  pub tokens : (st : State) (s : Spot) (w : List ℕ) → step_tokens st s k w ≡ line_dents st s ++ token k w s ∷ []
  pub next : (st : State) (s : Spot) (w : List ℕ) → next_state st s k w ≡ spelled_state st s k w
  pub no_stray : is_stray k ≡ false

pub word_spelled : IsSpelled kind.Word
word_spelled = record { refusal = λ st s w u. refl; tokens = λ st s w. refl; next = λ st s w. refl; no_stray = refl }

pub number_spelled : IsSpelled kind.Number
number_spelled = record { refusal = λ st s w u. refl; tokens = λ st s w. refl; next = λ st s w. refl; no_stray = refl }

pub text_spelled : IsSpelled kind.Text
text_spelled = record { refusal = λ st s w u. refl; tokens = λ st s w. refl; next = λ st s w. refl; no_stray = refl }

pub sign_spelled : IsSpelled kind.Sign
sign_spelled = record { refusal = λ st s w u. refl; tokens = λ st s w. refl; next = λ st s w. refl; no_stray = refl }

-- what stands behind a token of this shape passes the test
abbrev pub EndsAs : Shape → (ℕ → Bool) → Type 0
EndsAs z p = (u : List ℕ) → begins (may_follow z) u ≡ true → begins p u ≡ true

-- the characters of a token, their piece whatever may stand behind it, and what the token is
pub record IsToken (t : Printed) : Type 0 where
  pub sort : Kind
  pub spelled : IsSpelled sort
  pub first : ℕ
  pub others : List ℕ
  pub letters : chars (text_of t) ≡ first ∷ others
  pub utf8 : IsUtf8 (text_of t)
  pub is_piece : (u : List ℕ) → begins (may_follow (shape_of t)) u ≡ true → IsPiece (piece sort (first ∷ others)) u
  pub faultless : (joined : Bool) (s : Spot) (u : List ℕ) → (joined && is_quote first) ≡ false → begins (may_follow (shape_of t)) u ≡ true
      → own_refusal sort joined s (first ∷ others) u ≡ None
  pub joins : (u : List ℕ) → begins (may_follow (shape_of t)) u ≡ true → (is_word sort && begins is_quote u) ≡ false
  pub opens : (os : List Spot) (s : Spot) → length (brackets os (piece sort (first ∷ others)) s) ≡ opened_by (length os) (what_of t)
  pub spells : (bs rest : List ℕ) (s : Spot) → IsUtf8 bs → IsUtf8 rest → s.offset ≡ length bs
      → (spell (bs ++ (text_of t ++ rest)) (token sort (first ∷ others) s)).what ≡ what_of t
  pub fits : fits_behind (shape_of t) first ≡ true
  pub unmarked : first == 65279 ≡ false
  pub no_blank : is_blank first ≡ false

-- what a piece of the text is, by its spelling
pub spells_as : (t : Printed) (k : Kind) (w : List ℕ) → chars (text_of t) ≡ w → IsUtf8 (text_of t)
    → ((o : Option (List ℕ)) → what_when (layout.what_of k (chars (text_of t))) (Some (text_of t)) o ≡ what_of t)
    → (bs rest : List ℕ) (s : Spot) → IsUtf8 bs → IsUtf8 rest → s.offset ≡ length bs → (spell (bs ++ (text_of t ++ rest)) (token k w s)).what ≡ what_of t
spells_as t k w e u h bs rest s v x o =
    let all = bs ++ (text_of t ++ rest) in
    let P : List ℕ → Type 0 = λ l. (spell all (token k l s)).what ≡ what_of t in
    subst P e
    (ap (λ z. what_when (layout.what_of k (chars (text_of t))) z (inside all (token k (chars (text_of t)) s))) (token_spells bs (text_of t) rest k s v u x o)
    ∙ h (inside all (token k (chars (text_of t)) s)))

-- a character that begins a name is none that doesn't
starts_not : (c n : ℕ) → starts_name c ≡ true → starts_name n ≡ false → c == n ≡ false
starts_not c n t f = ne_eqb c n (λ e. true≢false (sym t ∙ ap starts_name e ∙ f))

starts_apart : (c : ℕ) → starts_name c ≡ true → is_apart c ≡ true
unfolding unicode_ident
starts_apart c t = rw (starts_not c 62 t refl, starts_not c 61 t refl, starts_not c 47 t refl) refl

starts_no_blank : (c : ℕ) → starts_name c ≡ true → is_blank c ≡ false
unfolding unicode_ident
starts_no_blank c t = rw (starts_not c 32 t refl, starts_not c 9 t refl) refl

starts_unmarked : (c : ℕ) → starts_name c ≡ true → c == 65279 ≡ false
unfolding unicode_ident
starts_unmarked c t = starts_not c 65279 t refl

name_identifier : (w : List ℕ) → is_name w ≡ true → is_identifier w ≡ true
unfolding is_name
name_identifier w h = (and_parts (is_identifier w) _ h).0

word_joins : (u : List ℕ) → begins ends_word u ≡ true → (is_word kind.Word && begins is_quote u) ≡ false
word_joins u h = no_quote u h

-- a word
pub word_token : (t : Printed) (w : List ℕ) → chars (text_of t) ≡ w → IsUtf8 (text_of t) → is_name w ≡ true → EndsAs (shape_of t) ends_word
    → ((c : ℕ) → is_apart c ≡ true → fits_behind (shape_of t) c ≡ true) → ((n : ℕ) → n ≡ opened_by n (what_of t))
    → ((o : Option (List ℕ)) → what_when (layout.what_of kind.Word (chars (text_of t))) (Some (text_of t)) o ≡ what_of t) → IsToken t
word_token t [] e v n ends fits opens means = absurd (true≢false (sym (name_identifier [] n)))
word_token t (c ∷ w) e v n ends fits opens means =
    let i = name_identifier (c ∷ w) n in
    let starts = (and_parts (starts_name c) _ i).0 in
    record {
      sort = kind.Word;
      spelled = word_spelled;
      first = c;
      others = w;
      letters = e;
      utf8 = v;
      is_piece = λ u h. word_piece c w u i (word_ends u (ends u h));
      faultless = λ joined s u q h. rw n refl;
      joins = λ u h. word_joins u (ends u h);
      opens = λ os s. opens (length os);
      spells = spells_as t kind.Word (c ∷ w) e v means;
      fits = fits c (starts_apart c starts);
      unmarked = starts_unmarked c starts;
      no_blank = starts_no_blank c starts;
    }

-- a word of ASCII characters that is no name
abbrev pub is_keyword : List ℕ → Bool
is_keyword w = is_low w && (is_identifier w && is_reserved w)

reserved_means : (w : List ℕ) (x : What) → IsUtf8 w → is_reserved w ≡ true → word_what w ≡ x
    → (o : Option (List ℕ)) → what_when (layout.what_of kind.Word (chars w)) (Some w) o ≡ x
reserved_means w x u r e o =
    ap (λ l. what_when (if is_reserved l then token_kind.Reserved else token_kind.Name) (Some w) o) (encodes-chars w u)
    ∙ ap (λ (b : Bool). what_when (if b then token_kind.Reserved else token_kind.Name) (Some w) o) r
    ∙ e

pub keyword_token : (t : Printed) → is_keyword (text_of t) ≡ true → word_what (text_of t) ≡ what_of t → EndsAs (shape_of t) ends_word
    → ((c : ℕ) → is_apart c ≡ true → fits_behind (shape_of t) c ≡ true) → ((n : ℕ) → n ≡ opened_by n (what_of t)) → IsToken t
keyword_token t h means ends fits opens =
    let a = and_parts (is_low (text_of t)) _ h in
    let b = and_parts (is_identifier (text_of t)) (is_reserved (text_of t)) a.1 in
    let u = low_utf8 (text_of t) a.0 in
    word_token t (text_of t) (low_chars (text_of t) a.0) u (low_name (text_of t) b.0 a.0) ends fits opens (reserved_means (text_of t) (what_of t) u b.1 means)

-- an operator
begins_no_blank : (c : ℕ) → begins_sign c ≡ true → is_blank c ≡ false
begins_no_blank c h = not-true (is_blank c) (and_parts (not (is_blank c)) _ h).0

low_unmarked : (c : ℕ) → nat_lt c 128 ≡ true → c == 65279 ≡ false
low_unmarked c h = ne_eqb c 65279 (λ e. omega (arith, ltb-true c 128 h))

sign_means : (w : List ℕ) (x : What) → sign_what w ≡ x → (o : Option (List ℕ)) → what_when (layout.what_of kind.Sign (chars w)) (Some w) o ≡ x
sign_means w x e o = e

abbrev pub is_short : ℕ → Bool
is_short c = nat_lt c 128 && (begins_sign c && is_short_sign c)

pub short_token : (t : Printed) (c : ℕ) → text_of t ≡ c ∷ [] → is_short c ≡ true → sign_what (text_of t) ≡ what_of t → EndsAs (shape_of t) is_apart
    → fits_behind (shape_of t) c ≡ true → ((os : List Spot) (s : Spot) → length (brackets os (piece kind.Sign (c ∷ [])) s) ≡ opened_by (length os) (what_of t)) → IsToken t
short_token t c e h means ends fits opens =
    let a = and_parts (nat_lt c 128) _ h in
    let b = and_parts (begins_sign c) (is_short_sign c) a.1 in
    let low : is_low (text_of t) ≡ true = ap is_low e ∙ and_from (nat_lt c 128) true a.0 refl in
    let letters = low_chars (text_of t) low ∙ e in
    let u = low_utf8 (text_of t) low in
    record {
      sort = kind.Sign;
      spelled = sign_spelled;
      first = c;
      others = [];
      letters = letters;
      utf8 = u;
      is_piece = λ u h. short_piece c u b.0 b.1 (sign_ends c u (ends u h));
      faultless = λ joined s u q h. refl;
      joins = λ u h. refl;
      opens = opens;
      spells = spells_as t kind.Sign (c ∷ []) letters u (sign_means (text_of t) (what_of t) means);
      fits = fits;
      unmarked = low_unmarked c a.0;
      no_blank = begins_no_blank c b.0;
    }

abbrev pub is_long : ℕ → ℕ → Bool
is_long c d = nat_lt c 128 && (nat_lt d 128 && (begins_sign c && is_long_sign c d))

pub long_token : (t : Printed) (c d : ℕ) → text_of t ≡ c ∷ d ∷ [] → is_long c d ≡ true → sign_what (text_of t) ≡ what_of t → EndsAs (shape_of t) is_apart
    → fits_behind (shape_of t) c ≡ true → ((os : List Spot) (s : Spot) → length (brackets os (piece kind.Sign (c ∷ d ∷ [])) s) ≡ opened_by (length os) (what_of t)) → IsToken t
long_token t c d e h means ends fits opens =
    let a = and_parts (nat_lt c 128) _ h in
    let f = and_parts (nat_lt d 128) _ a.1 in
    let b = and_parts (begins_sign c) (is_long_sign c d) f.1 in
    let low : is_low (text_of t) ≡ true = ap is_low e ∙ and_from (nat_lt c 128) _ a.0 (and_from (nat_lt d 128) true f.0 refl) in
    let letters = low_chars (text_of t) low ∙ e in
    let u = low_utf8 (text_of t) low in
    record {
      sort = kind.Sign;
      spelled = sign_spelled;
      first = c;
      others = d ∷ [];
      letters = letters;
      utf8 = u;
      is_piece = λ u h. long_piece c d u b.0 b.1;
      faultless = λ joined s u q h. refl;
      joins = λ u h. refl;
      opens = opens;
      spells = spells_as t kind.Sign (c ∷ d ∷ []) letters u (sign_means (text_of t) (what_of t) means);
      fits = fits;
      unmarked = low_unmarked c a.0;
      no_blank = begins_no_blank c b.0;
    }
