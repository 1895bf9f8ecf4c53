-- Every token that can be written is a piece of its kind, and that piece is the token.
use Rattle.std.proofs.Common.{ℕ, ◌-◌, ◌≤◌, ◌≡◌, ◌&&◌, ◌==◌, true, false, Bool, List, [], ◌∷◌, ◌++◌, length, drop, Option, Some, None, if◌then◌else◌, arith, refl, ap, ◌∙◌, subst}
use Rattle.std.specs.List.{list_all}
use Rattle.std.specs.Char.{is_ascii_digit}
use Rattle.std.specs.Str.{chars, IsUtf8}
use Rattle.std.specs.Fmt.{decimal}
use Rattle.std.proofs.lemmas.Bool.{ne_eqb, or_parts}
use Rattle.std.proofs.lemmas.List.{length-drop}
use Rattle.std.proofs.lemmas.Fmt.{IsAscii-decimal}
use Rattle.std.proofs.lemmas.Str.{encodes-chars, chars-append, chars-IsAscii, IsUtf8-from_ascii}
use Rattle.mono_syntax.specs.Limits.{greatest_integer}
use Rattle.unicode_ident.proofs.Computing.{unicode_ident}
use Rattle.mono_syntax.specs.declared.leaf.Op.{Op}
use Rattle.mono_syntax.specs.declared.leaf.Op.TheVariants as op
use Rattle.py_chars.specs.Spellings.{number_of}
use Rattle.py_lexer.specs.declared.piece.Kind.TheVariants as kind
use Rattle.py_lexer.specs.declared.spot.Spot.{Spot}
use Rattle.py_lexer.specs.declared.token.TokenKind.TheVariants as token_kind
use Rattle.py_lexer.specs.Characters.{is_blank, is_quote}
use Rattle.py_lexer.specs.Faults.{is_doubled, begins_with}
use Rattle.py_lexer.specs.Layout.{token, is_reserved}
use Rattle.py_lexer.specs.Layout as layout
use Rattle.py_lexer.specs.computed.Scanning.{own_refusal}
use Rattle.py_lexer.proofs.Fronts.{begins}
use Rattle.spelled_tokens.specs.declared.token.What.{What}
use Rattle.spelled_tokens.specs.declared.token.What.TheVariants as what
use Rattle.spelled_tokens.specs.declared.token.Mark.{Mark}
use Rattle.spelled_tokens.specs.declared.token.Mark.TheVariants as mark
use Rattle.spelled_tokens.specs.SpelledTokens.{what_when, spell, number_when, text_what}
use Rattle.spelled_tokens.specs.Words.{expression_word, type_word, statement_word, operator, punctuation}
use Rattle.token_lines.specs.declared.printed.Printed.{Printed}
use Rattle.token_lines.specs.declared.printed.Printed.TheVariants as printed
use Rattle.token_lines.specs.declared.printed.Shape.TheVariants as shape
use Rattle.token_lines.specs.Tokens.{what_of, quoted}
use Rattle.token_lines.specs.Writable.{may_hold, IsSound, IsWritable, IsWritableMark}
use Rattle.token_lines.proofs.Ascii.{low_chars, low_utf8}
use Rattle.token_lines.proofs.Cutting.{literal_utf8, inside_spells}
use Rattle.token_lines.proofs.Numbers.{decimal_is, digit_range, digits_go_on}
use Rattle.token_lines.proofs.Quotes.{quoted_utf8, quoted_chars, quoted_what, quoted_visible, no_bad_behind}
use Rattle.token_lines.proofs.Follows.{ends_word, fits_behind, number_ends, no_dot, no_quote, operator_word, operator_sign}
use Rattle.token_lines.proofs.FrontPieces.{number_piece, text_piece}
use Rattle.token_lines.proofs.TokenPieces.{IsToken, number_spelled, text_spelled, spells_as, word_token, keyword_token, short_token, long_token}

-- a name
name_means : (x : List ℕ) → IsUtf8 x → is_reserved x ≡ false → (o : Option (List ℕ)) → what_when (layout.what_of kind.Word (chars x)) (Some x) o ≡ what.Name x
name_means x u r o =
    ap (λ l. what_when (if is_reserved l then token_kind.Reserved else token_kind.Name) (Some x) o) (encodes-chars x u)
    ∙ ap (λ (b : Bool). what_when (if b then token_kind.Reserved else token_kind.Name) (Some x) o) r

name_token : (x : List ℕ) → IsSound (what.Name x) → IsToken (printed.Plain (what.Name x))
name_token x h =
    word_token (printed.Plain (what.Name x)) (chars x) refl h.0 h.1 (λ u h. h) (λ c h. rw h refl) (λ n. refl) (name_means x h.0 h.2)

-- a number
digit_fits : (c : ℕ) → is_ascii_digit c ≡ true → fits_behind shape.Number c ≡ true
digit_fits c t =
    let r = digit_range c t in
    rw (ne_eqb c 62 (λ e. omega arith), ne_eqb c 61 (λ e. omega arith), ne_eqb c 47 (λ e. omega arith)) refl

digit_no_blank : (c : ℕ) → is_ascii_digit c ≡ true → is_blank c ≡ false
digit_no_blank c t = let r = digit_range c t in rw (ne_eqb c 32 (λ e. omega arith), ne_eqb c 9 (λ e. omega arith)) refl

digit_unmarked : (c : ℕ) → is_ascii_digit c ≡ true → c == 65279 ≡ false
digit_unmarked c t = let r = digit_range c t in ne_eqb c 65279 (λ e. omega arith)

number_token : (n : ℕ) → n ≤ greatest_integer → IsToken (printed.Plain (what.Number n))
number_token n h =
    let d = decimal_is n h in
    let ascii = IsAscii-decimal n (omega arith) in
    let letters : chars (decimal n) ≡ d.first ∷ d.others = chars-IsAscii (decimal n) ascii ∙ d.parts in
    let utf8 = IsUtf8-from_ascii (decimal n) ascii in
    record {
      sort = kind.Number;
      spelled = number_spelled;
      first = d.first;
      others = d.others;
      letters = letters;
      utf8 = utf8;
      is_piece = λ u h. number_piece d.first d.others u d.digit (digits_go_on d.others d.digits) (number_ends u h);
      faultless = λ joined s u q h. rw (d.value, no_dot u h) refl;
      joins = λ u h. refl;
      opens = λ os s. refl;
      spells = spells_as (printed.Plain (what.Number n)) kind.Number (d.first ∷ d.others) letters utf8 (λ o. ap (λ l. number_when (number_of l)) letters ∙ ap number_when d.value);
      fits = digit_fits d.first d.digit;
      unmarked = digit_unmarked d.first d.digit;
      no_blank = digit_no_blank d.first d.digit;
    }

-- a string
string_chars : (t : List ℕ) → IsUtf8 t → chars (34 ∷ (quoted t ++ 34 ∷ [])) ≡ 34 ∷ (quoted (chars t) ++ 34 ∷ [])
string_chars t u =
    chars-append (34 ∷ []) (quoted t ++ 34 ∷ []) (low_utf8 (34 ∷ []) refl)
    ∙ ap (λ l. l ++ chars (quoted t ++ 34 ∷ [])) (low_chars (34 ∷ []) refl)
    ∙ ap (λ l. 34 ∷ l) (chars-append (quoted t) (34 ∷ []) (quoted_utf8 t u))
    ∙ ap (λ l. 34 ∷ (l ++ chars (34 ∷ []))) (quoted_chars t u)
    ∙ ap (λ l. 34 ∷ (quoted (chars t) ++ l)) (low_chars (34 ∷ []) refl)

no_other_quote : (u : List ℕ) → begins is_quote u ≡ false → begins_with 34 u ≡ false
no_other_quote [] h = refl
no_other_quote (d ∷ u) h = (or_parts (d == 34) (d == 39) h).0

not_doubled : (q u : List ℕ) → begins_with 34 u ≡ false → is_doubled (34 ∷ (q ++ 34 ∷ [])) u ≡ false
not_doubled [] u h = h
not_doubled (c ∷ []) u h = refl
not_doubled (c ∷ d ∷ q) u h = refl

text_faultless : (cs : List ℕ) (joined : Bool) (s : Spot) (u : List ℕ) → list_all may_hold cs ≡ true → joined ≡ false → begins ends_word u ≡ true
    → own_refusal kind.Text joined s (34 ∷ (quoted cs ++ 34 ∷ [])) u ≡ None
text_faultless cs joined s u h j e =
    rw (j, not_doubled (quoted cs) u (no_other_quote u (no_quote u e)), quoted_visible s cs h, no_bad_behind cs) refl

unjoined : (joined : Bool) → (joined && true) ≡ false → joined ≡ false
unjoined true h = h
unjoined false h = refl

text_means : (t bs rest : List ℕ) (s : Spot) → IsUtf8 t → IsUtf8 bs → IsUtf8 rest → s.offset ≡ length bs
    → (spell (bs ++ ((34 ∷ (quoted t ++ 34 ∷ [])) ++ rest)) (token kind.Text (34 ∷ (quoted (chars t) ++ 34 ∷ [])) s)).what ≡ what.Text t
text_means t bs rest s u v x o =
    let all = bs ++ ((34 ∷ (quoted t ++ 34 ∷ [])) ++ rest) in
    let P : List ℕ → Type 0 = λ l. (spell all (token kind.Text l s)).what ≡ what.Text t in
    subst P (string_chars t u) (ap text_what (inside_spells bs (quoted t) rest 34 s v (quoted_utf8 t u) x (omega arith) o) ∙ quoted_what t u)

text_token : (t : List ℕ) → IsSound (what.Text t) → IsToken (printed.Plain (what.Text t))
text_token t h =
    record {
      sort = kind.Text;
      spelled = text_spelled;
      first = 34;
      others = quoted (chars t) ++ 34 ∷ [];
      letters = string_chars t h.0;
      utf8 = literal_utf8 34 (quoted t) (omega arith) (quoted_utf8 t h.0);
      is_piece = λ u e. text_piece (chars t) u h.1;
      faultless = λ joined s u q e. text_faultless (chars t) joined s u h.1 (unjoined joined q) e;
      joins = λ u e. refl;
      opens = λ os s. refl;
      spells = λ bs rest s v x o. text_means t bs rest s h.0 v x o;
      fits = refl;
      unmarked = refl;
      no_blank = refl;
    }

-- words and operators of every kind
closed_one : (os : List Spot) → length (drop 1 os) ≡ length os - 1
closed_one os = length-drop 1 os

op_token : (o : Op) → IsToken (printed.Plain (what.Operator o))
unfolding unicode_ident operator punctuation
op_token op.Add = short_token (printed.Plain (what.Operator op.Add)) 43 refl refl refl operator_sign refl (λ os s. refl)
op_token op.Sub = short_token (printed.Plain (what.Operator op.Sub)) 45 refl refl refl operator_sign refl (λ os s. refl)
op_token op.Mul = short_token (printed.Plain (what.Operator op.Mul)) 42 refl refl refl operator_sign refl (λ os s. refl)
op_token op.Div = long_token (printed.Plain (what.Operator op.Div)) 47 47 refl refl refl operator_sign refl (λ os s. refl)
op_token op.Mod = short_token (printed.Plain (what.Operator op.Mod)) 37 refl refl refl operator_sign refl (λ os s. refl)
op_token op.Lt = short_token (printed.Plain (what.Operator op.Lt)) 60 refl refl refl operator_sign refl (λ os s. refl)
op_token op.Le = long_token (printed.Plain (what.Operator op.Le)) 60 61 refl refl refl operator_sign refl (λ os s. refl)
op_token op.Gt = short_token (printed.Plain (what.Operator op.Gt)) 62 refl refl refl operator_sign refl (λ os s. refl)
op_token op.Ge = long_token (printed.Plain (what.Operator op.Ge)) 62 61 refl refl refl operator_sign refl (λ os s. refl)
op_token op.Eq = long_token (printed.Plain (what.Operator op.Eq)) 61 61 refl refl refl operator_sign refl (λ os s. refl)
op_token op.Ne = long_token (printed.Plain (what.Operator op.Ne)) 33 61 refl refl refl operator_sign refl (λ os s. refl)

mark_token : (m : Mark) → IsWritableMark m → IsToken (printed.Plain (what.Mark m))
unfolding unicode_ident is_reserved expression_word type_word statement_word operator punctuation
mark_token mark.Int h = keyword_token (printed.Plain (what.Mark mark.Int)) refl refl (λ u h. h) (λ c h. rw h refl) (λ n. refl)
mark_token mark.Bool h = keyword_token (printed.Plain (what.Mark mark.Bool)) refl refl (λ u h. h) (λ c h. rw h refl) (λ n. refl)
mark_token mark.Str h = keyword_token (printed.Plain (what.Mark mark.Str)) refl refl (λ u h. h) (λ c h. rw h refl) (λ n. refl)
mark_token mark.Dyn h = keyword_token (printed.Plain (what.Mark mark.Dyn)) refl refl (λ u h. h) (λ c h. rw h refl) (λ n. refl)
mark_token mark.Callable h = keyword_token (printed.Plain (what.Mark mark.Callable)) refl refl (λ u h. h) (λ c h. rw h refl) (λ n. refl)
mark_token mark.OpenSquare h = short_token (printed.Plain (what.Mark mark.OpenSquare)) 91 refl refl refl (λ u h. h) refl (λ os s. refl)
mark_token mark.CloseSquare h = short_token (printed.Plain (what.Mark mark.CloseSquare)) 93 refl refl refl (λ u h. h) refl (λ os s. closed_one os)
mark_token mark.Equals h = short_token (printed.Plain (what.Mark mark.Equals)) 61 refl refl refl operator_sign refl (λ os s. refl)
mark_token mark.Colon h = short_token (printed.Plain (what.Mark mark.Colon)) 58 refl refl refl (λ u h. h) refl (λ os s. refl)
mark_token mark.Arrow h = long_token (printed.Plain (what.Mark mark.Arrow)) 45 62 refl refl refl operator_sign refl (λ os s. refl)
mark_token mark.Class h = keyword_token (printed.Plain (what.Mark mark.Class)) refl refl (λ u h. h) (λ c h. rw h refl) (λ n. refl)
mark_token mark.Def h = keyword_token (printed.Plain (what.Mark mark.Def)) refl refl (λ u h. h) (λ c h. rw h refl) (λ n. refl)
mark_token mark.Pass h = keyword_token (printed.Plain (what.Mark mark.Pass)) refl refl (λ u h. h) (λ c h. rw h refl) (λ n. refl)
mark_token mark.Return h = keyword_token (printed.Plain (what.Mark mark.Return)) refl refl (λ u h. h) (λ c h. rw h refl) (λ n. refl)
mark_token mark.Print h = keyword_token (printed.Plain (what.Mark mark.Print)) refl refl (λ u h. h) (λ c h. rw h refl) (λ n. refl)
mark_token mark.Start h = keyword_token (printed.Plain (what.Mark mark.Start)) refl refl (λ u h. h) (λ c h. rw h refl) (λ n. refl)
mark_token mark.If h = keyword_token (printed.Plain (what.Mark mark.If)) refl refl (λ u h. h) (λ c h. rw h refl) (λ n. refl)
mark_token mark.Elif h = keyword_token (printed.Plain (what.Mark mark.Elif)) refl refl (λ u h. h) (λ c h. rw h refl) (λ n. refl)
mark_token mark.Else h = keyword_token (printed.Plain (what.Mark mark.Else)) refl refl (λ u h. h) (λ c h. rw h refl) (λ n. refl)
mark_token mark.While h = keyword_token (printed.Plain (what.Mark mark.While)) refl refl (λ u h. h) (λ c h. rw h refl) (λ n. refl)
mark_token mark.Newline h = absurd h
mark_token mark.Indent h = absurd h
mark_token mark.Dedent h = absurd h
mark_token mark.End h = absurd h
mark_token mark.Unused h = absurd h

truth_token : (b : Bool) → IsToken (printed.Plain (what.Bool b))
unfolding unicode_ident is_reserved expression_word
truth_token true = keyword_token (printed.Plain (what.Bool true)) refl refl (λ u h. h) (λ c h. rw h refl) (λ n. refl)
truth_token false = keyword_token (printed.Plain (what.Bool false)) refl refl (λ u h. h) (λ c h. rw h refl) (λ n. refl)

what_token : (w : What) → IsWritable w → IsToken (printed.Plain w)
unfolding unicode_ident is_reserved expression_word operator punctuation
what_token (what.Name x) h = name_token x h
what_token (what.Number n) h = number_token n h
what_token (what.Text t) h = text_token t h
what_token (what.Bool b) h = truth_token b
what_token what.Nil h = keyword_token (printed.Plain what.Nil) refl refl (λ u h. h) (λ c h. rw h refl) (λ n. refl)
what_token what.Or h = keyword_token (printed.Plain what.Or) refl refl operator_word (λ c h. refl) (λ n. refl)
what_token what.And h = keyword_token (printed.Plain what.And) refl refl operator_word (λ c h. refl) (λ n. refl)
what_token what.Not h = keyword_token (printed.Plain what.Not) refl refl (λ u h. h) (λ c h. rw h refl) (λ n. refl)
what_token (what.Operator o) h = op_token o
what_token what.Dot h = short_token (printed.Plain what.Dot) 46 refl refl refl (λ u h. h) refl (λ os s. refl)
what_token what.Open h = short_token (printed.Plain what.Open) 40 refl refl refl (λ u h. h) refl (λ os s. refl)
what_token what.Close h = short_token (printed.Plain what.Close) 41 refl refl refl (λ u h. h) refl (λ os s. closed_one os)
what_token what.Comma h = short_token (printed.Plain what.Comma) 44 refl refl refl (λ u h. h) refl (λ os s. refl)
what_token what.Cast h = keyword_token (printed.Plain what.Cast) refl refl (λ u h. h) (λ c h. rw h refl) (λ n. refl)
what_token what.Join h = keyword_token (printed.Plain what.Join) refl refl (λ u h. h) (λ c h. rw h refl) (λ n. refl)
what_token (what.Mark m) h = mark_token m h

pub token_is : (t : Printed) → IsWritable (what_of t) → IsToken t
unfolding unicode_ident operator
token_is printed.Minus h = short_token printed.Minus 45 refl refl refl (λ u h. h) refl (λ os s. refl)
token_is (printed.Plain w) h = what_token w h
