-- The pieces at the front of a printed text.
use Rattle.std.proofs.Common.{ℕ, zero, suc, ◌≡◌, ◌&&◌, ◌==◌, not, true, false, Bool, List, [], ◌∷◌, ◌++◌, replicate, refl, sym, ap, ◌∙◌, subst, append_assoc}
use Rattle.std.specs.List.{list_all}
use Rattle.std.specs.Char.{is_ascii_digit}
use Rattle.std.proofs.lemmas.Bool.{and_parts, eqb-false, not-true}
use Rattle.std.proofs.lemmas.List.{append_cancel_right}
use Rattle.unicode_ident.specs.Ident.{is_xid_continue}
use Rattle.py_chars.specs.Spellings.{starts_name, is_identifier}
use Rattle.py_lexer.specs.declared.piece.Kind.{Kind}
use Rattle.py_lexer.specs.declared.piece.Kind.TheVariants as kind
use Rattle.py_lexer.specs.Characters.{is_blank, is_quote}
use Rattle.py_lexer.specs.Pieces.{piece, IsPiece, is_short_sign, is_long_sign}
use Rattle.py_lexer.specs.computed.Reading.{skip, short_at, sign_at}
use Rattle.py_lexer.proofs.Fronts.{Front, begins, word_front, number_front, blank_front}
use Rattle.py_lexer.proofs.Strings.{text_front}
use Rattle.py_lexer.proofs.Signs.{IsOther, long_at, short_front, sign_front, end_front}
use Rattle.token_lines.specs.Tokens.{quoted}
use Rattle.token_lines.specs.Writable.{may_hold}
use Rattle.token_lines.proofs.Quotes.{quoted_close, no_line_end}

skip_passed : (p : ℕ → Bool) (w u : List ℕ) → list_all p w ≡ true → begins p u ≡ false → skip p (w ++ u) ≡ u
skip_passed p [] [] a f = refl
skip_passed p [] (d ∷ u) a f = rw f refl
skip_passed p (c ∷ w) u a f = let both = and_parts (p c) (list_all p w) a in rw both.0 (skip_passed p w u both.1 f)

-- a front with this rest has the spelling before it
named : (cs w u rest : List ℕ) (k : Kind) → Front cs k rest → rest ≡ u → cs ≡ w ++ u → IsPiece (piece k w) u
named cs w u rest k f e p =
    let same : f.spelling ≡ w = append_cancel_right f.spelling w u (ap (λ l. f.spelling ++ l) (sym e) ∙ sym f.parts ∙ p) in
    let P : List ℕ → Type 0 = λ l. IsPiece (piece k l) u in
    let Q : List ℕ → Type 0 = λ l. IsPiece (piece k f.spelling) l in
    subst P same (subst Q e f.is_piece)

pub word_piece : (c : ℕ) (w u : List ℕ) → is_identifier (c ∷ w) ≡ true → begins is_xid_continue u ≡ false → IsPiece (piece kind.Word (c ∷ w)) u
word_piece c w u i f =
    let both = and_parts (starts_name c) (list_all is_xid_continue w) i in
    named (c ∷ (w ++ u)) (c ∷ w) u (skip is_xid_continue (w ++ u)) kind.Word (word_front c (w ++ u) both.0) (skip_passed is_xid_continue w u both.1 f) refl

pub number_piece : (c : ℕ) (w u : List ℕ) → is_ascii_digit c ≡ true → list_all is_xid_continue w ≡ true → begins is_xid_continue u ≡ false → IsPiece (piece kind.Number (c ∷ w)) u
number_piece c w u d a f =
    named (c ∷ (w ++ u)) (c ∷ w) u (skip is_xid_continue (w ++ u)) kind.Number (number_front c (w ++ u) d) (skip_passed is_xid_continue w u a f) refl

pub text_piece : (cs u : List ℕ) → list_all may_hold cs ≡ true → IsPiece (piece kind.Text (34 ∷ (quoted cs ++ 34 ∷ []))) u
text_piece cs u h =
    named (34 ∷ (quoted cs ++ 34 ∷ u)) (34 ∷ (quoted cs ++ 34 ∷ [])) u u kind.Text (text_front 34 (quoted cs ++ 34 ∷ u) u refl (quoted_close cs u h)) refl
    (ap (λ l. 34 ∷ l) (sym (append_assoc (quoted cs) (34 ∷ []) u)))

-- a character that begins an operator
abbrev pub begins_sign : ℕ → Bool
begins_sign c =
    not (is_blank c) && (not (c == 35) && (not (c == 10) && (not (c == 13) && (not (starts_name c) && (not (is_ascii_digit c) && not (is_quote c))))))

other : (c : ℕ) (cs : List ℕ) → begins_sign c ≡ true → IsOther c cs
other c cs h =
    let a = and_parts (not (is_blank c)) _ h in
    let b = and_parts (not (c == 35)) _ a.1 in
    let d = and_parts (not (c == 10)) _ b.1 in
    let e = and_parts (not (c == 13)) _ d.1 in
    let f = and_parts (not (starts_name c)) _ e.1 in
    let g = and_parts (not (is_ascii_digit c)) (not (is_quote c)) f.1 in
    record {
      no_blank = not-true (is_blank c) a.0;
      no_comment = not-true (c == 35) b.0;
      no_end = no_line_end c cs (eqb-false c 10 (not-true (c == 10) d.0)) (eqb-false c 13 (not-true (c == 13) e.0));
      no_name = not-true (starts_name c) f.0;
      no_digit = not-true (is_ascii_digit c) g.0;
      no_quote = not-true (is_quote c) g.1;
    }

pub short_piece : (c : ℕ) (u : List ℕ) → begins_sign c ≡ true → is_short_sign c ≡ true → long_at c u ≡ false → IsPiece (piece kind.Sign (c ∷ [])) u
short_piece c u h t f =
    let P : Kind → Type 0 = λ k. Front (c ∷ u) k u in
    let short : short_at c ≡ kind.Sign = rw t refl in
    named (c ∷ u) (c ∷ []) u u kind.Sign (subst P short (short_front c u (other c u h) f)) refl refl

pub long_piece : (c d : ℕ) (u : List ℕ) → begins_sign c ≡ true → is_long_sign c d ≡ true → IsPiece (piece kind.Sign (c ∷ d ∷ [])) u
long_piece c d u h t =
    let P : Kind × List ℕ → Type 0 = λ r. Front (c ∷ d ∷ u) r.0 r.1 in
    let long : sign_at c (d ∷ u) ≡ (kind.Sign, u) = rw t refl in
    named (c ∷ d ∷ u) (c ∷ d ∷ []) u u kind.Sign (subst P long (sign_front c (d ∷ u) (other c (d ∷ u) h))) refl refl

blanks : (n : ℕ) → list_all is_blank (replicate n 32) ≡ true
blanks zero = refl
blanks (suc n) = blanks n

pub blank_piece : (n : ℕ) (u : List ℕ) → begins is_blank u ≡ false → IsPiece (piece kind.Blank (replicate (suc n) 32)) u
blank_piece n u f =
    named (32 ∷ (replicate n 32 ++ u)) (replicate (suc n) 32) u (skip is_blank (replicate n 32 ++ u)) kind.Blank (blank_front 32 (replicate n 32 ++ u) refl)
    (skip_passed is_blank (replicate n 32) u (blanks n) f) refl

pub end_piece : (u : List ℕ) → IsPiece (piece kind.LineEnd (10 ∷ [])) u
end_piece [] = named (10 ∷ []) (10 ∷ []) [] [] kind.LineEnd (end_front 10 [] refl) refl refl
end_piece (d ∷ u) = named (10 ∷ d ∷ u) (10 ∷ []) (d ∷ u) (d ∷ u) kind.LineEnd (end_front 10 (d ∷ u) refl) refl refl
