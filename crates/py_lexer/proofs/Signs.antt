-- Line ends, operators and stray characters at the front of a text; and so the piece at the front of every text.
use Rattle.std.proofs.Common.{ℕ, ◌≤◌, ◌≡◌, ◌⊎◌, inl, inr, Bool, true, false, ◌&&◌, ◌||◌, ◌==◌, List, [], ◌∷◌, ◌++◌, length, if◌then◌else◌, arith, refl, sym, ap, ◌∙◌}
use Rattle.std.specs.List.{list_all}
use Rattle.std.specs.Char.{is_ascii_digit}
use Rattle.std.proofs.lemmas.Bool.{and_parts, eqb-true, eqb-false, true≢false}
use Rattle.mono_list.proofs.Cases.{split, split_option}
use Rattle.unicode_ident.specs.Ident.{is_xid_continue}
use Rattle.py_chars.specs.Spellings.{starts_name}
use Rattle.py_lexer.specs.declared.piece.Kind.{Kind}
use Rattle.py_lexer.specs.declared.piece.Kind.TheVariants as kind
use Rattle.py_lexer.specs.Characters.{is_blank, is_quote, ends_line}
use Rattle.py_lexer.specs.Pieces.{is_short_sign, is_long_sign, is_sign, Spells}
use Rattle.py_lexer.specs.computed.Reading.{skip, skip_line, at_close, string_when, string_at, short_at, sign_at, behind_end, front_at}
use Rattle.py_lexer.proofs.Fronts.{Front, is_nil, blank_front, comment_front, word_front, number_front}
use Rattle.py_lexer.proofs.Strings.{text_front, unclosed_front}

hash_ends : (cs : List ℕ) → ends_line (35 ∷ cs) ≡ false
hash_ends [] = refl
hash_ends (d ∷ cs) = refl

feed_ends : (x : List ℕ) → ends_line (10 ∷ x) ≡ false → ⊥
feed_ends [] f = true≢false f
feed_ends (d ∷ x) f = true≢false f

-- LF, or CR LF
feed_longest : (c : ℕ) (cs v x : List ℕ) → c ≡ 10 → v ++ x ≡ c ∷ cs → (v ≡ 10 ∷ []) ⊎ (v ≡ 13 ∷ 10 ∷ []) → length v ≤ 1
feed_longest c cs v x t e (inl h) = omega (arith, ap length h)
feed_longest c cs v x t e (inr h) = let k : 13 ≡ c = cc (e, ap (λ l. l ++ x) h) in absurd (omega (arith, k, t))

return_longest : (v : List ℕ) → (v ≡ 10 ∷ []) ⊎ (v ≡ 13 ∷ 10 ∷ []) → length v ≤ 2
return_longest v (inl h) = omega (arith, ap length h)
return_longest v (inr h) = omega (arith, ap length h)

pub end_front : (c : ℕ) (cs : List ℕ) → ends_line (c ∷ cs) ≡ true → Front (c ∷ cs) kind.LineEnd (behind_end c cs)
end_front c [] t =
    let e = eqb-true c 10 t in
    rw t (record {
      spelling = c ∷ [];
      parts = refl;
      some = omega arith;
      is_piece = (inl (ap (λ z. z ∷ []) e), λ v x s h. feed_longest c [] v x e s h);
    })
end_front c (d ∷ ds) t =
    split (c == 10) (λ b. c == 10 ≡ b → (b || (c == 13 && d == 10)) ≡ true → Front (c ∷ d ∷ ds) kind.LineEnd (if b then d ∷ ds else ds))
    (λ _ b _.
    let e = eqb-true c 10 b in
    record {
      spelling = c ∷ [];
      parts = refl;
      some = omega arith;
      is_piece = (inl (ap (λ z. z ∷ []) e), λ v x s h. feed_longest c (d ∷ ds) v x e s h);
    })
    (λ _ b t.
    let both = and_parts (c == 13) (d == 10) t in
    record {
      spelling = c ∷ d ∷ [];
      parts = refl;
      some = omega arith;
      is_piece = (inr (ap (λ z. z ∷ d ∷ []) (eqb-true c 13 both.0) ∙ ap (λ z. 13 ∷ z ∷ []) (eqb-true d 10 both.1)), λ v x s h. return_longest v h);
    })
    refl t

-- whether an operator of two characters begins there
abbrev pub long_at : ℕ → List ℕ → Bool
long_at c [] = false
long_at c (d ∷ ds) = is_long_sign c d

short_longest : (c : ℕ) (cs v x : List ℕ) → long_at c cs ≡ false → v ++ x ≡ c ∷ cs → is_sign v ≡ true → length v ≤ 1
short_longest c cs [] x f e s = omega arith
short_longest c cs (a ∷ []) x f e s = omega arith
short_longest c cs (a ∷ b ∷ []) x f e s =
    let tails : cs ≡ b ∷ x = cc e in
    let same : c ≡ a = cc e in
    let long = ap (long_at c) tails ∙ ap (λ z. is_long_sign z b) same ∙ s in absurd (is_nil (long_at c cs) long f)
short_longest c cs (a ∷ b ∷ d ∷ v) x f e s = absurd (true≢false (sym s))

long_longest : (v : List ℕ) → is_sign v ≡ true → length v ≤ 2
long_longest [] s = omega arith
long_longest (a ∷ []) s = omega arith
long_longest (a ∷ b ∷ []) s = omega arith
long_longest (a ∷ b ∷ d ∷ v) s = absurd (true≢false (sym s))

-- what a stray character isn't
pub record IsOther (c : ℕ) (cs : List ℕ) : Type 0 where
  pub no_blank : is_blank c ≡ false
  pub no_comment : c == 35 ≡ false
  pub no_end : ends_line (c ∷ cs) ≡ false
  pub no_name : starts_name c ≡ false
  pub no_digit : is_ascii_digit c ≡ false
  pub no_quote : is_quote c ≡ false

no_sign : (c : ℕ) (cs v x : List ℕ) → is_short_sign c ≡ false → long_at c cs ≡ false → v ++ x ≡ c ∷ cs → is_sign v ≡ true → ⊥
no_sign c cs [] x h f e s = true≢false (sym s)
no_sign c cs (a ∷ []) x h f e s = let same : c ≡ a = cc e in is_nil (is_short_sign c) (ap is_short_sign same ∙ s) h
no_sign c cs (a ∷ b ∷ []) x h f e s = let l = short_longest c cs (a ∷ b ∷ []) x f e s in omega arith
no_sign c cs (a ∷ b ∷ d ∷ v) x h f e s = true≢false (sym s)

no_spelling : (c : ℕ) (cs : List ℕ) → IsOther c cs → is_short_sign c ≡ false → long_at c cs ≡ false → (k : Kind) (v x : List ℕ) → v ++ x ≡ c ∷ cs → Spells k v x → ⊥
no_spelling c cs o h f kind.Blank [] x e s = omega (arith, s.0)
no_spelling c cs o h f kind.Blank (y ∷ v) x e s = let same : c ≡ y = cc e in is_nil (is_blank c) (ap is_blank same ∙ (and_parts (is_blank y) (list_all is_blank v) s.1).0) o.no_blank
no_spelling c cs o h f kind.Comment [] x e s = omega (arith, s.0)
no_spelling c cs o h f kind.Comment (y ∷ v) x e s = let same : c ≡ y = cc e in eqb-false c 35 o.no_comment (same ∙ s.0)
no_spelling c cs o h f kind.LineEnd v x e (inl s) = let text : c ∷ cs ≡ 10 ∷ x = sym e ∙ ap (λ l. l ++ x) s in feed_ends x (ap ends_line (sym text) ∙ o.no_end)
no_spelling c cs o h f kind.LineEnd v x e (inr s) = let text : c ∷ cs ≡ 13 ∷ 10 ∷ x = sym e ∙ ap (λ l. l ++ x) s in true≢false (ap ends_line (sym text) ∙ o.no_end)
no_spelling c cs o h f kind.Word [] x e s = true≢false (sym s)
no_spelling c cs o h f kind.Word (y ∷ v) x e s = let same : c ≡ y = cc e in is_nil (starts_name c) (ap starts_name same ∙ (and_parts (starts_name y) (list_all is_xid_continue v) s).0) o.no_name
no_spelling c cs o h f kind.Number [] x e s = true≢false (sym s)
no_spelling c cs o h f kind.Number (y ∷ v) x e s = let same : c ≡ y = cc e in is_nil (is_ascii_digit c) (ap is_ascii_digit same ∙ (and_parts (is_ascii_digit y) (list_all is_xid_continue v) s).0) o.no_digit
no_spelling c cs o h f kind.Text v x e s = let same : c ≡ s.0.0 = cc (e, ap (λ l. l ++ x) s.0.4) in is_nil (is_quote c) (ap is_quote same ∙ s.0.2) o.no_quote
no_spelling c cs o h f kind.Unclosed [] x e s = true≢false (sym s.0)
no_spelling c cs o h f kind.Unclosed (y ∷ v) x e s = let same : c ≡ y = cc e in is_nil (is_quote c) (ap is_quote same ∙ s.0) o.no_quote
no_spelling c cs o h f kind.Sign v x e s = no_sign c cs v x h f e s
no_spelling c cs o h f kind.Stray v x e s = s

pub short_front : (c : ℕ) (cs : List ℕ) → IsOther c cs → long_at c cs ≡ false → Front (c ∷ cs) (short_at c) cs
short_front c cs o f =
    split (is_short_sign c) (λ b. is_short_sign c ≡ b → Front (c ∷ cs) (if b then kind.Sign else kind.Stray) cs)
    (λ _ t. record { spelling = c ∷ []; parts = refl; some = omega arith; is_piece = (t, λ v x e s. short_longest c cs v x f e s) })
    (λ _ h. record { spelling = c ∷ []; parts = refl; some = omega arith; is_piece = (refl, no_spelling c cs o h f) })
    refl

abbrev IsAt : ℕ → List ℕ → Kind × List ℕ → Type 0
IsAt c cs r = Front (c ∷ cs) r.0 r.1

pub sign_front : (c : ℕ) (cs : List ℕ) → IsOther c cs → Front (c ∷ cs) (sign_at c cs).0 (sign_at c cs).1
sign_front c [] o = short_front c [] o refl
sign_front c (d ∷ ds) o =
    split (is_long_sign c d) (λ b. is_long_sign c d ≡ b → IsAt c (d ∷ ds) (if b then (kind.Sign, ds) else (short_at c, d ∷ ds)))
    (λ _ t. record { spelling = c ∷ d ∷ []; parts = refl; some = omega arith; is_piece = (t, λ v x e s. long_longest v s) })
    (λ _ f. short_front c (d ∷ ds) o f)
    refl

string_front : (c : ℕ) (cs : List ℕ) → is_quote c ≡ true → Front (c ∷ cs) (string_at c (c ∷ cs) cs).0 (string_at c (c ∷ cs) cs).1
string_front c cs t =
    split_option (at_close false c cs) (λ o. at_close false c cs ≡ o → Front (c ∷ cs) (string_when (c ∷ cs) o).0 (string_when (c ∷ cs) o).1)
    (λ _ e. unclosed_front c cs t e) (λ rest _ e. text_front c cs rest t e) refl

module _ (c : ℕ) (cs : List ℕ) where
  -- the tests of `front_at`, from the last on
  abbrev at_quote : Bool → Kind × List ℕ
  at_quote b = if b then string_at c (c ∷ cs) cs else sign_at c cs

  abbrev at_digit : Bool → Kind × List ℕ
  at_digit b = if b then (kind.Number, skip is_xid_continue cs) else at_quote (is_quote c)

  abbrev at_name : Bool → Kind × List ℕ
  at_name b = if b then (kind.Word, skip is_xid_continue cs) else at_digit (is_ascii_digit c)

  abbrev at_end : Bool → Kind × List ℕ
  at_end b = if b then (kind.LineEnd, behind_end c cs) else at_name (starts_name c)

  abbrev at_comment : Bool → Kind × List ℕ
  at_comment b = if b then (kind.Comment, skip_line (c ∷ cs)) else at_end (ends_line (c ∷ cs))

  abbrev at_blank : Bool → Kind × List ℕ
  at_blank b = if b then (kind.Blank, skip is_blank cs) else at_comment (c == 35)

  hash_line : c == 35 ≡ true → ends_line (c ∷ cs) ≡ false
  hash_line t = ap (λ z. ends_line (z ∷ cs)) (eqb-true c 35 t) ∙ hash_ends cs

  -- every text begins with a piece
  pub front_is : Front (c ∷ cs) (front_at c cs).0 (front_at c cs).1
  front_is =
      split (is_blank c) (λ b. is_blank c ≡ b → IsAt c cs (at_blank b))
      (λ _ t. blank_front c cs t)
      (λ _ no_blank.
      split (c == 35) (λ b. c == 35 ≡ b → IsAt c cs (at_comment b))
      (λ _ t. comment_front c cs (eqb-true c 35 t) (hash_line t))
      (λ _ no_comment.
      split (ends_line (c ∷ cs)) (λ b. ends_line (c ∷ cs) ≡ b → IsAt c cs (at_end b))
      (λ _ t. end_front c cs t)
      (λ _ no_end.
      split (starts_name c) (λ b. starts_name c ≡ b → IsAt c cs (at_name b))
      (λ _ t. word_front c cs t)
      (λ _ no_name.
      split (is_ascii_digit c) (λ b. is_ascii_digit c ≡ b → IsAt c cs (at_digit b))
      (λ _ t. number_front c cs t)
      (λ _ no_digit.
      split (is_quote c) (λ b. is_quote c ≡ b → IsAt c cs (at_quote b))
      (λ _ t. string_front c cs t)
      (λ _ no_quote.
      sign_front c cs (record { no_blank = no_blank; no_comment = no_comment; no_end = no_end; no_name = no_name; no_digit = no_digit; no_quote = no_quote }))
      refl)
      refl)
      refl)
      refl)
      refl)
      refl
