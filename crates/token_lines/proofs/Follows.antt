-- What may stand directly behind a token without changing it.
use Rattle.std.proofs.Common.{ℕ, ◌≡◌, inl, inr, ◌||◌, ◌&&◌, ◌==◌, not, true, false, Bool, List, [], ◌∷◌, refl, sym, ◌∙◌}
use Rattle.std.proofs.lemmas.Bool.{and_parts, and_right, or_cases, or_from, not-true, true≢false}
use Rattle.unicode_ident.specs.Ident.{is_xid_continue}
use Rattle.unicode_ident.proofs.Computing.{unicode_ident}
use Rattle.py_lexer.specs.Characters.{is_quote, is_among}
use Rattle.py_lexer.specs.Faults.{begins_with}
use Rattle.py_lexer.specs.Pieces.{is_long_sign}
use Rattle.py_lexer.proofs.Fronts.{begins}
use Rattle.py_lexer.proofs.Signs.{long_at}
use Rattle.token_lines.specs.declared.printed.Shape.{Shape}
use Rattle.token_lines.specs.declared.printed.Shape.TheVariants as shape
use Rattle.token_lines.specs.Spaces.{gap}

-- no character of an operator's second half
abbrev pub is_apart : ℕ → Bool
is_apart d = not (d == 62) && (not (d == 61) && not (d == 47))

-- behind a word or a string, and behind a number
abbrev pub ends_word : ℕ → Bool
ends_word d = not (is_xid_continue d) && not (is_quote d)

abbrev pub ends_number : ℕ → Bool
ends_number d = not (is_xid_continue d) && not (d == 46)

abbrev pub may_follow : Shape → ℕ → Bool
may_follow shape.Edge d = true
may_follow shape.Word d = ends_word d
may_follow shape.Number d = ends_number d
may_follow shape.Keyword d = ends_word d
may_follow shape.Spaced d = is_apart d
may_follow shape.Operator d = ends_word d && is_apart d
may_follow shape.Dot d = is_apart d
may_follow shape.Tight d = is_apart d

-- a test of every shape
abbrev pub each_shape : (Shape → Bool) → Bool
each_shape p =
    p shape.Edge && (p shape.Word && (p shape.Number && (p shape.Keyword && (p shape.Spaced && (p shape.Operator && (p shape.Dot && p shape.Tight))))))

each_at : (p : Shape → Bool) (s : Shape) → each_shape p ≡ true → p s ≡ true
each_at p s h =
    let a = and_parts (p shape.Edge) _ h in
    let b = and_parts (p shape.Word) _ a.1 in
    let c = and_parts (p shape.Number) _ b.1 in
    let d = and_parts (p shape.Keyword) _ c.1 in
    let e = and_parts (p shape.Spaced) _ d.1 in
    let f = and_parts (p shape.Operator) _ e.1 in
    let g = and_parts (p shape.Dot) (p shape.Tight) f.1 in
    elim s as (λ z. p z ≡ true) [
      | shape.Edge ↦ a.0
      | shape.Word ↦ b.0
      | shape.Number ↦ c.0
      | shape.Keyword ↦ d.0
      | shape.Spaced ↦ e.0
      | shape.Operator ↦ f.0
      | shape.Dot ↦ g.0
      | shape.Tight ↦ g.1
    ]

-- a token of this shape that begins so stands off from every token that it would change
abbrev pub fits_behind : Shape → ℕ → Bool
fits_behind z c = each_shape (λ s. gap s z || may_follow s c)

pub follows : (z s : Shape) (c : ℕ) → fits_behind z c ≡ true → gap s z ≡ false → may_follow s c ≡ true
follows z s c h f =
    elim (or_cases (gap s z) (may_follow s c) (each_at (λ s. gap s z || may_follow s c) s h)) as (λ _. may_follow s c ≡ true) [
      | inl t ↦ absurd (true≢false (sym t ∙ f))
      | inr t ↦ t
    ]

-- a space and a line feed may follow everything
pub feed_follows : (s : Shape) → may_follow s 10 ≡ true
unfolding unicode_ident
feed_follows shape.Edge = refl
feed_follows shape.Word = refl
feed_follows shape.Number = refl
feed_follows shape.Keyword = refl
feed_follows shape.Spaced = refl
feed_follows shape.Operator = refl
feed_follows shape.Dot = refl
feed_follows shape.Tight = refl

pub space_follows : (s : Shape) → may_follow s 32 ≡ true
unfolding unicode_ident
space_follows shape.Edge = refl
space_follows shape.Word = refl
space_follows shape.Number = refl
space_follows shape.Keyword = refl
space_follows shape.Spaced = refl
space_follows shape.Operator = refl
space_follows shape.Dot = refl
space_follows shape.Tight = refl

-- what that means for the pieces
pub word_ends : (u : List ℕ) → begins ends_word u ≡ true → begins is_xid_continue u ≡ false
word_ends [] h = refl
word_ends (d ∷ u) h = not-true (is_xid_continue d) (and_parts (not (is_xid_continue d)) (not (is_quote d)) h).0

pub no_quote : (u : List ℕ) → begins ends_word u ≡ true → begins is_quote u ≡ false
no_quote [] h = refl
no_quote (d ∷ u) h = not-true (is_quote d) (and_parts (not (is_xid_continue d)) (not (is_quote d)) h).1

pub number_ends : (u : List ℕ) → begins ends_number u ≡ true → begins is_xid_continue u ≡ false
number_ends [] h = refl
number_ends (d ∷ u) h = not-true (is_xid_continue d) (and_parts (not (is_xid_continue d)) (not (d == 46)) h).0

pub no_dot : (u : List ℕ) → begins ends_number u ≡ true → begins_with 46 u ≡ false
no_dot [] h = refl
no_dot (d ∷ u) h = not-true (d == 46) (and_parts (not (is_xid_continue d)) (not (d == 46)) h).1

apart_sign : (c d : ℕ) → is_apart d ≡ true → is_long_sign c d ≡ false
apart_sign c d h =
    let a = and_parts (not (d == 62)) (not (d == 61) && not (d == 47)) h in
    let b = and_parts (not (d == 61)) (not (d == 47)) a.1 in
    or_from ((c == 45 && d == 62) || (c == 47 && d == 47)) (is_among (61 ∷ 33 ∷ 60 ∷ 62 ∷ []) c && d == 61)
    (or_from (c == 45 && d == 62) (c == 47 && d == 47) (and_right (c == 45) (d == 62) (not-true (d == 62) a.0)) (and_right (c == 47) (d == 47) (not-true (d == 47) b.1)))
    (and_right (is_among (61 ∷ 33 ∷ 60 ∷ 62 ∷ []) c) (d == 61) (not-true (d == 61) b.0))

pub sign_ends : (c : ℕ) (u : List ℕ) → begins is_apart u ≡ true → long_at c u ≡ false
sign_ends c [] h = refl
sign_ends c (d ∷ u) h = apart_sign c d h

-- behind an operator, which may be a word
pub operator_word : (u : List ℕ) → begins (may_follow shape.Operator) u ≡ true → begins ends_word u ≡ true
operator_word [] h = h
operator_word (d ∷ u) h = (and_parts (ends_word d) (is_apart d) h).0

pub operator_sign : (u : List ℕ) → begins (may_follow shape.Operator) u ≡ true → begins is_apart u ≡ true
operator_sign [] h = h
operator_sign (d ∷ u) h = (and_parts (ends_word d) (is_apart d) h).1
