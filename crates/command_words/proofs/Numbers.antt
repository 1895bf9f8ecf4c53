-- Options with numbers as their texts.
use Rattle.std.proofs.Common.{◌≡◌, ◌≢◌, ◌≤◌, ◌<◌, ◌^◌, ◌∙◌, ℕ, false, zero, suc, refl, sym, ap, subst, inl, inr, List, [], ◌∷◌, Option, Some, None, arith, decimal, get_or}
use Rattle.std.specs.List.{Contains}
use Rattle.std.specs.Str.{bytes_eq}
use Rattle.std.proofs.lemmas.Fmt.{decimal_digit, first_decimal}
use Rattle.clap.specs.Walk.{Text}
use Rattle.command_words.specs.Words.{AreOnce, Gives, IsAbsent, IsPlain, joined, nothing, plain, rest, spaced}
use Rattle.command_words.specs.CommandLine.{IsNumber}
use Rattle.command_words.specs.computed.Parser.{look}
use Rattle.command_words.specs.computed.Texts.{IsNumberText}
use Rattle.command_words.proofs.Rules.{bytes_same, different, same_bytes, tested}
use Rattle.command_words.proofs.Taken.{ArePlain}

-- ---- what is looked up

look_hit : (name : Text) (o : Text × Text) (os : List (Text × Text)) → o.0 ≡ name → look name (o ∷ os) ≡ Some o.1
look_hit name o os e = rw (bytes_same o.0 name e) refl

look_miss : (name : Text) (o : Text × Text) (os : List (Text × Text)) → o.0 ≢ name → look name (o ∷ os) ≡ look name os
look_miss name o os ne = rw (different o.0 name ne) refl

look_absent : (name : Text) (os : List (Text × Text)) → look name os ≡ None → IsAbsent name os
look_absent name [] e = tt
look_absent name (o ∷ os) e = elim (tested (bytes_eq o.0 name)) [
  | inl hit ↦ absurd (cc (rw hit at e))
  | inr miss ↦ ((λ (same : name ≡ o.0). absurd (cc (miss, bytes_same o.0 name (sym same)))), look_absent name os (rw miss at e))
]

absent_look : (name : Text) (os : List (Text × Text)) → IsAbsent name os → look name os ≡ None
absent_look name [] h = refl
absent_look name (o ∷ os) h = look_miss name o os (λ same. h.0 (sym same)) ∙ absent_look name os h.1

look_contains : (name t : Text) (os : List (Text × Text)) → look name os ≡ Some t → Contains os (name, t)
look_contains name t [] e = absurd (cc e)
look_contains name t (o ∷ os) e = elim (tested (bytes_eq o.0 name)) [
  | inl hit ↦
      let first : o.0 ≡ name = same_bytes o.0 name hit in
      let second : o.1 ≡ t = cc (sym (look_hit name o os first) ∙ e) in
      (0, omega arith, λ i. (first i, second i))
  | inr miss ↦ let later = look_contains name t os (rw miss at e) in (suc later.0, omega (arith, later.1), later.2)
]

absent_not : (n m t : Text) (os : List (Text × Text)) → IsAbsent n os → Contains os (m, t) → n ≢ m
absent_not n m t [] h c e = absurd (omega (arith, c.1))
absent_not n m t (o ∷ os) h (zero, lt, is) e = h.0 (e ∙ ap (λ (q : Text × Text). q.0) (sym is))
absent_not n m t (o ∷ os) h (suc k, lt, is) e = absent_not n m t os h.1 (k, omega arith, is) e

pub contains_look : (name t : Text) (os : List (Text × Text)) → AreOnce os → Contains os (name, t) → look name os ≡ Some t
contains_look name t [] once c = absurd (omega (arith, c.1))
contains_look name t (o ∷ os) once (zero, lt, is) =
    look_hit name o os (ap (λ (q : Text × Text). q.0) is) ∙ ap (λ (q : Text × Text). Some q.1) is
contains_look name t (o ∷ os) once (suc k, lt, is) =
    let later : Contains os (name, t) = (k, omega arith, is) in
    look_miss name o os (absent_not o.0 name t os once.0 later) ∙ contains_look name t os once.1 later

-- ---- numbers

pub text_number : (name : Text) (least most default : ℕ) (os : List (Text × Text)) (n : ℕ)
    → IsNumberText (look name os) least most default n → IsNumber name least most default os n
text_number name least most default os n h = go (look name os) refl h
  where
    go : (o : Option Text) → look name os ≡ o → IsNumberText o least most default n → IsNumber name least most default os n
    go None e k = inr (look_absent name os e, k)
    go (Some t) e k = inl (k.0, k.1, look_contains name (decimal n) os (e ∙ ap (λ (u : Text). Some u) k.2))

pub number_text : (name : Text) (least most default : ℕ) (os : List (Text × Text)) (n : ℕ) → AreOnce os
    → IsNumber name least most default os n → IsNumberText (look name os) least most default n
number_text name least most default os n once (inl h) =
    subst (λ (o : Option Text). IsNumberText o least most default n) (sym (contains_look name (decimal n) os once h.2)) (h.0, h.1, refl)
number_text name least most default os n once (inr h) =
    subst (λ (o : Option Text). IsNumberText o least most default n) (sym (absent_look name os h.0)) h.1

-- ---- a number begins with a digit

plain_first : (t : Text) → 48 ≤ get_or t 0 0 → IsPlain t
plain_first [] h = tt
plain_first (b ∷ []) h = tt
plain_first (b ∷ c ∷ bs) h = λ e. absurd (omega arith)

decimal_plain : (n : ℕ) → n < 2 ^ 64 → IsPlain (decimal n)
decimal_plain zero h = subst (λ (t : Text). IsPlain t) (sym (decimal_digit 0 (omega arith))) tt
decimal_plain (suc n) h = plain_first (decimal (suc n)) (omega (arith, first_decimal (suc n) (omega arith) h))

pub number_plain : (name : Text) (least most default : ℕ) (os : List (Text × Text)) (n : ℕ) → most < 2 ^ 64 → AreOnce os
    → IsNumber name least most default os n
    → (t : Text) → Contains os (name, t) → IsPlain t
number_plain name least most default os n fits once (inl h) t c =
    let same : decimal n ≡ t = cc (sym (contains_look name (decimal n) os once h.2) ∙ contains_look name t os once c) in
    subst (λ (u : Text). IsPlain u) same (decimal_plain n (omega (arith, h.1)))
number_plain name least most default os n fits once (inr h) t c = absurd (absent_not name name t os h.0 c refl)

pub each_plain : (os : List (Text × Text)) → ((o : Text × Text) → Contains os o → IsPlain o.1) → ArePlain os
each_plain [] h = tt
each_plain (o ∷ os) h = (h o (0, omega arith, refl), each_plain os (λ x c. h x (suc c.0, omega (arith, c.1), c.2)))

-- ---- each option is one of the names

pub gives_known : {names words : List Text} {os : List (Text × Text)} {ls : List Text} → Gives names words os ls → (o : Text × Text)
    → Contains os o → Contains names o.0
gives_known nothing o c = absurd (omega (arith, c.1))
gives_known {names} (spaced known e g) o (zero, lt, is) = subst (λ (q : Text × Text). Contains names q.0) is known
gives_known (spaced known e g) o (suc k, lt, is) = gives_known g o (k, omega arith, is)
gives_known {names} (joined known e g) o (zero, lt, is) = subst (λ (q : Text × Text). Contains names q.0) is known
gives_known (joined known e g) o (suc k, lt, is) = gives_known g o (k, omega arith, is)
gives_known (plain h g) o c = gives_known g o c
gives_known (rest e) o c = absurd (omega (arith, c.1))

pub none_given : {words : List Text} {os : List (Text × Text)} {ls : List Text} → Gives [] words os ls → os ≡ []
none_given nothing = refl
none_given (spaced known e g) = absurd (omega (arith, known.1))
none_given (joined known e g) = absurd (omega (arith, known.1))
none_given (plain h g) = none_given g
none_given (rest e) = refl
