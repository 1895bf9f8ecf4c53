-- The forms of a word: `--`, an option's, letters behind one hyphen, and any other.
use Rattle.std.proofs.Common.{◌≡◌, ◌≢◌, ◌∙◌, ◌==◌, ℕ, false, zero, suc, refl, subst, sym, ap, inl, inr, List, [], ◌∷◌, ◌++◌, Some, None, arith, slice_get}
use Rattle.std.specs.Str.{IsUtf8, bytes_eq, chars, encode_utf8_all}
use Rattle.std.specs.Char.{encode_utf8}
use Rattle.std.proofs.lemmas.Str.{encodes-chars}
use Rattle.std.proofs.lemmas.Bool.Decides.{nat_tests}
use Rattle.clap.specs.Lexer.{long_of, short_of}
use Rattle.clap.proofs.CutLemmas.{Lacks}
use Rattle.command_words.specs.Words.{IsPlain}
use Rattle.command_words.proofs.Rules.{tested}

-- a text is cut at its first `=`, or has none
pub data Cut (text : List ℕ) : Type 0 where
  whole : Lacks 61 text → Cut text
  cut : (name value : List ℕ) → Lacks 61 name → text ≡ name ++ 61 ∷ value → Cut text

Lacks_cons : (x : ℕ) (xs : List ℕ) → x ≢ 61 → Lacks 61 xs → Lacks 61 (x ∷ xs)
Lacks_cons x xs ne h zero lt = ne
Lacks_cons x xs ne h (suc i) lt = h i (omega arith)

Lacks_nil : Lacks 61 []
Lacks_nil i lt = absurd (omega arith)

cut_more : (x : ℕ) (xs : List ℕ) → x ≢ 61 → Cut xs → Cut (x ∷ xs)
cut_more x xs ne (whole h) = whole (Lacks_cons x xs ne h)
cut_more x xs ne (cut name value h e) = cut (x ∷ name) value (Lacks_cons x name ne h) (ap (λ rest. x ∷ rest) e)

-- equal numbers, or different ones
pub data Same (a b : ℕ) : Type 0 where
  same : a ≡ b → Same a b
  other : a ≢ b → Same a b

pub compared : (a b : ℕ) → Same a b
compared a b = elim (tested (a == b)) [
  | inl e ↦ same (grind (arith, nat_tests))
  | inr e ↦ other (grind (arith, nat_tests))
]

cut_at : (x : ℕ) (xs : List ℕ) → Same x 61 → Cut xs → Cut (x ∷ xs)
cut_at x xs (same e) c = cut [] xs Lacks_nil (ap (λ k. k ∷ xs) e)
cut_at x xs (other ne) c = cut_more x xs ne c

pub cut_of : (text : List ℕ) → Cut text
cut_of [] = whole Lacks_nil
cut_of (x ∷ xs) = cut_at x xs (compared x 61) (cut_of xs)

-- the form of a word
pub data Form (word : List ℕ) : Type 0 where
  is_plain : IsPlain word → Form word
  is_dashes : word ≡ 45 ∷ 45 ∷ [] → Form word
  is_option : (x : ℕ) (xs : List ℕ) → word ≡ 45 ∷ 45 ∷ x ∷ xs → Form word
  is_letters : (y : ℕ) (ys : List ℕ) → y ≢ 45 → word ≡ 45 ∷ y ∷ ys → Form word

two_hyphens : (rest : List ℕ) → Form (45 ∷ 45 ∷ rest)
two_hyphens [] = is_dashes refl
two_hyphens (x ∷ xs) = is_option x xs refl

form_second : (c : ℕ) (rest : List ℕ) → Same c 45 → Form (45 ∷ c ∷ rest)
form_second c rest (same e) = subst (λ (k : ℕ). Form (45 ∷ k ∷ rest)) (sym e) (two_hyphens rest)
form_second c rest (other ne) = is_letters c rest ne refl

form_first : (b c : ℕ) (rest : List ℕ) → Same b 45 → Form (b ∷ c ∷ rest)
form_first b c rest (same e) = subst (λ (k : ℕ). Form (k ∷ c ∷ rest)) (sym e) (form_second c rest (compared c 45))
form_first b c rest (other ne) = is_plain ne

pub form : (word : List ℕ) → Form word
form [] = is_plain tt
form (b ∷ []) = is_plain tt
form (b ∷ c ∷ rest) = form_first b c rest (compared b 45)

-- ---- what the parser's lexer makes of them

differs : (b : ℕ) → b ≢ 45 → (b == 45) ≡ false
differs b h = grind (arith, nat_tests)

pub plain_dashes : (word : List ℕ) → IsPlain word → bytes_eq word (45 ∷ 45 ∷ []) ≡ false
plain_dashes [] h = refl
plain_dashes (b ∷ []) h = elim (tested (b == 45)) [ inl e ↦ rw e refl | inr e ↦ rw e refl ]
plain_dashes (b ∷ c ∷ rest) h = rw (differs b h) refl

pub plain_long : (word : List ℕ) → IsPlain word → long_of word ≡ None
plain_long [] h = refl
plain_long (b ∷ []) h = elim (tested (b == 45)) [ inl e ↦ rw e refl | inr e ↦ rw e refl ]
plain_long (b ∷ c ∷ rest) h = rw (differs b h) refl

pub plain_short : (word : List ℕ) → IsPlain word → short_of word ≡ None
plain_short [] h = refl
plain_short (b ∷ []) h = elim (tested (b == 45)) [ inl e ↦ rw e refl | inr e ↦ rw e refl ]
plain_short (b ∷ c ∷ rest) h = rw (differs b h) refl

pub letters_dashes : (y : ℕ) (ys : List ℕ) → y ≢ 45 → bytes_eq (45 ∷ y ∷ ys) (45 ∷ 45 ∷ []) ≡ false
letters_dashes y ys h = rw (differs y h) refl

pub letters_long : (y : ℕ) (ys : List ℕ) → y ≢ 45 → long_of (45 ∷ y ∷ ys) ≡ None
letters_long y ys h = rw (differs y h) refl

pub letters_short : (y : ℕ) (ys : List ℕ) → y ≢ 45 → short_of (45 ∷ y ∷ ys) ≡ Some (y ∷ ys)
letters_short y ys h = rw (differs y h) refl

-- there is a letter behind the hyphen
chars_behind : (y : ℕ) (ys : List ℕ) → chars (45 ∷ y ∷ ys) ≡ 45 ∷ chars (y ∷ ys)
unfolding chars
chars_behind y ys = refl

hyphen_encoded : encode_utf8_all (45 ∷ []) ≡ 45 ∷ []
unfolding encode_utf8
hyphen_encoded = refl

pub letter_at : (y : ℕ) (ys : List ℕ) → IsUtf8 (45 ∷ y ∷ ys) → (x : ℕ) × (slice_get (chars (y ∷ ys)) 0 ≡ Some x)
letter_at y ys utf8 = go (chars (y ∷ ys)) refl
  where
    go : (cs : List ℕ) → chars (y ∷ ys) ≡ cs → (x : ℕ) × (slice_get cs 0 ≡ Some x)
    go [] e =
        let all : encode_utf8_all (45 ∷ []) ≡ 45 ∷ y ∷ ys = ap (λ (cs : List ℕ). encode_utf8_all (45 ∷ cs)) (sym e)
        ∙ ap (λ (cs : List ℕ). encode_utf8_all cs) (sym (chars_behind y ys)) ∙ encodes-chars (45 ∷ y ∷ ys) utf8 in
        absurd (cc (sym hyphen_encoded ∙ all))
    go (x ∷ rest) e = (x, refl)

-- what begins with two hyphens and isn't `--`
pub option_dashes : (x : ℕ) (xs : List ℕ) → bytes_eq (45 ∷ 45 ∷ x ∷ xs) (45 ∷ 45 ∷ []) ≡ false
option_dashes x xs = refl
