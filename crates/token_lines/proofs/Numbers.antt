-- A number in decimal is a numeral, and its value is the number.
use Rattle.std.proofs.Common.{ℕ, zero, suc, ◌^◌, ◌<◌, ◌≤◌, ◌≡◌, ◌||◌, ◌==◌, not, true, List, [], ◌∷◌, length, get_or, nat_le, Some, arith, refl, sym, ap, ◌∙◌, subst}
use Rattle.std.specs.List.{list_all}
use Rattle.std.specs.Char.{is_ascii_digit}
use Rattle.std.specs.Fmt.{decimal}
use Rattle.std.specs.Int.{IsInRange}
use Rattle.std.proofs.lemmas.Bool.{and_parts, and_from, leb-true, le-leb, ne_eqb, or_left, or_right}
use Rattle.std.proofs.lemmas.Str.Parse.{IsDigitsTest, IsNumeralModel, numerals_by_weight}
use Rattle.std.proofs.lemmas.Fmt.{decimal_nonempty, first_decimal, decimal_digit, digits_decimal, digits_value-decimal}
use Rattle.mono_syntax.specs.Limits.{greatest_integer}
use Rattle.unicode_ident.specs.Ident.{is_xid_continue}
use Rattle.unicode_ident.proofs.IdentLemmas.{is_xid_continue-ascii}
use Rattle.py_chars.specs.Spellings.{digits_value, number_of}
use Rattle.py_chars.proofs.Numbers.{number_some}

abbrev AreDigits : List ℕ → Type 0
AreDigits ds = list_all is_ascii_digit ds ≡ true

pub digit_range : (c : ℕ) → is_ascii_digit c ≡ true → IsInRange 48 57 c
digit_range c t = let b = and_parts (nat_le 48 c) (nat_le c 57) t in (leb-true 48 c b.0, leb-true c 57 b.1)

range_digit : (c : ℕ) → IsInRange 48 57 c → is_ascii_digit c ≡ true
range_digit c r = and_from (nat_le 48 c) (nat_le c 57) (le-leb 48 c r.0) (le-leb c 57 r.1)

tells : IsDigitsTest AreDigits
tells = record {
  empty = refl;
  parts = λ c cs h. let b = and_parts (is_ascii_digit c) (list_all is_ascii_digit cs) h in (digit_range c b.0, b.1);
  more = λ c cs r h. and_from (is_ascii_digit c) (list_all is_ascii_digit cs) (range_digit c r) h;
}

own : IsNumeralModel AreDigits digits_value
unfolding digits_value
own = numerals_by_weight AreDigits tells digits_value (record { empty = refl; more = λ c cs r. refl })

-- the digits of a number
pub record IsDecimal (n : ℕ) : Type 0 where
  pub first : ℕ
  pub others : List ℕ
  pub parts : decimal n ≡ first ∷ others
  pub digit : is_ascii_digit first ≡ true
  pub digits : list_all is_ascii_digit others ≡ true
  pub value : number_of (first ∷ others) ≡ Some n

first_counts : (n c : ℕ) (cs : List ℕ) → n < 2 ^ 64 → decimal n ≡ c ∷ cs → (not (c == 48) || length cs == 0) ≡ true
first_counts zero c cs l e =
    let one : decimal 0 ≡ 48 ∷ [] = decimal_digit 0 (omega arith) in
    let none : cs ≡ [] = cc in
    or_right (not (c == 48)) (length cs == 0) (ap (λ l. length l == 0) none)
first_counts (suc n) c cs l e =
    let high : 48 < c = omega (arith, first_decimal (suc n) (omega arith) l, ap (λ l. get_or l 0 0) e) in
    or_left (not (c == 48)) (length cs == 0) (ap not (ne_eqb c 48 (λ q. omega arith)))

decimal_of : (n : ℕ) (ds : List ℕ) → n ≤ greatest_integer → n < 2 ^ 64 → decimal n ≡ ds → IsDecimal n
decimal_of n [] h l e = absurd (omega (arith, decimal_nonempty n l, ap length e))
decimal_of n (c ∷ cs) h l e =
    let all : AreDigits (c ∷ cs) = subst AreDigits e (digits_decimal {P = AreDigits} {v = digits_value} own n l) in
    let both = and_parts (is_ascii_digit c) (list_all is_ascii_digit cs) all in
    let worth : digits_value (c ∷ cs) ≡ n = sym (ap digits_value e) ∙ digits_value-decimal {P = AreDigits} {v = digits_value} own n l in
    record {
      first = c;
      others = cs;
      parts = e;
      digit = both.0;
      digits = both.1;
      value = number_some (c ∷ cs) n (and_from (list_all is_ascii_digit (c ∷ cs)) _ all (first_counts n c cs l e)) worth h;
    }

pub decimal_is : (n : ℕ) → n ≤ greatest_integer → IsDecimal n
decimal_is n h = decimal_of n (decimal n) h (omega arith) refl

pub digit_goes_on : (c : ℕ) → is_ascii_digit c ≡ true → is_xid_continue c ≡ true
digit_goes_on c t = let r = digit_range c t in is_xid_continue-ascii c (omega arith) ∙ rw t refl

pub digits_go_on : (cs : List ℕ) → list_all is_ascii_digit cs ≡ true → list_all is_xid_continue cs ≡ true
digits_go_on [] h = refl
digits_go_on (c ∷ cs) h =
    let both = and_parts (is_ascii_digit c) (list_all is_ascii_digit cs) h in
    and_from (is_xid_continue c) (list_all is_xid_continue cs) (digit_goes_on c both.0) (digits_go_on cs both.1)
