-- The value of digits that are read one by one.
use Rattle.std.proofs.Common.{ℕ, zero, suc, ◌+◌, ◌-◌, ◌*◌, ◌^◌, ◌<◌, ◌≤◌, ◌≡◌, true, List, [], ◌∷◌, length, Some, None, nat_le, ◌&&◌, if◌then◌else◌, arith, refl, sym}
use Rattle.std.proofs.Math.Nat.{pow-suc, mul-le-mul_left}
use Rattle.std.proofs.lemmas.Bool.{le-leb, lt-leb}
use Rattle.mono_list.proofs.Cases.{split}
use Rattle.mono_syntax.specs.Limits.{greatest_integer}
use Rattle.py_chars.specs.Spellings.{digits_value, is_numeral, number_of}

-- the digits that are left count below those read
abbrev pub with_read : ℕ → List ℕ → ℕ
with_read v cs = v * 10 ^ length cs + digits_value cs

horner : (v d p r : ℕ) → v * (p * 10) + (d * p + r) ≡ (v * 10 + d) * p + r
horner v d p r = omega arith

pub read_on : (v c : ℕ) (cs : List ℕ) → with_read (v * 10 + (c - 48)) cs ≡ with_read v (c ∷ cs)
unfolding digits_value
read_on v c cs = rw (pow-suc 10 (length cs)) (sym (horner v (c - 48) (10 ^ length cs) (digits_value cs)))

pub all_read : (v : ℕ) → with_read v [] ≡ v
unfolding digits_value
all_read v = omega arith

one_le : (n : ℕ) → 1 ≤ 10 ^ n
one_le zero = omega arith
one_le (suc n) = rw (pow-suc 10 n) (let h = one_le n in omega arith)

pub too_great : (v : ℕ) (cs : List ℕ) → v ≤ with_read v cs
too_great v cs = omega (arith, mul-le-mul_left v (one_le (length cs)))

pub none_read : (cs : List ℕ) → with_read 0 cs ≡ digits_value cs
none_read cs = omega arith

pub number_some : (cs : List ℕ) (v : ℕ) → is_numeral cs ≡ true → digits_value cs ≡ v → v ≤ greatest_integer → number_of cs ≡ Some v
unfolding number_of
number_some cs v t e l = rw (t, e, le-leb v greatest_integer l) refl

pub number_none : (cs : List ℕ) → greatest_integer < digits_value cs → number_of cs ≡ None
unfolding number_of
number_none cs l = split (is_numeral cs) (λ b. (if b && nat_le (digits_value cs) greatest_integer then Some (digits_value cs) else None) ≡ None)
    (λ _. rw (lt-leb (digits_value cs) greatest_integer l) refl) (λ _. refl)
