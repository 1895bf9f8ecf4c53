-- Where a text may be cut.
use Rattle.std.proofs.Common.{ℕ, ◌≡◌, ◌≤◌, ◌<◌, Bool, true, false, ◌||◌, List, length, nat_le, nat_lt, slice_index, refl, arith, ◌⊎◌, inl, inr}
use Rattle.std.proofs.lemmas.Bool.{and_parts, leb-true, ltb-true}
use Rattle.std.specs.Str.{IsCharBoundary}
use Rattle.spelled_tokens.specs.Spelling.{is_boundary}

or_cases : (x y : Bool) → (x || y) ≡ true → (x ≡ true) ⊎ (y ≡ true)
or_cases true y h = inl refl
or_cases false y h = inr h

begins_there : (n i b : ℕ) → (nat_le n i || nat_lt b 128 || nat_le 192 b) ≡ true → i < n → 128 ≤ b → 192 ≤ b
begins_there n i b e l h =
    elim (or_cases (nat_le n i || nat_lt b 128) (nat_le 192 b) e) [
      | inl x ↦ elim (or_cases (nat_le n i) (nat_lt b 128) x) [
        | inl y ↦ absurd (omega (arith, leb-true n i y))
        | inr y ↦ absurd (omega (arith, ltb-true b 128 y))
      ]
      | inr x ↦ leb-true 192 b x
    ]

pub at_boundary : (text : List ℕ) (i : ℕ) → is_boundary text i ≡ true → IsCharBoundary text i
at_boundary text i e =
    let k = and_parts (nat_le i (length text)) _ e in
    (leb-true i (length text) k.0, begins_there (length text) i (slice_index text i) k.1)
