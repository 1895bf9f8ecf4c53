-- How many elements a stack in tiers has, and a write in its top tier.
use Rattle.std.proofs.Common.{ℕ, zero, suc, ◌+◌, ◌≤◌, ◌≡◌, List, [], ◌∷◌, length, reverse, take, drop, set, slice_set, arith, sym, ap, refl, ◌∙◌, length-drop}
use Rattle.std.proofs.lemmas.List.{length-reverse, length-take-le}
use Rattle.mono_list.proofs.Reversed.{set_back}
use Rattle.mono_list.specs.Tiered.{tiers, total, AreStarts, size, tiered}

pub total-tiers : {A : Type 0} (ss : List ℕ) (xs : List A) (n : ℕ) → n ≡ length xs → AreStarts ss n → total (tiers ss xs) ≡ length xs
total-tiers [] xs n e h = sym h ∙ e
total-tiers (s ∷ ss) xs n e h =
    let k : s ≤ length xs = omega (arith, h.0, e) in
    let l : length (take s xs) ≡ s = length-take-le s xs k in
    rw (length-reverse, length-drop, total-tiers ss (take s xs) s (sym l) h.1, l) (omega (arith, k))

pub size-tiered : {A : Type 0} (n : ℕ) (ss : List ℕ) (xs : List A) → n ≤ length xs → AreStarts ss n → size (tiered n ss xs) ≡ length xs
size-tiered n ss xs k h =
    let l : length (take n xs) ≡ n = length-take-le n xs k in
    rw (length-reverse, length-drop, total-tiers ss (take n xs) n (sym l) h, l) (omega (arith, k))

pub length-tiers : {A : Type 0} (ss : List ℕ) (xs : List A) → length (tiers ss xs) ≡ length ss
length-tiers [] xs = refl
length-tiers (s ∷ ss) xs = ap suc (length-tiers ss (take s xs))

drop-set : {A : Type 0} (n i : ℕ) (xs : List A) (a : A) → drop n (set xs (n + i) a) ≡ set (drop n xs) i a
drop-set zero i xs a = ap (λ k. set xs k a) (omega arith)
drop-set (suc n) i [] a = refl
drop-set (suc n) i (x ∷ xs) a = let e : suc n + i ≡ suc (n + i) = omega arith in rw e (drop-set n i xs a)

take-set : {A : Type 0} (n i : ℕ) (xs : List A) (a : A) → take n (set xs (n + i) a) ≡ take n xs
take-set zero i xs a = refl
take-set (suc n) i [] a = refl
take-set (suc n) i (x ∷ xs) a = let e : suc n + i ≡ suc (n + i) = omega arith in rw e (ap (λ l. x ∷ l) (take-set n i xs a))

-- a write counted from the end of the whole is one in the top tier
pub set-tiered : {A : Type 0} (n : ℕ) (ss : List ℕ) (xs : List A) (at j : ℕ) (a : A) → at + suc (n + j) ≡ length xs → tiered n ss (set xs (n + j) a) ≡ record { top = slice_set (reverse (drop n xs)) at a; below = tiers ss (take n xs) }
set-tiered n ss xs at j a h =
    rw (drop-set n j xs a, take-set n j xs a, set_back (drop n xs) at j a (rw length-drop (omega (arith, h)))) refl
