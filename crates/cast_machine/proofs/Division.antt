-- The quotient and the rest of a division.
use Rattle.std.proofs.Common.{◌≡◌, ℕ, zero, suc, ◌%◌, refl, arith}
use Rattle.std.proofs.lemmas.Int.{ints}
use Rattle.std.proofs.Math.Nat.{mod-lt}
use Rattle.std.specs.Prelude.{◌<◌, ◌-◌, ℤ, pos, negsuc, ◌+ℤ◌, ◌-ℤ◌, ◌*ℤ◌}
use Rattle.cast_machine.specs.Operators.{floor_quotient, floor_rest}

-- the rest is what the divisor times the quotient leaves
pub rest_is : (a b : ℤ) → (b ≡ pos 0 → ⊥) → floor_rest a b ≡ a -ℤ b *ℤ floor_quotient a b
rest_is a (pos zero) h = absurd (h refl)
rest_is (pos n) (pos (suc k)) h = omega (arith, ints)
rest_is (negsuc n) (pos (suc k)) h = omega (arith, ints)
rest_is (pos zero) (negsuc k) h = omega (arith, ints)
rest_is (pos (suc n)) (negsuc k) h = omega (arith, ints)
rest_is (negsuc n) (negsuc k) h = omega (arith, ints)

-- The quotient is the greatest integer that is at most the quotient of the rationals: what is left has the divisor's sign
-- and is nearer to 0 than the divisor. This is so for a divisor above 0,
pub quotient_is_floor : (a : ℤ) (k : ℕ) → (r : ℕ) × (a ≡ pos (suc k) *ℤ floor_quotient a (pos (suc k)) +ℤ pos r) × (r < suc k)
quotient_is_floor (pos n) k = (n % suc k, omega (arith, ints), mod-lt n (omega arith))
quotient_is_floor (negsuc n) k = (k - n % suc k, (let low : n % suc k < suc k = mod-lt n (omega arith) in omega (arith, ints)), omega arith)

-- and for one below 0.
pub quotient_is_floor_below : (a : ℤ) (k : ℕ) → (r : ℕ) × (a ≡ negsuc k *ℤ floor_quotient a (negsuc k) -ℤ pos r) × (r < suc k)
quotient_is_floor_below (pos zero) k = (0, omega (arith, ints), omega arith)
quotient_is_floor_below (pos (suc n)) k = (k - n % suc k, (let low : n % suc k < suc k = mod-lt n (omega arith) in omega (arith, ints)), omega arith)
quotient_is_floor_below (negsuc n) k = (suc n % suc k, omega (arith, ints), mod-lt (suc n) (omega arith))
