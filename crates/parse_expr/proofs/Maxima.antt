-- The greater of two numbers, in sums.
use Rattle.std.proofs.Common.{ℕ, suc, ◌+◌, ◌-◌, ◌≤◌, ◌≡◌, max, arith}
use Rattle.std.proofs.Math.Nat.{le-max_left, le-max_right, max-le}

pub max_light : (v w n r : ℕ) → suc v + n ≤ r → w + suc n ≤ r → suc (max v w) + n ≤ r
max_light v w n r a b = let m : max v w ≤ r - suc n = max-le (omega arith) (omega arith) in omega arith

pub max_left : (v w n r : ℕ) → suc (max v w) + n ≤ r → suc v + n ≤ r
max_left v w n r h = omega (arith, le-max_left v w)

pub max_right : (v w n r : ℕ) → suc (max v w) + n ≤ r → w + suc n ≤ r
max_right v w n r h = omega (arith, le-max_right v w)

le_antisym : (a b : ℕ) → a ≤ b → b ≤ a → a ≡ b
le_antisym a b h k = omega arith

pub max_assoc : (a b c : ℕ) → max (max a b) c ≡ max a (max b c)
max_assoc a b c =
    let ab = le-max_left a b in
    let ba = le-max_right a b in
    let bc = le-max_left b c in
    let cb = le-max_right b c in
    let l = le-max_left (max a b) c in
    let m = le-max_right (max a b) c in
    let n = le-max_left a (max b c) in
    let o = le-max_right a (max b c) in
    le_antisym _ _ (max-le (max-le n (omega arith)) (omega arith)) (max-le (omega arith) (max-le (omega arith) m))
