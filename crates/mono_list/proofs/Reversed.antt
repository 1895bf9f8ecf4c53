-- A list cut n before its end, seen from its end.
use Rattle.std.proofs.Common.{ℕ, zero, suc, ◌+◌, ◌-◌, ◌<◌, ◌≤◌, ◌≡◌, List, [], ◌∷◌, ◌++◌, length, reverse, take, drop, set, arith, sym, ap, ◌∙◌, length-drop}
use Rattle.std.proofs.lemmas.List.{take_at, drop_at, length-reverse, reverse-append, reverse-reverse, take-append-drop, set-append_left}
use Rattle.std.proofs.Math.Seq.{set-append_seam}

module _ {X : Type 0} (xs : List X) (n : ℕ) (fits : n ≤ length xs) where
  back : length (reverse (drop (length xs - n) xs)) ≡ n
  back = simp (length-reverse, length-drop) (omega arith)

  pub parts : reverse xs ≡ reverse (drop (length xs - n) xs) ++ reverse (take (length xs - n) xs)
  parts = ap reverse (sym (take-append-drop (length xs - n) xs)) ∙ reverse-append (take (length xs - n) xs) (drop (length xs - n) xs)

  pub cut : drop (length xs - n) xs ≡ reverse (take n (reverse xs))
  cut = rw (parts, take_at _ _ n back, reverse-reverse)

  pub kept : reverse (take (length xs - n) xs) ≡ drop n (reverse xs)
  kept = rw (parts, drop_at _ _ n back)

reverse_cons : {X : Type 0} (x : X) (xs : List X) → reverse (x ∷ xs) ≡ reverse xs ++ x ∷ []
reverse_cons x xs = reverse-append (x ∷ []) xs

-- one element of a list, counted from the end, is changed
pub set_back : {X : Type 0} (xs : List X) (k n : ℕ) (a : X) → k + suc n ≡ length xs → reverse (set xs n a) ≡ set (reverse xs) k a
set_back [] k n a h = absurd (omega arith)
set_back (x ∷ xs) k zero a h =
    let e : k ≡ length (reverse xs) = simp length-reverse (omega arith) in
    rw (reverse_cons a xs, reverse_cons x xs, e) (sym (set-append_seam (reverse xs) x [] a))
set_back (x ∷ xs) k (suc n) a h =
    let e : k < length (reverse xs) = simp length-reverse (omega arith) in
    rw (reverse_cons x (set xs n a), reverse_cons x xs, set-append_left (reverse xs) (x ∷ []) k a e) (ap (λ l. l ++ x ∷ []) (set_back xs k n a (omega arith)))
