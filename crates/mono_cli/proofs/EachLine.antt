-- A text piece by piece.
use Rattle.std.proofs.Common.{ℕ, ◌+◌, ◌-◌, ◌≤◌, ◌≡◌, List, ◌++◌, length, take, drop, arith, ap, sym, ◌∙◌, append_assoc}
use Rattle.std.proofs.Math.Seq.{take-append-add}
use Rattle.std.proofs.lemmas.List.{take-append-drop, length-take}
use Rattle.std.specs.List.{slice_range}

-- a piece behind the front is a longer front
pub front_more : (xs : List ℕ) (a b : ℕ) → a ≤ b → b ≤ length xs → take a xs ++ slice_range xs a b ≡ take b xs
front_more xs a b l m =
    let n : length (take a xs) + (b - a) ≡ b = omega (arith, length-take a xs) in
    sym (take-append-add (take a xs) (drop a xs) (b - a)) ∙ (ap (λ k. take k (take a xs ++ drop a xs)) n ∙ ap (take b) (take-append-drop a xs))

-- a front, a piece and what is left are the whole
pub whole_is : (xs : List ℕ) (a b : ℕ) → a ≤ b → b ≤ length xs → take a xs ++ (slice_range xs a b ++ drop b xs) ≡ xs
whole_is xs a b l m =
    sym (append_assoc (take a xs) (slice_range xs a b) (drop b xs)) ∙ (ap (λ f. f ++ drop b xs) (front_more xs a b l m) ∙ take-append-drop b xs)
