-- The names of a block.
use Rattle.std.proofs.Common.{◌≡◌, ◌∙◌, sym, ap, refl, ℕ, ◌+◌, ◌<◌, ◌≤◌, Bool, true, false, List, [], ◌∷◌, ◌++◌, length, drop, get_or, map, arith, append_assoc}
use Rattle.std.proofs.lemmas.List.{drop_all}
use Rattle.class_types.proofs.MadeTurns.{next}

append-none : {A : Type 0} (xs : List A) → xs ++ [] ≡ xs
append-none [] = refl
append-none (x ∷ xs) = ap (λ l. x ∷ l) (append-none xs)

pub append-end : {A : Type 0} (xs : List A) → xs ≡ xs ++ []
append-end xs = sym (append-none xs)

-- one step of a loop that puts the words of each thing behind those so far
pub words-next : {A X : Type 0} (part : X → List A) (parts : List X → List A) → ((x : X) (xs : List X) → parts (x ∷ xs) ≡ part x ++ parts xs)
    → (xs : List X) (i : ℕ) (x : X) (so_far more all : List A) → i < length xs → x ≡ get_or xs i x → more ≡ so_far ++ part x
    → so_far ++ parts (drop i xs) ≡ all → more ++ parts (drop (i + 1) xs) ≡ all
words-next part parts step xs i x so_far more all h is e inv =
    ap (λ l. l ++ parts (drop (i + 1) xs)) e ∙ (append_assoc so_far (part x) (parts (drop (i + 1) xs))
    ∙ (ap (λ l. so_far ++ l) (sym (step x (drop (i + 1) xs))) ∙ (ap (λ l. so_far ++ parts l) (sym (next xs i x h is)) ∙ inv)))

pub words-end : {A X : Type 0} (parts : List X → List A) → parts [] ≡ [] → (xs : List X) (i : ℕ) (so_far all : List A) → length xs ≤ i
    → so_far ++ parts (drop i xs) ≡ all → so_far ≡ all
words-end parts none xs i so_far all h inv = append-end so_far ∙ (ap (λ l. so_far ++ l) (sym (ap parts (drop_all i xs h) ∙ none)) ∙ inv)

pub ruleset bound_steps = (append_assoc, append-end)
