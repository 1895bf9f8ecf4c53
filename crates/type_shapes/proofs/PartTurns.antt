-- Meets of two lists of numbers, taken one by one.
use Rattle.std.proofs.Common.{◌≡◌, ℕ, List, [], ◌∷◌, ◌++◌, length, refl, sym, ◌∙◌, ap, arith, append_assoc}
use Rattle.std.specs.Prelude.{Option, Some, None}
use Rattle.std.specs.Option.{option_map}
use Rattle.mono_tree.specs.Meet.{both}
use Rattle.type_shapes.specs.computed.ByNumber.{met_no, met_parts}

abbrev pub made_first : List ℕ → List ℕ → List ℕ
made_first made ms = made ++ ms

-- one more of the meets goes from what is left to what is made
pub one_more : (rows : List (List (Option ℕ))) (made : List ℕ) (x y m : ℕ) (xs ys : List ℕ) → met_no rows x y ≡ Some m
    → option_map (made_first (made ++ m ∷ [])) (met_parts rows xs ys) ≡ option_map (made_first made) (met_parts rows (x ∷ xs) (y ∷ ys))
one_more rows made x y m xs ys e =
    by (met_parts rows xs ys) ∙ ap (λ (o : Option ℕ). option_map (made_first made) (both ◌∷◌ o (met_parts rows xs ys))) (sym e)
  where
    by : (o : Option (List ℕ)) → option_map (made_first (made ++ m ∷ [])) o ≡ option_map (made_first made) (both ◌∷◌ (Some m) o)
    by None = refl
    by (Some ms) = ap (λ (l : List ℕ). Some l) (append_assoc made (m ∷ []) ms)

pub unlike_lengths : (rows : List (List (Option ℕ))) (xs ys : List ℕ) → (length xs ≡ length ys → ⊥) → met_parts rows xs ys ≡ None
unlike_lengths rows [] [] n = absurd (n refl)
unlike_lengths rows [] (y ∷ ys) n = refl
unlike_lengths rows (x ∷ xs) [] n = refl
unlike_lengths rows (x ∷ xs) (y ∷ ys) n = ap (both ◌∷◌ (met_no rows x y)) (unlike_lengths rows xs ys (λ e. n (omega arith))) ∙ none_second (met_no rows x y)
  where
    none_second : (o : Option ℕ) → both ◌∷◌ o None ≡ None
    none_second None = refl
    none_second (Some m) = refl

pub ruleset part_turns = (one_more, unlike_lengths)
