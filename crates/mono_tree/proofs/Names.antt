-- Names in order are distinct.
use Rattle.std.proofs.Common.{◌≡◌, ◌∙◌, ℕ, List, [], ◌∷◌, true, sym, ap, subst, refl}
use Rattle.std.specs.Ordering.{nat_cmp, is_eq}
use Rattle.std.specs.Cmp.Lexicographic.{slice_cmp}
use Rattle.std.specs.declared.cmp.Ordering.TheVariants.{Less}
use Rattle.std.proofs.lemmas.Map.Text.{is_eq-slice_cmp}
use Rattle.std.proofs.lemmas.Slice.Eq.{bytes_eq-Decides}
use Rattle.mono_tree.specs.IsType.{IsBefore}

not_before_itself : (n : List ℕ) → slice_cmp nat_cmp n n ≡ Less → ⊥
not_before_itself n h = let same : is_eq (slice_cmp nat_cmp n n) ≡ true = is_eq-slice_cmp n n ∙ (bytes_eq-Decides n n).1 refl in let less : is_eq Less ≡ true = ap is_eq (sym h) ∙ same in cc

-- a name is none of those that it stands before
abbrev pub IsOther : List ℕ → List (List ℕ) → Type 0
IsOther n [] = Unit {0}
IsOther n (k ∷ ks) = (n ≡ k → ⊥) × IsOther n ks

pub before-other : (n : List ℕ) (ks : List (List ℕ)) → IsBefore n ks → IsOther n ks
before-other n [] h = tt
before-other n (k ∷ ks) h = (λ e. not_before_itself n (subst (λ l. slice_cmp nat_cmp n l ≡ Less) (sym e) h.0), before-other n ks h.1)
