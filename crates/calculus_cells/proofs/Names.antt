-- Lists of names of different length are not the same.
use Rattle.std.proofs.Common.{◌≡◌, ◌≢◌, false, ◌&&◌, List, [], ◌∷◌, length, refl, arith}
use Rattle.std.specs.Prelude.{bytes_eq}
use Rattle.mono_syntax.specs.declared.tree.Field.{Field}
use Rattle.mono_syntax.specs.TyView.{fields}
use Rattle.mono_tree.specs.FieldNames.{names_of}
use Rattle.cast_machine.specs.Fits.{names_same}
use Rattle.mono_list.proofs.Cases.{split}

pub names_same-uneven : (xs ys : List Field) → length xs ≢ length ys → names_same (names_of (fields xs)) (names_of (fields ys)) ≡ false
names_same-uneven [] [] h = absurd (h refl)
names_same-uneven [] (y ∷ ys) h = refl
names_same-uneven (x ∷ xs) [] h = refl
names_same-uneven (x ∷ xs) (y ∷ ys) h =
    split (bytes_eq x.name y.name) (λ b. (b && names_same (names_of (fields xs)) (names_of (fields ys))) ≡ false)
    (λ t. names_same-uneven xs ys (λ e. h (omega (arith, e))))
    (λ f. refl)

pub ruleset uneven = (names_same-uneven)
