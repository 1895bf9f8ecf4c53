use Rattle.std.proofs.Common.{◌≡◌, ℕ, List, [], ◌∷◌, ◌++◌, refl}
use Rattle.std.specs.Prelude.{fold}

pub fold-append : {S : Type 0} (w : S → List ℕ → S) (s : S) (us vs : List (List ℕ)) → fold w s (us ++ vs) ≡ fold w (fold w s us) vs
fold-append w s [] vs = refl
fold-append w s (u ∷ us) vs = fold-append w (w s u) us vs

pub ruleset fed = (fold-append)
