-- The types of the first classes of a script stand where those of all its classes do.
use Rattle.std.proofs.Common.{◌≡◌, ℕ, zero, suc, inl, inr, List, [], ◌∷◌, map, take, refl, subst}
use Rattle.std.specs.Prelude.{Contains}
use Rattle.mono_syntax.specs.declared.cast.CastClass.{CastClass}
use Rattle.mono_syntax.specs.Ty.{Ty}
use Rattle.class_types.proofs.OrderLaws.{In, in-contains, contains-in}

-- what holds of the type of each class holds of those of the first ones
among_first : (cs : List CastClass) (n : ℕ) (Has : Ty → Type 0) → ((c : CastClass) → In c cs → Has c.ty) → (t : Ty) → In t (map (λ c. c.ty) (take n cs)) → Has t
among_first [] zero Has h t i = absurd i
among_first [] (suc n) Has h t i = absurd i
among_first (c ∷ cs) zero Has h t i = absurd i
among_first (c ∷ cs) (suc n) Has h t (inl e) = subst Has e (h c (inl refl))
among_first (c ∷ cs) (suc n) Has h t (inr i) = among_first cs n Has (λ d j. h d (inr j)) t i

pub class_types_stand : (types : List Ty) (cs : List CastClass) (n : ℕ) → ((c : CastClass) → Contains cs c → Contains types c.ty)
    → (own : List Ty) → own ≡ map (λ c. c.ty) (take n cs) → (t : Ty) → Contains own t → Contains types t
class_types_stand types cs n h own is t k =
    among_first cs n (Contains types) (λ c i. h c (in-contains c cs i)) t (contains-in t (map (λ c. c.ty) (take n cs)) (subst (λ (l : List Ty). Contains l t) is k))
