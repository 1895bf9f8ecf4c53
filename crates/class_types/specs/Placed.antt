-- Types by their positions in a list.
use Rattle.std.specs.Prelude.{◌≡◌, List, [], ◌∷◌, Option, Some, slice_get}
use Rattle.mono_syntax.specs.declared.leaf.TyAt.{TyAt}
use Rattle.mono_syntax.specs.Ty.{Ty}

-- each type stands at its position
abbrev pub StandAt : List Ty → List (Option Ty) → List TyAt → Type 0
StandAt types [] [] = Unit {0}
StandAt types (Some t ∷ own) (a ∷ as_) = (slice_get types a.0 ≡ Some t) × StandAt types own as_
StandAt types _ _ = ⊥
