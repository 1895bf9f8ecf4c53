-- A list of types, each once, and the position of one of them.
use Rattle.std.specs.Prelude.{◌≡◌, ◌⊎◌, List, [], ◌∷◌, ◌++◌, Some, slice_get, Contains}
use Rattle.mono_syntax.specs.Ty.{Ty}
use Rattle.mono_tree.specs.ClosedList.{AreDistinct}
use Rattle.type_list.specs.declared.list.Placed.{Placed}

-- t stands at the position of x; the list is ts, with t at its end where ts hasn't t
pub record IsPlaced (ts : List Ty) (t : Ty) (x : Placed) : Type 0 where
  pub at : slice_get x.types x.at.0 ≡ Some t
  pub list : (x.types ≡ ts) ⊎ ((Contains ts t → ⊥) × (x.types ≡ ts ++ t ∷ []))
  pub distinct : AreDistinct ts → AreDistinct x.types
