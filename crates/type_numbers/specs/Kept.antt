-- What a table keeps: for each type its shape, its meets with the types before it, and whether it is static; for each class a number.
use Rattle.std.specs.Prelude.{◌≡◌, ◌<◌, ℕ, Bool, List, [], ◌∷◌, Option, Some, None, length, map, slice_get}
use Rattle.mono_syntax.specs.Ty.{Ty, dyn}
use Rattle.mono_syntax.specs.declared.value.TypeNo.{TypeNo}
use Rattle.mono_tree.specs.Static.{is_static}
use Rattle.type_shapes.specs.Limits.{IsWithinLimits}
use Rattle.type_shapes.specs.Numbered.{IsNumbered}
use Rattle.type_shapes.specs.Shows.{AreMeets}
use Rattle.type_shapes.specs.declared.shape.Shape.{Shape}

-- each number is below the count
abbrev pub AreInRange : ℕ → List TypeNo → Type 0
AreInRange count [] = Unit {0}
AreInRange count (n ∷ ns) = (n.0 < count) × AreInRange count ns

-- a place out of range gives `Dyn`
abbrev pub or_dyn : Option Ty → Ty
or_dyn None = dyn
or_dyn (Some t) = t

-- the types of numbers that are in range
abbrev pub types_at : List Ty → List TypeNo → List Ty
types_at ts [] = []
types_at ts (n ∷ ns) = or_dyn (slice_get ts n.0) ∷ types_at ts ns

-- the types are within the limits and have shapes; the rows hold the numbers of their meets, the flags tell the static ones, and the
-- numbers of the classes are in range
pub record IsTable (names : List (List (List ℕ))) (ts : List Ty) (ss : List Shape) (rows : List (List (Option ℕ))) (flags : List Bool)
    (numbers : List TypeNo) : Type 0 where
  pub numbered : IsNumbered names ts ss
  pub within : IsWithinLimits ts
  pub meets : AreMeets ts rows (length ts)
  pub statics : flags ≡ map is_static ts
  pub classes : AreInRange (length ts) numbers
