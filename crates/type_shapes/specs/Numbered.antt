-- A list of types with their shapes, each by the numbers of types before it, and rows of meets.
use Rattle.std.specs.Prelude.{◌≡◌, ℕ, ◌<◌, List, Option, Some, length, slice_get}
use Rattle.mono_syntax.specs.Ty.{Ty}
use Rattle.mono_tree.specs.ClosedList.{AreDistinct, IsPartClosed}
use Rattle.mono_tree.specs.Meet.{meet_of}
use Rattle.type_shapes.specs.computed.ByNumber.{flat}
use Rattle.type_shapes.specs.declared.shape.Shape.{Shape}
use Rattle.type_shapes.specs.Shows.{Shows, AreBelow, IsOnce, IsNamed}

-- at the place of the type stands a shape of it, whose parts have smaller numbers
pub record HasShape (names : List (List (List ℕ))) (ts : List Ty) (ss : List Shape) (k : ℕ) (t : Ty) : Type 0 where
  pub shape : Shape
  pub at : slice_get ss k ≡ Some shape
  pub shows : Shows names ts shape t
  pub below : AreBelow k shape.parts

-- each type has its shape at its own place, and stands once, as each list of field names does; parts of types are there too
pub record IsNumbered (names : List (List (List ℕ))) (ts : List Ty) (ss : List Shape) : Type 0 where
  pub names_once : IsOnce names
  pub even : length ss ≡ length ts
  pub distinct : AreDistinct ts
  pub part_closed : IsPartClosed ts
  pub shaped : (k : ℕ) (t : Ty) → slice_get ts k ≡ Some t → HasShape names ts ss k t
  pub typed : (k : ℕ) (s : Shape) → slice_get ss k ≡ Some s → (t : Ty) × (slice_get ts k ≡ Some t)

-- the first j numbers of the row of i are those of the meets
pub record IsRow (ts : List Ty) (row : List (Option ℕ)) (i j : ℕ) : Type 0 where
  pub at : (b : ℕ) → b < j → (x y : Ty) → slice_get ts i ≡ Some x → slice_get ts b ≡ Some y
      → IsNamed ts (flat (slice_get row b)) (meet_of y x)

-- what stands in the first list stands at its place in the second
abbrev pub IsKept : {X : Type 0} → List X → List X → Type 0
IsKept {X} xs ys = (k : ℕ) (x : X) → slice_get xs k ≡ Some x → slice_get ys k ≡ Some x
