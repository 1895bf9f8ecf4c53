-- What the numbers of types say: a number names the type at its place in a list.
use Rattle.std.specs.Prelude.{◌≡◌, ◌<◌, List, Option, Some, None, length, slice_get}
use Rattle.mono_syntax.specs.Ty.{Ty}
use Rattle.mono_syntax.specs.declared.value.TypeNo.{TypeNo}
use Rattle.mono_tree.specs.Meet.{IsMeet, AreApart}

abbrev pub IsInRange : List Ty → TypeNo → Type 0
IsInRange types n = n.0 < length types

abbrev pub Names : List Ty → TypeNo → Ty → Type 0
Names types n t = slice_get types n.0 ≡ Some t

-- the number of the meet of two types, or none where they have no meet
abbrev pub IsMeetNumber : List Ty → Option TypeNo → Ty → Ty → Type 0
IsMeetNumber types (Some n) a b = (m : Ty) × Names types n m × IsMeet m a b
IsMeetNumber types None a b = AreApart a b
