-- Computed: tests of types, and types by their positions.
use Rattle.std.specs.Prelude.{List, Bool, true, false, Option, Some, None, is_some, slice_get}
use Rattle.mono_syntax.specs.declared.leaf.TyAt.{TyAt}
use Rattle.mono_syntax.specs.Ty.{Ty, dyn}
use Rattle.mono_tree.specs.Meet.{meet_of}

-- the type, and `Dyn` where there is none
abbrev pub type_or_dyn : Option Ty → Ty
type_or_dyn None = dyn
type_or_dyn (Some t) = t

-- the type at a position, and `Dyn` where none stands there
abbrev pub type_at : List Ty → Option TyAt → Ty
type_at types None = dyn
type_at types (Some a) = type_or_dyn (slice_get types a.0)

abbrev pub is_dyn : Ty → Bool
is_dyn dyn = true
is_dyn _ = false

-- whether the two have a meet
abbrev pub consistent : Ty → Ty → Bool
consistent a b = is_some (meet_of a b)
