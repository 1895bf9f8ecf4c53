-- Computed: the meet of two types by their shapes.
use Rattle.std.specs.Prelude.{ℕ, List, [], Option, Some, None, slice_get, Bool, true, false, if◌then◌else◌}
use Rattle.mono_syntax.specs.Ty.{Ty}
use Rattle.mono_tree.specs.ClosedList.{put_all, each_parts_first, with_found}
use Rattle.mono_tree.specs.Meet.{meet_of}
use Rattle.type_shapes.specs.computed.ByNumber.{met_shape}
use Rattle.type_shapes.specs.declared.rows.Met.{Met}
use Rattle.type_shapes.specs.declared.rows.Met.TheVariants.{At, New, Apart}
use Rattle.type_shapes.specs.declared.shape.Head.{Head}
use Rattle.type_shapes.specs.declared.shape.Head.TheVariants.{Dyn}
use Rattle.type_shapes.specs.declared.shape.Shape.{Shape}

-- the head of `Dyn`
abbrev pub is_dyn : Head → Bool
is_dyn Dyn = true
is_dyn _ = false

-- the meet by its shape
abbrev pub shape_met : Option Shape → Met
shape_met None = Apart
shape_met (Some s) = New s

-- the meet of the types at j and i, whose shapes are s and t
abbrev pub two_met : List (List (Option ℕ)) → Shape → Shape → ℕ → ℕ → Met
two_met rows s t j i = if is_dyn s.head then At i else if is_dyn t.head then At j else shape_met (met_shape rows s t)

-- the same, where both have a shape
abbrev pub met_of : List (List (Option ℕ)) → Option Shape → Option Shape → ℕ → ℕ → Met
met_of rows None t j i = Apart
met_of rows (Some s) None j i = Apart
met_of rows (Some s) (Some t) j i = two_met rows s t j i

-- the meet of two types, where both are there
abbrev pub pair_meet : Option Ty → Option Ty → Option Ty
pair_meet None t = None
pair_meet (Some u) None = None
pair_meet (Some u) (Some t) = meet_of u t

-- the list with the meet of the types at j and i
abbrev pub pair_list : List Ty → ℕ → ℕ → List Ty
pair_list ts j i = put_all ts (each_parts_first (with_found (pair_meet (slice_get ts j) (slice_get ts i)) []))
