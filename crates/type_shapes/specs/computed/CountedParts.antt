-- Computed: sizes of parts of types, counted up to the limits.
use Rattle.std.specs.Prelude.{ℕ, List, [], ◌∷◌, Option, Some, None, slice_get}
use Rattle.mono_syntax.specs.Ty.{Ty, Tys, no_tys, more_tys, Fields, no_fields, more_fields}
use Rattle.mono_tree.specs.computed.CountedSizes.{measured, joined}
use Rattle.mono_tree.specs.declared.size.Size.{Size}

-- some parts and the types behind them
abbrev pub sizes_onto : Size → Tys → Size
sizes_onto s no_tys = s
sizes_onto s (more_tys t ts) = sizes_onto (joined s (measured t)) ts

-- some parts and the types of fields behind them
abbrev pub fields_onto : Size → Fields → Size
fields_onto s no_fields = s
fields_onto s (more_fields n t fs) = fields_onto (joined s (measured t)) fs

-- some parts and one more, where it is there
abbrev pub size_more : Size → Option Ty → Size
size_more s None = s
size_more s (Some t) = joined s (measured t)

-- some parts and the types at some places behind them
abbrev pub sizes_at : List Ty → Size → List ℕ → Size
sizes_at ts s [] = s
sizes_at ts s (n ∷ ns) = sizes_at ts (size_more s (slice_get ts n)) ns
