-- Computed: fields in the byte order of their names, one put after the other, the last first.
use Rattle.std.specs.Prelude.{ℕ, ◌+◌, List, [], ◌∷◌, if◌then◌else◌}
use Rattle.std.specs.Ordering.{nat_cmp, is_gt}
use Rattle.std.specs.Cmp.Lexicographic.{slice_cmp}
use Rattle.mono_syntax.specs.declared.tree.Field.{Field}
use Rattle.mono_syntax.specs.Ty.{Fields, no_fields, more_fields}
use Rattle.script_rules.specs.Writes.{put_field}

-- how many of the fields, from the front on, stand before this name
abbrev pub place_for : List ℕ → List Field → ℕ
place_for n [] = 0
place_for n (f ∷ fs) = if is_gt (slice_cmp nat_cmp n f.name) then place_for n fs + 1 else 0

abbrev pub order_onto : Fields → Fields → Fields
order_onto no_fields sorted = sorted
order_onto (more_fields n t fs) sorted = put_field n t (order_onto fs sorted)
