use Rattle.std.proofs.Common.{◌≡◌, ◌+◌, ◌*◌, drop}
use Rattle.mono_syntax.specs.Ty.{ty_size, tys_size, fields_size}
use Rattle.mono_syntax.specs.TyView.{tys, fields}
use Rattle.mono_tree.specs.computed.CountedSizes.{nothing}
use Rattle.type_shapes.specs.computed.CountedParts.{sizes_onto, fields_onto}
use Rattle.type_shapes.proofs.measure.+measure.Given as goal

abbrev pub decreases-size_of : goal.decreases-size_of
decreases-size_of l = 2 * ty_size l.ty.now

abbrev pub decreases-sizes_of : goal.decreases-sizes_of
decreases-sizes_of l = 2 * tys_size (tys l.types.now) + 1

abbrev pub decreases-sizes_of_fields : goal.decreases-sizes_of_fields
decreases-sizes_of_fields l = 2 * fields_size (fields l.members.now) + 1

abbrev pub invariant-sizes_of-loop-ty : goal.invariant-sizes_of-loop-ty
invariant-sizes_of-loop-ty l = sizes_onto l.parts (tys (drop l.ty-index l.types)) ≡ sizes_onto nothing (tys l.types)

abbrev pub invariant-sizes_of_fields-loop-member : goal.invariant-sizes_of_fields-loop-member
invariant-sizes_of_fields-loop-member l = fields_onto l.parts (fields (drop l.member-index l.members)) ≡ fields_onto nothing (fields l.members)
