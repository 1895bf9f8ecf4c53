use Rattle.std.proofs.Common.{◌≡◌, drop}
use Rattle.mono_tree.specs.computed.CountedSizes.{nothing}
use Rattle.type_shapes.specs.computed.CountedParts.{sizes_at}
use Rattle.type_shapes.proofs.measure.sizes_at.Given as goal

abbrev pub invariant-loop-part : goal.invariant-loop-part
invariant-loop-part l = sizes_at l.set.keys l.size (drop l.part-index l.parts) ≡ sizes_at l.set.keys nothing l.parts
