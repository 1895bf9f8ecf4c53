use Rattle.std.proofs.Common.{take}
use Rattle.type_shapes.specs.Shows.{AreNamed}
use Rattle.type_shapes.proofs.ShapeTurns.{field_types}
use Rattle.type_shapes.proofs.numbering.numbers_of_fields.Given as goal

abbrev pub invariant-loop-member : goal.invariant-loop-member
invariant-loop-member l = AreNamed l.set.keys l.made (field_types (take l.member-index l.members))
