use Rattle.std.proofs.Common.{◌≡◌, drop}
use Rattle.std.specs.Option.{option_map}
use Rattle.type_shapes.specs.computed.MadeTypes.{types_at}
use Rattle.type_shapes.proofs.MadeTurns.{made_first}
use Rattle.type_shapes.proofs.made.types_at.Given as goal

abbrev pub invariant-loop-part : goal.invariant-loop-part
invariant-loop-part l = option_map (made_first l.made) (types_at l.set.keys (drop l.part-index l.parts)) ≡ types_at l.set.keys l.parts
