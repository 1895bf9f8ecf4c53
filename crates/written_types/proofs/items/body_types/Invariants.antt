use Rattle.std.proofs.Common.{◌≡◌, drop}
use Rattle.script_rules.specs.SourceParts.{body_parts}
use Rattle.written_types.specs.computed.TypesOnto.{types_onto}
use Rattle.written_types.proofs.items.body_types.Given as goal

abbrev pub invariant-loop-s : goal.invariant-loop-s
invariant-loop-s l =
    types_onto l.classes l.done (body_parts (drop l.s-index l.body)) ≡ types_onto l.classes l.initial.done (body_parts l.body)
