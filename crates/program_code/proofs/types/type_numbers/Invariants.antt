use Rattle.std.proofs.Common.{take}
use Rattle.mono_tree.specs.TypeNumbers.{Names}
use Rattle.node_code.specs.Places.{Each}
use Rattle.program_code.proofs.types.type_numbers.Given as goal

abbrev pub invariant-loop-ty : goal.invariant-loop-ty
invariant-loop-ty l = Each (Names l.table.types) l.numbers (take l.ty-index l.types)
