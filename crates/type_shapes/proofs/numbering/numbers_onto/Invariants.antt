use Rattle.std.proofs.Common.{◌++◌, List, take}
use Rattle.mono_syntax.specs.Ty.{Ty}
use Rattle.type_shapes.specs.Shows.{AreNamed}
use Rattle.type_shapes.proofs.numbering.numbers_onto.Given as goal

abbrev pub invariant-loop-ty : goal.invariant-loop-ty
invariant-loop-ty l = (us : List Ty) → AreNamed l.set.keys l.initial.made us → AreNamed l.set.keys l.made (us ++ take l.ty-index l.types)
