use Rattle.std.proofs.Common.{◌≡◌, map, take}
use Rattle.mono_tree.specs.Static.{is_static}
use Rattle.type_numbers.proofs.making.statics_of.Given as goal

abbrev pub invariant-loop-ty : goal.invariant-loop-ty
invariant-loop-ty l = l.statics.items ≡ map is_static (take l.ty-index l.types)
