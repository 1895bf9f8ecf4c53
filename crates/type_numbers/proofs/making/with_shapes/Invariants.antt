use Rattle.std.proofs.Common.{◌≡◌, take}
use Rattle.type_shapes.specs.Limits.{IsWithinLimits}
use Rattle.type_shapes.specs.Numbered.{IsNumbered}
use Rattle.type_numbers.proofs.making.with_shapes.Given as goal

abbrev pub invariant-loop-ty : goal.invariant-loop-ty
invariant-loop-ty l = record {
  types : l.set.keys ≡ take l.ty-index l.types;
  numbered : IsNumbered l.names.items l.set.keys l.shapes.keys;
  within : IsWithinLimits l.set.keys;
}
