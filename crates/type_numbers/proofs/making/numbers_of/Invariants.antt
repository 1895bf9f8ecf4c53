use Rattle.std.proofs.Common.{◌≡◌, take, length}
use Rattle.type_numbers.specs.Kept.{AreInRange, types_at}
use Rattle.type_numbers.proofs.making.numbers_of.Given as goal

abbrev pub invariant-loop-ty : goal.invariant-loop-ty
invariant-loop-ty l = record {
  types : types_at l.set.keys l.numbers.items ≡ take l.ty-index l.types;
  range : AreInRange (length l.set.keys) l.numbers.items;
}
