use Rattle.std.proofs.Common.{take}
use Rattle.mono_tree.specs.ClosedList.{AreDistinct}
use Rattle.class_types.specs.Known.{Begins}
use Rattle.class_types.specs.Placed.{StandAt}
use Rattle.class_types.proofs.place.all_placed.Given as goal

abbrev pub invariant-loop-each : goal.invariant-loop-each
invariant-loop-each l = record {
  stand : StandAt l.types (take l.each-index l.own) l.at;
  begins : Begins l.initial.types l.types;
  distinct : AreDistinct l.types;
}
