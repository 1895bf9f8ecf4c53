use Rattle.std.proofs.Common.{◌≡◌, drop}
use Rattle.mono_tree.specs.ClosedList.{put_all, each_parts_first}
use Rattle.type_shapes.specs.Limits.{IsWithinLimits}
use Rattle.type_shapes.specs.Numbered.{IsNumbered}
use Rattle.meet_closure.proofs.closing.add_each.Given as goal

abbrev pub invariant-loop-ty : goal.invariant-loop-ty
invariant-loop-ty l = record {
  same : put_all l.set.keys (each_parts_first (drop l.ty-index l.types)) ≡ put_all l.initial.set.keys (each_parts_first l.types);
  numbered : IsNumbered l.names.items l.set.keys l.shapes.keys;
  fine : IsWithinLimits l.set.keys;
}
