use Rattle.std.proofs.Common.{◌≤◌, map}
use Rattle.class_types.specs.computed.Rounds.{unknown}
use Rattle.class_types.proofs.SizedLaws.{ArePartlyMeasured}
use Rattle.class_types.proofs.sized.sized.Given as goal

abbrev pub invariant-loop-left : goal.invariant-loop-left
invariant-loop-left l = record {
  sizes : ArePartlyMeasured l.names (map (λ d. d.now) l.classes) l.stray l.own.items;
  left : unknown l.own.items ≤ l.left;
}

abbrev pub decreases-loop-left : goal.decreases-loop-left
decreases-loop-left l = l.left
