use Rattle.std.proofs.Common.{◌≡◌, ◌≤◌, None, length, map}
use Rattle.class_types.specs.computed.Made.{class_by}
use Rattle.class_types.specs.computed.Rounds.{unknown}
use Rattle.class_types.proofs.RoundLaws.{IsPartial}
use Rattle.class_types.proofs.settle.settled.Given as goal

abbrev pub invariant-loop-own : goal.invariant-loop-own
invariant-loop-own l = record {
  even : length l.own ≡ length (map (λ d. d.now) l.classes);
  each : IsPartial class_by l.names None (map (λ d. d.now) l.classes) l.own;
  left : unknown l.own ≤ l.left;
}

abbrev pub decreases-loop-own : goal.decreases-loop-own
decreases-loop-own l = l.left
