use Rattle.std.proofs.Common.{◌≡◌, ◌≤◌, length, map}
use Rattle.class_types.specs.computed.Leading.{unmarked}
use Rattle.class_types.proofs.LeadingLaws.{AreSound}
use Rattle.class_types.proofs.leading.leading.Given as goal

abbrev pub invariant-loop-left : goal.invariant-loop-left
invariant-loop-left l = record {
  even : length l.marks.items ≡ length (map (λ d. d.now) l.classes);
  sound : AreSound (map (λ d. d.now) l.classes) l.target l.marks.items;
  left : unmarked l.marks.items ≤ l.left;
}

abbrev pub decreases-loop-left : goal.decreases-loop-left
decreases-loop-left l = l.left
