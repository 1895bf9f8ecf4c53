use Rattle.std.proofs.Common.{◌≡◌, map, drop}
use Rattle.class_types.specs.computed.Leading.{mark_round}
use Rattle.class_types.proofs.leading.mark_round.Given as goal

abbrev pub invariant-loop-at : goal.invariant-loop-at
invariant-loop-at l = mark_round l.names l.target (map (λ d. d.now) (drop l.at l.classes)) l.marks.items l.at ≡ mark_round l.names l.target (map (λ d. d.now) l.classes) l.initial.marks.items 0
