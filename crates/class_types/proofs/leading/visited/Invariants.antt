use Rattle.std.proofs.Common.{◌≡◌, map, drop}
use Rattle.class_types.specs.computed.Leading.{visit_marks}
use Rattle.class_types.proofs.leading.visited.Given as goal

abbrev pub invariant-loop-at : goal.invariant-loop-at
invariant-loop-at l = visit_marks l.names l.target (map (λ d. d.now) l.classes) (drop l.at-index l.order) l.marks.items ≡ visit_marks l.names l.target (map (λ d. d.now) l.classes) l.order l.initial.marks.items
