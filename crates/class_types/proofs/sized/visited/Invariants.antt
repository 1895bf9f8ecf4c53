use Rattle.std.proofs.Common.{◌≡◌, map, drop}
use Rattle.class_types.specs.computed.Measured.{class_size_by}
use Rattle.class_types.specs.computed.Rounds.{visited}
use Rattle.class_types.proofs.sized.visited.Given as goal

abbrev pub invariant-loop-at : goal.invariant-loop-at
invariant-loop-at l = visited class_size_by l.names l.stray (map (λ d. d.now) l.classes) (drop l.at-index l.order) l.own.items ≡ visited class_size_by l.names l.stray (map (λ d. d.now) l.classes) l.order l.initial.own.items
