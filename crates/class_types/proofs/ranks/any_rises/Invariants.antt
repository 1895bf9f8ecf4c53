use Rattle.std.proofs.Common.{map}
use Rattle.class_types.proofs.RankLaws.{FallBelow}
use Rattle.class_types.proofs.ranks.any_rises.Given as goal

abbrev pub invariant-loop-at : goal.invariant-loop-at
invariant-loop-at l = FallBelow (map (λ d. d.now) l.classes) l.ranks l.at
