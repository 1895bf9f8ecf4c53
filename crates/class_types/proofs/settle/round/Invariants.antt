use Rattle.std.proofs.Common.{◌≡◌, None, map, drop}
use Rattle.class_types.specs.computed.Made.{class_by}
use Rattle.class_types.specs.computed.Rounds.{round}
use Rattle.class_types.proofs.settle.round.Given as goal

abbrev pub invariant-loop-at : goal.invariant-loop-at
invariant-loop-at l = round class_by l.names None (map (λ d. d.now) (drop l.at l.classes)) l.own l.at ≡ round class_by l.names None (map (λ d. d.now) l.classes) l.initial.own 0
