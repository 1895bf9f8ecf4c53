use Rattle.std.proofs.Common.{◌≡◌, map, drop}
use Rattle.class_types.specs.computed.Measured.{class_size_by}
use Rattle.class_types.specs.computed.Rounds.{round}
use Rattle.class_types.proofs.sized.round.Given as goal

abbrev pub invariant-loop-at : goal.invariant-loop-at
invariant-loop-at l = round class_size_by l.names l.stray (map (λ d. d.now) (drop l.at l.classes)) l.own.items l.at ≡ round class_size_by l.names l.stray (map (λ d. d.now) l.classes) l.initial.own.items 0
