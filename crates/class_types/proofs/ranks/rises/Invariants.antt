use Rattle.std.proofs.Common.{◌≡◌, map, drop}
use Rattle.class_types.specs.computed.Ranks.{rises}
use Rattle.class_types.proofs.ranks.rises.Given as goal

abbrev pub invariant-loop-word : goal.invariant-loop-word
invariant-loop-word l = rises l.names l.ranks l.name (map (λ w. w.now) (drop l.word-index l.words)) ≡ rises l.names l.ranks l.name (map (λ w. w.now) l.words)
