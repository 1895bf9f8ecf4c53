use Rattle.std.proofs.Common.{◌≡◌, map, drop}
use Rattle.class_types.specs.computed.Ranks.{may_be_first}
use Rattle.class_types.proofs.ranks.may_be_first.Given as goal

abbrev pub invariant-loop-word : goal.invariant-loop-word
invariant-loop-word l = may_be_first l.names l.ranks l.name l.so_far (map (λ w. w.now) (drop l.word-index l.words)) ≡ may_be_first l.names l.ranks l.name l.so_far (map (λ w. w.now) l.words)
