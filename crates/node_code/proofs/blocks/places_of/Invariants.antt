use Rattle.std.proofs.Common.{◌≡◌, map, take}
use Rattle.node_code.proofs.blocks.places_of.Given as goal

abbrev pub invariant-loop-named : goal.invariant-loop-named
invariant-loop-named l = l.places ≡ map (λ n. n.name) (take l.named-index l.list)
