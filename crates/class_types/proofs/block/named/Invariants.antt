use Rattle.std.proofs.Common.{◌≡◌, ◌++◌, map, drop}
use Rattle.class_types.proofs.block.named.Given as goal

abbrev pub invariant-loop-param : goal.invariant-loop-param
invariant-loop-param l = map (λ w. w.now) l.words.items ++ map (λ p. p.name) (drop l.param-index l.params) ≡ map (λ w. w.now) l.initial.words.items ++ map (λ p. p.name) l.params
