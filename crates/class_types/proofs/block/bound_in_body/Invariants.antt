use Rattle.std.proofs.Common.{◌≡◌, ◌++◌, map, drop}
use Rattle.script_rules.specs.SourceParts.{body_bound}
use Rattle.class_types.proofs.block.bound_in_body.Given as goal

abbrev pub invariant-loop-s : goal.invariant-loop-s
invariant-loop-s l = map (λ w. w.now) l.words.items ++ body_bound (drop l.s-index l.body) ≡ map (λ w. w.now) l.initial.words.items ++ body_bound l.body
