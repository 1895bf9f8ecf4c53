use Rattle.std.proofs.Common.{◌≡◌, ◌++◌, map, drop}
use Rattle.script_rules.specs.Definitions.{statements_of}
use Rattle.script_rules.specs.SourceParts.{body_bound}
use Rattle.class_types.proofs.block.bound_in_main.Given as goal

abbrev pub invariant-loop-item : goal.invariant-loop-item
invariant-loop-item l = map (λ w. w.now) l.words.items ++ body_bound (statements_of (drop l.item-index l.items)) ≡ map (λ w. w.now) l.initial.words.items ++ body_bound (statements_of l.items)
