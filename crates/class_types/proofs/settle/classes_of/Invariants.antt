use Rattle.std.proofs.Common.{◌≡◌, ◌++◌, map, drop}
use Rattle.script_rules.specs.Definitions.{classes_of}
use Rattle.class_types.proofs.settle.classes_of.Given as goal

abbrev pub invariant-loop-item : goal.invariant-loop-item
invariant-loop-item l = map (λ d. d.now) l.classes.items ++ classes_of (drop l.item-index l.items) ≡ classes_of l.items
