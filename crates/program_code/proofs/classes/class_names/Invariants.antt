use Rattle.std.proofs.Common.{◌≡◌, ◌++◌, map, drop}
use Rattle.script_rules.specs.Definitions.{classes_of}
use Rattle.program_code.proofs.classes.class_names.Given as goal

abbrev pub invariant-loop-item : goal.invariant-loop-item
invariant-loop-item l = l.names ++ map (λ d. d.name.text) (classes_of (drop l.item-index l.items)) ≡ map (λ d. d.name.text) (classes_of l.items)
