use Rattle.std.proofs.Common.{◌≡◌, ◌++◌, map, drop}
use Rattle.script_rules.specs.Definitions.{functions_of}
use Rattle.program_code.proofs.classes.function_names.Given as goal

abbrev pub invariant-loop-item : goal.invariant-loop-item
invariant-loop-item l = l.names ++ map (λ d. d.name.text) (functions_of (drop l.item-index l.items)) ≡ map (λ d. d.name.text) (functions_of l.items)
