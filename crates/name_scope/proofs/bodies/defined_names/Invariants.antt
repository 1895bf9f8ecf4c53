use Rattle.std.proofs.Common.{◌≡◌, ◌++◌, drop}
use Rattle.std.specs.Prelude.{flat_map}
use Rattle.script_rules.specs.Occurrences.{defined_by}
use Rattle.name_scope.proofs.bodies.defined_names.Given as goal

-- what is put, and what is left behind it
abbrev pub invariant-loop-item : goal.invariant-loop-item
invariant-loop-item l = l.list ++ flat_map defined_by (drop l.item-index l.items) ≡ flat_map defined_by l.items
