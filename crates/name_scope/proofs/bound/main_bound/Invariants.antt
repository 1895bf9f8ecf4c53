use Rattle.std.proofs.Common.{◌≡◌, ◌++◌, drop}
use Rattle.std.specs.Prelude.{map, flat_map}
use Rattle.script_rules.specs.BlockNames.{targets, starts}
use Rattle.script_rules.specs.Definitions.{statements_of}
use Rattle.name_scope.specs.computed.Bound.{target_of, text_of}
use Rattle.name_scope.proofs.bound.main_bound.Given as goal

-- what is put, and what is left behind it
abbrev pub invariant-loop-item : goal.invariant-loop-item
invariant-loop-item l = record {
  targets : map target_of l.list.targets.items ++ flat_map targets (statements_of (drop l.item-index l.items)) ≡ flat_map targets (statements_of l.items);
  threads : l.list.threads ++ map text_of (flat_map starts (statements_of (drop l.item-index l.items))) ≡ map text_of (flat_map starts (statements_of l.items));
}
