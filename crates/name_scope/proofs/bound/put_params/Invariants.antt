use Rattle.std.proofs.Common.{◌≡◌, ◌++◌, drop}
use Rattle.std.specs.Prelude.{map}
use Rattle.script_rules.specs.BlockNames.{of_param}
use Rattle.name_scope.specs.computed.Bound.{target_of}
use Rattle.name_scope.proofs.bound.put_params.Given as goal

-- what is put, and what is left behind it
abbrev pub invariant-loop-p : goal.invariant-loop-p
invariant-loop-p l = record {
  targets : map target_of l.list.targets.items ++ map of_param (drop l.p-index l.params) ≡ map target_of l.initial.list.targets.items ++ map of_param l.params;
  threads : l.list.threads ≡ l.initial.list.threads;
}
