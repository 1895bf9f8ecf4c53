use Rattle.std.proofs.Common.{◌≡◌, ◌++◌, drop}
use Rattle.std.specs.Prelude.{flat_map}
use Rattle.script_rules.specs.Occurrences.{in_param}
use Rattle.name_scope.proofs.bodies.put_params.Given as goal

-- what is put, and what is left behind it
abbrev pub invariant-loop-p : goal.invariant-loop-p
invariant-loop-p l = l.list ++ flat_map in_param (drop l.p-index l.params) ≡ l.initial.list ++ flat_map in_param l.params
