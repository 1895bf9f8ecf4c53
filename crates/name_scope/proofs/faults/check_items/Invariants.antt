use Rattle.std.proofs.Common.{◌≡◌, drop}
use Rattle.std.specs.Prelude.{flat_map}
use Rattle.script_rules.specs.Occurrences.{body_of}
use Rattle.name_scope.specs.computed.FoundFaults.{body_faults, first_of_all}
use Rattle.name_scope.specs.computed.Table.{roles_in}
use Rattle.name_scope.proofs.faults.check_items.Given as goal

-- the faults that are left, behind those that were taken in
abbrev pub invariant-loop-item : goal.invariant-loop-item
invariant-loop-item l =
    let faults = body_faults (roles_in l.script.roles) in
    first_of_all l.found (flat_map faults (flat_map body_of (drop l.item-index l.items))) ≡ first_of_all l.initial.found (flat_map faults (flat_map body_of l.items))
