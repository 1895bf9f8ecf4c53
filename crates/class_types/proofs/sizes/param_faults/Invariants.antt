use Rattle.std.proofs.Common.{◌≡◌, None, drop}
use Rattle.class_types.specs.computed.FoundFaults.{found, part_faults}
use Rattle.class_types.specs.computed.Made.{look}
use Rattle.script_rules.specs.SourceParts.{param_parts}
use Rattle.class_types.proofs.sizes.param_faults.Given as goal

abbrev pub invariant-loop-param : goal.invariant-loop-param
invariant-loop-param l =
    let faults = part_faults (look l.sizes.names l.sizes.own.items None) in
    found faults l.so_far (param_parts (drop l.param-index l.params)) ≡ found faults l.initial.so_far (param_parts l.params)
