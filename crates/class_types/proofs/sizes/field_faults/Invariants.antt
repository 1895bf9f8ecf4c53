use Rattle.std.proofs.Common.{◌≡◌, None, drop}
use Rattle.class_types.specs.computed.FoundFaults.{found, part_faults}
use Rattle.class_types.specs.computed.Made.{look}
use Rattle.script_rules.specs.SourceParts.{field_parts}
use Rattle.class_types.proofs.sizes.field_faults.Given as goal

abbrev pub invariant-loop-field : goal.invariant-loop-field
invariant-loop-field l =
    let faults = part_faults (look l.sizes.names l.sizes.own.items None) in
    found faults l.so_far (field_parts (drop l.field-index l.list)) ≡ found faults l.initial.so_far (field_parts l.list)
