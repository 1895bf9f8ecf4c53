use Rattle.std.proofs.Common.{◌≡◌, None, drop}
use Rattle.class_types.specs.computed.FoundFaults.{found, part_faults}
use Rattle.class_types.specs.computed.Made.{look}
use Rattle.script_rules.specs.SourceParts.{body_parts}
use Rattle.class_types.proofs.sizes.body_faults.Given as goal

abbrev pub invariant-loop-s : goal.invariant-loop-s
invariant-loop-s l =
    let faults = part_faults (look l.sizes.names l.sizes.own.items None) in
    found faults l.so_far (body_parts (drop l.s-index l.body)) ≡ found faults l.initial.so_far (body_parts l.body)
