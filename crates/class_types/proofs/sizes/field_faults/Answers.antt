use Rattle.std.proofs.Common.{refl, None, [], ◌∷◌}
use Rattle.class_types.specs.computed.FoundFaults.{found, part_faults}
use Rattle.class_types.specs.computed.Made.{look}
use Rattle.script_rules.specs.SourceParts.{annotation, field_parts}
use Rattle.class_types.proofs.FoundLaws.{found-next}
use Rattle.class_types.proofs.sizes.field_faults.Goals as goal

pub loop-field-preserved : goal.loop-field-preserved
loop-field-preserved c =
    let faults = part_faults (look c.args.sizes.now.names c.args.sizes.now.own.items None) in
    found-next faults (λ f. annotation f.ann ∷ []) field_parts (λ x xs. refl) c.args.list.now c.loop-field.field-index c.field-item.result c.loop-field.so_far c.ann_faults-so_far.result
    (found faults c.args.so_far (field_parts c.args.list.now)) c.loop-field-test.true c.field-item.is c.ann_faults-so_far.ensures c.loop-field.invariant
