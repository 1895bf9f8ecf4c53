use Rattle.std.proofs.Common.{refl}
use Rattle.class_types.specs.computed.FoundFaults.{found}
use Rattle.class_types.specs.computed.Leading.{word_fault}
use Rattle.script_rules.specs.Recursion.{names_in, field_names}
use Rattle.class_types.proofs.FoundLaws.{found-next}
use Rattle.class_types.proofs.leading.named_in_fields.Goals as goal

pub loop-field-preserved : goal.loop-field-preserved
loop-field-preserved c =
    let faults = word_fault c.args.names.now c.args.marks.now in
    found-next faults (λ f. names_in f.ann) field_names (λ x xs. refl) c.args.list.now c.loop-field.field-index c.field-item.result c.loop-field.so_far c.named-so_far.result
    (found faults c.args.so_far (field_names c.args.list.now)) c.loop-field-test.true c.field-item.is c.named-so_far.ensures c.loop-field.invariant
