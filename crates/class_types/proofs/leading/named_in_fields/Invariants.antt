use Rattle.std.proofs.Common.{◌≡◌, drop}
use Rattle.class_types.specs.computed.FoundFaults.{found}
use Rattle.class_types.specs.computed.Leading.{word_fault}
use Rattle.script_rules.specs.Recursion.{field_names}
use Rattle.class_types.proofs.leading.named_in_fields.Given as goal

abbrev pub invariant-loop-field : goal.invariant-loop-field
invariant-loop-field l = found (word_fault l.names l.marks) l.so_far (field_names (drop l.field-index l.list)) ≡ found (word_fault l.names l.marks) l.initial.so_far (field_names l.list)
