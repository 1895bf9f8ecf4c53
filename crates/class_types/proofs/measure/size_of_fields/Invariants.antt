use Rattle.std.proofs.Common.{◌≡◌, drop}
use Rattle.class_types.specs.computed.Made.{look}
use Rattle.mono_tree.specs.computed.CountedSizes.{nothing}
use Rattle.class_types.specs.computed.Measured.{fields_onto}
use Rattle.class_types.proofs.measure.size_of_fields.Given as goal

abbrev pub invariant-loop-field : goal.invariant-loop-field
invariant-loop-field l =
    let named = look l.names l.own l.stray in
    fields_onto named l.parts (drop l.field-index l.list) ≡ fields_onto named nothing l.list
