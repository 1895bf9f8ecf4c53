use Rattle.std.proofs.Common.{◌≡◌}
use Rattle.std.specs.Slice.Iter.{iter_rest}
use Rattle.std.specs.Iterator.Adapters.{zip_first, zip_second}
use Rattle.mono_tree.proofs.MeetTurns.{append_fields}
use Rattle.type_shapes.specs.computed.MadeTypes.{retyped}
use Rattle.type_shapes.proofs.made.object_type.Given as goal

abbrev pub invariant-loop-name : goal.invariant-loop-name
invariant-loop-name l =
    append_fields l.made (retyped (iter_rest (zip_first l.name-iterator)) (iter_rest (zip_second l.name-iterator))) ≡ retyped l.names l.types
