use Rattle.std.proofs.Common.{◌≡◌, length}
use Rattle.std.specs.Option.{option_map}
use Rattle.std.specs.Slice.Iter.{iter_rest}
use Rattle.std.specs.Iterator.Adapters.{zip_first, zip_second}
use Rattle.type_shapes.specs.computed.ByNumber.{met_parts}
use Rattle.type_shapes.proofs.PartTurns.{made_first}
use Rattle.type_shapes.proofs.meets.met_parts.Given as goal

abbrev pub invariant-loop-a : goal.invariant-loop-a
invariant-loop-a l =
    let left = iter_rest (zip_first l.a-iterator) in
    let right = iter_rest (zip_second l.a-iterator) in
    record {
      same : option_map (made_first l.made) (met_parts l.rows left right) ≡ met_parts l.rows l.parts l.others;
      even : length left ≡ length right;
    }
