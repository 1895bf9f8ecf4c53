use Rattle.std.proofs.Common.{◌≡◌}
use Rattle.std.specs.Slice.Iter.{iter_rest}
use Rattle.std.specs.Iterator.Adapters.{zip_first, zip_second}
use Rattle.cast_nodes.specs.computed.Placed.{put_casts}
use Rattle.cast_nodes.proofs.slots.put_casts.Given as goal

abbrev pub invariant-loop-part : goal.invariant-loop-part
invariant-loop-part l = put_casts l.slots (iter_rest (zip_first l.part-iterator)) (iter_rest (zip_second l.part-iterator)) ≡ put_casts l.initial.slots l.parts l.asks
