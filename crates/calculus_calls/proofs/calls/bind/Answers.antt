use Rattle.std.specs.Slice.Iter.{iter_rest}
use Rattle.std.specs.Iterator.Adapters.{zip_first, zip_second}
use Rattle.std.proofs.lemmas.Slice.Zip.{either_empty_from_Zip}
use Rattle.calculus_data.proofs.Pushed.{bind_over}
use Rattle.calculus_calls.proofs.calls.bind.Goals as goal

pub returns : goal.returns
returns c =
    bind_over c.loop-param.names (iter_rest (zip_first c.loop-param.param-iterator)) (iter_rest (zip_second c.loop-param.param-iterator)) c.args.names.now c.args.params.now c.args.args.now
    (either_empty_from_Zip c.loop-param.param-iterator c.next.new.self c.next.result c.in-None.is c.next.ensures.steps) c.loop-param.invariant
