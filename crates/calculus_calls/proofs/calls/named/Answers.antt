use Rattle.std.specs.Slice.Iter.{iter_rest}
use Rattle.std.specs.Iterator.Adapters.{zip_first, zip_second}
use Rattle.std.proofs.lemmas.Slice.Zip.{either_empty_from_Zip}
use Rattle.calculus_data.proofs.Pushed.{named_over}
use Rattle.calculus_calls.proofs.calls.named.Goals as goal

pub returns : goal.returns
returns c =
    named_over c.loop-param.given (iter_rest (zip_first c.loop-param.param-iterator)) (iter_rest (zip_second c.loop-param.param-iterator)) c.args.params.now c.args.args.now
    (either_empty_from_Zip c.loop-param.param-iterator c.next.new.self c.next.result c.in-None.is c.next.ensures.steps) c.loop-param.invariant
