use Rattle.std.proofs.Common.{◌≡◌}
use Rattle.std.specs.Slice.Iter.{iter_rest}
use Rattle.std.specs.Iterator.Adapters.{zip_first, zip_second}
use Rattle.cast_machine.specs.Calls.{bind}
use Rattle.calculus_calls.proofs.calls.bind.Given as goal

abbrev pub invariant-loop-param : goal.invariant-loop-param
invariant-loop-param l = bind (iter_rest (zip_first l.param-iterator)) (iter_rest (zip_second l.param-iterator)) l.names ≡ bind l.params l.args l.fn.names
