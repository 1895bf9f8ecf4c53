use Rattle.std.proofs.Common.{◌≡◌, take, map}
use Rattle.cast_insert.proofs.functions.param_names.Given as goal

abbrev pub invariant-loop-param : goal.invariant-loop-param
invariant-loop-param l = l.names ≡ map (λ q. q.name.text) (take l.param-index l.params)
