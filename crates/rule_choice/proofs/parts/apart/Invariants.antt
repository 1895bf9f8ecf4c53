use Rattle.std.proofs.Common.{◌≡◌}
use Rattle.std.specs.Slice.Iter.{iter_rest}
use Rattle.std.specs.Iterator.Adapters.{zip_first, zip_second}
use Rattle.rule_choice.specs.computed.Apart.{first_apart}
use Rattle.rule_choice.proofs.parts.apart.Given as goal

abbrev pub invariant-loop-part : goal.invariant-loop-part
invariant-loop-part l = first_apart (iter_rest (zip_first l.part-iterator)) (iter_rest (zip_second l.part-iterator)) ≡ first_apart l.parts l.asks
