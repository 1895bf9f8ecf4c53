use Rattle.std.proofs.Common.{◌≡◌, ◌+◌, ◌≤◌, drop}
use Rattle.class_types.specs.computed.Rounds.{unknown}
use Rattle.class_types.proofs.settle.unknown.Given as goal

abbrev pub invariant-loop-each : goal.invariant-loop-each
invariant-loop-each g l = record {
  within : l.count ≤ l.each-index;
  same : l.count + unknown (drop l.each-index l.own) ≡ unknown l.own;
}
