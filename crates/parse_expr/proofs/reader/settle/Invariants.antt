use Rattle.std.proofs.Common.{◌≡◌, ◌+◌, ◌≤◌, length}
use Rattle.mono_syntax.specs.Limits.{greatest_weight}
use Rattle.parse_expr.specs.computed.Reading.{settle, IsLight}
use Rattle.parse_expr.proofs.reader.settle.Given as goal

abbrev pub invariant-loop-frame : goal.invariant-loop-frame
invariant-loop-frame l = record {
  same : settle l.left l.stack l.tree l.weight ≡ settle l.fn.left l.fn.held.stack l.fn.held.tree l.fn.held.weight;
  light : IsLight l.stack;
  fits : l.weight + length l.stack ≤ greatest_weight;
}

abbrev pub decreases-loop-frame : goal.decreases-loop-frame
decreases-loop-frame l = length l.stack
