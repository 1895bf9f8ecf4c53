use Rattle.std.proofs.Common.{◌≡◌, ◌+◌, ◌≤◌, drop}
use Rattle.class_types.specs.computed.Leading.{unmarked}
use Rattle.class_types.proofs.leading.unmarked.Given as goal

abbrev pub invariant-loop-mark : goal.invariant-loop-mark
invariant-loop-mark l = record {
  within : l.count ≤ l.mark-index;
  same : l.count + unmarked (drop l.mark-index l.marks) ≡ unmarked l.marks;
}
