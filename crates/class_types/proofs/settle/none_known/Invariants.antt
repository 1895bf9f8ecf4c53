use Rattle.std.proofs.Common.{◌≡◌, ◌≤◌, ◌-◌, None, replicate, length}
use Rattle.class_types.proofs.settle.none_known.Given as goal

abbrev pub invariant-loop-own : goal.invariant-loop-own
invariant-loop-own l = record { same : l.own ≡ replicate (length l.own) None; within : length l.own ≤ l.count }

abbrev pub decreases-loop-own : goal.decreases-loop-own
decreases-loop-own l = l.count - length l.own
