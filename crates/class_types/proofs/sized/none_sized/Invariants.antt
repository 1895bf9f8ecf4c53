use Rattle.std.proofs.Common.{◌≡◌, ◌≤◌, ◌-◌, None, replicate, vec_len}
use Rattle.class_types.proofs.sized.none_sized.Given as goal

abbrev pub invariant-loop-own : goal.invariant-loop-own
invariant-loop-own l = record { same : l.own.items ≡ replicate (vec_len l.own) None; within : vec_len l.own ≤ l.count }

abbrev pub decreases-loop-own : goal.decreases-loop-own
decreases-loop-own l = l.count - vec_len l.own
