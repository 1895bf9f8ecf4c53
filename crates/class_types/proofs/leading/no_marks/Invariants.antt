use Rattle.std.proofs.Common.{◌≡◌, ◌≤◌, ◌-◌, false, replicate, vec_len}
use Rattle.class_types.proofs.leading.no_marks.Given as goal

abbrev pub invariant-loop-marks : goal.invariant-loop-marks
invariant-loop-marks l = record { same : l.marks.items ≡ replicate (vec_len l.marks) false; within : vec_len l.marks ≤ l.count }

abbrev pub decreases-loop-marks : goal.decreases-loop-marks
decreases-loop-marks l = l.count - vec_len l.marks
