use Rattle.mono_syntax.specs.Limits.{most_items}
use Rattle.std.proofs.Common.{◌≡◌, ◌+◌, ◌≤◌, min, drop}
use Rattle.cast_machine.specs.Step.{frames_items}
use Rattle.cast_calculus.proofs.config.more_items.Given as goal

abbrev pub invariant-loop-at : goal.invariant-loop-at
invariant-loop-at l = record { same : min (l.items + frames_items (drop l.at l.below)) (most_items + 1) ≡ min (l.first + frames_items l.below) (most_items + 1); within : l.items ≤ most_items + 1 }
