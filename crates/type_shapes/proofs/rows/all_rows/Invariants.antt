use Rattle.std.proofs.Common.{◌≡◌, ◌≤◌, ◌-◌, ℕ, length, List}
use Rattle.mono_syntax.specs.Ty.{Ty}
use Rattle.type_shapes.specs.Shows.{AreMeets}
use Rattle.mono_tree.specs.ClosedList.{first_types, after_rows, with_row}
use Rattle.type_shapes.specs.Limits.{IsWithinLimits}
use Rattle.type_shapes.specs.Numbered.{IsNumbered}
use Rattle.type_shapes.proofs.rows.all_rows.Given as goal

abbrev pub invariant-loop-i : goal.invariant-loop-i
invariant-loop-i l = record {
  numbered : IsNumbered l.names l.set.keys l.shapes.keys;
  fine : IsWithinLimits l.set.keys;
  so_far : (types : List Ty) → l.initial.set.keys ≡ first_types types → l.set.keys ≡ after_rows types l.i;
  still : ((n : ℕ) → with_row l.initial.set.keys n ≡ l.initial.set.keys) → l.set.keys ≡ l.initial.set.keys;
  even : length l.rows.items ≡ l.i;
  within : l.i ≤ length l.set.keys;
  right : AreMeets l.set.keys l.rows.items l.i;
}

abbrev pub decreases-loop-i : goal.decreases-loop-i
decreases-loop-i l = 4096 - l.i
