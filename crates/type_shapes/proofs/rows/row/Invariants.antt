use Rattle.std.proofs.Common.{◌≡◌, length}
use Rattle.mono_tree.specs.ClosedList.{with_row}
use Rattle.type_shapes.specs.Limits.{IsWithinLimits}
use Rattle.type_shapes.specs.Numbered.{IsNumbered, IsRow}
use Rattle.mono_tree.proofs.ClosedPuts.{IsBeginning}
use Rattle.type_shapes.proofs.RowTurns.{row_left}
use Rattle.type_shapes.proofs.rows.row.Given as goal

abbrev pub invariant-loop-j : goal.invariant-loop-j
invariant-loop-j l = record {
  numbered : IsNumbered l.names l.set.keys l.shapes.keys;
  fine : IsWithinLimits l.set.keys;
  begins : IsBeginning l.initial.set.keys l.set.keys;
  same : row_left l.initial.set.keys l.set.keys l.i l.j ≡ with_row l.initial.set.keys l.i;
  even : length l.made ≡ l.j;
  named : IsRow l.set.keys l.made l.i l.j;
}
