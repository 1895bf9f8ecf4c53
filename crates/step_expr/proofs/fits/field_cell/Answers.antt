use Rattle.std.proofs.Common.{arith}
use Rattle.step_expr.proofs.FieldCells.{cell_below}
use Rattle.step_expr.proofs.fits.field_cell.Goals as goal

pub overflow_add-result : goal.overflow_add-result
overflow_add-result c =
    let below = cell_below c.args.table.now c.args.c c.args.base c.in_ok-place.place c.args.name.now c.requires.class c.requires.cells
    c.in_ok-place.ensures in
    omega (arith, below)
