use Rattle.std.proofs.Common.{sym, ◌∙◌}
use Rattle.calculus_data.proofs.Pushed.{blamed-none}
use Rattle.calculus_cells.proofs.cells.blamed.Goals as goal

pub loop-at-preserved : goal.loop-at-preserved
loop-at-preserved c =
    sym (blamed-none c.args.work.now c.loop-at.at c.in-Some.item.now c.in-Some.ensures c.in_default-owner_site.ensures) ∙ c.loop-at.invariant
