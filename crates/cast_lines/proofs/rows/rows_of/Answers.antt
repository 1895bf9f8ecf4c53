use Rattle.std.proofs.Common.{rules}
use Rattle.cast_lines.proofs.RowLaws.{rows_are}
use Rattle.cast_lines.proofs.rows.rows_of.Goals as goal

pub returns : goal.returns
returns c = rows_are c.args.sites.now c.in_ok-rows.rows.items c.sort_unstable.new.self.items (search rules) c.sort_unstable.ensures.permutation c.sort_unstable.ensures.sorted
