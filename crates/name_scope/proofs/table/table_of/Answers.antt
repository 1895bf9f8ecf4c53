use Rattle.name_scope.specs.computed.Table.{roles_in}
use Rattle.name_scope.proofs.Tables.{noted_more}
use Rattle.name_scope.proofs.table.table_of.Goals as goal

pub loop-o-preserved : goal.loop-o-preserved
loop-o-preserved c =
    noted_more (roles_in c.loop-o.table.roles) (roles_in c.note.new.self.roles) c.args.all.now c.loop-o.o-index c.o-item.result c.loop-o-test.true c.o-item.is
    c.in_ok-note.ensures c.loop-o.invariant
