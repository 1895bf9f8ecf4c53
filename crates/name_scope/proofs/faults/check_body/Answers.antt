use Rattle.std.proofs.Common.{◌∙◌}
use Rattle.name_scope.specs.computed.NameRoles.{roles_of}
use Rattle.name_scope.specs.computed.Table.{roles_in}
use Rattle.name_scope.proofs.Tables.{noted_more}
use Rattle.name_scope.proofs.FirstOfAll.{one_taken}
use Rattle.name_scope.proofs.faults.check_body.Goals as goal

pub loop-o-preserved : goal.loop-o-preserved
loop-o-preserved c =
    let o = c.o-item.result in
    record {
      left = one_taken (roles_in c.args.script.now.roles) (roles_of c.args.body.now) c.args.body.now c.loop-o.o-index o c.loop-o-test.true c.o-item.is
          c.loop-o.found c.check_one-found.result c.roles-there.result c.roles-so_far.result c.roles.result c.check_one-found.ensures
          (c.roles-there.ensures ∙ c.in_ok-whole.ensures o.text)
          (c.roles-so_far.ensures ∙ c.loop-o.invariant.seen o.text)
          c.roles.ensures
          ∙ c.loop-o.invariant.left;
      seen = noted_more (roles_in c.loop-o.before.roles) (roles_in c.note.new.self.roles) c.args.body.now c.loop-o.o-index o c.loop-o-test.true c.o-item.is
          c.in_ok-note.ensures c.loop-o.invariant.seen;
    }
