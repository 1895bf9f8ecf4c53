use Rattle.std.proofs.Common.{◌≡◌, ℕ, List, cond, subst}
use Rattle.std.specs.Prelude.{bytes_eq}
use Rattle.name_scope.specs.computed.NameRoles.{alone, together}
use Rattle.name_scope.specs.computed.Table.{roles_in}
use Rattle.name_scope.proofs.Tables.{noted_in}
use Rattle.name_scope.proofs.table.NameTable.note.Goals as goal

pub returns : goal.returns
returns c = λ x.
    let m = c.args.self.now.roles in
    let a = alone c.args.o.now.role c.args.o.now.place in
    let key : c.in_ok-key.key.items ≡ c.args.o.now.text = cc (c.in_ok-key.ensures.items, c.as_slice.ensures) in
    let made : c.together-roles.result ≡ together (roles_in m c.in_ok-key.key.items) a = cc (key, c.roles.ensures, c.alone.ensures, c.together-roles.ensures) in
    let e = noted_in m c.insert.new.self c.in_ok-key.key.items c.together-roles.result a made c.in_ok-insert.ensures.updates x in
    subst (λ (bs : List ℕ). roles_in c.insert.new.self x ≡ cond (bytes_eq bs x) (together (roles_in m x) a) (roles_in m x)) key e
