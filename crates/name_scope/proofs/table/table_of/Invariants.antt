use Rattle.std.proofs.Common.{◌≡◌, ℕ, List, take}
use Rattle.name_scope.specs.computed.NameRoles.{roles_of}
use Rattle.name_scope.specs.computed.Table.{roles_in}
use Rattle.name_scope.proofs.table.table_of.Given as goal

abbrev pub invariant-loop-o : goal.invariant-loop-o
invariant-loop-o l = (x : List ℕ) → roles_in l.table.roles x ≡ roles_of (take l.o-index l.all) x
