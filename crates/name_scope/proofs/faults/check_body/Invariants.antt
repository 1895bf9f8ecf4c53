use Rattle.std.proofs.Common.{◌≡◌, ℕ, List, take, drop}
use Rattle.name_scope.specs.computed.NameRoles.{roles_of}
use Rattle.name_scope.specs.computed.FoundFaults.{faults_behind, body_faults, first_of_all}
use Rattle.name_scope.specs.computed.Table.{roles_in}
use Rattle.name_scope.proofs.faults.check_body.Given as goal

-- the faults that are left, behind those that were taken in
abbrev pub invariant-loop-o : goal.invariant-loop-o
invariant-loop-o l = record {
  left : first_of_all l.found (faults_behind (roles_in l.script.roles) (roles_of l.body) (take l.o-index l.body) (drop l.o-index l.body))
      ≡ first_of_all l.initial.found (body_faults (roles_in l.script.roles) l.body);
  seen : (x : List ℕ) → roles_in l.before.roles x ≡ roles_of (take l.o-index l.body) x;
}
