-- Computed: a table of names, as its clauses see it.
use Rattle.std.specs.Prelude.{ℕ, List, unwrap_or}
use Rattle.std.specs.BTreeMap.{BTreeMap, get_by}
use Rattle.std.specs.Cmp.Lexicographic.{slice_cmp}
use Rattle.std.specs.Ordering.{nat_cmp}
use Rattle.std.specs.declared.vec.Vec.{Vec}
use Rattle.name_scope.specs.declared.roles.Roles.{Roles}
use Rattle.name_scope.specs.computed.NameRoles.{no_roles}

-- what a name is by the table
abbrev pub roles_in : {Y : Type 0} → BTreeMap (Vec ℕ Y) Roles → List ℕ → Roles
roles_in m x = unwrap_or (get_by (λ k. slice_cmp nat_cmp x k.items) m) no_roles
