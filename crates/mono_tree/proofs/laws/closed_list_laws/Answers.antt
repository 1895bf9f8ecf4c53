use Rattle.std.proofs.Common.{◌≤◌, List, length, subst, sym, Contains}
use Rattle.mono_syntax.specs.Ty.{Ty}
use Rattle.mono_tree.specs.ClosedList.{AreDistinct, IsOrdered}
use Rattle.mono_tree.proofs.ClosedOrder.{ordered_rows}
use Rattle.mono_tree.proofs.ClosedStill.{still}
use Rattle.mono_tree.proofs.ClosedMembers.{list_exists, one_list, rows_distinct, members_in, set_has}
use Rattle.mono_tree.proofs.laws.closed_list_laws.Goals as goal

pub returns-clause-exists : goal.returns-clause-exists
returns-clause-exists c = list_exists

pub returns-clause-unique : goal.returns-clause-unique
returns-clause-unique c = one_list

pub returns-clause-distinct : goal.returns-clause-distinct
returns-clause-distinct c = λ types l p. subst AreDistinct p.made (rows_distinct types p.rows)

pub returns-clause-members : goal.returns-clause-members
returns-clause-members c = λ types l t p. (
  λ s. subst (λ (x : List Ty). Contains x t) p.made (set_has types p.rows (subst (λ (x : List Ty). length x ≤ p.rows) (sym p.made) p.whole) t s),
  λ h. members_in types p.rows t (subst (λ (x : List Ty). Contains x t) (sym p.made) h),
)

pub returns-clause-ordered : goal.returns-clause-ordered
returns-clause-ordered c = λ types l p. subst IsOrdered p.made (ordered_rows types p.rows)

pub returns-clause-still : goal.returns-clause-still
returns-clause-still c = λ types l n p. still types l p n
