use Rattle.std.proofs.Common.{◌≤◌, List, length, sym, subst}
use Rattle.std.specs.Prelude.{Contains}
use Rattle.mono_syntax.specs.Ty.{Ty}
use Rattle.mono_tree.specs.ClosedList.{in_given}
use Rattle.mono_tree.proofs.ClosedMembers.{set_has}
use Rattle.strengthen.proofs.tests.table_of.Goals as goal

pub new-requires-clause-classes : goal.new-requires-clause-classes
new-requires-clause-classes c = λ t h.
    let p = c.in-Ok.ensures.closed in
    let whole = subst (λ (l : List Ty). length l ≤ p.rows) (sym p.made) p.whole in
    subst (λ (l : List Ty). Contains l t) p.made (set_has c.args.classes.now p.rows whole t (in_given t h))
