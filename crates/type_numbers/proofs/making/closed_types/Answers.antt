use Rattle.std.proofs.Common.{◌≡◌, ◌∙◌, List, sym, subst}
use Rattle.mono_syntax.specs.Ty.{Ty}
use Rattle.mono_tree.specs.ClosedList.{AreDistinct, IsOrdered, with_row}
use Rattle.mono_tree.proofs.ClosedMembers.{rows_distinct}
use Rattle.mono_tree.proofs.ClosedOrder.{ordered_rows}
use Rattle.mono_tree.proofs.ClosedStill.{still}
use Rattle.type_numbers.proofs.making.closed_types.Goals as goal

pub with_shapes-requires-clause-distinct : goal.with_shapes-requires-clause-distinct
with_shapes-requires-clause-distinct c =
    let (given, p) = c.requires.closed in
    subst AreDistinct p.made (rows_distinct given p.rows)

pub with_shapes-requires-clause-ordered : goal.with_shapes-requires-clause-ordered
with_shapes-requires-clause-ordered c =
    let (given, p) = c.requires.closed in
    subst IsOrdered p.made (ordered_rows given p.rows)

pub returns-clause-types : goal.returns-clause-types
returns-clause-types c =
    let (given, p) = c.requires.closed in
    let same = c.in_ok-shaped.ensures.types in
    c.in_ok-rows.ensures.still (λ n. subst (λ (l : List Ty). with_row l n ≡ l) (sym same) (still given c.args.types.now p n)) ∙ same
