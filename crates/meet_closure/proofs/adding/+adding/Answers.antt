use Rattle.std.proofs.Common.{arith}
use Rattle.std.proofs.lemmas.Result.{err_from_is_err_and}
use Rattle.mono_syntax.specs.TyView.{tys}
use Rattle.mono_tree.specs.ClosedList.{parts_first, all_parts_first}
use Rattle.meet_closure.proofs.FaultTurns.{part_there, fault_before, fault_first, fault_at, fault_at_field}
use Rattle.meet_closure.proofs.adding.+adding.Goals as goal

pub add-put_numbered-requires-clause-parts : goal.add-put_numbered-requires-clause-parts
add-put_numbered-requires-clause-parts t c = part_there c.args.set.now.keys c.add_parts.new.set.keys c.args.ty.now c.in_ok-add_parts.ensures.keys

pub add-returns-in_err-add_parts-clause-fault : goal.add-returns-in_err-add_parts-clause-fault
add-returns-in_err-add_parts-clause-fault t c =
    let p = err_from_is_err_and c.from_residual.result c.from_residual.ensures.1 in
    rw (p.1, p.2) (fault_before c.args.set.now.keys c.args.ty.now _ c.in_err-add_parts.ensures.fault)

pub add_parts-returns-in_err-add_all-in-Fun-clause-fault : goal.add_parts-returns-in_err-add_all-in-Fun-clause-fault
add_parts-returns-in_err-add_all-in-Fun-clause-fault t c =
    let p = err_from_is_err_and c.from_residual.result c.from_residual.ensures.1 in
    rw (p.1, p.2, ← c.ty.view_is, c.in-Fun.is) (fault_first c.args.set.now.keys (all_parts_first (tys c.in-Fun.params)) (parts_first c.in-Fun.out) _ (rw c.as_slice.ensures at c.in_err-add_all-in-Fun.ensures.fault))

pub add_all-returns-in_err-add-clause-fault : goal.add_all-returns-in_err-add-clause-fault
add_all-returns-in_err-add-clause-fault t c =
    let p = err_from_is_err_and c.from_residual.result c.from_residual.ensures.1 in
    rw (p.1, p.2) (fault_at c.loop-ty.set.keys c.args.types.now c.loop-ty.ty-index c.ty-item.result _ _ (omega arith) c.ty-item.is c.loop-ty.invariant.same (rw c.get.ensures at c.in_err-add.ensures.fault))

pub add_fields-returns-in_err-add-clause-fault : goal.add_fields-returns-in_err-add-clause-fault
add_fields-returns-in_err-add-clause-fault t c =
    let p = err_from_is_err_and c.from_residual.result c.from_residual.ensures.1 in
    rw (p.1, p.2) (fault_at_field c.loop-member.set.keys c.args.members.now c.loop-member.member-index c.member-item.result _ _ (omega arith) c.member-item.is c.loop-member.invariant.same (rw c.get.ensures at c.in_err-add.ensures.fault))
