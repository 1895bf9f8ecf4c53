use Rattle.std.proofs.lemmas.Result.{err_from_is_err_and}
use Rattle.meet_closure.proofs.CloseLaws.{fault_at}
use Rattle.meet_closure.proofs.closing.add_each.Goals as goal

pub returns-in_err-add-clause-fault : goal.returns-in_err-add-clause-fault
returns-in_err-add-clause-fault c =
    let p = err_from_is_err_and c.from_residual.result c.from_residual.ensures.1 in
    rw (p.1, p.2) (fault_at c.loop-ty.set.keys c.args.types.now c.loop-ty.ty-index c.ty-item.result _ _ c.loop-ty-test.true c.ty-item.is c.loop-ty.invariant.same c.in_err-add.ensures.fault)
