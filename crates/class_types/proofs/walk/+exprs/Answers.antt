use Rattle.std.proofs.Common.{refl, None}
use Rattle.mono_syntax.specs.ExprView.{exprs}
use Rattle.class_types.specs.computed.FoundFaults.{found, part_faults}
use Rattle.class_types.specs.computed.Made.{look}
use Rattle.script_rules.specs.SourceParts.{expr_parts, exprs_parts}
use Rattle.class_types.proofs.FoundLaws.{found-next}
use Rattle.class_types.proofs.walk.+exprs.Goals as goal

pub exprs_faults-loop-e-preserved : goal.exprs_faults-loop-e-preserved
exprs_faults-loop-e-preserved t c =
    let faults = part_faults (look c.args.sizes.now.names c.args.sizes.now.own.items None) in
    found-next faults expr_parts (λ l. exprs_parts (exprs l)) (λ x xs. refl) c.args.list.now c.loop-e.e-index c.e-item.result c.loop-e.so_far c.expr_faults-so_far.result
    (found faults c.args.so_far (exprs_parts (exprs c.args.list.now))) c.loop-e-test.true c.e-item.is c.expr_faults-so_far.ensures c.loop-e.invariant
