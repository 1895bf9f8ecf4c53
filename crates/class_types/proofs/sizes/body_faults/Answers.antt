use Rattle.std.proofs.Common.{refl, None}
use Rattle.class_types.specs.computed.FoundFaults.{found, part_faults}
use Rattle.class_types.specs.computed.Made.{look}
use Rattle.script_rules.specs.SourceParts.{stmt_parts, body_parts}
use Rattle.class_types.proofs.FoundLaws.{found-next}
use Rattle.class_types.proofs.sizes.body_faults.Goals as goal

pub loop-s-preserved : goal.loop-s-preserved
loop-s-preserved c =
    let faults = part_faults (look c.args.sizes.now.names c.args.sizes.now.own.items None) in
    found-next faults stmt_parts body_parts (λ x xs. refl) c.args.body.now c.loop-s.s-index c.s-item.result c.loop-s.so_far c.stmt_faults-so_far.result
    (found faults c.args.so_far (body_parts c.args.body.now)) c.loop-s-test.true c.s-item.is c.stmt_faults-so_far.ensures c.loop-s.invariant
