use Rattle.std.proofs.Common.{refl, None}
use Rattle.class_types.specs.computed.FoundFaults.{found, part_faults}
use Rattle.class_types.specs.computed.Made.{look}
use Rattle.script_rules.specs.SourceParts.{any_ann, param_parts}
use Rattle.class_types.proofs.FoundLaws.{found-next}
use Rattle.class_types.proofs.sizes.param_faults.Goals as goal

pub loop-param-preserved : goal.loop-param-preserved
loop-param-preserved c =
    let faults = part_faults (look c.args.sizes.now.names c.args.sizes.now.own.items None) in
    found-next faults (λ p. any_ann p.ann) param_parts (λ x xs. refl) c.args.params.now c.loop-param.param-index c.param-item.result c.loop-param.so_far c.any_ann_faults-so_far.result
    (found faults c.args.so_far (param_parts c.args.params.now)) c.loop-param-test.true c.param-item.is c.any_ann_faults-so_far.ensures c.loop-param.invariant
