use Rattle.std.proofs.Common.{refl}
use Rattle.script_rules.specs.SourceParts.{stmt_parts, body_parts}
use Rattle.written_types.specs.computed.TypesOnto.{types_onto}
use Rattle.written_types.proofs.OntoLaws.{onto-next}
use Rattle.written_types.proofs.items.body_types.Goals as goal

pub loop-s-preserved : goal.loop-s-preserved
loop-s-preserved c =
    let cs = c.args.classes.now in
    onto-next cs stmt_parts body_parts (λ x xs. refl) c.args.body.now c.loop-s.s-index c.s-item.result c.loop-s.done c.in_ok-done.done
    (types_onto cs c.args.done (body_parts c.args.body.now)) c.loop-s-test.true c.s-item.is c.in_ok-done.ensures c.loop-s.invariant
