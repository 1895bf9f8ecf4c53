use Rattle.std.proofs.Common.{refl}
use Rattle.mono_syntax.specs.ExprView.{exprs}
use Rattle.script_rules.specs.SourceParts.{expr_parts, exprs_parts}
use Rattle.written_types.specs.computed.TypesOnto.{types_onto}
use Rattle.written_types.proofs.OntoLaws.{onto-next}
use Rattle.written_types.proofs.walk.+exprs.Goals as goal

pub exprs_types-loop-e-preserved : goal.exprs_types-loop-e-preserved
exprs_types-loop-e-preserved t c =
    let cs = c.args.classes.now in
    onto-next cs expr_parts (λ l. exprs_parts (exprs l)) (λ x xs. refl)
    c.args.list.now c.loop-e.e-index c.e-item.result c.loop-e.done c.in_ok-done.done
    (types_onto cs c.args.done (exprs_parts (exprs c.args.list.now))) c.loop-e-test.true c.e-item.is c.in_ok-done.ensures c.loop-e.invariant
