use Rattle.std.proofs.Common.{refl, sym, ◌∙◌, ap}
use Rattle.mono_syntax.specs.Expr.{binary, both, either, call}
use Rattle.mono_syntax.specs.ExprView.{expr_of, exprs}
use Rattle.consistency.proofs.Matched.{two_so, called_so}
use Rattle.consistency.proofs.expressions.+typed.Goals as goal

-- src/expressions.rt:132:1
pub parts_typed-returns-in-Binary : goal.parts_typed-returns-in-Binary
parts_typed-returns-in-Binary t c =
    two_so c.args.known.now c.args.local.now c.args.trace c.two_typed.result c.args.e.now (binary c.in-Binary.field-0 c.in-Binary.field-1 c.in-Binary.a c.in-Binary.b) _ _ c.in-Binary.a c.in-Binary.b
    (sym c.e.view_is ∙ ap expr_of c.in-Binary.is) c.get-in-Binary.ensures c.get-in-Binary-2.ensures refl c.two_typed.ensures

-- src/expressions.rt:132:1
pub parts_typed-returns-in-And : goal.parts_typed-returns-in-And
parts_typed-returns-in-And t c =
    two_so c.args.known.now c.args.local.now c.args.trace c.two_typed-in-And.result c.args.e.now (both c.in-And.a c.in-And.b) _ _ c.in-And.a c.in-And.b (sym c.e.view_is ∙ ap expr_of c.in-And.is)
    c.get-in-And.ensures c.get-in-And-2.ensures refl c.two_typed-in-And.ensures

-- src/expressions.rt:132:1
pub parts_typed-returns-in-Or : goal.parts_typed-returns-in-Or
parts_typed-returns-in-Or t c =
    two_so c.args.known.now c.args.local.now c.args.trace c.two_typed-in-Or.result c.args.e.now (either c.in-Or.a c.in-Or.b) _ _ c.in-Or.a c.in-Or.b (sym c.e.view_is ∙ ap expr_of c.in-Or.is)
    c.get-in-Or.ensures c.get-in-Or-2.ensures refl c.two_typed-in-Or.ensures

-- src/expressions.rt:132:1
pub parts_typed-returns-in-Call : goal.parts_typed-returns-in-Call
parts_typed-returns-in-Call t c =
    called_so c.args.known.now c.args.local.now c.args.trace c.call_typed.result c.args.e.now (call c.in-Call.field-0 c.in-Call.callee (exprs c.in-Call.es)) _ c.in-Call.callee _ (exprs c.in-Call.es)
    (sym c.e.view_is ∙ ap expr_of c.in-Call.is) c.get-in-Call.ensures (ap exprs c.as_slice.ensures) refl c.call_typed.ensures
