use Rattle.std.proofs.Common.{◌≡◌, ◌+◌, ◌*◌, drop}
use Rattle.mono_syntax.specs.Expr.{expr_size, exprs_size}
use Rattle.mono_syntax.specs.ExprView.{exprs}
use Rattle.script_rules.specs.SourceParts.{exprs_parts}
use Rattle.written_types.specs.computed.TypesOnto.{types_onto}
use Rattle.written_types.proofs.walk.+exprs.Given as goal

abbrev pub decreases-expr_types : goal.decreases-expr_types
decreases-expr_types l = 2 * expr_size l.e.now

abbrev pub decreases-exprs_types : goal.decreases-exprs_types
decreases-exprs_types l = 2 * exprs_size (exprs l.list.now) + 1

abbrev pub invariant-exprs_types-loop-e : goal.invariant-exprs_types-loop-e
invariant-exprs_types-loop-e l =
    types_onto l.classes l.done (exprs_parts (exprs (drop l.e-index l.list)))
    ≡ types_onto l.classes l.initial.done (exprs_parts (exprs l.list))
