use Rattle.std.proofs.Common.{◌≡◌, ◌+◌, ◌*◌, None, drop}
use Rattle.mono_syntax.specs.Expr.{expr_size, exprs_size}
use Rattle.mono_syntax.specs.ExprView.{exprs}
use Rattle.class_types.specs.computed.FoundFaults.{found, part_faults}
use Rattle.class_types.specs.computed.Made.{look}
use Rattle.script_rules.specs.SourceParts.{exprs_parts}
use Rattle.class_types.proofs.walk.+exprs.Given as goal

abbrev pub decreases-expr_faults : goal.decreases-expr_faults
decreases-expr_faults l = 2 * expr_size l.e.now

abbrev pub decreases-exprs_faults : goal.decreases-exprs_faults
decreases-exprs_faults l = 2 * exprs_size (exprs l.list.now) + 1

abbrev pub invariant-exprs_faults-loop-e : goal.invariant-exprs_faults-loop-e
invariant-exprs_faults-loop-e l =
    let faults = part_faults (look l.sizes.names l.sizes.own.items None) in
    found faults l.so_far (exprs_parts (exprs (drop l.e-index l.list))) ≡ found faults l.initial.so_far (exprs_parts (exprs l.list))
