use Rattle.std.proofs.Common.{◌≡◌, ◌+◌, ◌*◌, take}
use Rattle.mono_syntax.specs.CastExpr.{cast_expr_size, cast_exprs_size, args_size}
use Rattle.mono_syntax.specs.CastExprView.{args, cast_exprs, cast_expr_of}
use Rattle.node_code.specs.NodeMeaning.{Trees, IsMeant}
use Rattle.node_code.specs.Numbering.{GivesValues, GivesArgs}
use Rattle.node_code.specs.Slotted.{AreSlotted, ArgsSlotted}
use Rattle.node_code.proofs.exprs.+exprs.Given as goal

abbrev pub decreases-node_of : goal.decreases-node_of
decreases-node_of l = 4 * cast_expr_size (cast_expr_of l.kind.now)

abbrev pub decreases-number_expr : goal.decreases-number_expr
decreases-number_expr l = 4 * cast_expr_size l.e.now + 1

abbrev pub decreases-value_nodes : goal.decreases-value_nodes
decreases-value_nodes l = 4 * cast_exprs_size (cast_exprs l.list.now) + 2

abbrev pub decreases-number_values : goal.decreases-number_values
decreases-number_values l = 4 * cast_exprs_size (cast_exprs l.list.now) + 3

abbrev pub decreases-arg_nodes : goal.decreases-arg_nodes
decreases-arg_nodes l = 4 * args_size (args l.list.now) + 2

abbrev pub decreases-number_args : goal.decreases-number_args
decreases-number_args l = 4 * args_size (args l.list.now) + 3

-- those so far have their nodes
abbrev pub invariant-value_nodes-loop-e : goal.invariant-value_nodes-loop-e
invariant-value_nodes-loop-e l =
    (m : Trees) → IsMeant l.slots l.fn.tables m → AreSlotted l.slots (cast_exprs l.list)
    → GivesValues l.slots l.fn.tables m (take l.e-index l.list) (record { nodes = l.nodes; tables = l.tables })

abbrev pub invariant-arg_nodes-loop-arg : goal.invariant-arg_nodes-loop-arg
invariant-arg_nodes-loop-arg l =
    (m : Trees) → IsMeant l.slots l.fn.tables m → ArgsSlotted l.slots (args l.list)
    → GivesArgs l.slots l.fn.tables m (take l.arg-index l.list) (record { nodes = l.nodes; tables = l.tables })
