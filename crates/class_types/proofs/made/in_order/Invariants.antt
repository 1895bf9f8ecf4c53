use Rattle.std.proofs.Common.{◌≡◌, length}
use Rattle.mono_syntax.specs.TyView.{fields}
use Rattle.script_rules.specs.Writes.{in_order}
use Rattle.class_types.specs.computed.Order.{order_onto}
use Rattle.class_types.proofs.made.in_order.Given as goal

abbrev pub decreases-loop-field : goal.decreases-loop-field
decreases-loop-field l = length l.declared

-- those that are left, put before what is sorted so far
abbrev pub invariant-loop-field : goal.invariant-loop-field
invariant-loop-field l = order_onto (fields l.declared) (fields l.sorted.items) ≡ in_order (fields l.initial.declared)
