use Rattle.std.proofs.Common.{◌≤◌, ◌<◌, ◌-◌, length, []}
use Rattle.parse_expr.specs.declared.machine.TypeMode.TheVariants as mode
use Rattle.parse_expr.specs.computed.TypeReading.{type_step}
use Rattle.parse_expr.specs.computed.Goes.{Goes}
use Rattle.parse_expr.proofs.Loops.{so_far}
use Rattle.parse_expr.proofs.parsing.read_type.Given as goal

abbrev pub invariant-loop-mode : goal.invariant-loop-mode
invariant-loop-mode l = record {
  after : l.from ≤ l.at;
  within : l.at < length l.tokens;
  runs : Goes (type_step l.room) (mode.Want []) (so_far l.text l.tokens l.from l.at) l.mode;
}

abbrev pub decreases-loop-mode : goal.decreases-loop-mode
decreases-loop-mode l = length l.tokens - l.at
