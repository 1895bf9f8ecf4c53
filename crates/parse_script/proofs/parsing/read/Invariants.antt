use Rattle.std.proofs.Common.{◌<◌, ◌-◌, length}
use Rattle.parse_script.specs.computed.Reading.{script_step}
use Rattle.parse_expr.specs.computed.Goes.{Goes}
use Rattle.parse_script.proofs.Exact.{start}
use Rattle.parse_script.proofs.Loops.{so_far}
use Rattle.parse_script.proofs.parsing.read.Given as goal

abbrev pub invariant-loop-token : goal.invariant-loop-token
invariant-loop-token l = record {
  within : l.at < length l.tokens;
  runs : Goes script_step start (so_far l.text l.tokens l.at) l.stage;
}

abbrev pub decreases-loop-token : goal.decreases-loop-token
decreases-loop-token l = length l.tokens - l.at
