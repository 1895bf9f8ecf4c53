use Rattle.std.proofs.Common.{◌+◌, ◌-◌, vec_len}
use Rattle.mono_io.proofs.outside.read_within.Given as goal

abbrev pub decreases-loop-block : goal.decreases-loop-block
decreases-loop-block g l = l.limit + 1 - vec_len l.bytes
