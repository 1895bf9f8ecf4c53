use Rattle.std.proofs.Common.{length}
use Rattle.mono_io.proofs.outside.written.Given as goal

abbrev pub decreases-loop-rest : goal.decreases-loop-rest
decreases-loop-rest g l = length l.rest
