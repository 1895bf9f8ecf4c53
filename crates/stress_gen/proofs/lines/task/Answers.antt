use Rattle.std.proofs.Common.{append_assoc}
use Rattle.stress_gen.proofs.lines.task.Goals as goal

pub returns : goal.returns
returns c = rw (append_assoc, append_assoc, append_assoc, append_assoc) c.format.ensures.ok
