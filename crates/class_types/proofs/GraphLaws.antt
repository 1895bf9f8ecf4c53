-- The names in annotations, one after the other.
use Rattle.class_types.proofs.BlockLaws.{append-end}
use Rattle.std.proofs.Common.{append_assoc}

pub ruleset named_steps = (append_assoc, append-end)
