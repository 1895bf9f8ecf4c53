use Rattle.std.proofs.Common.{◌≡◌, take}
use Rattle.type_list.proofs.list.types_of.Given as goal

abbrev pub invariant-loop-key : goal.invariant-loop-key
invariant-loop-key l = l.types ≡ take l.key-index l.keys
