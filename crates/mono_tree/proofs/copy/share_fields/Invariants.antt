use Rattle.std.proofs.Common.{◌≡◌, take}
use Rattle.mono_tree.proofs.copy.share_fields.Given as goal

abbrev pub invariant-loop-member : goal.invariant-loop-member
invariant-loop-member l = l.copies ≡ take l.member-index l.members
