use Rattle.std.proofs.Common.{take}
use Rattle.node_code.specs.Places.{At, Each}
use Rattle.node_code.specs.Slotted.{HaveSlots}
use Rattle.node_code.proofs.blocks.slots_for.Given as goal

abbrev pub invariant-loop-name : goal.invariant-loop-name
invariant-loop-name l = HaveSlots l.names l.list → Each (At l.names) l.slots (take l.name-index l.list)
