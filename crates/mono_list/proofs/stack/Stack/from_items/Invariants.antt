use Rattle.std.proofs.Common.{◌≡◌, ◌++◌, length}
use Rattle.mono_list.proofs.stack.Stack.from_items.Given as goal

abbrev pub invariant-loop-item : goal.invariant-loop-item
invariant-loop-item g l = l.items ++ l.stack ≡ l.fn.items

abbrev pub decreases-loop-item : goal.decreases-loop-item
decreases-loop-item g l = length l.items
