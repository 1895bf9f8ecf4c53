use Rattle.std.proofs.Common.{map}
use Rattle.class_types.proofs.RecursionLaws.{IsFirstBelow}
use Rattle.class_types.proofs.recursion.first_fault.Given as goal

abbrev pub invariant-loop-at : goal.invariant-loop-at
invariant-loop-at l = IsFirstBelow (map (λ d. d.now) l.classes) l.at l.so_far
