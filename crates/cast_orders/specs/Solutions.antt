-- What a cast of a value to a type asks of heap and value, and the weakest answer. No order of strengthening is named.
use Rattle.mono_syntax.specs.Ty.{Ty}
use Rattle.mono_syntax.specs.declared.value.Val.{Val}
use Rattle.cast_machine.specs.Heap.{Heap}
use Rattle.cast_machine.specs.HeapTyping.{HasType, IsWellTypedHeap}
use Rattle.cast_orders.specs.Below.{IsValueBelow, IsHeapBelow}

-- The heap k and the value w solve the cast of v to t in the heap h: k is well typed and has h's objects and values, with
-- recorded types and merged types of functions that are at least as precise; w is v, maybe with a more precise merged
-- type, and has type t in k.
pub record IsSolution (h : Heap) (v : Val) (t : Ty) (k : Heap) (w : Val) : Type 0 where
  pub typed : IsWellTypedHeap k
  pub heap : IsHeapBelow k h
  pub value : IsValueBelow w v
  pub has : HasType k w t

abbrev pub HasSolution : Heap → Val → Ty → Type 0
HasSolution h v t = (k : Heap) × (w : Val) × IsSolution h v t k w

-- the solution that every solution is at least as precise as, cell by cell, and in the value
pub record IsWeakest (h : Heap) (v : Val) (t : Ty) (k : Heap) (w : Val) : Type 0 where
  pub solution : IsSolution h v t k w
  pub weakest : (m : Heap) (u : Val) → IsSolution h v t m u → IsHeapBelow m k × IsValueBelow u w

-- ---- two types

-- one heap and one value that solve the casts to both types
abbrev pub SolvesBoth : Heap → Val → Ty → Ty → Heap → Val → Type 0
SolvesBoth h v a b k w = IsSolution h v a k w × IsSolution h v b k w

abbrev pub HaveSolution : Heap → Val → Ty → Ty → Type 0
HaveSolution h v a b = (k : Heap) × (w : Val) × SolvesBoth h v a b k w

-- the weakest of all that solve both
pub record IsWeakestOfBoth (h : Heap) (v : Val) (a b : Ty) (k : Heap) (w : Val) : Type 0 where
  pub solution : SolvesBoth h v a b k w
  pub weakest : (m : Heap) (u : Val) → SolvesBoth h v a b m u → IsHeapBelow m k × IsValueBelow u w
