-- What follows of solutions alone.
use Rattle.std.proofs.Common.{◌≡◌, ◌↔◌}
use Rattle.mono_syntax.specs.Ty.{Ty}
use Rattle.mono_syntax.specs.declared.value.Val.{Val}
use Rattle.cast_machine.specs.Heap.{Heap}
use Rattle.cast_orders.specs.Solutions.{IsSolution, HasSolution, IsWeakest, SolvesBoth, HaveSolution, IsWeakestOfBoth}
use Rattle.cast_orders.proofs.Order.{value_trans, value_antisym, heap_trans, heap_antisym}
use Rattle.cast_orders.proofs.Kept.{type_kept}

pub one_weakest : (h : Heap) (v : Val) (a : Ty) (k m : Heap) (w u : Val) → IsWeakest h v a k w → IsWeakest h v a m u → (k ≡ m) × (w ≡ u)
one_weakest h v a k m w u x y =
    let up = x.weakest m u y.solution in
    let down = y.weakest k w x.solution in
    (heap_antisym k m down.0 up.0, value_antisym w u down.1 up.1)

-- a solution from a solution for the first type solves both
from_solution : (h : Heap) (v : Val) (a b : Ty) (k : Heap) (w : Val) → IsSolution h v a k w → (m : Heap) (u : Val) → IsSolution k w b m u → SolvesBoth h v a b m u
from_solution h v a b k w x m u y =
    let low = heap_trans m k h y.heap x.heap in
    let same = value_trans u w v y.value x.value in (
      record { typed = y.typed; heap = low; value = same; has = type_kept m k u w a y.heap y.value x.has },
      record { typed = y.typed; heap = low; value = same; has = y.has },
    )

-- what solves both is a solution from the weakest for the first
from_weakest : (h : Heap) (v : Val) (a b : Ty) (k : Heap) (w : Val) → IsWeakest h v a k w → (m : Heap) (u : Val) → SolvesBoth h v a b m u → IsSolution k w b m u
from_weakest h v a b k w x m u y =
    let low = x.weakest m u y.0 in
    record { typed = (y.1).typed; heap = low.0; value = low.1; has = (y.1).has }

pub weakest_of_both : (h : Heap) (v : Val) (a b : Ty) (k m : Heap) (w u : Val) → IsWeakest h v a k w → IsWeakest k w b m u → IsWeakestOfBoth h v a b m u
weakest_of_both h v a b k m w u x y = record {
  solution = from_solution h v a b k w x.solution m u y.solution;
  weakest = λ n z s. y.weakest n z (from_weakest h v a b k w x n z s);
}

both_swap : (h : Heap) (v : Val) (a b : Ty) (k : Heap) (w : Val) → IsWeakestOfBoth h v a b k w → IsWeakestOfBoth h v b a k w
both_swap h v a b k w x = record { solution = ((x.solution).1, (x.solution).0); weakest = λ n z s. x.weakest n z (s.1, s.0) }

one_of_both : (h : Heap) (v : Val) (a b : Ty) (k m : Heap) (w u : Val) → IsWeakestOfBoth h v a b k w → IsWeakestOfBoth h v a b m u → (k ≡ m) × (w ≡ u)
one_of_both h v a b k m w u x y =
    let up = x.weakest m u y.solution in
    let down = y.weakest k w x.solution in
    (heap_antisym k m down.0 up.0, value_antisym w u down.1 up.1)

pub same_orders : (h : Heap) (v : Val) (a b : Ty) (k m : Heap) (w u : Val) (k' m' : Heap) (w' u' : Val) → IsWeakest h v a k w → IsWeakest k w b m u → IsWeakest h v b k' w' → IsWeakest k' w' a m' u' → (m ≡ m') × (u ≡ u')
same_orders h v a b k m w u k' m' w' u' x y x' y' =
    one_of_both h v a b m m' u u' (weakest_of_both h v a b k m w u x y) (both_swap h v b a m' u' (weakest_of_both h v b a k' m' w' u' x' y'))

pub second_solves : (h : Heap) (v : Val) (a b : Ty) (k : Heap) (w : Val) → IsWeakest h v a k w → (HasSolution k w b ↔ HaveSolution h v a b)
second_solves h v a b k w x = (
  λ s. (s.0, s.1, from_solution h v a b k w x.solution s.0 s.1 s.2),
  λ s. (s.0, s.1, from_weakest h v a b k w x s.0 s.1 s.2),
)
