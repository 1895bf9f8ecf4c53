-- Computed: what the search for the object at an address computes, its place in the list of objects.
use Rattle.std.specs.Prelude.{ℕ, ◌+◌, ◌-◌, ◌^◌, min, List, [], ◌∷◌, Option, Some, None, nat_eq, nat_lt, if◌then◌else◌}
use Rattle.cast_machine.specs.Heap.{Heap, size}

-- the place, counted from i
abbrev pub object_place : ℕ → Heap → ℕ → Option ℕ
object_place i [] a = None
object_place i (o ∷ h) a = if nat_eq a 0 then Some i else (if nat_lt a (size o) then None else object_place (i + 1) h (a - size o))

-- the addresses of the objects, where the first has address b; a number stands still at the last value of 64 bits
abbrev pub starts_from : ℕ → Heap → List ℕ
starts_from b [] = []
starts_from b (o ∷ h) = min b (2 ^ 64 - 1) ∷ starts_from (b + size o) h

abbrev pub starts_of : Heap → List ℕ
starts_of h = starts_from 0 h
