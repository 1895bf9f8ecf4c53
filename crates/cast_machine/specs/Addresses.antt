-- The address of an object: the number of cells that the objects before it take, each the greater of 1 and its fields.
use Rattle.std.specs.Prelude.{ℕ, zero, suc, ◌+◌, [], ◌∷◌}
use Rattle.cast_machine.specs.Heap.{Heap, size}

-- the address of the object at place i of the heap
abbrev pub address_of : Heap → ℕ → ℕ
address_of h zero = 0
address_of [] (suc i) = 0
address_of (o ∷ h) (suc i) = size o + address_of h i
