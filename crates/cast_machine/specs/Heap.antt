-- The heap: a list of objects. An object of a class with k fields takes the next max 1 k cells, and its address is the
-- number of cells before it.
use Rattle.std.specs.Prelude.{ℕ, ◌+◌, ◌-◌, max, List, [], ◌∷◌, length, Option, Some, None, nat_eq, nat_lt, if◌then◌else◌}
use Rattle.cast_machine.specs.declared.data.Cell.{Cell}
use Rattle.cast_machine.specs.declared.data.Object.{Object}
use Rattle.cast_machine.specs.Maps.{lookup, update, keys}

abbrev pub Heap : Type 0
Heap = List Object

-- the cells that an object takes
abbrev pub size : Object → ℕ
size o = max 1 (length o.cells)

-- the number of cells
abbrev pub heap_size : Heap → ℕ
heap_size [] = 0
heap_size (o ∷ h) = size o + heap_size h

-- the object at an address
abbrev pub object_at : Heap → ℕ → Option Object
object_at [] a = None
object_at (o ∷ h) a = if nat_eq a 0 then Some o else (if nat_lt a (size o) then None else object_at h (a - size o))

-- another object at an address
abbrev pub set_object : Heap → ℕ → Object → Heap
set_object [] a new = []
set_object (o ∷ h) a new = if nat_eq a 0 then new ∷ h else (if nat_lt a (size o) then o ∷ h else o ∷ set_object h (a - size o) new)

abbrev pub cell_in : Option Object → List ℕ → Option Cell
cell_in None f = None
cell_in (Some o) f = if nat_eq o.waits 0 then lookup o.cells f else None

-- the cell of a field of the object at an address
abbrev pub cell_at : Heap → ℕ → List ℕ → Option Cell
cell_at h a f = cell_in (object_at h a) f

abbrev pub shape_in : Option Object → Option (ℕ × List (List ℕ))
shape_in None = None
shape_in (Some o) = if nat_eq o.waits 0 then Some (o.class, keys o.cells) else None

-- the class and the field names of the object at an address
abbrev pub shape_at : Heap → ℕ → Option (ℕ × List (List ℕ))
shape_at h a = shape_in (object_at h a)

abbrev pub set_in : Heap → ℕ → List ℕ → Cell → Option Object → Heap
set_in h a f c None = h
set_in h a f c (Some o) = set_object h a (record o { cells = update o.cells f c })

-- another cell for a field of the object at an address
abbrev pub set_cell : Heap → ℕ → List ℕ → Cell → Heap
set_cell h a f c = set_in h a f c (object_at h a)
