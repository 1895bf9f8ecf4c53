-- One heap at least as precise as another, cell by cell: in the recorded types, and in the merged types of the cells'
-- functions.
use Rattle.std.specs.Prelude.{◌≡◌, ℕ, List, [], ◌∷◌}
use Rattle.mono_syntax.specs.Ty.{Ty}
use Rattle.mono_syntax.specs.declared.value.Val.{Val}
use Rattle.mono_syntax.specs.declared.value.Val.TheVariants as val
use Rattle.cast_machine.specs.declared.data.Cell.{Cell}
use Rattle.cast_machine.specs.declared.data.Object.{Object}
use Rattle.cast_machine.specs.Heap.{Heap}
use Rattle.cast_machine.specs.HeapTyping.{IsAsPrecise}

-- the same function at a merged type that is at least as precise, or the same value
abbrev pub IsValueBelow : Val → Val → Type 0
IsValueBelow w (val.Fun g n) = (m : Ty) × (w ≡ val.Fun g m) × IsAsPrecise m n
IsValueBelow w v = w ≡ v

-- the recorded type and the value are at least as precise
pub record IsCellBelow (c d : Cell) : Type 0 where
  pub ty : IsAsPrecise c.ty d.ty
  pub value : IsValueBelow c.value d.value

-- the same names in the same order, each with a cell that is at least as precise
abbrev pub AreCellsBelow : List (List ℕ × Cell) → List (List ℕ × Cell) → Type 0
AreCellsBelow [] [] = Unit {0}
AreCellsBelow (p ∷ cs) (q ∷ ds) = (p.0 ≡ q.0) × IsCellBelow p.1 q.1 × AreCellsBelow cs ds
AreCellsBelow cs ds = ⊥

-- what an object is apart from its cells: its class, how many values it waits for, and who makes it
abbrev pub head_of : Object → ℕ × ℕ × ℕ
head_of o = (o.class, o.waits, o.maker)

-- an object that is the same apart from its cells
abbrev pub IsObjectBelow : Object → Object → Type 0
IsObjectBelow o q = (head_of o ≡ head_of q) × AreCellsBelow o.cells q.cells

-- the same objects, each cell at least as precise
abbrev pub IsHeapBelow : Heap → Heap → Type 0
IsHeapBelow [] [] = Unit {0}
IsHeapBelow (o ∷ k) (q ∷ h) = IsObjectBelow o q × IsHeapBelow k h
IsHeapBelow k h = ⊥
