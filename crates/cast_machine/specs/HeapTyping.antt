-- When a value has a type in a heap, and when a heap is well typed.
use Rattle.std.specs.Prelude.{◌≡◌, ℕ, true, List, [], ◌∷◌, Some, slice_get}
use Rattle.mono_syntax.specs.Ty.{Ty, dyn, int, bool, str, nil, fun, obj, Fields}
use Rattle.mono_syntax.specs.declared.value.Val.{Val}
use Rattle.mono_syntax.specs.declared.value.Val.TheVariants as val
use Rattle.mono_syntax.specs.declared.cast.CastFunction.{CastFunction}
use Rattle.mono_syntax.specs.declared.cast.CastClass.{CastClass}
use Rattle.mono_syntax.specs.declared.cast.CastScript.{CastScript}
use Rattle.mono_tree.specs.FieldNames.{names_of}
use Rattle.mono_tree.specs.Precision.{precise}
use Rattle.mono_tree.specs.CastScripts.{class_names}
use Rattle.mono_tree.specs.TypedPrograms.{HasField}
use Rattle.cast_machine.specs.declared.data.Cell.{Cell}
use Rattle.cast_machine.specs.Heap.{Heap, cell_at, shape_at}
use Rattle.cast_machine.specs.Operators.{in_range}

abbrev pub IsAsPrecise : Ty → Ty → Type 0
IsAsPrecise s t = precise s t ≡ true

-- the recorded type of a field is at least as precise as t
pub record IsBelow (h : Heap) (a : ℕ) (x : List ℕ) (t : Ty) : Type 0 where
  pub cell : Cell
  pub at : cell_at h a x ≡ Some cell
  pub low : IsAsPrecise cell.ty t

abbrev pub AreBelow : Heap → ℕ → Fields → Type 0
AreBelow h a fs = (x : List ℕ) (t : Ty) → HasField fs x t → IsBelow h a x t

-- Any value has type Dyn, a base value the type of its kind, and a function each type at which its merged type is as
-- precise. An object with exactly the type's field names has the type where each recorded type is as precise as the
-- field's.
abbrev pub HasType : Heap → Val → Ty → Type 0
HasType h v dyn = Unit {0}
HasType h (val.Int n) int = Unit {0}
HasType h (val.Bool b) bool = Unit {0}
HasType h (val.Text t) str = Unit {0}
HasType h val.Nil nil = Unit {0}
HasType h (val.Fun g m) (fun ps r) = IsAsPrecise m (fun ps r)
HasType h (val.Obj c a) (obj fs) = (shape_at h a ≡ Some (c, names_of fs)) × AreBelow h a fs
HasType h v t = ⊥

-- each cell's value has the recorded type
pub record IsWellTypedHeap (h : Heap) : Type 0 where
  pub typed : (a : ℕ) (x : List ℕ) (c : Cell) → cell_at h a x ≡ Some c → HasType h c.value c.ty

-- ---- values of a script

-- a function of the script, at a type that is at least as precise as its declared one
pub record IsFunctionOf (p : CastScript) (g : ℕ) (m : Ty) : Type 0 where
  pub function : CastFunction
  pub at : slice_get p.functions g ≡ Some function
  pub low : IsAsPrecise m function.ty

-- an integer in range, an object of the heap with its class, or a function of the script
abbrev pub IsValueOf : CastScript → Heap → Val → Type 0
IsValueOf p h (val.Int n) = in_range n ≡ true
IsValueOf p h (val.Obj c a) = (ns : List (List ℕ)) × (shape_at h a ≡ Some (c, ns))
IsValueOf p h (val.Fun g m) = IsFunctionOf p g m
IsValueOf p h v = Unit {0}

-- the heap is one of the script: its values are, and an object is of a class of the script and has its field names
pub record IsHeapOf (p : CastScript) (h : Heap) : Type 0 where
  pub values : (a : ℕ) (x : List ℕ) (c : Cell) → cell_at h a x ≡ Some c → IsValueOf p h c.value
  pub named : (a c : ℕ) (ns : List (List ℕ)) → shape_at h a ≡ Some (c, ns) → ns ≡ class_names p c
  pub classes : (a c : ℕ) (ns : List (List ℕ)) → shape_at h a ≡ Some (c, ns) → (d : CastClass) × (slice_get p.classes c ≡ Some d)

-- values of the script
abbrev pub AreValuesOf : CastScript → Heap → List Val → Type 0
AreValuesOf p h [] = Unit {0}
AreValuesOf p h (v ∷ vs) = IsValueOf p h v × AreValuesOf p h vs

-- lines of values of the script
abbrev pub AreLinesOf : CastScript → Heap → List (List Val) → Type 0
AreLinesOf p h [] = Unit {0}
AreLinesOf p h (l ∷ ls) = AreValuesOf p h l × AreLinesOf p h ls

-- a value of the script that has the type
abbrev pub IsTyped : CastScript → Heap → Val → Ty → Type 0
IsTyped p h v t = IsValueOf p h v × HasType h v t

abbrev pub AreTyped : CastScript → Heap → List Val → List Ty → Type 0
AreTyped p h [] [] = Unit {0}
AreTyped p h (v ∷ vs) (t ∷ ts) = IsTyped p h v t × AreTyped p h vs ts
AreTyped p h vs ts = ⊥

-- ---- a heap that gains precision

-- the objects of a heap stand in the other, and the recorded types there are at least as precise
pub record Extends (before after : Heap) : Type 0 where
  pub shapes : (a : ℕ) (s : ℕ × List (List ℕ)) → shape_at before a ≡ Some s → shape_at after a ≡ Some s
  pub cells : (a : ℕ) (x : List ℕ) (c : Cell) → cell_at before a x ≡ Some c → IsBelow after a x c.ty
