-- What holds while a fit is under way: every solution is at least as precise as the heap, and meets each obligation that
-- is left.
use Rattle.std.proofs.Common.{◌≡◌, ℕ, ◌++◌, List, [], ◌∷◌, Some, refl, inl, inr, slice_get}
use Rattle.mono_syntax.specs.Ty.{Ty, Fields, no_fields, more_fields}
use Rattle.mono_syntax.specs.declared.value.Val.{Val}
use Rattle.mono_tree.specs.TypedPrograms.{HasField}
use Rattle.cast_machine.specs.declared.data.End.{End}
use Rattle.cast_machine.specs.declared.data.End.TheVariants as ends
use Rattle.cast_machine.specs.declared.data.Frame.{Frame}
use Rattle.cast_machine.specs.declared.data.State.{State}
use Rattle.cast_machine.specs.declared.data.State.TheVariants as state
use Rattle.cast_machine.specs.declared.data.Work.{Work}
use Rattle.cast_machine.specs.declared.data.Work.TheVariants as work
use Rattle.cast_machine.specs.Heap.{Heap}
use Rattle.cast_machine.specs.HeapTyping.{IsBelow}
use Rattle.cast_machine.specs.Obligations.{obligations}
use Rattle.cast_orders.specs.Below.{IsHeapBelow}
use Rattle.cast_orders.specs.Solutions.{IsSolution, HasSolution, IsWeakest}

-- where a fit begins: heap and top frame, the work below the item, and the place of the value, which is fitted to a type
pub record FitStart : Type 0 where
  pub heap : Heap
  pub frame : Frame
  pub rest : List Work
  pub place : ℕ
  pub value : Val
  pub to : Ty

abbrev pub Solves : FitStart → Heap → Val → Type 0
Solves s k w = IsSolution s.heap s.value s.to k w

-- in every solution the field has a recorded type at least as precise as t
abbrev pub Asked : FitStart → ℕ → List ℕ → Ty → Type 0
Asked s a x t = (k : Heap) (w : Val) → Solves s k w → IsBelow k a x t

-- obligations that every solution meets, above the Fitted and the rest
abbrev pub AreAsked : FitStart → List Work → Type 0
AreAsked s (work.Obligation c a x t r ∷ items) = Asked s a x t × AreAsked s items
AreAsked s (work.Fitted k t j ∷ items) = (t ≡ s.to) × (j ≡ s.place) × (items ≡ s.rest)
AreAsked s items = ⊥

-- the heap is between the first one and every solution
pub record Bounds (s : FitStart) (h : Heap) : Type 0 where
  pub below : IsHeapBelow h s.heap
  pub each : (k : Heap) (w : Val) → Solves s k w → IsHeapBelow k h

-- how far the fit is
pub data Stage (s : FitStart) (h : Heap) (f : Frame) : Type 0 where
  begins : h ≡ s.heap → f ≡ s.frame → Stage s h f
  strengthens : AreAsked s f.work → f.values ≡ (s.frame).values → Stage s h f
  ended : f.work ≡ s.rest → (w : Val) → slice_get f.values s.place ≡ Some w → IsWeakest s.heap s.value s.to h w → Stage s h f

-- a blame says that there is no solution
abbrev pub Unsolved : FitStart → End → Type 0
Unsolved s (ends.Blame k) = HasSolution s.heap s.value s.to → ⊥
Unsolved s e = Unit {0}

abbrev pub Good : FitStart → Heap → State → Type 0
Good s h (state.Running f below) = Bounds s h × Stage s h f
Good s h (state.Failing e) = Bounds s h × Unsolved s e
Good s h st = ⊥

-- the obligations of an object on top
pub asked_more : (s : FitStart) (c a : ℕ) (fs : Fields) (owner : Work) (rest : List Work) → ((x : List ℕ) (t : Ty) → HasField fs x t → Asked s a x t) → AreAsked s (owner ∷ rest) → AreAsked s (obligations c a fs (owner ∷ []) ++ rest)
asked_more s c a no_fields owner rest each i = i
asked_more s c a (more_fields n t fs) owner rest each i = (each n t (inl (refl, refl)), asked_more s c a fs owner rest (λ x u m. each x u (inr m)) i)
