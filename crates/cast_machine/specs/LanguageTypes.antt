-- The types of a configuration are types of the language: those that are recorded, merged and asked for.
use Rattle.std.specs.Prelude.{◌≡◌, ℕ, List, [], ◌∷◌, Option, Some, None, slice_get}
use Rattle.mono_syntax.specs.Ty.{Ty}
use Rattle.mono_syntax.specs.declared.value.Val.{Val}
use Rattle.mono_syntax.specs.declared.value.Val.TheVariants as val
use Rattle.mono_syntax.specs.declared.cast.CastScript.{CastScript}
use Rattle.mono_tree.specs.IsType.{IsType}
use Rattle.cast_machine.specs.declared.data.Cell.{Cell}
use Rattle.cast_machine.specs.declared.data.Frame.{Frame}
use Rattle.cast_machine.specs.declared.data.Ready.{Ready}
use Rattle.cast_machine.specs.declared.data.State.{State}
use Rattle.cast_machine.specs.declared.data.State.TheVariants as state
use Rattle.cast_machine.specs.declared.data.Thread.{Thread}
use Rattle.cast_machine.specs.declared.data.Work.{Work}
use Rattle.cast_machine.specs.declared.data.Work.TheVariants as work
use Rattle.cast_machine.specs.Heap.{Heap}
use Rattle.cast_machine.specs.Step.{Configuration}

-- the types that a script's sites name are types of the language
abbrev pub HasLanguageTypes : CastScript → Type 0
HasLanguageTypes p = (i : ℕ) (t : Ty) → slice_get p.types i ≡ Some t → IsType t

-- a type that may be there
abbrev pub IsAskedType : Option Ty → Type 0
IsAskedType None = Unit {0}
IsAskedType (Some t) = IsType t

-- ---- values

-- the merged type of a function
abbrev pub IsLanguageValue : Val → Type 0
IsLanguageValue (val.Fun g m) = IsType m
IsLanguageValue v = Unit {0}

abbrev pub AreLanguageValues : List Val → Type 0
AreLanguageValues [] = Unit {0}
AreLanguageValues (v ∷ vs) = IsLanguageValue v × AreLanguageValues vs

abbrev pub AreLanguageLines : List (List Val) → Type 0
AreLanguageLines [] = Unit {0}
AreLanguageLines (l ∷ ls) = AreLanguageValues l × AreLanguageLines ls

abbrev pub IsBoundValue : Option Val → Type 0
IsBoundValue None = Unit {0}
IsBoundValue (Some v) = IsLanguageValue v

abbrev pub AreLanguageNames : List (List ℕ × Option Val) → Type 0
AreLanguageNames [] = Unit {0}
AreLanguageNames (q ∷ l) = IsBoundValue q.1 × AreLanguageNames l

-- ---- the heap

abbrev pub IsLanguageCell : Cell → Type 0
IsLanguageCell c = IsType c.ty × IsLanguageValue c.value

abbrev pub AreLanguageCells : List (List ℕ × Cell) → Type 0
AreLanguageCells [] = Unit {0}
AreLanguageCells (q ∷ l) = IsLanguageCell q.1 × AreLanguageCells l

-- each cell of each object
abbrev pub IsLanguageHeap : Heap → Type 0
IsLanguageHeap [] = Unit {0}
IsLanguageHeap (o ∷ h) = AreLanguageCells o.cells × IsLanguageHeap h

-- ---- work

abbrev pub IsLanguageReady : Option Ready → Type 0
IsLanguageReady None = Unit {0}
IsLanguageReady (Some r) = IsType r.ty

-- the type that an item asks for, and the merged type of a function that it calls
abbrev pub IsLanguageItem : Work → Type 0
IsLanguageItem (work.Arg k t j) = IsType t
IsLanguageItem (work.Fitted k t j) = IsType t
IsLanguageItem (work.Enter g m n) = IsType m
IsLanguageItem (work.Begin x g m n) = IsType m
IsLanguageItem (work.Obligation d a x t r) = IsType t × IsLanguageReady r
IsLanguageItem (work.Write m k s x r) = IsAskedType r
IsLanguageItem i = Unit {0}

abbrev pub AreLanguageItems : List Work → Type 0
AreLanguageItems [] = Unit {0}
AreLanguageItems (i ∷ is) = IsLanguageItem i × AreLanguageItems is

-- ---- threads

pub record IsLanguageFrame (f : Frame) : Type 0 where
  pub names : AreLanguageNames f.names
  pub asked : IsAskedType f.asked
  pub work : AreLanguageItems f.work
  pub values : AreLanguageValues f.values

abbrev pub AreLanguageFrames : List Frame → Type 0
AreLanguageFrames [] = Unit {0}
AreLanguageFrames (f ∷ fs) = IsLanguageFrame f × AreLanguageFrames fs

abbrev pub IsLanguageState : State → Type 0
IsLanguageState (state.Running f below) = IsLanguageFrame f × AreLanguageFrames below
IsLanguageState (state.Failing e) = Unit {0}
IsLanguageState (state.Finished v) = IsLanguageValue v
IsLanguageState state.Stopped = Unit {0}

abbrev pub IsLanguageThread : Thread → Type 0
IsLanguageThread th = IsAskedType th.asked × IsLanguageState th.state

-- ---- a configuration

pub record HasTypesOfLanguage (c : Configuration) : Type 0 where
  pub heap : IsLanguageHeap c.heap
  pub lines : AreLanguageLines c.lines
  pub threads : (t : ℕ) (th : Thread) → slice_get c.threads t ≡ Some th → IsLanguageThread th
