-- A well-typed configuration.
use Rattle.std.specs.Prelude.{◌≡◌, ℕ, ◌<◌, List, [], ◌∷◌, Option, Some, None, slice_get, unwrap_or}
use Rattle.mono_syntax.specs.Ty.{Ty, dyn}
use Rattle.mono_syntax.specs.declared.value.Val.{Val}
use Rattle.mono_syntax.specs.declared.cast.CastScript.{CastScript}
use Rattle.mono_syntax.specs.declared.cast.NamedType.{NamedType}
use Rattle.mono_syntax.specs.declared.leaf.Kind.TheVariants as kinds
use Rattle.mono_tree.specs.Sites.{IsSite}
use Rattle.mono_tree.specs.TypedPrograms.{Scope, type_of_name}
use Rattle.cast_machine.specs.declared.data.End.{End}
use Rattle.cast_machine.specs.declared.data.End.TheVariants as ends
use Rattle.cast_machine.specs.declared.data.Frame.{Frame}
use Rattle.cast_machine.specs.declared.data.State.{State}
use Rattle.cast_machine.specs.declared.data.State.TheVariants as state
use Rattle.cast_machine.specs.declared.data.Thread.{Thread}
use Rattle.cast_machine.specs.Maps.{lookup}
use Rattle.cast_machine.specs.Heap.{Heap}
use Rattle.cast_machine.specs.Step.{Configuration}
use Rattle.cast_machine.specs.HeapTyping.{IsAsPrecise, IsWellTypedHeap, IsHeapOf, IsTyped, AreTyped, AreLinesOf}
use Rattle.cast_machine.specs.BlamedSites.{IsRightBlame}
use Rattle.cast_machine.specs.WorkTyping.{IsLater, Around, IsWellTypedWork, IsWellTypedTop}

-- ---- names of a frame

-- each name of the block is there, and where it is bound it has its type
pub record AreNamesTyped (p : CastScript) (h : Heap) (names : List (List ℕ × Option Val)) (types : List NamedType) : Type 0 where
  pub there : (x : List ℕ) (t : Ty) → type_of_name types x ≡ Some t → (o : Option Val) × (lookup names x ≡ Some o)
  pub typed : (x : List ℕ) (t : Ty) (v : Val) → type_of_name types x ≡ Some t → lookup names x ≡ Some (Some v) → IsTyped p h v t

-- the same of names of threads
pub record AreHandlesTyped (results : List Ty) (me : ℕ) (handles : List (List ℕ × Option ℕ)) (types : List NamedType) : Type 0 where
  pub there : (x : List ℕ) (t : Ty) → type_of_name types x ≡ Some t → (o : Option ℕ) × (lookup handles x ≡ Some o)
  pub typed : (x : List ℕ) (t : Ty) (n : ℕ) → type_of_name types x ≡ Some t → lookup handles x ≡ Some (Some n) → IsLater results me n t

abbrev pub AreLater : List Ty → ℕ → List ℕ → Type 0
AreLater results me [] = Unit {0}
AreLater results me (t ∷ ts) = IsLater results me t dyn × AreLater results me ts

-- the asked result is at least as precise as the declared one
abbrev pub IsAskedBelow : Option Ty → Option Ty → Type 0
IsAskedBelow None None = Unit {0}
IsAskedBelow (Some declared) (Some asked) = IsAsPrecise asked declared
IsAskedBelow declared asked = ⊥

-- what holds of the names of every frame
pub record IsNamed (p : CastScript) (q : Around) (h : Heap) (names : List (List ℕ × Option Val)) (handles : List (List ℕ × Option ℕ)) (started : List ℕ) : Type 0 where
  pub names_typed : AreNamesTyped p h names (q.scope).names
  pub handles_typed : AreHandlesTyped q.results q.me handles (q.scope).threads
  pub started_later : AreLater q.results q.me started
  pub asked : IsAskedBelow (q.scope).result q.asked

-- ---- frames

abbrev pub around : Scope → Option Ty → List Ty → ℕ → Around
around s a results me = record { scope = s; asked = a; results = results; me = me }

-- the top frame
pub record IsWellTypedFrame (p : CastScript) (results : List Ty) (me : ℕ) (h : Heap) (f : Frame) : Type 0 where
  pub scope : Scope
  pub named : IsNamed p (around scope f.asked results me) h f.names f.handles f.started
  pub types : List Ty
  pub values : AreTyped p h f.values types
  pub work : IsWellTypedTop p (around scope f.asked results me) h [] f.work f.values types

-- a frame that waits for a value of type r
pub record IsWellTypedLower (p : CastScript) (results : List Ty) (me : ℕ) (h : Heap) (f : Frame) (r : Ty) : Type 0 where
  pub scope : Scope
  pub named : IsNamed p (around scope f.asked results me) h f.names f.handles f.started
  pub types : List Ty
  pub values : AreTyped p h f.values types
  pub type : Ty
  pub low : IsAsPrecise r type
  pub work : IsWellTypedWork p scope f.asked f.work (type ∷ types)

-- the lowest frame is asked for the thread's result r; that of the main thread is asked for none
abbrev pub IsBottom : ℕ → Option Ty → Ty → Type 0
IsBottom me None r = Unit {0}
IsBottom me (Some a) r = (0 < me) × IsAsPrecise a r

-- the frames below one whose result is asked at a type
abbrev pub IsWellTypedStack : CastScript → List Ty → ℕ → Heap → Option Ty → List Frame → Ty → Type 0
IsWellTypedStack p results me h a [] r = IsBottom me a r
IsWellTypedStack p results me h None (f ∷ below) r = ⊥
IsWellTypedStack p results me h (Some a) (f ∷ below) r = IsWellTypedLower p results me h f a × IsWellTypedStack p results me h f.asked below r

-- ---- threads

-- An end names a site that is there: an error of arithmetic an Arithmetic site, an unbound name a Name, and a blame a site
-- that can be blamed and isn't a Cast that only loses precision.
abbrev pub IsRightEnd : CastScript → End → Type 0
IsRightEnd p (ends.Blame k) = IsRightBlame p k
IsRightEnd p (ends.ZeroDivision k) = IsSite p k kinds.Arithmetic
IsRightEnd p (ends.Overflow k) = IsSite p k kinds.Arithmetic
IsRightEnd p (ends.Unbound k) = IsSite p k kinds.Name
IsRightEnd p e = Unit {0}

abbrev pub AreRightEnds : CastScript → Option End → Type 0
AreRightEnds p None = Unit {0}
AreRightEnds p (Some e) = IsRightEnd p e

abbrev pub IsWellTypedState : CastScript → List Ty → ℕ → Heap → Ty → State → Type 0
IsWellTypedState p results me h r (state.Running f below) = IsWellTypedFrame p results me h f × IsWellTypedStack p results me h f.asked below r
IsWellTypedState p results me h r (state.Failing e) = IsRightEnd p e
IsWellTypedState p results me h r (state.Finished v) = IsTyped p h v r
IsWellTypedState p results me h r state.Stopped = Unit {0}

-- what a thread may be while no end is recorded: main is never finished, and none is stopped
abbrev pub Lives : ℕ → State → Type 0
Lives me (state.Running f below) = Unit {0}
Lives me (state.Failing e) = Unit {0}
Lives me (state.Finished v) = 0 < me
Lives me state.Stopped = ⊥

-- the type at which a thread's result is asked; the main thread gives none
abbrev pub result_type : Thread → Ty
result_type th = unwrap_or th.asked dyn

abbrev pub results_of : List Thread → List Ty
results_of [] = []
results_of (th ∷ ths) = result_type th ∷ results_of ths

-- ---- a configuration

pub record IsWellTyped (p : CastScript) (c : Configuration) : Type 0 where
  pub heap : IsWellTypedHeap c.heap
  -- the cells hold values of this heap and script
  pub own : IsHeapOf p c.heap
  -- what was printed are values of this heap and script
  pub lines : AreLinesOf p c.heap c.lines
  -- each item finds on its value list values of the types that it asks for, each bound name has its type, each finished
  -- value has its asked type, and each end of a thread names a site of its kind, no cast that only loses precision
  pub threads : (t : ℕ) (th : Thread) → slice_get c.threads t ≡ Some th → IsWellTypedState p (results_of c.threads) t c.heap (result_type th) th.state
  pub end : AreRightEnds p c.end
  pub lives : c.end ≡ None → (t : ℕ) (th : Thread) → slice_get c.threads t ≡ Some th → Lives t th.state
  pub main : (th : Thread) × (slice_get c.threads 0 ≡ Some th)
