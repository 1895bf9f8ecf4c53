-- What is true of every configuration of a run.
use Rattle.std.specs.Prelude.{◌≡◌, ◌⊎◌, ℕ, Bool, true, false, not, List, [], ◌∷◌, ◌++◌, Some, None, is_some, slice_get}
use Rattle.mono_syntax.specs.Ty.{Ty}
use Rattle.mono_syntax.specs.declared.leaf.Kind.TheVariants as kinds
use Rattle.mono_syntax.specs.declared.value.Val.{Val}
use Rattle.mono_syntax.specs.declared.cast.CastScript.{CastScript}
use Rattle.mono_tree.specs.CastScripts.{fields_of, target_of}
use Rattle.mono_tree.specs.Sites.{IsSite, loses_precision}
use Rattle.cast_machine.specs.declared.data.End.TheVariants as ends
use Rattle.cast_machine.specs.declared.data.Frame.{Frame}
use Rattle.cast_machine.specs.declared.data.State.TheVariants as state
use Rattle.cast_machine.specs.declared.data.Thread.{Thread}
use Rattle.cast_machine.specs.declared.data.Work.{Work}
use Rattle.cast_machine.specs.declared.data.Work.TheVariants as work
use Rattle.cast_machine.specs.Heap.{Heap}
use Rattle.cast_machine.specs.Calls.{finished, all_finished}
use Rattle.cast_machine.specs.Obligations.{obligations}
use Rattle.cast_machine.specs.Step.{Configuration, step_of, picked}
use Rattle.cast_machine.specs.HeapTyping.{HasType, Extends}
use Rattle.cast_machine.specs.Typing.{IsWellTyped}
use Rattle.cast_machine.specs.RunLimits.{IsWithinLimits}
use Rattle.cast_machine.specs.LanguageTypes.{HasLanguageTypes, HasTypesOfLanguage}

-- ---- stuck

-- the top item is one of those that may wait
abbrev pub is_wait : List Work → Bool
is_wait (work.Join t ∷ rest) = true
is_wait (work.Leave ∷ rest) = true
is_wait rest = false

-- an item waits for a thread that isn't finished: a Join for its thread, a Leave for one that its frame started
abbrev pub waits : List Thread → Work → Frame → Bool
waits threads (work.Join t) f = not (is_some (finished threads t))
waits threads work.Leave f = not (all_finished threads f.started)
waits threads i f = false

-- the top item of the work waits
abbrev pub is_waiting : List Thread → List Work → Frame → Bool
is_waiting threads [] f = false
is_waiting threads (item ∷ rest) f = waits threads item f

-- a running thread whose top item doesn't wait and to which no row applies, or no end and no thread with a step
pub data IsStuck (p : CastScript) (c : Configuration) : Type 0 where
  no_row : (t : ℕ) (th : Thread) (f : Frame) (below : List Frame) → slice_get c.threads t ≡ Some th → th.state ≡ state.Running f below →
      is_waiting c.threads f.work f ≡ false → step_of p c t ≡ None → IsStuck p c
  no_thread : c.end ≡ None → ((t : ℕ) → step_of p c t ≡ None) → IsStuck p c

-- ---- blame

-- a thread fails by a Blame of a Cast site that only loses precision, or that is the recorded end
pub data HoldsLosingBlame (p : CastScript) (c : Configuration) : Type 0 where
  failing : (t k : ℕ) (th : Thread) → slice_get c.threads t ≡ Some th → th.state ≡ state.Failing (ends.Blame k) → loses_precision p k ≡ true → HoldsLosingBlame p c
  recorded : (k : ℕ) → c.end ≡ Some (ends.Blame k) → loses_precision p k ≡ true → HoldsLosingBlame p c

-- ---- where a cast goes

-- An item that leaves the value at place j with type t: a Cast whose site's target is t, or a Fitted to t, or one whose
-- site is a Cast with target t, whatever type it holds itself.
abbrev pub LeavesAt : CastScript → Work → Ty → ℕ → Type 0
LeavesAt p (work.Cast k) t j = (target_of p k ≡ Some t) × (j ≡ 0)
LeavesAt p (work.Fitted k u i) t j = ((u ≡ t) ⊎ (IsSite p k kinds.Cast × (target_of p k ≡ Some t))) × (i ≡ j)
LeavesAt p i t j = ⊥

-- the item went and the value has the type, or it was a Cast and became Fitted with its obligations
abbrev pub Went : Heap → Work → List Work → Ty → ℕ → Frame → Type 0
Went h i rest t j f =
    ((f.work ≡ rest) × ((v : Val) × (slice_get f.values j ≡ Some v) × HasType h v t))
    ⊎ ((k : ℕ) × (c : ℕ) × (a : ℕ) × (i ≡ work.Cast k) × (f.work ≡ obligations c a (fields_of t) (work.Fitted k t 0 ∷ []) ++ rest))

-- where a Cast goes, or the Fitted that it became goes, its value has the target type of its own site
abbrev pub CastsHold : CastScript → Configuration → Type 0
CastsHold p c =
    (t : ℕ) (th : Thread) (f : Frame) (below : List Frame) (i : Work) (rest : List Work) (to : Ty) (j : ℕ) →
    slice_get c.threads t ≡ Some th → th.state ≡ state.Running f below → f.work ≡ i ∷ rest → LeavesAt p i to j →
    (after : Thread) (g : Frame) (under : List Frame) →
    slice_get (picked p c t).threads t ≡ Some after → after.state ≡ state.Running g under → Went (picked p c t).heap i rest to j g

-- ---- safe

pub record IsSafe (p : CastScript) (c : Configuration) : Type 0 where
  pub typed : IsWellTyped p c
  pub runs : IsStuck p c → ⊥
  -- no cast that only loses precision is blamed
  pub blames : HoldsLosingBlame p c → ⊥
  -- one pick more leaves every cell's type at least as precise
  pub gains : (t : ℕ) → Extends c.heap (picked p c t).heap
  pub casts : CastsHold p c
  -- threads, cells, print words, steps and items are within their limits
  pub limits : IsWithinLimits p c
  -- each type that is recorded, merged or asked for is a type of the language, where those of the script's sites are
  pub types : HasLanguageTypes p → HasTypesOfLanguage c
