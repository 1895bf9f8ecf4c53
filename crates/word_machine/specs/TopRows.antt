-- What the top item of a thread wants of the words says what its row is.
use Rattle.std.specs.Prelude.{◌≡◌, ◌⊎◌, ◌≤◌, ℕ, ◌+◌, Bool, true, false, List, [], ◌∷◌, ◌++◌, length, Option, Some, None, nat_le}
use Rattle.std.specs.Prelude.{if◌then◌else◌, slice_get}
use Rattle.mono_syntax.specs.Limits.{most_threads}
use Rattle.mono_syntax.specs.Ty.{Ty}
use Rattle.mono_syntax.specs.declared.cast.CastFunction.{CastFunction}
use Rattle.mono_syntax.specs.declared.cast.CastScript.{CastScript}
use Rattle.mono_syntax.specs.declared.value.Val.{Val}
use Rattle.mono_tree.specs.CastScripts.{class_names, result_of}
use Rattle.cast_machine.specs.Calls.{take_args, called, words_of, finished, all_finished, join_of, leave_with}
use Rattle.cast_machine.specs.Cells.{blaming, settle, on_cell}
use Rattle.cast_machine.specs.Heap.{size, heap_size, cell_at}
use Rattle.cast_machine.specs.Maps.{update}
use Rattle.cast_machine.specs.Rows.{has, fails}
use Rattle.cast_machine.specs.Step.{Configuration, act, frame_items}
use Rattle.cast_machine.specs.declared.data.Cell.{Cell}
use Rattle.cast_machine.specs.declared.data.Frame.{Frame}
use Rattle.cast_machine.specs.declared.data.Outcome.{Outcome}
use Rattle.cast_machine.specs.declared.data.Ready.{Ready}
use Rattle.cast_machine.specs.declared.data.State.{State}
use Rattle.cast_machine.specs.declared.data.Verdict.{Verdict}
use Rattle.cast_machine.specs.declared.data.Work.{Work}
use Rattle.word_machine.specs.Tops.{Top, has_name, TMiss, TBegin, TLeave, top_of, TBlind, TJoin, TPrint, TLocal, TNew, own, TCell, TLook}
use Rattle.cast_machine.specs.declared.data.Change.TheVariants as change
use Rattle.cast_machine.specs.declared.data.End.TheVariants as ends
use Rattle.cast_machine.specs.declared.data.Outcome.TheVariants as outcome
use Rattle.cast_machine.specs.declared.data.State.TheVariants as state
use Rattle.mono_syntax.specs.declared.value.Val.TheVariants as val
use Rattle.cast_machine.specs.declared.data.Verdict.TheVariants as verdict
use Rattle.cast_machine.specs.declared.data.Work.TheVariants as work

-- what an item does that needs no word; none finishes its thread
abbrev pub lift : Option State → Outcome
lift None = outcome.NoRow
lift (Some (state.Finished v)) = outcome.NoRow
lift (Some s) = outcome.Moves change.Same s

-- ---- what a top says of the row

-- the receiver stands on top, and whether its class has the field
pub record FieldSays (p : CastScript) (f : Frame) (a : ℕ) (x : List ℕ) (b : Bool) : Type 0 where
  pub class : ℕ
  pub rest : List Val
  pub is : f.values ≡ val.Obj class a ∷ rest
  pub has : has_name (class_names p class) x ≡ b

-- the receiver has the field, or the item is an obligation there
abbrev pub CellSays : CastScript → Work → Frame → ℕ → List ℕ → Type 0
CellSays p i f a x = FieldSays p f a x true ⊎ ((c : ℕ) × (t : Ty) × (r : Option Ready) × (i ≡ work.Obligation c a x t r))

-- the item is a Begin of this function, with these arguments
pub record BeginSays (p : CastScript) (i : Work) (f : Frame) (x : List ℕ) (j : ℕ) (d : CastFunction) (m : Ty)
    (args : List Val) : Type 0 where
  pub count : ℕ
  pub is : i ≡ work.Begin x j m count
  pub rest : List Val
  pub taken : take_args count f.values [] ≡ Some (args, rest)
  pub at : slice_get p.functions j ≡ Some d

-- What an item wants says what its row is: by itself, by one cell, by a draw, or by what is finished.
abbrev pub TopSays : CastScript → Configuration → Work → Frame → List Frame → Top → Type 0
TopSays p c i f below TLocal = act p c i f below ≡ lift (own p c.settings i f below)
TopSays p c i f below TLook = act p c i f below ≡ lift (own p c.settings i f below)
TopSays p c i f below (TMiss k) = (a : ℕ) × (x : List ℕ) × (v : Cell → Verdict) × FieldSays p f a x false
    × (act p c i f below ≡ settle a x (on_cell (blaming k) v (cell_at c.heap a x)) below)
TopSays p c i f below (TCell a x v) = (none : Verdict) × (act p c i f below ≡ settle a x (on_cell none v (cell_at c.heap a x)) below)
    × CellSays p i f a x
TopSays p c i f below (TBlind a x new g) =
    (none : Verdict) × (v : Cell → Verdict) × (act p c i f below ≡ settle a x (on_cell none v (cell_at c.heap a x)) below)
    × ((d : Cell) → v d ≡ verdict.Sets new g) × FieldSays p f a x true
TopSays p c i f below (TNew o g) =
    (act p c i f below ≡
    (if nat_le (heap_size c.heap + size o) c.settings.heap
    then outcome.Moves (change.Adds o) (state.Running (has (val.Obj o.class (heap_size c.heap) ∷ g.values) g) below)
    else fails ends.HeapFull))
    × (o ≡ record { class = o.class; cells = o.cells; waits = 0; maker = 0 })
    × (frame_items g ≤ frame_items f)
TopSays p c i f below (TPrint args g) =
    (act p c i f below ≡
    (if nat_le (words_of c.lines + (length args + 1)) c.settings.print
    then outcome.Moves (change.Says args) (state.Running g below)
    else fails ends.PrintFull))
    × (frame_items g ≤ frame_items f)
TopSays p c i f below TLeave = act p c i f below ≡ (if all_finished c.threads f.started then leave_with f.values f.asked below
    else outcome.Waits)
TopSays p c i f below (TJoin u) = act p c i f below ≡ join_of (finished c.threads u) f below
TopSays p c i f below (TBegin x j d m args g) =
    (act p c i f below ≡
    (if nat_le most_threads (length c.threads)
    then fails ends.ThreadLimit
    else outcome.Moves
    (change.Begins (record { asked = Some (result_of m); state = state.Running (called d m args) []; steps = 0 }))
    (state.Running
    (record g { handles = update g.handles x (Some (length c.threads)); started = g.started ++ length c.threads ∷ [] }) below)))
    × BeginSays p i f x j d m args
    × (frame_items g ≤ frame_items f)

-- of every item, in every configuration
abbrev pub TopsSay : Type 0
TopsSay = (p : CastScript) (c : Configuration) (i : Work) (f : Frame) (below : List Frame) → TopSays p c i f below (top_of p i f)
