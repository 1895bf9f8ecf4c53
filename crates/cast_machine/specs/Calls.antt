-- The rows of objects, calls, threads and prints.
use Rattle.std.specs.Prelude.{ℕ, zero, suc, ◌+◌, Bool, true, ◌&&◌, List, [], ◌∷◌, ◌++◌, length, Option, Some, None, is_some, nat_le, nat_eq, if◌then◌else◌, slice_get}
use Rattle.mono_syntax.specs.Limits.{most_threads}
use Rattle.mono_syntax.specs.Ty.{Ty, fun, Tys, no_tys, more_tys, Fields, no_fields, more_fields}
use Rattle.mono_syntax.specs.declared.value.Val.{Val}
use Rattle.mono_syntax.specs.declared.value.Val.TheVariants as val
use Rattle.mono_syntax.specs.declared.cast.CastClass.{CastClass}
use Rattle.mono_syntax.specs.declared.cast.CastFunction.{CastFunction}
use Rattle.mono_syntax.specs.declared.cast.NamedType.{NamedType}
use Rattle.cast_machine.specs.declared.data.Cell.{Cell}
use Rattle.cast_machine.specs.declared.data.Object.{Object}
use Rattle.cast_machine.specs.declared.data.End.TheVariants as ends
use Rattle.cast_machine.specs.declared.data.Frame.{Frame}
use Rattle.cast_machine.specs.declared.data.Thread.{Thread}
use Rattle.cast_machine.specs.declared.data.State.{State}
use Rattle.cast_machine.specs.declared.data.State.TheVariants as state
use Rattle.cast_machine.specs.declared.data.Change.TheVariants as change
use Rattle.cast_machine.specs.declared.data.Outcome.{Outcome}
use Rattle.cast_machine.specs.declared.data.Outcome.TheVariants as outcome
use Rattle.cast_machine.specs.declared.data.Work.{Work}
use Rattle.cast_machine.specs.declared.data.Work.TheVariants as work
use Rattle.cast_machine.specs.Maps.{lookup, update}
use Rattle.cast_machine.specs.Heap.{Heap, size, heap_size}
use Rattle.mono_tree.specs.CastScripts.{fields_of, result_of}
use Rattle.cast_machine.specs.Rows.{goes, fails, blames, does, has, puts, leaving}
use Rattle.cast_machine.specs.Cells.{holds}

-- the n topmost values, the lowest first, and those below them
abbrev pub take_args : ℕ → List Val → List Val → Option (List Val × List Val)
take_args zero vs args = Some (args, vs)
take_args (suc n) [] args = None
take_args (suc n) (v ∷ vs) args = take_args n vs (v ∷ args)

-- ---- objects

-- the arguments by the names of their fields
abbrev pub named : List (List ℕ) → List Val → List (List ℕ × Val)
named (n ∷ ns) (v ∷ vs) = (n, v) ∷ named ns vs
named ns vs = []

abbrev pub cell_of : List ℕ → Ty → Option Val → Option (List (List ℕ × Cell)) → Option (List (List ℕ × Cell))
cell_of n t (Some v) (Some cs) = Some ((n, holds t v) ∷ cs)
cell_of n t v cs = None

-- a cell for each field in name order, with its declared type and its argument
abbrev pub cells_of : Fields → List (List ℕ × Val) → Option (List (List ℕ × Cell))
cells_of no_fields given = Some []
cells_of (more_fields n t fs) given = cell_of n t (lookup given n) (cells_of fs given)

-- the object at the end of the heap, where the setting has room for it
abbrev pub new_object : ℕ → Heap → ℕ → Option (List (List ℕ × Cell)) → Frame → List Frame → Outcome
new_object room h c None f below = outcome.NoRow
new_object room h c (Some cells) f below =
    let o : Object = record { class = c; cells = cells; waits = 0; maker = 0 } in
    if nat_le (heap_size h + size o) room
    then outcome.Moves (change.Adds o) (state.Running (has (val.Obj c (heap_size h) ∷ f.values) f) below)
    else fails ends.HeapFull

abbrev pub new_args : ℕ → Heap → ℕ → CastClass → Option (List Val × List Val) → Frame → List Frame → Outcome
new_args room h c d None f below = outcome.NoRow
new_args room h c d (Some a) f below = new_object room h c (cells_of (fields_of d.ty) (named d.params a.0)) (has a.1 f) below

abbrev pub new_at : ℕ → Heap → ℕ → Option CastClass → Frame → List Frame → Outcome
new_at room h c None f below = outcome.NoRow
new_at room h c (Some d) f below = new_args room h c d (take_args (length d.params) f.values []) f below

-- ---- calls

abbrev pub count_of : Tys → ℕ
count_of no_tys = 0
count_of (more_tys t ts) = suc (count_of ts)

-- an Arg for each Argument site, the first argument's on top; the last argument is the top value
abbrev pub arg_items : List (Option ℕ) → Tys → List Work
arg_items (Some k ∷ ks) (more_tys t ts) = work.Arg k t (count_of ts) ∷ arg_items ks ts
arg_items (None ∷ ks) (more_tys t ts) = arg_items ks ts
arg_items ks ts = []

-- the callee below the arguments is a function of n parameters, and else the Call site is blamed
abbrev pub call_test : Option ℕ → List (Option ℕ) → (ℕ → Ty → Work) → Option (List Val × List Val) → Frame → List Frame → Outcome
call_test k ks enter (Some (args, val.Fun g (fun ms r) ∷ rest)) f below =
    if nat_eq (count_of ms) (length ks) then goes (does (arg_items ks ms ++ enter g (fun ms r) ∷ []) f) below else blames k
call_test k ks enter (Some (args, v ∷ rest)) f below = blames k
call_test k ks enter o f below = outcome.NoRow

abbrev pub call_row : Option ℕ → List (Option ℕ) → (ℕ → Ty → Work) → Frame → List Frame → Outcome
call_row k ks enter f below = call_test k ks enter (take_args (length ks) f.values []) f below

abbrev pub unbound : {A : Type 0} → List NamedType → List (List ℕ × Option A)
unbound [] = []
unbound (b ∷ bs) = (b.name, None) ∷ unbound bs

abbrev pub bind : List (List ℕ) → List Val → List (List ℕ × Option Val) → List (List ℕ × Option Val)
bind (x ∷ xs) (v ∷ vs) names = bind xs vs (update names x (Some v))
bind xs vs names = names

-- the first frame of a call at a merged type: the parameters are bound, and the other names are unbound
abbrev pub called : CastFunction → Ty → List Val → Frame
called d m args = record {
  names = bind d.params args (unbound d.block.names);
  handles = unbound d.block.threads;
  started = [];
  asked = Some (result_of m);
  work = work.Block d.block.body 0 ∷ work.Fall d.falls ∷ [];
  values = [];
}

abbrev pub enter_at : Ty → Option CastFunction → Option (List Val × List Val) → Frame → List Frame → Outcome
enter_at m (Some d) (Some (args, v ∷ rest)) f below = goes (called d m args) (has rest f ∷ below)
enter_at m d o f below = outcome.NoRow

-- the end of a function's body gives None
abbrev pub fall : Option ℕ → Frame → List Frame → Outcome
fall k f below = goes (record f { work = leaving k ++ f.work; values = val.Nil ∷ f.values }) below

-- ---- threads

-- the thread of the next number runs the call, and its name and the frame's list have that number
abbrev pub begin_at : ℕ → List ℕ → Ty → Option CastFunction → Option (List Val × List Val) → Frame → List Frame → Outcome
begin_at made x m (Some d) (Some (args, v ∷ rest)) f below =
    if nat_le most_threads made then fails ends.ThreadLimit
    else outcome.Moves
    (change.Begins (record { asked = Some (result_of m); state = state.Running (called d m args) []; steps = 0 }))
    (state.Running (record f { handles = update f.handles x (Some made); started = f.started ++ made ∷ []; values = rest }) below)
begin_at made x m d o f below = outcome.NoRow

abbrev pub value_of : State → Option Val
value_of (state.Finished v) = Some v
value_of s = None

abbrev pub value_in : Option Thread → Option Val
value_in None = None
value_in (Some th) = value_of th.state

-- the value of a thread that is finished
abbrev pub finished : List Thread → ℕ → Option Val
finished threads t = value_in (slice_get threads t)

-- a join waits until its thread is finished
abbrev pub join_of : Option Val → Frame → List Frame → Outcome
join_of None f below = outcome.Waits
join_of (Some v) f below = puts v f below

abbrev pub all_finished : List Thread → List ℕ → Bool
all_finished threads [] = true
all_finished threads (t ∷ ts) = is_some (finished threads t) && all_finished threads ts

-- the frame goes, and its value goes to the frame below, or the thread is finished with it
abbrev pub leave_to : Val → List Frame → Outcome
leave_to v [] = outcome.Moves change.Same (state.Finished v)
leave_to v (f ∷ below) = puts v f below

-- the main block is asked for no result: its end is the run's
abbrev pub leave_with : List Val → Option Ty → List Frame → Outcome
leave_with vs None below = outcome.Moves (change.Ends ends.Done) state.Stopped
leave_with [] (Some t) below = outcome.NoRow
leave_with (v ∷ vs) (Some t) below = leave_to v below

-- a frame is left once each thread that it started is finished
abbrev pub leave : List Thread → Frame → List Frame → Outcome
leave threads f below = if all_finished threads f.started then leave_with f.values f.asked below else outcome.Waits

-- ---- prints

-- the words that the printed lines take
abbrev pub words_of : List (List Val) → ℕ
words_of [] = 0
words_of (line ∷ lines) = length line + 1 + words_of lines

-- a line of the n topmost values, where the setting has room for them and one word more
abbrev pub print_args : ℕ → List (List Val) → Option (List Val × List Val) → Frame → List Frame → Outcome
print_args room lines None f below = outcome.NoRow
print_args room lines (Some a) f below =
    if nat_le (words_of lines + (length a.0 + 1)) room
    then outcome.Moves (change.Says a.0) (state.Running (has a.1 f) below)
    else fails ends.PrintFull
