-- The configuration, one step of one thread, and a run over a list of picks.
use Rattle.std.specs.Prelude.{◌≡◌, ℕ, ◌+◌, ◌*◌, ◌/◌, ◌%◌, ◌^◌, Bool, true, false, ◌&&◌, List, [], ◌∷◌, ◌++◌, length, Option, Some, None, is_some, unwrap_or, nat_lt, if◌then◌else◌, slice_get, slice_set}
use Rattle.mono_syntax.specs.Limits.{most_items}
use Rattle.mono_syntax.specs.declared.value.Val.{Val}
use Rattle.mono_syntax.specs.declared.cast.CastScript.{CastScript}
use Rattle.cast_machine.specs.declared.data.End.{End}
use Rattle.cast_machine.specs.declared.data.End.TheVariants as ends
use Rattle.cast_machine.specs.declared.data.Settings.{Settings}
use Rattle.cast_machine.specs.declared.data.Frame.{Frame}
use Rattle.cast_machine.specs.declared.data.Thread.{Thread}
use Rattle.cast_machine.specs.declared.data.Observation.{Observation}
use Rattle.cast_machine.specs.declared.data.State.{State}
use Rattle.cast_machine.specs.declared.data.State.TheVariants as state
use Rattle.cast_machine.specs.declared.data.Change.{Change}
use Rattle.cast_machine.specs.declared.data.Change.TheVariants as change
use Rattle.cast_machine.specs.declared.data.Outcome.{Outcome}
use Rattle.cast_machine.specs.declared.data.Outcome.TheVariants as outcome
use Rattle.cast_machine.specs.declared.data.Work.{Work}
use Rattle.cast_machine.specs.declared.data.Work.TheVariants as work
use Rattle.cast_machine.specs.Heap.{Heap, set_cell}
use Rattle.mono_tree.specs.CastScripts.{target_of}
use Rattle.cast_machine.specs.Rows.{goes, does, block_at, statement_at, store, forget, on_bool, branch_turn, loop_turn, short, eval, binary_row, neg_row, not_row, fit_at, fit_top}
use Rattle.cast_machine.specs.Cells.{read_from, obligation_step, write_step}
use Rattle.cast_machine.specs.Calls.{take_args, new_at, call_row, enter_at, fall, begin_at, finished, join_of, leave, print_args, unbound}

-- A configuration: a heap, the threads by number, the printed lines, the end or none, and the limits. The cells drawn are
-- the heap's, the print words drawn are the lines'; each thread counts its steps.
pub record Configuration : Type 0 where
  pub settings : Settings
  pub heap : Heap
  pub lines : List (List Val)
  pub threads : List Thread
  pub end : Option End

-- ---- one row

-- what the row of an item says: the frame f is without the item, and the configuration without the thread
abbrev pub act : CastScript → Configuration → Work → Frame → List Frame → Outcome
act p c (work.Block body i) f below = block_at body i (slice_get body i) f below
act p c (work.Stmt body i) f below = statement_at (slice_get body i) f below
act p c (work.Store x) f below = store x f.values f below
act p c work.Forget f below = forget f.values f below
act p c (work.Branch bs last k) f below = on_bool f.values (branch_turn bs last k) f below
act p c (work.Loop e body) f below = goes (does (work.Eval e ∷ work.Turn e body ∷ []) f) below
act p c (work.Turn e body) f below = on_bool f.values (loop_turn e body) f below
act p c (work.Eval e) f below = eval p e f below
act p c (work.Short b e) f below = short b e f.values f below
act p c (work.Neg a) f below = neg_row a f.values f below
act p c work.Not f below = not_row f.values f below
act p c (work.Binary o k a) f below = binary_row o k a f.values f below
act p c (work.Read m x) f below = read_from c.heap m x f.values f below
act p c (work.New d) f below = new_at c.settings.heap c.heap d (slice_get p.classes d) f below
act p c (work.Call k ks) f below = call_row k ks (λ g m. work.Enter g m (length ks)) f below
act p c (work.Start x k ks) f below = call_row k ks (λ g m. work.Begin x g m (length ks)) f below
act p c (work.Arg k t j) f below = fit_at p k t j (slice_get f.values j) f below
act p c (work.Cast k) f below = fit_top p k (target_of p k) f below
act p c (work.Result k) f below = fit_top p k f.asked f below
act p c (work.Fitted k t j) f below = goes f below
act p c (work.Enter g m n) f below = enter_at m (slice_get p.functions g) (take_args n f.values []) f below
act p c (work.Begin x g m n) f below = begin_at (length c.threads) x m (slice_get p.functions g) (take_args n f.values []) f below
act p c (work.Fall k) f below = fall k f below
act p c (work.Join t) f below = join_of (finished c.threads t) f below
act p c work.Leave f below = leave c.threads f below
act p c (work.Obligation d a x t r) f below = obligation_step p c.heap d a x t r f below
act p c (work.Write m k s x r) f below = write_step p c.heap m k s x r f.values f below
act p c (work.Print n) f below = print_args c.settings.print c.lines (take_args n f.values []) f below

-- ---- one step

-- the end that was recorded first
abbrev pub first_end : Option End → End → Option End
first_end None e = Some e
first_end (Some d) e = Some d

-- what a step changes beside its own thread
abbrev pub changed : Change → Configuration → Configuration
changed change.Same c = c
changed (change.Sets a x d) c = record c { heap = set_cell c.heap a x d }
changed (change.Adds o) c = record c { heap = c.heap ++ o ∷ [] }
changed (change.Says line) c = record c { lines = c.lines ++ line ∷ [] }
changed (change.Begins th) c = record c { threads = c.threads ++ th ∷ [] }
changed (change.Ends e) c = record c { end = first_end c.end e }

-- the items of a frame: 1, and its names, work items and values
abbrev pub frame_items : Frame → ℕ
frame_items f = 1 + (length f.names + (length f.handles + (length f.work + length f.values)))

abbrev pub frames_items : List Frame → ℕ
frames_items [] = 0
frames_items (f ∷ fs) = frame_items f + frames_items fs

-- the items of a thread
abbrev pub items_of : State → ℕ
items_of (state.Running f below) = frame_items f + frames_items below
items_of s = 0

-- a thread that is still running when it has taken as many steps as the setting fails
abbrev pub fueled : ℕ → ℕ → State → State
fueled fuel n (state.Running f below) = if nat_lt n fuel then state.Running f below else state.Failing ends.Fuel
fueled fuel n s = s

-- thread t in another state after so many steps
abbrev pub placed : ℕ → Thread → State → ℕ → Configuration → Configuration
placed t th s n c = record c { threads = slice_set c.threads t (record th { state = s; steps = n }) }

-- a step that is counted: it is taken, unless the thread would have too many items
abbrev pub counted : ℕ → Thread → Change → State → Configuration → Configuration
counted t th d s c =
    if nat_lt most_items (items_of s)
    then placed t th (state.Failing ends.DepthLimit) (th.steps + 1) c
    else placed t th (fueled c.settings.fuel (th.steps + 1) s) (th.steps + 1) (changed d c)

-- the items that stop their thread once an end is recorded
abbrev pub heeds : Work → Bool
heeds (work.Print n) = true
heeds (work.New d) = true
heeds (work.Enter g m n) = true
heeds (work.Begin x g m n) = true
heeds (work.Loop e body) = true
heeds (work.Join t) = true
heeds work.Leave = true
heeds i = false

abbrev pub moved : ℕ → Thread → Outcome → Configuration → Option Configuration
moved t th outcome.NoRow c = None
moved t th outcome.Waits c = None
moved t th (outcome.Moves d s) c = Some (counted t th d s c)

-- the step of a running thread is that of the top item of its top frame
abbrev pub top_step : CastScript → ℕ → Thread → List Work → Frame → List Frame → Configuration → Option Configuration
top_step p t th [] f below c = None
top_step p t th (item ∷ rest) f below c =
    if is_some c.end && heeds item
    then Some (placed t th state.Stopped th.steps c)
    else moved t th (act p c item (record f { work = rest }) below) c

abbrev pub thread_step : CastScript → ℕ → Thread → State → Configuration → Option Configuration
thread_step p t th (state.Running f below) c = top_step p t th f.work f below c
thread_step p t th (state.Failing e) c = Some (placed t th state.Stopped th.steps (record c { end = first_end c.end e }))
thread_step p t th (state.Finished v) c = None
thread_step p t th state.Stopped c = None

-- what stands in a thread's place while it is looked at
abbrev pub taken_out : Thread
taken_out = record { asked = None; state = state.Stopped; steps = 0 }

abbrev pub step_at : CastScript → ℕ → Option Thread → Configuration → Option Configuration
step_at p t None c = None
step_at p t (Some th) c = thread_step p t th th.state (record c { threads = slice_set c.threads t taken_out })

-- the step of thread t, where it has one
unfoldable pub step_of : CastScript → Configuration → ℕ → Option Configuration
step_of p c t = step_at p t (slice_get c.threads t) c

abbrev pub is_runnable : CastScript → Configuration → ℕ → Bool
is_runnable p c t = is_some (step_of p c t)

-- ---- a run

-- a pick of a thread that has no step changes nothing
abbrev pub picked : CastScript → Configuration → ℕ → Configuration
picked p c t = unwrap_or (step_of p c t) c

abbrev pub run_from : CastScript → Configuration → List ℕ → Configuration
run_from p c [] = c
run_from p c (t ∷ ts) = run_from p (picked p c t) ts

-- the main thread begins with its statements, with unbound names, no cell and no line
abbrev pub main_frame : CastScript → Frame
main_frame p = record {
  names = unbound p.main.names;
  handles = unbound p.main.threads;
  started = [];
  asked = None;
  work = work.Block p.main.body 0 ∷ work.Leave ∷ [];
  values = [];
}

abbrev pub start_of : CastScript → Settings → Configuration
start_of p s = record {
  settings = s;
  heap = [];
  lines = [];
  threads = record { asked = None; state = state.Running (main_frame p) []; steps = 0 } ∷ [];
  end = None;
}

-- a run of a script over a list of picks
abbrev pub run_of : CastScript → Settings → List ℕ → Configuration
run_of p s picks = run_from p (start_of p s) picks

abbrev pub observed : Configuration → Observation
observed c = record { lines = c.lines; end = c.end }

-- ---- the order of a seed

-- the linear congruence of Knuth's MMIX
unfoldable pub next_seed : ℕ → ℕ
next_seed s = (s * 6364136223846793005 + 1442695040888963407) % 2 ^ 64

-- the place that a seed picks among r
unfoldable pub pick : ℕ → ℕ → ℕ
pick s r = s / 2 ^ 33 % r

abbrev pub runnable_from : CastScript → Configuration → ℕ → List Thread → List ℕ
runnable_from p c n [] = []
runnable_from p c n (th ∷ ths) = if is_runnable p c n then n ∷ runnable_from p c (n + 1) ths else runnable_from p c (n + 1) ths

-- the runnable threads in number order
abbrev pub runnable_threads : CastScript → Configuration → List ℕ
runnable_threads p c = runnable_from p c 0 c.threads

-- The picks are those of the seed from this configuration on, until an end is recorded: while none is, the seed becomes
-- the next one and picks one of the runnable threads.
pub data IsSeededRun (p : CastScript) : Configuration → ℕ → List ℕ → Type 0 where
  ended : (c : Configuration) (s : ℕ) → is_some c.end ≡ true → IsSeededRun p c s []
  picks : (c : Configuration) (s t : ℕ) (ts : List ℕ) → c.end ≡ None →
      slice_get (runnable_threads p c) (pick (next_seed s) (length (runnable_threads p c))) ≡ Some t →
      IsSeededRun p (picked p c t) (next_seed s) ts → IsSeededRun p c s (t ∷ ts)
