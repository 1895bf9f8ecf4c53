-- Steps on small configurations, each with the configuration that is to come of it, worked out by hand. They have the rows of
-- calls and threads, each limit, and each row that heeds a recorded end.
use Rattle.std.specs.Prelude.{true, ◌≡◌, ℕ, zero, suc, List, [], ◌∷◌, ◌++◌, length, Option, Some, None, pos}
use Rattle.mono_syntax.specs.Ty.{Ty, dyn, int, str, fun, obj, no_tys, more_tys, no_fields, more_fields}
use Rattle.mono_syntax.specs.CastExpr.{nil, truth}
use Rattle.mono_syntax.specs.CastStmt.{CastStmt, give, pass}
use Rattle.mono_syntax.specs.declared.cast.CastClass.{CastClass}
use Rattle.mono_syntax.specs.declared.cast.CastFunction.{CastFunction}
use Rattle.mono_syntax.specs.declared.cast.CastScript.{CastScript}
use Rattle.mono_syntax.specs.declared.value.Val.{Val}
use Rattle.mono_syntax.specs.declared.value.Val.TheVariants as val
use Rattle.cast_machine.specs.Heap.{Heap}
use Rattle.cast_machine.specs.Step.{Configuration, step_of}
use Rattle.cast_machine.specs.declared.data.Cell.{Cell}
use Rattle.cast_machine.specs.declared.data.End.{End}
use Rattle.cast_machine.specs.declared.data.End.TheVariants as ends
use Rattle.cast_machine.specs.declared.data.Frame.{Frame}
use Rattle.cast_machine.specs.declared.data.Object.{Object}
use Rattle.cast_machine.specs.declared.data.State.{State}
use Rattle.cast_machine.specs.declared.data.State.TheVariants as state
use Rattle.cast_machine.specs.declared.data.Thread.{Thread}
use Rattle.cast_machine.specs.declared.data.Work.{Work}
use Rattle.cast_machine.specs.declared.data.Work.TheVariants as work

-- ---- a script: a class C with the field x, and a function f(x) with another name y and a thread t

abbrev x : List ℕ
x = 120 ∷ []

abbrev y : List ℕ
y = 121 ∷ []

abbrev t : List ℕ
t = 116 ∷ []

-- the merged type of f here
abbrev merged : Ty
merged = fun (more_tys int no_tys) int

abbrev body : List CastStmt
body = pass ∷ give (Some 5) nil ∷ []

abbrev f : CastFunction
f = record {
  params = x ∷ [];
  ty = fun (more_tys dyn no_tys) dyn;
  block = record {
    names = record { name = x; ty = dyn } ∷ record { name = y; ty = dyn } ∷ [];
    threads = record { name = t; ty = dyn } ∷ [];
    body = body;
  };
  falls = Some 5;
}

abbrev class : CastClass
class = record { params = x ∷ []; ty = obj (more_fields x dyn no_fields) }

abbrev script : CastScript → CastScript
script given = record given { classes = class ∷ []; functions = f ∷ [] }

-- ---- frames, threads and configurations

abbrev three : Val
three = val.Int (pos 3)

abbrev seven : Val
seven = val.Int (pos 7)

abbrev callee : Val
callee = val.Fun 0 merged

-- a frame of f that asks for an int
abbrev frame : List Work → List Val → Frame
frame items vs = record {
  names = (x, Some three) ∷ (y, None) ∷ [];
  handles = (t, None) ∷ [];
  started = [];
  asked = Some int;
  work = items;
  values = vs;
}

-- the same where thread 1 was started as t
abbrev starter : List Work → List Val → Frame
starter items vs = record (frame items vs) { handles = (t, Some 1) ∷ []; started = 1 ∷ [] }

-- the first frame of a call of f with 7
abbrev entered : Frame
entered = record {
  names = (x, Some seven) ∷ (y, None) ∷ [];
  handles = (t, None) ∷ [];
  started = [];
  asked = Some int;
  work = work.Block body 0 ∷ work.Fall (Some 5) ∷ [];
  values = [];
}

-- the frame of the main block, which asks for nothing
abbrev main_work : List Work → Frame
main_work items = record { names = []; handles = []; started = []; asked = None; work = items; values = [] }

abbrev thread : State → ℕ → Thread
thread s n = record { asked = Some int; state = s; steps = n }

abbrev runs : Frame → List Frame → ℕ → Thread
runs g below n = thread (state.Running g below) n

abbrev fails : End → ℕ → Thread
fails e n = thread (state.Failing e) n

abbrev cell : Cell
cell = record { ty = dyn; value = three }

abbrev object : Object
object = record { class = 0; cells = (x, cell) ∷ []; waits = 0; maker = 0 }

abbrev has : Heap → List (List Val) → List Thread → Option End → Configuration
has h lines ths e = record { settings = record { fuel = 100; heap = 1; print = 3 }; heap = h; lines = lines; threads = ths; end = e }

abbrev alone : Thread → Configuration
alone th = has [] [] (th ∷ []) None

-- the step of thread 0
abbrev Goes : CastScript → Configuration → Configuration → Type 0
Goes given c d = step_of (script given) c 0 ≡ Some d

-- of a thread that is alone
abbrev GoesAlone : CastScript → Thread → Thread → Type 0
GoesAlone given th after = Goes given (alone th) (alone after)

abbrev Waits : CastScript → Configuration → Type 0
Waits given c = step_of (script given) c 0 ≡ None

-- ---- calls

pub record CallSteps (given : CastScript) : Type 0 where
  -- an Arg for the argument that has a site, and Enter below it; both values stay
  pub call : GoesAlone given
      (runs (frame (work.Call (Some 2) (Some 1 ∷ []) ∷ work.Forget ∷ []) (seven ∷ callee ∷ three ∷ [])) [] 4)
      (runs (frame (work.Arg 1 int 0 ∷ work.Enter 0 merged 1 ∷ work.Forget ∷ []) (seven ∷ callee ∷ three ∷ [])) [] 5)
  -- an argument too few
  pub arity : GoesAlone given (runs (frame (work.Call (Some 2) [] ∷ []) (callee ∷ [])) [] 4) (fails (ends.Blame 2) 5)
  -- no function
  pub no_function : GoesAlone given (runs (frame (work.Call (Some 2) (None ∷ []) ∷ []) (seven ∷ three ∷ [])) [] 4) (fails (ends.Blame 2) 5)
  pub arg : GoesAlone given
      (runs (frame (work.Arg 1 int 0 ∷ work.Enter 0 merged 1 ∷ []) (seven ∷ callee ∷ [])) [] 5)
      (runs (frame (work.Enter 0 merged 1 ∷ []) (seven ∷ callee ∷ [])) [] 6)
  pub arg_blamed : GoesAlone given
      (runs (frame (work.Arg 1 str 0 ∷ work.Enter 0 merged 1 ∷ []) (seven ∷ callee ∷ [])) [] 5)
      (fails (ends.Blame 1) 6)
  -- a new frame, and below it the caller's without both values
  pub enter : GoesAlone given
      (runs (frame (work.Enter 0 merged 1 ∷ work.Forget ∷ []) (seven ∷ callee ∷ three ∷ [])) [] 6)
      (runs entered (frame (work.Forget ∷ []) (three ∷ []) ∷ []) 7)
  -- a return takes all work of its frame away
  pub give : GoesAlone given
      (runs (frame (work.Stmt body 1 ∷ work.Block body 2 ∷ work.Fall (Some 5) ∷ []) []) [] 7)
      (runs (frame (work.Eval nil ∷ work.Result 5 ∷ work.Leave ∷ []) []) [] 8)
  pub fall : GoesAlone given
      (runs (frame (work.Fall (Some 5) ∷ []) []) [] 8)
      (runs (frame (work.Result 5 ∷ work.Leave ∷ []) (val.Nil ∷ [])) [] 9)
  pub fall_without_site : GoesAlone given (runs (frame (work.Fall None ∷ []) []) [] 8) (runs (frame (work.Leave ∷ []) (val.Nil ∷ [])) [] 9)
  pub result : GoesAlone given
      (runs (frame (work.Result 5 ∷ work.Leave ∷ []) (seven ∷ [])) [] 8)
      (runs (frame (work.Leave ∷ []) (seven ∷ [])) [] 9)
  pub result_blamed : GoesAlone given (runs (frame (work.Result 5 ∷ work.Leave ∷ []) (val.Nil ∷ [])) [] 8) (fails (ends.Blame 5) 9)
  -- the value goes to the frame below
  pub leave : GoesAlone given
      (runs (frame (work.Leave ∷ []) (seven ∷ [])) (frame (work.Forget ∷ []) (three ∷ []) ∷ []) 9)
      (runs (frame (work.Forget ∷ []) (seven ∷ three ∷ [])) [] 10)

-- ---- threads

abbrev other : State → Thread
other s = thread s 20

pub record ThreadSteps (given : CastScript) : Type 0 where
  pub start : GoesAlone given
      (runs (frame (work.Start t None (Some 1 ∷ []) ∷ work.Fall None ∷ []) (seven ∷ callee ∷ [])) [] 4)
      (runs (frame (work.Arg 1 int 0 ∷ work.Begin t 0 merged 1 ∷ work.Fall None ∷ []) (seven ∷ callee ∷ [])) [] 5)
  -- thread 1 begins with the frame of the call, and t is its name
  pub begin : Goes given
      (alone (runs (frame (work.Begin t 0 merged 1 ∷ work.Fall None ∷ []) (seven ∷ callee ∷ three ∷ [])) [] 5))
      (has [] [] (runs (starter (work.Fall None ∷ []) (three ∷ [])) [] 6 ∷ runs entered [] 0 ∷ []) None)
  pub join_waits : Waits given (has [] [] (runs (starter (work.Join 1 ∷ work.Forget ∷ []) []) [] 7 ∷ runs entered [] 1 ∷ []) None)
  pub join : Goes given
      (has [] [] (runs (starter (work.Join 1 ∷ work.Forget ∷ []) []) [] 7 ∷ other (state.Finished seven) ∷ []) None)
      (has [] [] (runs (starter (work.Forget ∷ []) (seven ∷ [])) [] 8 ∷ other (state.Finished seven) ∷ []) None)
  pub leave_waits : Waits given (has [] [] (runs (starter (work.Leave ∷ []) (three ∷ [])) [] 7 ∷ runs entered [] 1 ∷ []) None)
  -- the last frame of a thread
  pub leave : Goes given
      (has [] [] (runs (starter (work.Leave ∷ []) (three ∷ [])) [] 7 ∷ other (state.Finished seven) ∷ []) None)
      (has [] [] (thread (state.Finished three) 8 ∷ other (state.Finished seven) ∷ []) None)
  -- the main block's end is the run's
  pub leave_main : Goes given
      (alone (runs (main_work (work.Leave ∷ [])) [] 7))
      (has [] [] (thread state.Stopped 8 ∷ []) (Some ends.Done))
  -- a failing thread records its end in a step that isn't counted, and only where none is recorded
  pub records : Goes given (alone (fails (ends.Blame 1) 7)) (has [] [] (thread state.Stopped 7 ∷ []) (Some (ends.Blame 1)))
  pub records_first : Goes given
      (has [] [] (fails (ends.Blame 1) 7 ∷ []) (Some ends.Fuel))
      (has [] [] (thread state.Stopped 7 ∷ []) (Some ends.Fuel))

-- ---- limits

-- a frame that has started the last thread
abbrev last_starter : Frame
last_starter = record (frame [] []) { handles = (t, Some 255) ∷ []; started = 255 ∷ [] }

abbrev copies : ℕ → Thread → List Thread
copies zero th = []
copies (suc n) th = th ∷ copies n th

pub record LimitSteps (given : CastScript) : Type 0 where
  -- the hundredth step of a thread that is still running
  pub fuel : GoesAlone given (runs (frame (work.Forget ∷ work.Fall None ∷ []) (three ∷ [])) [] 99) (fails ends.Fuel 100)
  pub fuel_left : GoesAlone given
      (runs (frame (work.Forget ∷ work.Fall None ∷ []) (three ∷ [])) [] 98)
      (runs (frame (work.Fall None ∷ []) []) [] 99)
  -- room for the one cell of C
  pub new : Goes given
      (alone (runs (frame (work.New 0 ∷ []) (three ∷ [])) [] 4))
      (has (object ∷ []) [] (runs (frame [] (val.Obj 0 0 ∷ [])) [] 5 ∷ []) None)
  pub heap : Goes given
      (has (object ∷ []) [] (runs (frame (work.New 0 ∷ []) (three ∷ [])) [] 4 ∷ []) None)
      (has (object ∷ []) [] (fails ends.HeapFull 5 ∷ []) None)
  -- two values and one word more
  pub print : Goes given
      (alone (runs (frame (work.Print 2 ∷ []) (seven ∷ three ∷ [])) [] 4))
      (has [] ((three ∷ seven ∷ []) ∷ []) (runs (frame [] []) [] 5 ∷ []) None)
  pub print_full : Goes given
      (has [] ([] ∷ []) (runs (frame (work.Print 2 ∷ []) (seven ∷ three ∷ [])) [] 4 ∷ []) None)
      (has [] ([] ∷ []) (fails ends.PrintFull 5 ∷ []) None)
  -- thread 255 is the last that is made
  pub last_thread : Goes given
      (has [] [] (runs (frame (work.Begin t 0 merged 1 ∷ []) (seven ∷ callee ∷ [])) [] 5 ∷ copies 254 (other state.Stopped)) None)
      (has [] [] (runs last_starter [] 6 ∷ copies 254 (other state.Stopped) ++ runs entered [] 0 ∷ []) None)
  pub threads : Goes given
      (has [] [] (runs (frame (work.Begin t 0 merged 1 ∷ []) (seven ∷ callee ∷ [])) [] 5 ∷ copies 255 (other state.Stopped)) None)
      (has [] [] (fails ends.ThreadLimit 6 ∷ copies 255 (other state.Stopped)) None)
  -- the frame that is to come has itself, two names, a thread's name, a work item and one value more: six items beside
  -- these values, so 16,378 of them are the limit
  pub depth_left : (vs : List Val) → length vs ≡ 16378 → GoesAlone given
      (runs (frame (work.Fall None ∷ []) vs) [] 5)
      (runs (frame (work.Leave ∷ []) (val.Nil ∷ vs)) [] 6)
  pub depth : (vs : List Val) → length vs ≡ 16379 → GoesAlone given (runs (frame (work.Fall None ∷ []) vs) [] 5) (fails ends.DepthLimit 6)

-- ---- behind a recorded end

-- the thread with this item on top is stopped, and no step is counted
abbrev pub Stops : CastScript → Work → List Val → Type 0
Stops given item vs = Goes given
    (has [] [] (runs (frame (item ∷ work.Fall None ∷ []) vs) [] 4 ∷ other (state.Finished three) ∷ []) (Some ends.Fuel))
    (has [] [] (thread state.Stopped 4 ∷ other (state.Finished three) ∷ []) (Some ends.Fuel))

pub record EndSteps (given : CastScript) : Type 0 where
  pub print : Stops given (work.Print 1) (three ∷ [])
  pub new : Stops given (work.New 0) (three ∷ [])
  pub enter : Stops given (work.Enter 0 merged 1) (seven ∷ callee ∷ [])
  pub begin : Stops given (work.Begin t 0 merged 1) (seven ∷ callee ∷ [])
  pub loop : Stops given (work.Loop (truth true) body) []
  pub join : Stops given (work.Join 1) []
  pub join_unfinished : Stops given (work.Join 2) []
  pub leave : Stops given work.Leave (three ∷ [])
  -- any other item goes on
  pub forget : Goes given
      (has [] [] (runs (frame (work.Forget ∷ work.Fall None ∷ []) (three ∷ [])) [] 4 ∷ []) (Some ends.Fuel))
      (has [] [] (runs (frame (work.Fall None ∷ []) []) [] 5 ∷ []) (Some ends.Fuel))

-- all of them
pub record AreExampleSteps (given : CastScript) : Type 0 where
  pub calls : CallSteps given
  pub threads : ThreadSteps given
  pub limits : LimitSteps given
  pub ends : EndSteps given
