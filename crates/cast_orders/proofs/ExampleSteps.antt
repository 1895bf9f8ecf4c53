-- The machine's fits on the small heaps: of an object with a field of Dyn to a field of int, and of an object that holds
-- itself. The definitions say of their steps what they are to say, and the heap at the end is the weakest solution's.
use Rattle.std.proofs.Common.{◌≡◌, ℕ, List, [], ◌∷◌, Some, None, pos, refl}
use Rattle.mono_syntax.specs.Ty.{dyn, int}
use Rattle.mono_syntax.specs.declared.cast.CastScript.{CastScript}
use Rattle.mono_syntax.specs.declared.value.Val.{Val}
use Rattle.mono_syntax.specs.declared.value.Val.TheVariants as val
use Rattle.cast_machine.specs.Heap.{Heap}
use Rattle.cast_machine.specs.Step.{Configuration, run_from, step_of}
use Rattle.cast_machine.specs.declared.data.State.TheVariants as state
use Rattle.cast_machine.specs.declared.data.Work.{Work}
use Rattle.cast_machine.specs.declared.data.Work.TheVariants as work
use Rattle.cast_orders.specs.FitSteps.{BeginsFit, FitLeads, HasEnded, begun, steps}
use Rattle.cast_orders.proofs.Examples.{single, with_x}

module _ (given : CastScript) where
  -- a script whose one class has the field x
  abbrev p : CastScript
  p = record given { classes = record { params = (120 ∷ []) ∷ []; ty = with_x dyn } ∷ [] }

  -- one thread, whose top value is the object
  abbrev running : Heap → List Work → ℕ → Configuration
  running h items n = record {
    settings = record { fuel = 100; heap = 100; print = 100 };
    heap = h;
    lines = [];
    threads = record {
      asked = None;
      state = state.Running (record { names = []; handles = []; started = []; asked = None; work = items; values = val.Obj 0 0 ∷ [] }) [];
      steps = n;
    } ∷ [];
    end = None;
  }

  abbrev one : Val
  one = val.Int (pos 1)

  abbrev before : Configuration
  before = running (single dyn one) (work.Arg 0 (with_x int) 0 ∷ work.Leave ∷ []) 0

  abbrev opened : Configuration
  opened = running (single dyn one) (work.Obligation 0 0 (120 ∷ []) int None ∷ work.Fitted 0 (with_x int) 0 ∷ work.Leave ∷ []) 1

  abbrev strengthened : Configuration
  strengthened = running (single int one) (work.Fitted 0 (with_x int) 0 ∷ work.Leave ∷ []) 2

  abbrev after : Configuration
  after = running (single int one) (work.Leave ∷ []) 3

  first : step_of p before 0 ≡ Some opened
  unfolding step_of
  first = refl

  second : step_of p opened 0 ≡ Some strengthened
  unfolding step_of
  second = refl

  third : step_of p strengthened 0 ≡ Some after
  unfolding step_of
  third = refl

  pub begins : BeginsFit p before 0 (val.Obj 0 0) (with_x int)
  begins = record {
    frame = _;
    below = [];
    runs = record { thread = _; at = refl; running = refl };
    item = work.Arg 0 (with_x int) 0;
    rest = work.Leave ∷ [];
    top = refl;
    place = 0;
    fits = (refl, refl);
    value = refl;
  }

  pub leads : FitLeads p before 0 (work.Leave ∷ []) after
  leads =
      steps strengthened after
      (steps opened strengthened
      (steps before opened begun
      (record { frame = _; below = []; runs = record { thread = _; at = refl; running = refl }; item = work.Arg 0 (with_x int) 0; more = []; top = refl }) first)
      (record { frame = _; below = []; runs = record { thread = _; at = refl; running = refl }; item = work.Obligation 0 0 (120 ∷ []) int None; more = work.Fitted 0 (with_x int) 0 ∷ []; top = refl }) second)
      (record { frame = _; below = []; runs = record { thread = _; at = refl; running = refl }; item = work.Fitted 0 (with_x int) 0; more = []; top = refl }) third

  pub ends : HasEnded after 0 (work.Leave ∷ [])
  ends = record { frame = _; below = []; runs = record { thread = _; at = refl; running = refl }; top = refl }

  -- the object that holds itself: its own obligation waits until the inner one, which is the same, is met
  pub cyclic : run_from p (running (single dyn (val.Obj 0 0)) (work.Arg 0 (with_x (with_x dyn)) 0 ∷ work.Leave ∷ []) 0) (0 ∷ 0 ∷ 0 ∷ 0 ∷ 0 ∷ []) ≡ running (single (with_x dyn) (val.Obj 0 0)) (work.Leave ∷ []) 5
  unfolding step_of
  cyclic = refl
