-- Computed: what the code of a tested call computes.
use Rattle.std.specs.Prelude.{ℕ, List, [], ◌∷◌, ◌++◌, length, Option, Some, None, nat_eq, if◌then◌else◌}
use Rattle.mono_syntax.specs.Ty.{Ty, fun}
use Rattle.mono_syntax.specs.TyView.{tys}
use Rattle.mono_syntax.specs.declared.value.Val.{Val}
use Rattle.mono_syntax.specs.declared.value.Val.TheVariants as val
use Rattle.cast_machine.specs.declared.data.Frame.{Frame}
use Rattle.cast_machine.specs.declared.data.Outcome.{Outcome}
use Rattle.cast_machine.specs.Rows.{goes, blames, does}
use Rattle.cast_machine.specs.Calls.{arg_items, count_of}
use Rattle.cast_machine.specs.declared.data.Work.{Work}
use Rattle.cast_machine.specs.declared.data.Work.TheVariants as work

-- a call begins a frame, or a thread with a name
abbrev pub entering : Option (List ℕ) → ℕ → ℕ → Ty → Work
entering None n g m = work.Enter g m n
entering (Some x) n g m = work.Begin x g m n

-- the call of a callee, which stands below the arguments
abbrev pub call_of : Option ℕ → List (Option ℕ) → (ℕ → Ty → Work) → Val → Frame → List Frame → Outcome
call_of k ks enter (val.Fun g (fun ms r)) f below =
    if nat_eq (count_of ms) (length ks) then goes (does (arg_items ks ms ++ enter g (fun ms r) ∷ []) f) below else blames k
call_of k ks enter v f below = blames k

abbrev pub arg_item : Option ℕ → Ty → ℕ → List Work
arg_item None t n = []
arg_item (Some k) t n = work.Arg k t n ∷ []

-- the call of a function with these parameters, which goes on with this item behind its Args
abbrev pub function_call : Option ℕ → List (Option ℕ) → Work → List Ty → Frame → List Frame → Outcome
function_call k ks item ts f below =
    if nat_eq (length ts) (length ks) then goes (does (arg_items ks (tys ts) ++ item ∷ []) f) below else blames k
