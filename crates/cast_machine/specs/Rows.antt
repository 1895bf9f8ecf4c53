-- The rows of items that look at no cell and at no other thread. A row is given the frame without its item.
use Rattle.std.specs.Prelude.{ℕ, ◌+◌, min, Bool, true, false, not, List, [], ◌∷◌, ◌++◌, length, map, Option, Some, None, pos, slice_get, slice_set}
use Rattle.mono_syntax.specs.Limits.{greatest_integer}
use Rattle.mono_syntax.specs.Ty.{Ty}
use Rattle.mono_syntax.specs.CastExpr.{CastExpr, number, text, truth, nil, local, function, neg, negation, binary, both, either, read, make, call, fit, join}
use Rattle.mono_syntax.specs.CastExprView.{cast_exprs_list}
use Rattle.mono_syntax.specs.CastStmt.{CastStmt, pass, give, print, assign, write, start, plain, if_any, loop}
use Rattle.mono_syntax.specs.CastStmtView.{cast_block_list}
use Rattle.mono_syntax.specs.declared.leaf.Op.{Op}
use Rattle.mono_syntax.specs.declared.value.Val.{Val}
use Rattle.mono_syntax.specs.declared.value.Val.TheVariants as val
use Rattle.mono_syntax.specs.declared.cast.CastScript.{CastScript}
use Rattle.mono_syntax.specs.declared.cast.CastBranch.{CastBranch}
use Rattle.mono_syntax.specs.declared.cast.CastFunction.{CastFunction}
use Rattle.cast_machine.specs.declared.data.End.{End}
use Rattle.cast_machine.specs.declared.data.End.TheVariants as ends
use Rattle.cast_machine.specs.declared.data.Fit.{Fit}
use Rattle.cast_machine.specs.declared.data.Fit.TheVariants as fits
use Rattle.cast_machine.specs.declared.data.Operated.{Operated}
use Rattle.cast_machine.specs.declared.data.Operated.TheVariants as operated
use Rattle.cast_machine.specs.declared.data.Frame.{Frame}
use Rattle.cast_machine.specs.declared.data.State.TheVariants as state
use Rattle.cast_machine.specs.declared.data.Change.TheVariants as change
use Rattle.cast_machine.specs.declared.data.Outcome.{Outcome}
use Rattle.cast_machine.specs.declared.data.Outcome.TheVariants as outcome
use Rattle.cast_machine.specs.declared.data.Work.{Work}
use Rattle.cast_machine.specs.declared.data.Work.TheVariants as work
use Rattle.cast_machine.specs.Maps.{lookup, update}
use Rattle.mono_tree.specs.CastScripts.{values_of, sites_of, branch_list, else_list, fields_of}
use Rattle.cast_machine.specs.Fits.{fit_of}
use Rattle.cast_machine.specs.Operators.{operate, negated}
use Rattle.cast_machine.specs.Obligations.{obligations}

-- ---- what a row makes of its frame

abbrev pub goes : Frame → List Frame → Outcome
goes f below = outcome.Moves change.Same (state.Running f below)

abbrev pub fails : End → Outcome
fails e = outcome.Moves change.Same (state.Failing e)

-- a blame at a site, which has to be there
abbrev pub blames : Option ℕ → Outcome
blames None = outcome.NoRow
blames (Some k) = fails (ends.Blame k)

-- the frame with more work on top
abbrev pub does : List Work → Frame → Frame
does items f = record f { work = items ++ f.work }

-- the frame with these values
abbrev pub has : List Val → Frame → Frame
has vs f = record f { values = vs }

-- a value is put on top
abbrev pub puts : Val → Frame → List Frame → Outcome
puts v f below = goes (has (v ∷ f.values) f) below

-- the evaluation of a list, the first on top
abbrev pub evals : List CastExpr → List Work
evals es = map work.Eval es

-- ---- blocks and statements

abbrev pub block_at : List CastStmt → ℕ → Option CastStmt → Frame → List Frame → Outcome
block_at body i None f below = goes f below
block_at body i (Some s) f below = goes (does (work.Stmt body i ∷ work.Block body (i + 1) ∷ []) f) below

-- the work that returns the top value
abbrev pub leaving : Option ℕ → List Work
leaving None = work.Leave ∷ []
leaving (Some k) = work.Result k ∷ work.Leave ∷ []

abbrev pub otherwise_work : Option (List CastStmt) → List Work
otherwise_work None = []
otherwise_work (Some body) = work.Block body 0 ∷ []

abbrev pub branch_at : List CastBranch → Option (List CastStmt) → ℕ → Option CastBranch → List Work
branch_at bs last k None = otherwise_work last
branch_at bs last k (Some b) = work.Eval b.condition ∷ work.Branch bs last k ∷ []

-- the condition of a branch, or behind the last branch what stands behind else
abbrev pub branch_work : List CastBranch → Option (List CastStmt) → ℕ → List Work
branch_work bs last k = branch_at bs last k (slice_get bs k)

-- what a statement becomes; a return takes all work of its frame away
abbrev pub statement : CastStmt → Frame → Frame
statement pass f = f
statement (assign x e) f = does (work.Eval e ∷ work.Store x ∷ []) f
statement (write m k t o x e) f = does (work.Eval e ∷ work.Eval o ∷ work.Write m k t x None ∷ []) f
statement (plain e) f = does (work.Eval e ∷ work.Forget ∷ []) f
statement (print es) f = does (evals (cast_exprs_list es) ++ work.Print (length (cast_exprs_list es)) ∷ []) f
statement (start x k e args) f = does (work.Eval e ∷ evals (values_of args) ++ work.Start x k (sites_of args) ∷ []) f
statement (if_any bs last) f = does (branch_work (branch_list bs) (else_list last) 0) f
statement (loop e body) f = does (work.Loop e (cast_block_list body) ∷ []) f
statement (give k e) f = record f { work = work.Eval e ∷ leaving k }

abbrev pub statement_at : Option CastStmt → Frame → List Frame → Outcome
statement_at None f below = outcome.NoRow
statement_at (Some s) f below = goes (statement s f) below

-- takes the top value and binds it
abbrev pub store : List ℕ → List Val → Frame → List Frame → Outcome
store x [] f below = outcome.NoRow
store x (v ∷ vs) f below = goes (record f { names = update f.names x (Some v); values = vs }) below

abbrev pub forget : List Val → Frame → List Frame → Outcome
forget [] f below = outcome.NoRow
forget (v ∷ vs) f below = goes (has vs f) below

-- a bool on top decides on the work
abbrev pub on_bool : List Val → (Bool → List Work) → Frame → List Frame → Outcome
on_bool (val.Bool b ∷ vs) items f below = goes (does (items b) (has vs f)) below
on_bool vs items f below = outcome.NoRow

abbrev pub block_of : Option CastBranch → List Work
block_of None = []
block_of (Some b) = work.Block b.body 0 ∷ []

abbrev pub branch_turn : List CastBranch → Option (List CastStmt) → ℕ → Bool → List Work
branch_turn bs last k true = block_of (slice_get bs k)
branch_turn bs last k false = branch_work bs last (k + 1)

abbrev pub loop_turn : CastExpr → List CastStmt → Bool → List Work
loop_turn e body true = work.Block body 0 ∷ work.Loop e body ∷ []
loop_turn e body false = []

-- the first part of `and` or `or`: where it decides it is the value, and else the second part is evaluated
abbrev pub short : Bool → CastExpr → List Val → Frame → List Frame → Outcome
short true e (val.Bool true ∷ vs) f below = puts (val.Bool true) (has vs f) below
short true e (val.Bool false ∷ vs) f below = goes (does (work.Eval e ∷ []) (has vs f)) below
short false e (val.Bool false ∷ vs) f below = puts (val.Bool false) (has vs f) below
short false e (val.Bool true ∷ vs) f below = goes (does (work.Eval e ∷ []) (has vs f)) below
short b e vs f below = outcome.NoRow

-- ---- expressions

abbrev pub name_at : ℕ → Option (Option Val) → Frame → List Frame → Outcome
name_at k None f below = outcome.NoRow
name_at k (Some None) f below = fails (ends.Unbound k)
name_at k (Some (Some v)) f below = puts v f below

abbrev pub function_at : ℕ → Option CastFunction → Frame → List Frame → Outcome
function_at g None f below = outcome.NoRow
function_at g (Some d) f below = puts (val.Fun g d.ty) f below

abbrev pub handle_at : ℕ → Option (Option ℕ) → Frame → List Frame → Outcome
handle_at k None f below = outcome.NoRow
handle_at k (Some None) f below = fails (ends.Unbound k)
handle_at k (Some (Some t)) f below = goes (does (work.Join t ∷ []) f) below

-- the grammar gives no literal over 2^47-1; the bound makes the row total
abbrev pub literal : ℕ → Val
literal n = val.Int (pos (min n greatest_integer))

abbrev pub eval : CastScript → CastExpr → Frame → List Frame → Outcome
eval p (number n) f below = puts (literal n) f below
eval p (text t) f below = puts (val.Text t) f below
eval p (truth b) f below = puts (val.Bool b) f below
eval p nil f below = puts val.Nil f below
eval p (local k x) f below = name_at k (lookup f.names x) f below
eval p (function g) f below = function_at g (slice_get p.functions g) f below
eval p (neg k e) f below = goes (does (work.Eval e ∷ work.Neg k ∷ []) f) below
eval p (negation e) f below = goes (does (work.Eval e ∷ work.Not ∷ []) f) below
eval p (binary o k a x y) f below = goes (does (work.Eval x ∷ work.Eval y ∷ work.Binary o k a ∷ []) f) below
eval p (both x y) f below = goes (does (work.Eval x ∷ work.Short false y ∷ []) f) below
eval p (either x y) f below = goes (does (work.Eval x ∷ work.Short true y ∷ []) f) below
eval p (read m e x) f below = goes (does (work.Eval e ∷ work.Read m x ∷ []) f) below
eval p (make c es) f below = goes (does (evals (cast_exprs_list es) ++ work.New c ∷ []) f) below
eval p (call k e args) f below = goes (does (work.Eval e ∷ evals (values_of args) ++ work.Call k (sites_of args) ∷ []) f) below
eval p (fit k e) f below = goes (does (work.Eval e ∷ work.Cast k ∷ []) f) below
eval p (join k x) f below = handle_at k (lookup f.handles x) f below

-- an error at an Arithmetic site, which has to be there
abbrev pub errs : Option ℕ → (ℕ → End) → Outcome
errs None e = outcome.NoRow
errs (Some k) e = fails (e k)

abbrev pub operates : Option ℕ → Option ℕ → Operated → Frame → List Frame → Outcome
operates k a (operated.Gives v) f below = puts v f below
operates k a operated.Unfit f below = blames k
operates k a operated.ZeroDivision f below = errs a ends.ZeroDivision
operates k a operated.Overflow f below = errs a ends.Overflow

-- the second operand stands on top
abbrev pub binary_row : Op → Option ℕ → Option ℕ → List Val → Frame → List Frame → Outcome
binary_row o k a (w ∷ v ∷ vs) f below = operates k a (operate o v w) (has vs f) below
binary_row o k a vs f below = outcome.NoRow

abbrev pub neg_row : ℕ → List Val → Frame → List Frame → Outcome
neg_row a [] f below = outcome.NoRow
neg_row a (v ∷ vs) f below = operates None (Some a) (negated v) (has vs f) below

abbrev pub not_row : List Val → Frame → List Frame → Outcome
not_row (val.Bool b ∷ vs) f below = puts (val.Bool (not b)) (has vs f) below
not_row vs f below = outcome.NoRow

-- ---- fits

-- a fit of the value at a place of the value list, at a site
abbrev pub fit_value : ℕ → Ty → ℕ → Fit → Frame → List Frame → Outcome
fit_value k t j fits.Unfit f below = fails (ends.Blame k)
fit_value k t j (fits.Holds v) f below = goes (has (slice_set f.values j v) f) below
fit_value k t j (fits.Opens c a) f below = goes (does (obligations c a (fields_of t) (work.Fitted k t j ∷ [])) f) below

abbrev pub fit_at : CastScript → ℕ → Ty → ℕ → Option Val → Frame → List Frame → Outcome
fit_at p k t j None f below = outcome.NoRow
fit_at p k t j (Some v) f below = fit_value k t j (fit_of p v t) f below

-- a fit of the top value, where the type is there
abbrev pub fit_top : CastScript → ℕ → Option Ty → Frame → List Frame → Outcome
fit_top p k None f below = outcome.NoRow
fit_top p k (Some t) f below = fit_at p k t 0 (slice_get f.values 0) f below
