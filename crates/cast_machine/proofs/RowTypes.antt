-- A row leaves types of the language.
use Rattle.std.specs.Prelude.{neg_ℤ}
use Rattle.std.proofs.Common.{◌-◌, nat_lt, ◌≡◌, ℕ, zero, suc, ◌+◌, Bool, true, false, not, List, [], ◌∷◌, ◌++◌, length, Option, Some, None, nat_le, nat_eq, bytes_eq, cond, slice_get, slice_set, refl, sym, subst}
use Rattle.mono_list.proofs.Cases.{split, none_some, some_is}
use Rattle.mono_syntax.specs.Limits.{most_threads}
use Rattle.mono_syntax.specs.Ty.{Ty, dyn, int, bool, str, nil, fun, obj, Tys, no_tys, more_tys, Fields, no_fields, more_fields}
use Rattle.mono_syntax.specs.CastExpr.{CastExpr}
use Rattle.mono_syntax.specs.CastExpr as expr
use Rattle.mono_syntax.specs.CastExprView.{cast_exprs_list}
use Rattle.mono_syntax.specs.CastStmt.{CastStmt}
use Rattle.mono_syntax.specs.CastStmt as stmt
use Rattle.mono_syntax.specs.CastStmtView.{cast_block_list}
use Rattle.mono_syntax.specs.declared.leaf.Op.{Op}
use Rattle.mono_syntax.specs.declared.leaf.Op.TheVariants as op
use Rattle.mono_syntax.specs.declared.value.Val.{Val}
use Rattle.mono_syntax.specs.declared.value.Val.TheVariants as val
use Rattle.mono_syntax.specs.declared.cast.CastBranch.{CastBranch}
use Rattle.mono_syntax.specs.declared.cast.CastClass.{CastClass}
use Rattle.mono_syntax.specs.declared.cast.CastFunction.{CastFunction}
use Rattle.mono_syntax.specs.declared.cast.CastScript.{CastScript}
use Rattle.mono_syntax.specs.declared.cast.NamedType.{NamedType}
use Rattle.mono_syntax.specs.declared.leaf.Site.{Site}
use Rattle.mono_tree.proofs.TypeLaws.{meet_type}
use Rattle.mono_tree.specs.CastScripts.{branch_list, else_list, fields_of, result_of, sites_of, target_in, target_of, values_of}
use Rattle.mono_tree.specs.IsType.{AreTypes, HaveTypes, IsType}
use Rattle.mono_tree.specs.Meet.{meet_of}
use Rattle.mono_tree.specs.Precision.{precise}
use Rattle.mono_tree.specs.Static.{is_static}
use Rattle.mono_tree.specs.TypedPrograms.{IsTypedProgram}
use Rattle.cast_machine.proofs.Heap.{on_test}
use Rattle.cast_machine.specs.Calls.{all_finished, arg_items, begin_at, bind, call_test, called, cell_of, cells_of, count_of, enter_at, finished, join_of, leave_to, leave_with, named, new_args, new_at, new_object, print_args, take_args, unbound, value_in, value_of, words_of}
use Rattle.cast_machine.specs.Cells.{blamed, blaming, is_dyn, is_fitted, is_object, is_ready, meets, obligation_cell, on_cell, read_cell, read_from, settle, strengthen, write_cell, write_fit, write_open, write_step}
use Rattle.cast_machine.specs.Fits.{fit_fun, fit_obj, fit_of}
use Rattle.cast_machine.specs.Heap.{Heap, cell_at, cell_in, heap_size, object_at, size}
use Rattle.cast_machine.specs.declared.data.Object.{Object}
use Rattle.cast_machine.specs.LanguageTypes.{AreLanguageFrames, AreLanguageItems, AreLanguageNames, AreLanguageValues, AreLanguageCells, HasLanguageTypes, HasTypesOfLanguage, IsAskedType, IsBoundValue, IsLanguageCell, IsLanguageFrame, IsLanguageHeap, IsLanguageItem, IsLanguageState, IsLanguageThread, IsLanguageValue}
use Rattle.cast_machine.specs.Maps.{lookup, update}
use Rattle.cast_machine.specs.Obligations.{obligations}
use Rattle.cast_machine.specs.Operators.{counted, negated, operate, ranged, valued}
use Rattle.cast_machine.specs.Rows.{binary_row, blames, block_at, block_of, branch_at, branch_turn, branch_work, errs, eval, evals, fit_at, fit_top, fit_value, forget, function_at, goes, handle_at, has, leaving, loop_turn, name_at, neg_row, not_row, on_bool, operates, otherwise_work, short, statement_at, store}
use Rattle.cast_machine.specs.Step.{Configuration, act}
use Rattle.cast_machine.specs.declared.data.Cell.{Cell}
use Rattle.cast_machine.specs.declared.data.Change.{Change}
use Rattle.cast_machine.specs.declared.data.Change.TheVariants as change
use Rattle.cast_machine.specs.declared.data.Counted.{Counted}
use Rattle.cast_machine.specs.declared.data.Counted.TheVariants as count
use Rattle.cast_machine.specs.declared.data.Fit.{Fit}
use Rattle.cast_machine.specs.declared.data.Fit.TheVariants as fits
use Rattle.cast_machine.specs.declared.data.Frame.{Frame}
use Rattle.cast_machine.specs.declared.data.Operated.{Operated}
use Rattle.cast_machine.specs.declared.data.Operated.TheVariants as operated
use Rattle.cast_machine.specs.declared.data.Outcome.{Outcome}
use Rattle.cast_machine.specs.declared.data.Outcome.TheVariants as outcome
use Rattle.cast_machine.specs.declared.data.Ready.{Ready}
use Rattle.cast_machine.specs.declared.data.State.{State}
use Rattle.cast_machine.specs.declared.data.State.TheVariants as state
use Rattle.cast_machine.specs.declared.data.Thread.{Thread}
use Rattle.cast_machine.specs.declared.data.Verdict.{Verdict}
use Rattle.cast_machine.specs.declared.data.Verdict.TheVariants as verdict
use Rattle.cast_machine.specs.declared.data.Work.{Work}
use Rattle.cast_machine.specs.declared.data.Work.TheVariants as work

-- ---- lists of values

value_at : (vs : List Val) (j : ℕ) (v : Val) → AreLanguageValues vs → slice_get vs j ≡ Some v → IsLanguageValue v
value_at [] j v i e = none_some _ e
value_at (u ∷ vs) zero v i e = subst IsLanguageValue (some_is e) i.0
value_at (u ∷ vs) (suc j) v i e = value_at vs j v i.1 e

values_set : (vs : List Val) (j : ℕ) (v : Val) → AreLanguageValues vs → IsLanguageValue v → AreLanguageValues (slice_set vs j v)
values_set [] j v i k = tt
values_set (u ∷ vs) zero v i k = (k, i.1)
values_set (u ∷ vs) (suc j) v i k = (i.0, values_set vs j v i.1 k)

abbrev IsTaken : Option (List Val × List Val) → Type 0
IsTaken None = Unit {0}
IsTaken (Some a) = AreLanguageValues a.0 × AreLanguageValues a.1

taken : (n : ℕ) (vs args : List Val) → AreLanguageValues vs → AreLanguageValues args → IsTaken (take_args n vs args)
taken zero vs args i j = (j, i)
taken (suc n) [] args i j = tt
taken (suc n) (v ∷ vs) args i j = taken n vs (v ∷ args) i.1 (i.0, j)

-- ---- names

names_set : (l : List (List ℕ × Option Val)) (x : List ℕ) (v : Val) → AreLanguageNames l → IsLanguageValue v → AreLanguageNames (update l x (Some v))
names_set [] x v i k = tt
names_set (q ∷ l) x v i k = on_test (bytes_eq q.0 x) _ _ AreLanguageNames (λ _. (k, i.1)) (λ _. (i.0, names_set l x v i.1 k))

names_at : (l : List (List ℕ × Option Val)) (x : List ℕ) (o : Option Val) → AreLanguageNames l → lookup l x ≡ Some o → IsBoundValue o
names_at [] x o i = λ e. none_some _ e
names_at (q ∷ l) x o i =
    split (bytes_eq q.0 x) (λ b. cond b (Some q.1) (lookup l x) ≡ Some o → IsBoundValue o)
    (λ _ e. subst IsBoundValue (some_is e) i.0)
    (λ _ e. names_at l x o i.1 e)

names_bound : (xs : List (List ℕ)) (vs : List Val) (l : List (List ℕ × Option Val)) → AreLanguageValues vs → AreLanguageNames l → AreLanguageNames (bind xs vs l)
names_bound [] vs l i j = j
names_bound (x ∷ xs) [] l i j = j
names_bound (x ∷ xs) (v ∷ vs) l i j = names_bound xs vs (update l x (Some v)) i.1 (names_set l x v j i.0)

pub names_unbound : (bs : List NamedType) → AreLanguageNames (unbound bs)
names_unbound [] = tt
names_unbound (b ∷ bs) = (tt, names_unbound bs)

-- ---- parts of types

fields_types : (t : Ty) → IsType t → HaveTypes (fields_of t)
fields_types (obj fs) i = i.1
fields_types dyn i = tt
fields_types int i = tt
fields_types bool i = tt
fields_types str i = tt
fields_types nil i = tt
fields_types (fun ps r) i = tt

result_type_is : (m : Ty) → IsType m → IsType (result_of m)
result_type_is (fun ps r) i = i.2
result_type_is dyn i = tt
result_type_is int i = tt
result_type_is bool i = tt
result_type_is str i = tt
result_type_is nil i = tt
result_type_is (obj fs) i = tt

-- ---- work

evals_items : (es : List CastExpr) (rest : List Work) → AreLanguageItems rest → AreLanguageItems (evals es ++ rest)
evals_items [] rest i = i
evals_items (e ∷ es) rest i = (tt, evals_items es rest i)

more_items : (is rest : List Work) → AreLanguageItems is → AreLanguageItems rest → AreLanguageItems (is ++ rest)
more_items [] rest i j = j
more_items (x ∷ is) rest i j = (i.0, more_items is rest i.1 j)

arg_types : (ks : List (Option ℕ)) (ts : Tys) → AreTypes ts → AreLanguageItems (arg_items ks ts)
arg_types [] ts i = tt
arg_types (None ∷ ks) no_tys i = tt
arg_types (Some k ∷ ks) no_tys i = tt
arg_types (None ∷ ks) (more_tys t ts) i = arg_types ks ts i.1
arg_types (Some k ∷ ks) (more_tys t ts) i = (i.0, arg_types ks ts i.1)

obligation_types : (c a : ℕ) (fs : Fields) (rest : List Work) → HaveTypes fs → AreLanguageItems rest → AreLanguageItems (obligations c a fs rest)
obligation_types c a no_fields rest i j = j
obligation_types c a (more_fields n t fs) rest i j = ((i.0, tt), obligation_types c a fs rest i.1 j)

-- ---- fits

abbrev IsLanguageFit : Fit → Type 0
IsLanguageFit (fits.Holds v) = IsLanguageValue v
IsLanguageFit o = Unit {0}

fun_fits : (g : ℕ) (m t : Ty) → IsType m → IsType t → (o : Option Ty) → meet_of m t ≡ o → IsLanguageFit (fit_fun g o)
fun_fits g m t i j None e = tt
fun_fits g m t i j (Some u) e = meet_type m t u e i j

obj_fits : (b : Bool) (c a : ℕ) → IsLanguageFit (fit_obj b c a)
obj_fits true c a = tt
obj_fits false c a = tt

fit_is : (p : CastScript) (v : Val) (t : Ty) → IsLanguageValue v → IsType t → IsLanguageFit (fit_of p v t)
fit_is p v dyn i j = i
fit_is p (val.Int n) int i j = tt
fit_is p (val.Bool b) bool i j = tt
fit_is p (val.Text x) str i j = tt
fit_is p val.Nil nil i j = tt
fit_is p (val.Fun g m) (fun ps r) i j = fun_fits g m (fun ps r) i j (meet_of m (fun ps r)) refl
fit_is p (val.Obj c a) (obj fs) i j = obj_fits _ c a
fit_is p v t i j = tt

-- ---- cells

cells_at : (l : List (List ℕ × Cell)) (x : List ℕ) (c : Cell) → AreLanguageCells l → lookup l x ≡ Some c → IsLanguageCell c
cells_at [] x c i = λ e. none_some _ e
cells_at (q ∷ l) x c i =
    split (bytes_eq q.0 x) (λ b. cond b (Some q.1) (lookup l x) ≡ Some c → IsLanguageCell c)
    (λ _ e. subst IsLanguageCell (some_is e) i.0)
    (λ _ e. cells_at l x c i.1 e)

pub cells_set : (l : List (List ℕ × Cell)) (x : List ℕ) (c : Cell) → AreLanguageCells l → IsLanguageCell c → AreLanguageCells (update l x c)
cells_set [] x c i k = tt
cells_set (q ∷ l) x c i k = on_test (bytes_eq q.0 x) _ _ AreLanguageCells (λ _. (k, i.1)) (λ _. (i.0, cells_set l x c i.1 k))

pub object_cells : (h : Heap) (a : ℕ) (o : Object) → IsLanguageHeap h → object_at h a ≡ Some o → AreLanguageCells o.cells
object_cells [] a o i = λ e. none_some _ e
object_cells (q ∷ h) a o i =
    split (nat_eq a 0) (λ b. cond b (Some q) (cond (nat_lt a (size q)) None (object_at h (a - size q))) ≡ Some o → AreLanguageCells o.cells)
    (λ _ e. subst (λ (k : Object). AreLanguageCells k.cells) (some_is e) i.0)
    (λ _. split (nat_lt a (size q)) (λ b. cond b None (object_at h (a - size q)) ≡ Some o → AreLanguageCells o.cells)
    (λ _ e. none_some _ e)
    (λ _ e. object_cells h (a - size q) o i.1 e))

heap_cell : (h : Heap) (a : ℕ) (x : List ℕ) (c : Cell) → IsLanguageHeap h → cell_at h a x ≡ Some c → IsLanguageCell c
heap_cell h a x c i = go (object_at h a) refl
  where
    go : (q : Option Object) → object_at h a ≡ q → cell_in q x ≡ Some c → IsLanguageCell c
    go None e = λ z. none_some _ z
    go (Some o) e =
        split (nat_eq o.waits 0) (λ b. cond b (lookup o.cells x) None ≡ Some c → IsLanguageCell c)
        (λ _ z. cells_at o.cells x c (object_cells h a o i e) z) (λ _ z. none_some _ z)

-- ---- what a row comes to

abbrev pub IsLanguageChange : Change → Type 0
IsLanguageChange (change.Sets a x c) = IsLanguageCell c
IsLanguageChange (change.Adds o) = AreLanguageCells o.cells
IsLanguageChange (change.Says line) = AreLanguageValues line
IsLanguageChange (change.Begins th) = IsLanguageThread th
IsLanguageChange d = Unit {0}

abbrev pub IsLanguageOutcome : Outcome → Type 0
IsLanguageOutcome (outcome.Moves d s) = IsLanguageChange d × IsLanguageState s
IsLanguageOutcome o = Unit {0}

abbrev IsLanguageVerdict : Verdict → Type 0
IsLanguageVerdict (verdict.Goes f) = IsLanguageFrame f
IsLanguageVerdict (verdict.Sets c f) = IsLanguageCell c × IsLanguageFrame f
IsLanguageVerdict v = Unit {0}

abbrev IsLanguageOperated : Operated → Type 0
IsLanguageOperated (operated.Gives v) = IsLanguageValue v
IsLanguageOperated o = Unit {0}

valued_is : (c : Counted) → IsLanguageOperated (valued c)
valued_is (count.Int n) = tt
valued_is (count.Truth b) = tt
valued_is count.ZeroDivision = tt
valued_is count.Overflow = tt

operate_is : (o : Op) (v w : Val) → IsLanguageOperated (operate o v w)
operate_is op.Eq v w = tt
operate_is op.Ne v w = tt
operate_is o (val.Int a) (val.Int b) = valued_is (counted o a b)
operate_is o v w = tt

negated_is : (v : Val) → IsLanguageOperated (negated v)
negated_is (val.Int a) = valued_is (ranged (neg_ℤ a))
negated_is v = tt

pub called_is : (d : CastFunction) (m : Ty) (args : List Val) → IsType m → AreLanguageValues args → IsLanguageFrame (called d m args)
called_is d m args i j = record { names = names_bound d.params args (unbound d.block.names) j (names_unbound d.block.names); asked = result_type_is m i; work = (tt, (tt, tt)); values = tt }

-- what a write of a field of a fully static type sets is the recorded type
abbrev pub StaticIs : Heap → Work → Frame → Type 0
StaticIs h (work.Write m k s x r) f =
    (d a : ℕ) (v : Val) (vs : List Val) → f.values ≡ val.Obj d a ∷ v ∷ vs → (c : Cell) → cell_at h a x ≡ Some c → is_static s ≡ true → s ≡ c.ty
StaticIs h i f = Unit {0}

blames_is : (k : Option ℕ) → IsLanguageOutcome (blames k)
blames_is None = tt
blames_is (Some k) = (tt, tt)

blaming_is : (k : Option ℕ) → IsLanguageVerdict (blaming k)
blaming_is None = tt
blaming_is (Some k) = tt

errs_is : (a : Option ℕ) (e : ℕ → Rattle.cast_machine.specs.declared.data.End.End) → IsLanguageOutcome (errs a e)
errs_is None e = tt
errs_is (Some k) e = (tt, tt)

module _ (p : CastScript) (pok : IsTypedProgram p) (lt : HasLanguageTypes p) (f : Frame) (below : List Frame) (fok : IsLanguageFrame f) (bok : AreLanguageFrames below) where
  abbrev Ok : Outcome → Type 0
  Ok o = IsLanguageOutcome o

  -- the frame with other work and values
  framed_is : (items : List Work) (vs : List Val) → AreLanguageItems items → AreLanguageValues vs → IsLanguageFrame (record f { work = items; values = vs })
  framed_is items vs i j = record { names = fok.names; asked = fok.asked; work = i; values = j }

  go : (items : List Work) (vs : List Val) → AreLanguageItems items → AreLanguageValues vs → Ok (goes (record f { work = items; values = vs }) below)
  go items vs i j = (tt, (framed_is items vs i j, bok))

  push : (v : Val) → IsLanguageValue v → (vs : List Val) → AreLanguageValues vs → Ok (goes (record f { values = v ∷ vs }) below)
  push v k vs i = go f.work (v ∷ vs) fok.work (k, i)

  does_is : (items : List Work) → AreLanguageItems items → Ok (goes (record f { work = items ++ f.work }) below)
  does_is items i = go (items ++ f.work) f.values (more_items items f.work i fok.work) fok.values

  -- ---- statements

  leaving_is : (k : Option ℕ) → AreLanguageItems (leaving k)
  leaving_is None = (tt, tt)
  leaving_is (Some k) = (tt, (tt, tt))

  otherwise_is : (last : Option (List CastStmt)) → AreLanguageItems (otherwise_work last)
  otherwise_is None = tt
  otherwise_is (Some b) = (tt, tt)

  branch_is : (bs : List CastBranch) (last : Option (List CastStmt)) (k : ℕ) (o : Option CastBranch) → AreLanguageItems (branch_at bs last k o)
  branch_is bs last k None = otherwise_is last
  branch_is bs last k (Some b) = (tt, (tt, tt))

  block_is : (body : List CastStmt) (i : ℕ) (o : Option CastStmt) → Ok (block_at body i o f below)
  block_is body i None = (tt, (fok, bok))
  block_is body i (Some s) = does_is (work.Stmt body i ∷ work.Block body (i + 1) ∷ []) (tt, (tt, tt))

  statement_is : (o : Option CastStmt) → Ok (statement_at o f below)
  statement_is None = tt
  statement_is (Some stmt.pass) = (tt, (fok, bok))
  statement_is (Some (stmt.assign x e)) = does_is (work.Eval e ∷ work.Store x ∷ []) (tt, (tt, tt))
  statement_is (Some (stmt.write m k t o x e)) = does_is (work.Eval e ∷ work.Eval o ∷ work.Write m k t x None ∷ []) (tt, (tt, (tt, tt)))
  statement_is (Some (stmt.plain e)) = does_is (work.Eval e ∷ work.Forget ∷ []) (tt, (tt, tt))
  statement_is (Some (stmt.print es)) = does_is (evals (cast_exprs_list es) ++ work.Print (length (cast_exprs_list es)) ∷ []) (evals_items (cast_exprs_list es) _ (tt, tt))
  statement_is (Some (stmt.start x k e args)) = does_is (work.Eval e ∷ evals (values_of args) ++ work.Start x k (sites_of args) ∷ []) (tt, evals_items (values_of args) _ (tt, tt))
  statement_is (Some (stmt.if_any bs last)) = does_is (branch_work (branch_list bs) (else_list last) 0) (branch_is (branch_list bs) (else_list last) 0 _)
  statement_is (Some (stmt.loop e body)) = does_is (work.Loop e (cast_block_list body) ∷ []) (tt, tt)
  statement_is (Some (stmt.give k e)) = go (work.Eval e ∷ leaving k) f.values (tt, leaving_is k) fok.values

  store_is : (x : List ℕ) (vs : List Val) → AreLanguageValues vs → Ok (store x vs f below)
  store_is x [] i = tt
  store_is x (v ∷ vs) i = (tt, (record { names = names_set f.names x v fok.names i.0; asked = fok.asked; work = fok.work; values = i.1 }, bok))

  forget_is : (vs : List Val) → AreLanguageValues vs → Ok (forget vs f below)
  forget_is [] i = tt
  forget_is (v ∷ vs) i = go f.work vs fok.work i.1

  on_bool_is : (vs : List Val) (items : Bool → List Work) → AreLanguageValues vs → ((b : Bool) → AreLanguageItems (items b)) → Ok (on_bool vs items f below)
  on_bool_is (val.Bool b ∷ vs) items i each = go (items b ++ f.work) vs (more_items (items b) f.work (each b) fok.work) i.1
  on_bool_is vs items i each = tt

  block_of_is : (o : Option CastBranch) → AreLanguageItems (block_of o)
  block_of_is None = tt
  block_of_is (Some b) = (tt, tt)

  turn_is : (bs : List CastBranch) (last : Option (List CastStmt)) (k : ℕ) (b : Bool) → AreLanguageItems (branch_turn bs last k b)
  turn_is bs last k true = block_of_is (slice_get bs k)
  turn_is bs last k false = branch_is bs last (k + 1) _

  loop_is : (e : CastExpr) (body : List CastStmt) (b : Bool) → AreLanguageItems (loop_turn e body b)
  loop_is e body true = (tt, (tt, tt))
  loop_is e body false = tt

  -- ---- expressions

  short_is : (b : Bool) (e : CastExpr) (vs : List Val) → AreLanguageValues vs → Ok (short b e vs f below)
  short_is true e (val.Bool true ∷ vs) i = push (val.Bool true) tt vs i.1
  short_is true e (val.Bool false ∷ vs) i = go (work.Eval e ∷ f.work) vs (tt, fok.work) i.1
  short_is false e (val.Bool false ∷ vs) i = push (val.Bool false) tt vs i.1
  short_is false e (val.Bool true ∷ vs) i = go (work.Eval e ∷ f.work) vs (tt, fok.work) i.1
  short_is b e vs i = tt

  name_is : (k : ℕ) (x : List ℕ) (o : Option (Option Val)) → lookup f.names x ≡ o → Ok (name_at k o f below)
  name_is k x None e = tt
  name_is k x (Some None) e = (tt, tt)
  name_is k x (Some (Some v)) e = push v (names_at f.names x (Some v) fok.names e) f.values fok.values

  function_is : (g : ℕ) (o : Option CastFunction) → slice_get p.functions g ≡ o → Ok (function_at g o f below)
  function_is g None e = tt
  function_is g (Some d) e = push (val.Fun g d.ty) (pok.functions g d e).is_type f.values fok.values

  handle_is : (k : ℕ) (o : Option (Option ℕ)) → Ok (handle_at k o f below)
  handle_is k None = tt
  handle_is k (Some None) = (tt, tt)
  handle_is k (Some (Some t)) = does_is (work.Join t ∷ []) (tt, tt)

  eval_is : (e : CastExpr) → Ok (eval p e f below)
  eval_is (expr.number n) = push _ tt f.values fok.values
  eval_is (expr.text t) = push (val.Text t) tt f.values fok.values
  eval_is (expr.truth b) = push (val.Bool b) tt f.values fok.values
  eval_is expr.nil = push val.Nil tt f.values fok.values
  eval_is (expr.local k x) = name_is k x (lookup f.names x) refl
  eval_is (expr.function g) = function_is g (slice_get p.functions g) refl
  eval_is (expr.neg k e) = does_is (work.Eval e ∷ work.Neg k ∷ []) (tt, (tt, tt))
  eval_is (expr.negation e) = does_is (work.Eval e ∷ work.Not ∷ []) (tt, (tt, tt))
  eval_is (expr.binary o k a x y) = does_is (work.Eval x ∷ work.Eval y ∷ work.Binary o k a ∷ []) (tt, (tt, (tt, tt)))
  eval_is (expr.both x y) = does_is (work.Eval x ∷ work.Short false y ∷ []) (tt, (tt, tt))
  eval_is (expr.either x y) = does_is (work.Eval x ∷ work.Short true y ∷ []) (tt, (tt, tt))
  eval_is (expr.read m e x) = does_is (work.Eval e ∷ work.Read m x ∷ []) (tt, (tt, tt))
  eval_is (expr.make c es) = does_is (evals (cast_exprs_list es) ++ work.New c ∷ []) (evals_items (cast_exprs_list es) _ (tt, tt))
  eval_is (expr.call k e args) = does_is (work.Eval e ∷ evals (values_of args) ++ work.Call k (sites_of args) ∷ []) (tt, evals_items (values_of args) _ (tt, tt))
  eval_is (expr.fit k e) = does_is (work.Eval e ∷ work.Cast k ∷ []) (tt, (tt, tt))
  eval_is (expr.join k x) = handle_is k (lookup f.handles x)

  operates_is : (k a : Option ℕ) (o : Operated) (vs : List Val) → IsLanguageOperated o → AreLanguageValues vs → Ok (operates k a o (has vs f) below)
  operates_is k a (operated.Gives v) vs i j = push v i vs j
  operates_is k a operated.Unfit vs i j = blames_is k
  operates_is k a operated.ZeroDivision vs i j = errs_is a _
  operates_is k a operated.Overflow vs i j = errs_is a _

  binary_is : (o : Op) (k a : Option ℕ) (vs : List Val) → AreLanguageValues vs → Ok (binary_row o k a vs f below)
  binary_is o k a [] i = tt
  binary_is o k a (w ∷ []) i = tt
  binary_is o k a (w ∷ v ∷ vs) i = operates_is k a (operate o v w) vs (operate_is o v w) i.1.1

  neg_is : (a : ℕ) (vs : List Val) → AreLanguageValues vs → Ok (neg_row a vs f below)
  neg_is a [] i = tt
  neg_is a (v ∷ vs) i = operates_is None (Some a) (negated v) vs (negated_is v) i.1

  not_is : (vs : List Val) → AreLanguageValues vs → Ok (not_row vs f below)
  not_is (val.Bool b ∷ vs) i = push (val.Bool (not b)) tt vs i.1
  not_is vs i = tt

  -- ---- fits

  fit_value_is : (k : ℕ) (t : Ty) (j : ℕ) (o : Fit) → IsType t → IsLanguageFit o → Ok (fit_value k t j o f below)
  fit_value_is k t j fits.Unfit i n = (tt, tt)
  fit_value_is k t j (fits.Holds v) i n = go f.work (slice_set f.values j v) fok.work (values_set f.values j v fok.values n)
  fit_value_is k t j (fits.Opens c a) i n =
      does_is (obligations c a (fields_of t) (work.Fitted k t j ∷ [])) (obligation_types c a (fields_of t) _ (fields_types t i) (i, tt))

  fit_at_is : (k : ℕ) (t : Ty) (j : ℕ) (o : Option Val) → IsType t → slice_get f.values j ≡ o → Ok (fit_at p k t j o f below)
  fit_at_is k t j None i e = tt
  fit_at_is k t j (Some v) i e = fit_value_is k t j (fit_of p v t) i (fit_is p v t (value_at f.values j v fok.values e) i)

  fit_top_is : (k : ℕ) (o : Option Ty) → IsAskedType o → Ok (fit_top p k o f below)
  fit_top_is k None i = tt
  fit_top_is k (Some t) i = fit_at_is k t 0 (slice_get f.values 0) i refl

  target_is : (o : Option Site) → IsAskedType (target_in p o)
  target_is None = tt
  target_is (Some s) = found (slice_get p.types s.target.0) refl
    where
      found : (o : Option Ty) → slice_get p.types s.target.0 ≡ o → IsAskedType o
      found None e = tt
      found (Some t) e = lt s.target.0 t e

  -- ---- cells

  settle_is : (a : ℕ) (x : List ℕ) (v : Verdict) → IsLanguageVerdict v → Ok (settle a x v below)
  settle_is a x verdict.NoRow i = tt
  settle_is a x (verdict.Goes g) i = (tt, (i, bok))
  settle_is a x (verdict.Fails e) i = (tt, tt)
  settle_is a x (verdict.Sets c g) i = (i.0, (i.1, bok))

  module _ (h : Heap) (hok : IsLanguageHeap h) where
    cell_is : (missing : Verdict) (decide : Cell → Verdict) (a : ℕ) (x : List ℕ) (o : Option Cell) → cell_at h a x ≡ o → IsLanguageVerdict missing → ((c : Cell) → cell_at h a x ≡ Some c → IsLanguageCell c → IsLanguageVerdict (decide c)) → IsLanguageVerdict (on_cell missing decide o)
    cell_is missing decide a x None e i each = i
    cell_is missing decide a x (Some c) e i each = each c e (heap_cell h a x c hok e)

    read_is : (m : Option ℕ) (x : List ℕ) (vs : List Val) → AreLanguageValues vs → Ok (read_from h m x vs f below)
    read_is m x [] i = tt
    read_is m x (val.Obj d a ∷ vs) i =
        settle_is a x (on_cell (blaming m) (read_cell f vs) (cell_at h a x))
        (cell_is (blaming m) (read_cell f vs) a x (cell_at h a x) refl (blaming_is m) (λ c e k. framed_is f.work (c.value ∷ vs) fok.work (k.1, i.1)))
    read_is m x (v ∷ vs) i = blames_is m

    strengthen_is : (d a : ℕ) (x : List ℕ) (t : Ty) (r : Option Ready) (c : Cell) (m : Ty) (o : Fit) → IsType t → IsType m → IsLanguageCell c → IsLanguageFit o → IsLanguageVerdict (strengthen d a x t r f c m o)
    strengthen_is d a x t r c m fits.Unfit i j k n = blaming_is (blamed f.work)
    strengthen_is d a x t r c m (fits.Holds v) i j k n = ((j, n), fok)
    strengthen_is d a x t r c m (fits.Opens g b) i j k n =
        on_test (is_ready r c.value m) _ _ IsLanguageVerdict
        (λ _. ((j, k.1), fok))
        (λ _. framed_is (obligations g b (fields_of m) (work.Obligation d a x t (Some (record { value = c.value; ty = m })) ∷ []) ++ f.work) f.values
        (more_items _ f.work (obligation_types g b (fields_of m) _ (fields_types m j) ((i, j), tt)) fok.work) fok.values)

    meets_is : (d a : ℕ) (x : List ℕ) (t : Ty) (r : Option Ready) (c : Cell) (o : Option Ty) → meet_of c.ty t ≡ o → IsType t → IsLanguageCell c → IsLanguageVerdict (meets p d a x t r f c o)
    meets_is d a x t r c None e i k = blaming_is (blamed f.work)
    meets_is d a x t r c (Some m) e i k = let j = meet_type c.ty t m e k.0 i in strengthen_is d a x t r c m (fit_of p c.value m) i j k (fit_is p c.value m k.1 j)

    obligation_is : (d a : ℕ) (x : List ℕ) (t : Ty) (r : Option Ready) → IsType t → Ok (settle a x (on_cell verdict.NoRow (obligation_cell p d a x t r f) (cell_at h a x)) below)
    obligation_is d a x t r i =
        settle_is a x (on_cell verdict.NoRow (obligation_cell p d a x t r f) (cell_at h a x))
        (cell_is verdict.NoRow (obligation_cell p d a x t r f) a x (cell_at h a x) refl tt
        (λ c e k. on_test (precise c.ty t) _ _ IsLanguageVerdict (λ _. fok) (λ _. meets_is d a x t r c (meet_of c.ty t) refl i k)))

    write_fit_is : (k : Option ℕ) (g : Frame) (t : Ty) (o : Fit) → IsLanguageFrame g → IsType t → IsLanguageFit o → IsLanguageVerdict (write_fit k g t o)
    write_fit_is k g t (fits.Holds v) gok i n = ((i, n), gok)
    write_fit_is k g t fits.Unfit gok i n = blaming_is k
    write_fit_is k g t (fits.Opens c a) gok i n = tt

    write_open_is : (m k : Option ℕ) (s : Ty) (x : List ℕ) (t : Ty) (o : Fit) → IsType t → IsLanguageVerdict (write_open m k s x f t o)
    write_open_is m k s x t (fits.Opens c a) i =
        framed_is (obligations c a (fields_of t) (work.Write m k s x (Some t) ∷ []) ++ f.work) f.values
        (more_items _ f.work (obligation_types c a (fields_of t) _ (fields_types t i) (i, tt)) fok.work) fok.values
    write_open_is m k s x t fits.Unfit i = blaming_is k
    write_open_is m k s x t (fits.Holds v) i = tt

    write_cell_is : (m k : Option ℕ) (s : Ty) (x : List ℕ) (r : Option Ty) (v : Val) (vs : List Val) (c : Cell) → IsLanguageValue v → AreLanguageValues vs → IsLanguageCell c → (is_static s ≡ true → s ≡ c.ty) → IsLanguageVerdict (write_cell p m k s x r v (has vs f) f c)
    write_cell_is m k s x r v vs c i j n static =
        let gok = framed_is f.work vs fok.work j in
        let fit = write_fit_is k (has vs f) c.ty (fit_of p v c.ty) gok n.0 (fit_is p v c.ty i n.0) in
        on_test (is_static s) _ _ IsLanguageVerdict
        (λ t. ((subst IsType (sym (static t)) n.0, i), gok))
        (λ _. on_test (is_dyn c.ty) _ _ IsLanguageVerdict (λ _. fit)
        (λ _. on_test (is_object v) _ _ IsLanguageVerdict
        (λ _. on_test (is_fitted r c.ty) _ _ IsLanguageVerdict (λ _. ((n.0, i), gok)) (λ _. write_open_is m k s x c.ty (fit_of p v c.ty) n.0))
        (λ _. fit)))

    write_is : (m k : Option ℕ) (s : Ty) (x : List ℕ) (r : Option Ty) (vs : List Val) → f.values ≡ vs → AreLanguageValues vs → StaticIs h (work.Write m k s x r) f → Ok (write_step p h m k s x r vs f below)
    write_is m k s x r (val.Obj d a ∷ v ∷ vs) e i static =
        settle_is a x (on_cell (blaming m) (write_cell p m k s x r v (has vs f) f) (cell_at h a x))
        (cell_is (blaming m) (write_cell p m k s x r v (has vs f) f) a x (cell_at h a x) refl (blaming_is m) (λ c at n. write_cell_is m k s x r v vs c i.1.0 i.1.1 n (static d a v vs e c at)))
    write_is m k s x r (o ∷ v ∷ vs) e i static = blames_is m
    write_is m k s x r vs e i static = tt

  -- ---- objects

  abbrev AreGiven : List (List ℕ × Val) → Type 0
  AreGiven [] = Unit {0}
  AreGiven (q ∷ l) = IsLanguageValue q.1 × AreGiven l

  given_is : (ns : List (List ℕ)) (vs : List Val) → AreLanguageValues vs → AreGiven (named ns vs)
  given_is [] vs i = tt
  given_is (n ∷ ns) [] i = tt
  given_is (n ∷ ns) (v ∷ vs) i = (i.0, given_is ns vs i.1)

  given_at : (l : List (List ℕ × Val)) (x : List ℕ) (v : Val) → AreGiven l → lookup l x ≡ Some v → IsLanguageValue v
  given_at [] x v i = λ e. none_some _ e
  given_at (q ∷ l) x v i =
      split (bytes_eq q.0 x) (λ b. cond b (Some q.1) (lookup l x) ≡ Some v → IsLanguageValue v)
      (λ _ e. subst IsLanguageValue (some_is e) i.0)
      (λ _ e. given_at l x v i.1 e)

  abbrev AreMade : Option (List (List ℕ × Cell)) → Type 0
  AreMade None = Unit {0}
  AreMade (Some cs) = AreLanguageCells cs

  cell_made : (n : List ℕ) (t : Ty) (l : List (List ℕ × Val)) (o : Option Val) (q : Option (List (List ℕ × Cell))) → IsType t → AreGiven l → lookup l n ≡ o → AreMade q → AreMade (cell_of n t o q)
  cell_made n t l (Some v) (Some cs) i j e k = ((i, given_at l n v j e), k)
  cell_made n t l (Some v) None i j e k = tt
  cell_made n t l None q i j e k = tt

  cells_made : (fs : Fields) (l : List (List ℕ × Val)) → HaveTypes fs → AreGiven l → AreMade (cells_of fs l)
  cells_made no_fields l i j = tt
  cells_made (more_fields n t fs) l i j = cell_made n t l (lookup l n) (cells_of fs l) i.0 j refl (cells_made fs l i.1 j)

  object_is : (room : ℕ) (h : Heap) (c : ℕ) (o : Option (List (List ℕ × Cell))) (vs : List Val) → AreMade o → AreLanguageValues vs → Ok (new_object room h c o (has vs f) below)
  object_is room h c None vs i j = tt
  object_is room h c (Some cells) vs i j =
      on_test (nat_le (heap_size h + size (record { class = c; cells = cells; waits = 0; maker = 0 })) room) _ _ Ok
      (λ _. (i, (framed_is f.work (val.Obj c (heap_size h) ∷ vs) fok.work (tt, j), bok)))
      (λ _. (tt, tt))

  new_args_is : (room : ℕ) (h : Heap) (c : ℕ) (d : CastClass) (o : Option (List Val × List Val)) → IsType d.ty → IsTaken o → Ok (new_args room h c d o f below)
  new_args_is room h c d None i j = tt
  new_args_is room h c d (Some a) i j = object_is room h c (cells_of (fields_of d.ty) (named d.params a.0)) a.1 (cells_made (fields_of d.ty) (named d.params a.0) (fields_types d.ty i) (given_is d.params a.0 j.0)) j.1

  new_is : (room : ℕ) (h : Heap) (c : ℕ) (o : Option CastClass) → slice_get p.classes c ≡ o → Ok (new_at room h c o f below)
  new_is room h c None e = tt
  new_is room h c (Some d) e = new_args_is room h c d (take_args (length d.params) f.values []) (pok.classes c d e).is_type (taken (length d.params) f.values [] fok.values tt)

  -- ---- calls

  call_is : (k : Option ℕ) (ks : List (Option ℕ)) (enter : ℕ → Ty → Work) (o : Option (List Val × List Val)) → IsTaken o → ((g : ℕ) (m : Ty) → IsType m → IsLanguageItem (enter g m)) → Ok (call_test k ks enter o f below)
  call_is k ks enter None i each = tt
  call_is k ks enter (Some (args, [])) i each = tt
  call_is k ks enter (Some (args, val.Fun g (fun ms r) ∷ rest)) i each =
      on_test (nat_eq (count_of ms) (length ks)) _ _ Ok
      (λ _. does_is (arg_items ks ms ++ enter g (fun ms r) ∷ []) (more_items (arg_items ks ms) _ (arg_types ks ms i.1.0.1) (each g (fun ms r) i.1.0, tt)))
      (λ _. blames_is k)
  call_is k ks enter (Some (args, v ∷ rest)) i each = blames_is k

  enter_is : (m : Ty) (d : Option CastFunction) (o : Option (List Val × List Val)) → IsType m → IsTaken o → Ok (enter_at m d o f below)
  enter_is m (Some d) (Some (args, v ∷ rest)) i j = (tt, (called_is d m args i j.0, (framed_is f.work rest fok.work j.1.1, bok)))
  enter_is m d o i j = tt

  begin_is : (made : ℕ) (x : List ℕ) (m : Ty) (d : Option CastFunction) (o : Option (List Val × List Val)) → IsType m → IsTaken o → Ok (begin_at made x m d o f below)
  begin_is made x m (Some d) (Some (args, v ∷ rest)) i j =
      on_test (nat_le most_threads made) _ _ Ok
      (λ _. (tt, tt))
      (λ _. ((result_type_is m i, (called_is d m args i j.0, tt)), (record { names = fok.names; asked = fok.asked; work = fok.work; values = j.1.1 }, bok)))
  begin_is made x m d o i j = tt

  join_is : (o : Option Val) → IsBoundValue o → Ok (join_of o f below)
  join_is None i = tt
  join_is (Some v) i = push v i f.values fok.values

  leave_to_is : (v : Val) (fs : List Frame) → IsLanguageValue v → AreLanguageFrames fs → Ok (leave_to v fs)
  leave_to_is v [] i j = (tt, i)
  leave_to_is v (g ∷ fs) i j = (tt, (record { names = (j.0).names; asked = (j.0).asked; work = (j.0).work; values = (i, (j.0).values) }, j.1))

  leave_with_is : (vs : List Val) (a : Option Ty) → AreLanguageValues vs → Ok (leave_with vs a below)
  leave_with_is vs None i = (tt, tt)
  leave_with_is [] (Some t) i = tt
  leave_with_is (v ∷ vs) (Some t) i = leave_to_is v below i.0 bok

  print_is : (room : ℕ) (lines : List (List Val)) (o : Option (List Val × List Val)) → IsTaken o → Ok (print_args room lines o f below)
  print_is room lines None i = tt
  print_is room lines (Some a) i =
      on_test (nat_le (words_of lines + (length a.0 + 1)) room) _ _ Ok
      (λ _. (i.0, (framed_is f.work a.1 fok.work i.1, bok))) (λ _. (tt, tt))

  -- ---- all rows

  finished_is : (ths : List Thread) → ((t : ℕ) (th : Thread) → slice_get ths t ≡ Some th → IsLanguageThread th) → (t : ℕ) → IsBoundValue (finished ths t)
  finished_is ths each t = at (slice_get ths t) refl
    where
      of_state : (s : State) → IsLanguageState s → IsBoundValue (value_of s)
      of_state (state.Finished v) i = i
      of_state (state.Running g fs) i = tt
      of_state (state.Failing e) i = tt
      of_state state.Stopped i = tt

      at : (o : Option Thread) → slice_get ths t ≡ o → IsBoundValue (value_in o)
      at None e = tt
      at (Some th) e = of_state th.state (each t th e).1

  module _ (c : Configuration) (cok : HasTypesOfLanguage c) where
    pub act_is : (item : Work) → IsLanguageItem item → StaticIs c.heap item f → IsLanguageOutcome (act p c item f below)
    act_is (work.Block body i) j s = block_is body i (slice_get body i)
    act_is (work.Stmt body i) j s = statement_is (slice_get body i)
    act_is (work.Store x) j s = store_is x f.values fok.values
    act_is work.Forget j s = forget_is f.values fok.values
    act_is (work.Branch bs last k) j s = on_bool_is f.values _ fok.values (turn_is bs last k)
    act_is (work.Loop e body) j s = does_is (work.Eval e ∷ work.Turn e body ∷ []) (tt, (tt, tt))
    act_is (work.Turn e body) j s = on_bool_is f.values _ fok.values (loop_is e body)
    act_is (work.Eval e) j s = eval_is e
    act_is (work.Short b e) j s = short_is b e f.values fok.values
    act_is (work.Neg a) j s = neg_is a f.values fok.values
    act_is work.Not j s = not_is f.values fok.values
    act_is (work.Binary o k a) j s = binary_is o k a f.values fok.values
    act_is (work.Read m x) j s = read_is c.heap cok.heap m x f.values fok.values
    act_is (work.New d) j s = new_is c.settings.heap c.heap d (slice_get p.classes d) refl
    act_is (work.Call k ks) j s = call_is k ks (λ g m. work.Enter g m (length ks)) (take_args (length ks) f.values []) (taken (length ks) f.values [] fok.values tt) (λ g m i. i)
    act_is (work.Start x k ks) j s = call_is k ks (λ g m. work.Begin x g m (length ks)) (take_args (length ks) f.values []) (taken (length ks) f.values [] fok.values tt) (λ g m i. i)
    act_is (work.Arg k t n) j s = fit_at_is k t n (slice_get f.values n) j refl
    act_is (work.Cast k) j s = fit_top_is k (target_of p k) (target_is (slice_get p.sites k))
    act_is (work.Result k) j s = fit_top_is k f.asked fok.asked
    act_is (work.Fitted k t n) j s = (tt, (fok, bok))
    act_is (work.Enter g m n) j s = enter_is m (slice_get p.functions g) (take_args n f.values []) j (taken n f.values [] fok.values tt)
    act_is (work.Begin x g m n) j s = begin_is (length c.threads) x m (slice_get p.functions g) (take_args n f.values []) j (taken n f.values [] fok.values tt)
    act_is (work.Fall k) j s = go (leaving k ++ f.work) (val.Nil ∷ f.values) (more_items (leaving k) f.work (leaving_is k) fok.work) (tt, fok.values)
    act_is (work.Join t) j s = join_is (finished c.threads t) (finished_is c.threads cok.threads t)
    act_is work.Leave j s =
        on_test (all_finished c.threads f.started) _ _ IsLanguageOutcome (λ _. leave_with_is f.values f.asked fok.values) (λ _. tt)
    act_is (work.Obligation d a x t r) j s = obligation_is c.heap cok.heap d a x t r j.0
    act_is (work.Write m k t x r) j s = write_is c.heap cok.heap m k t x r f.values refl fok.values s
    act_is (work.Print n) j s = print_is c.settings.print c.lines (take_args n f.values []) (taken n f.values [] fok.values tt)
