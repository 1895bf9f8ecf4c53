-- A row draws cells and print words and makes threads only within the limits.
use Rattle.mono_syntax.specs.Limits.{most_threads}
use Rattle.std.proofs.Common.{◌≡◌, ℕ, ◌+◌, Bool, true, false, List, [], ◌∷◌, length, Option, Some, None, nat_le, nat_eq, slice_get, refl}
use Rattle.cast_machine.proofs.Heap.{on_test}
use Rattle.mono_syntax.specs.Ty.{Ty, fun}
use Rattle.mono_syntax.specs.CastExpr.{CastExpr, local, function, join}
use Rattle.mono_syntax.specs.CastStmt.{CastStmt}
use Rattle.mono_syntax.specs.declared.leaf.Op.{Op}
use Rattle.mono_syntax.specs.declared.value.Val.{Val}
use Rattle.mono_syntax.specs.declared.value.Val.TheVariants as val
use Rattle.mono_syntax.specs.declared.cast.CastScript.{CastScript}
use Rattle.mono_syntax.specs.declared.cast.CastClass.{CastClass}
use Rattle.mono_syntax.specs.declared.cast.CastFunction.{CastFunction}
use Rattle.mono_tree.specs.CastScripts.{target_of, fields_of}
use Rattle.cast_machine.specs.declared.data.Cell.{Cell}
use Rattle.cast_machine.specs.declared.data.Fit.{Fit}
use Rattle.cast_machine.specs.declared.data.Fit.TheVariants as fits
use Rattle.cast_machine.specs.declared.data.Operated.{Operated}
use Rattle.cast_machine.specs.declared.data.Operated.TheVariants as operated
use Rattle.cast_machine.specs.declared.data.Verdict.{Verdict}
use Rattle.cast_machine.specs.declared.data.Verdict.TheVariants as verdict
use Rattle.cast_machine.specs.declared.data.Frame.{Frame}
use Rattle.cast_machine.specs.declared.data.Thread.{Thread}
use Rattle.cast_machine.specs.declared.data.Outcome.{Outcome}
use Rattle.cast_machine.specs.declared.data.Work.{Work}
use Rattle.cast_machine.specs.declared.data.Work.TheVariants as work
use Rattle.cast_machine.specs.Maps.{lookup}
use Rattle.cast_machine.specs.Heap.{Heap, heap_size, size}
use Rattle.cast_machine.specs.Fits.{fit_of}
use Rattle.cast_machine.specs.Operators.{operate, negated}
use Rattle.cast_machine.specs.Rows.{blames, block_at, statement_at, store, forget, on_bool, short, name_at, function_at, handle_at, eval, errs, operates, binary_row, neg_row, not_row, fit_value, fit_at, fit_top}
use Rattle.cast_machine.specs.Cells.{settle, read_from, write_step}
use Rattle.cast_machine.specs.Calls.{take_args, cells_of, named, new_object, new_args, new_at, count_of, call_test, enter_at, begin_at, finished, join_of, all_finished, leave_to, leave_with, leave, words_of, print_args}
use Rattle.cast_machine.specs.Step.{Configuration, act}
use Rattle.std.proofs.Common.{◌≤◌, ◌<◌, suc, ap, arith, bytes_eq, cond, ◌∙◌}
use Rattle.mono_list.proofs.Cases.{split}
use Rattle.mono_syntax.specs.Limits.{most_items, most_names}
use Rattle.mono_syntax.specs.declared.cast.NamedType.{NamedType}
use Rattle.cast_machine.specs.Maps.{update}
use Rattle.cast_machine.specs.Calls.{bind, called, unbound}
use Rattle.cast_machine.specs.RunLimits.{HasSmallBlocks, IsSmallBlock}
use Rattle.cast_machine.specs.Step.{items_of}
use Rattle.cast_machine.specs.declared.data.Change.TheVariants as change
use Rattle.cast_machine.specs.declared.data.Outcome.TheVariants as outcome
use Rattle.cast_machine.specs.declared.data.State.TheVariants as state

pub nat_le-is : (a b : ℕ) → nat_le a b ≡ true → a ≤ b
nat_le-is a b e = grind arith

pub nat_le-not : (a b : ℕ) → nat_le a b ≡ false → b < a
nat_le-not a b e = grind arith

-- ---- a first frame

pub length-update : {A : Type 0} (l : List (List ℕ × A)) (x : List ℕ) (a : A) → length (update l x a) ≡ length l
length-update [] x a = refl
length-update (p ∷ l) x a =
    split (bytes_eq p.0 x) (λ b. length (cond b ((p.0, a) ∷ l) (p ∷ update l x a)) ≡ suc (length l)) (λ t. refl) (λ f. ap suc (length-update l x a))

length-bind : (xs : List (List ℕ)) (vs : List Val) (names : List (List ℕ × Option Val)) → length (bind xs vs names) ≡ length names
length-bind [] vs names = refl
length-bind (x ∷ xs) [] names = refl
length-bind (x ∷ xs) (v ∷ vs) names = length-bind xs vs (update names x (Some v)) ∙ length-update names x (Some v)

pub length-unbound : (A : Type 0) (bs : List NamedType) → length (unbound {A = A} bs) ≡ length bs
length-unbound A [] = refl
length-unbound A (b ∷ bs) = ap suc (length-unbound A bs)

-- a frame with two work items, no value and the names of a small block
pub small_frame : (a b : ℕ) → a ≤ most_names → b ≤ most_names → 1 + (a + (b + (2 + 0))) + 0 ≤ most_items
small_frame a b h k = omega arith

pub called_small : (d : CastFunction) (m : Ty) (args : List Val) → IsSmallBlock d.block → items_of (state.Running (called d m args) []) ≤ most_items
called_small d m args i =
    let names : length (bind d.params args (unbound d.block.names)) ≡ length d.block.names = length-bind d.params args (unbound d.block.names) ∙ length-unbound Val d.block.names in
    let handles : length (unbound {A = ℕ} d.block.threads) ≡ length d.block.threads = length-unbound ℕ d.block.threads in
    small_frame (length (bind d.params args (unbound d.block.names))) (length (unbound {A = ℕ} d.block.threads)) (omega (arith, names, i.0)) (omega (arith, handles, i.1))

-- ---- rows

-- what a row adds is within the limits of the configuration
abbrev pub RowWithin : CastScript → Configuration → Outcome → Type 0
RowWithin p c (outcome.Moves (change.Adds o) s) = heap_size c.heap + size o ≤ c.settings.heap
RowWithin p c (outcome.Moves (change.Says line) s) = words_of c.lines + (length line + 1) ≤ c.settings.print
RowWithin p c (outcome.Moves (change.Begins th) s) = (length c.threads < most_threads) × (th.steps ≡ 0) × (HasSmallBlocks p → items_of th.state ≤ most_items)
RowWithin p c o = Unit {0}

module _ (P : CastScript) (C : Configuration) where
  abbrev Within : Outcome → Type 0
  Within o = RowWithin P C o

  blames_within : (k : Option ℕ) → Within (blames k)
  blames_within None = tt
  blames_within (Some k) = tt

  block_within : (body : List CastStmt) (i : ℕ) (o : Option CastStmt) (f : Frame) (below : List Frame) → Within (block_at body i o f below)
  block_within body i None f below = tt
  block_within body i (Some s) f below = tt

  statement_within : (o : Option CastStmt) (f : Frame) (below : List Frame) → Within (statement_at o f below)
  statement_within None f below = tt
  statement_within (Some s) f below = tt

  store_within : (x : List ℕ) (vs : List Val) (f : Frame) (below : List Frame) → Within (store x vs f below)
  store_within x [] f below = tt
  store_within x (v ∷ vs) f below = tt

  forget_within : (vs : List Val) (f : Frame) (below : List Frame) → Within (forget vs f below)
  forget_within [] f below = tt
  forget_within (v ∷ vs) f below = tt

  on_bool_within : (vs : List Val) (items : Bool → List Work) (f : Frame) (below : List Frame) → Within (on_bool vs items f below)
  on_bool_within (val.Bool b ∷ vs) items f below = tt
  on_bool_within vs items f below = tt

  short_within : (b : Bool) (e : CastExpr) (vs : List Val) (f : Frame) (below : List Frame) → Within (short b e vs f below)
  short_within true e (val.Bool true ∷ vs) f below = tt
  short_within true e (val.Bool false ∷ vs) f below = tt
  short_within false e (val.Bool false ∷ vs) f below = tt
  short_within false e (val.Bool true ∷ vs) f below = tt
  short_within b e vs f below = tt

  name_within : (k : ℕ) (o : Option (Option Val)) (f : Frame) (below : List Frame) → Within (name_at k o f below)
  name_within k None f below = tt
  name_within k (Some None) f below = tt
  name_within k (Some (Some v)) f below = tt

  function_within : (g : ℕ) (o : Option CastFunction) (f : Frame) (below : List Frame) → Within (function_at g o f below)
  function_within g None f below = tt
  function_within g (Some d) f below = tt

  handle_within : (k : ℕ) (o : Option (Option ℕ)) (f : Frame) (below : List Frame) → Within (handle_at k o f below)
  handle_within k None f below = tt
  handle_within k (Some None) f below = tt
  handle_within k (Some (Some t)) f below = tt

  eval_within : (p : CastScript) (e : CastExpr) (f : Frame) (below : List Frame) → Within (eval p e f below)
  eval_within p (local k x) f below = name_within k (lookup f.names x) f below
  eval_within p (function g) f below = function_within g (slice_get p.functions g) f below
  eval_within p (join k x) f below = handle_within k (lookup f.handles x) f below
  eval_within p e f below = tt

  errs_within : (k : Option ℕ) (e : ℕ → Rattle.cast_machine.specs.declared.data.End.End) → Within (errs k e)
  errs_within None e = tt
  errs_within (Some k) e = tt

  operates_within : (k a : Option ℕ) (o : Operated) (f : Frame) (below : List Frame) → Within (operates k a o f below)
  operates_within k a (operated.Gives v) f below = tt
  operates_within k a operated.Unfit f below = blames_within k
  operates_within k a operated.ZeroDivision f below = errs_within a _
  operates_within k a operated.Overflow f below = errs_within a _

  binary_within : (o : Op) (k a : Option ℕ) (vs : List Val) (f : Frame) (below : List Frame) → Within (binary_row o k a vs f below)
  binary_within o k a [] f below = tt
  binary_within o k a (w ∷ []) f below = tt
  binary_within o k a (w ∷ v ∷ vs) f below = operates_within k a (operate o v w) (record f { values = vs }) below

  neg_within : (a : ℕ) (vs : List Val) (f : Frame) (below : List Frame) → Within (neg_row a vs f below)
  neg_within a [] f below = tt
  neg_within a (v ∷ vs) f below = operates_within None (Some a) (negated v) (record f { values = vs }) below

  not_within : (vs : List Val) (f : Frame) (below : List Frame) → Within (not_row vs f below)
  not_within (val.Bool b ∷ vs) f below = tt
  not_within vs f below = tt

  fit_value_within : (k : ℕ) (t : Ty) (j : ℕ) (o : Fit) (f : Frame) (below : List Frame) → Within (fit_value k t j o f below)
  fit_value_within k t j fits.Unfit f below = tt
  fit_value_within k t j (fits.Holds v) f below = tt
  fit_value_within k t j (fits.Opens c a) f below = tt

  fit_within : (p : CastScript) (k : ℕ) (t : Ty) (j : ℕ) (o : Option Val) (f : Frame) (below : List Frame) → Within (fit_at p k t j o f below)
  fit_within p k t j None f below = tt
  fit_within p k t j (Some v) f below = fit_value_within k t j (fit_of p v t) f below

  top_within : (p : CastScript) (k : ℕ) (o : Option Ty) (f : Frame) (below : List Frame) → Within (fit_top p k o f below)
  top_within p k None f below = tt
  top_within p k (Some t) f below = fit_within p k t 0 (slice_get f.values 0) f below

  settle_within : (a : ℕ) (x : List ℕ) (v : Verdict) (below : List Frame) → Within (settle a x v below)
  settle_within a x verdict.NoRow below = tt
  settle_within a x (verdict.Goes f) below = tt
  settle_within a x (verdict.Fails e) below = tt
  settle_within a x (verdict.Sets c f) below = tt

  read_within : (h : Heap) (m : Option ℕ) (x : List ℕ) (vs : List Val) (f : Frame) (below : List Frame) → Within (read_from h m x vs f below)
  read_within h m x [] f below = tt
  read_within h m x (val.Obj d a ∷ vs) f below = settle_within a x _ below
  read_within h m x (v ∷ vs) f below = blames_within m

  write_within : (p : CastScript) (h : Heap) (m k : Option ℕ) (s : Ty) (x : List ℕ) (r : Option Ty) (vs : List Val) (f : Frame) (below : List Frame) → Within (write_step p h m k s x r vs f below)
  write_within p h m k s x r (val.Obj d a ∷ v ∷ vs) f below = settle_within a x _ below
  write_within p h m k s x r (o ∷ v ∷ vs) f below = blames_within m
  write_within p h m k s x r vs f below = tt

  object_within : (c : ℕ) (o : Option (List (List ℕ × Cell))) (f : Frame) (below : List Frame) → Within (new_object C.settings.heap C.heap c o f below)
  object_within c None f below = tt
  object_within c (Some cells) f below =
      on_test (nat_le (heap_size C.heap + size (record { class = c; cells = cells; waits = 0; maker = 0 })) C.settings.heap) _ _ Within (λ fits. nat_le-is _ _ fits) (λ _. tt)

  new_args_within : (c : ℕ) (d : CastClass) (o : Option (List Val × List Val)) (f : Frame) (below : List Frame) → Within (new_args C.settings.heap C.heap c d o f below)
  new_args_within c d None f below = tt
  new_args_within c d (Some a) f below = object_within c (cells_of (fields_of d.ty) (named d.params a.0)) (record f { values = a.1 }) below

  new_within : (c : ℕ) (o : Option CastClass) (f : Frame) (below : List Frame) → Within (new_at C.settings.heap C.heap c o f below)
  new_within c None f below = tt
  new_within c (Some d) f below = new_args_within c d (take_args (length d.params) f.values []) f below

  call_within : (k : Option ℕ) (ks : List (Option ℕ)) (enter : ℕ → Ty → Work) (o : Option (List Val × List Val)) (f : Frame) (below : List Frame) → Within (call_test k ks enter o f below)
  call_within k ks enter None f below = tt
  call_within k ks enter (Some (args, [])) f below = tt
  call_within k ks enter (Some (args, val.Fun g (fun ms r) ∷ rest)) f below =
      on_test (nat_eq (count_of ms) (length ks)) _ _ Within (λ _. tt) (λ _. blames_within k)
  call_within k ks enter (Some (args, v ∷ rest)) f below = blames_within k

  enter_within : (m : Ty) (d : Option CastFunction) (o : Option (List Val × List Val)) (f : Frame) (below : List Frame) → Within (enter_at m d o f below)
  enter_within m (Some d) (Some (args, v ∷ rest)) f below = tt
  enter_within m d o f below = tt

  begin_within : (x : List ℕ) (g : ℕ) (m : Ty) (d : Option CastFunction) (o : Option (List Val × List Val)) (f : Frame) (below : List Frame) → slice_get P.functions g ≡ d → Within (begin_at (length C.threads) x m d o f below)
  begin_within x g m (Some d) (Some (args, v ∷ rest)) f below e =
      on_test (nat_le most_threads (length C.threads)) _ _ Within (λ _. tt) (λ room. (nat_le-not _ _ room, refl, λ small. called_small d m args (small.functions g d e)))
  begin_within x g m d o f below e = tt

  join_within : (o : Option Val) (f : Frame) (below : List Frame) → Within (join_of o f below)
  join_within None f below = tt
  join_within (Some v) f below = tt

  leave_to_within : (v : Val) (below : List Frame) → Within (leave_to v below)
  leave_to_within v [] = tt
  leave_to_within v (f ∷ below) = tt

  leave_with_within : (vs : List Val) (a : Option Ty) (below : List Frame) → Within (leave_with vs a below)
  leave_with_within vs None below = tt
  leave_with_within [] (Some t) below = tt
  leave_with_within (v ∷ vs) (Some t) below = leave_to_within v below

  leave_within : (threads : List Thread) (f : Frame) (below : List Frame) → Within (leave threads f below)
  leave_within threads f below =
      on_test (all_finished threads f.started) _ _ Within (λ _. leave_with_within f.values f.asked below) (λ _. tt)

  print_within : (o : Option (List Val × List Val)) (f : Frame) (below : List Frame) → Within (print_args C.settings.print C.lines o f below)
  print_within None f below = tt
  print_within (Some a) f below =
      on_test (nat_le (words_of C.lines + (length a.0 + 1)) C.settings.print) _ _ Within (λ fits. nat_le-is _ _ fits) (λ _. tt)

  pub act_within : (i : Work) (f : Frame) (below : List Frame) → RowWithin P C (act P C i f below)
  act_within (work.Block body i) f below = block_within body i (slice_get body i) f below
  act_within (work.Stmt body i) f below = statement_within (slice_get body i) f below
  act_within (work.Store x) f below = store_within x f.values f below
  act_within work.Forget f below = forget_within f.values f below
  act_within (work.Branch bs last k) f below = on_bool_within f.values _ f below
  act_within (work.Loop e body) f below = tt
  act_within (work.Turn e body) f below = on_bool_within f.values _ f below
  act_within (work.Eval e) f below = eval_within P e f below
  act_within (work.Short b e) f below = short_within b e f.values f below
  act_within (work.Neg a) f below = neg_within a f.values f below
  act_within work.Not f below = not_within f.values f below
  act_within (work.Binary o k a) f below = binary_within o k a f.values f below
  act_within (work.Read m x) f below = read_within C.heap m x f.values f below
  act_within (work.New d) f below = new_within d (slice_get P.classes d) f below
  act_within (work.Call k ks) f below = call_within k ks (λ g m. work.Enter g m (length ks)) (take_args (length ks) f.values []) f below
  act_within (work.Start x k ks) f below = call_within k ks (λ g m. work.Begin x g m (length ks)) (take_args (length ks) f.values []) f below
  act_within (work.Arg k t j) f below = fit_within P k t j (slice_get f.values j) f below
  act_within (work.Cast k) f below = top_within P k (target_of P k) f below
  act_within (work.Result k) f below = top_within P k f.asked f below
  act_within (work.Fitted k t j) f below = tt
  act_within (work.Enter g m n) f below = enter_within m (slice_get P.functions g) (take_args n f.values []) f below
  act_within (work.Begin x g m n) f below = begin_within x g m (slice_get P.functions g) (take_args n f.values []) f below refl
  act_within (work.Fall k) f below = tt
  act_within (work.Join t) f below = join_within (finished C.threads t) f below
  act_within work.Leave f below = leave_within C.threads f below
  act_within (work.Obligation d a x t r) f below = settle_within a x _ below
  act_within (work.Write m k s x r) f below = write_within P C.heap m k s x r f.values f below
  act_within (work.Print n) f below = print_within (take_args n f.values []) f below
