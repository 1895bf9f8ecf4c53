-- The rows of blocks and statements keep everything well typed.
use Rattle.std.proofs.Common.{Bool, List, None, Option, Some, [], ap₂, drop, false, length, refl, slice_get, subst, sym, true, ℕ, ◌++◌, ◌+◌, ◌||◌, ◌∙◌, ◌∷◌, ◌≡◌}
use Rattle.mono_list.proofs.Cases.{none_some, some_is, some_none}
use Rattle.mono_syntax.proofs.Lists.{cast_block-cast_block_list}
use Rattle.mono_syntax.specs.CastExpr.{CastExpr}
use Rattle.mono_syntax.specs.CastExprView.{cast_exprs_list}
use Rattle.mono_syntax.specs.CastStmt.{CastStmt}
use Rattle.mono_syntax.specs.CastStmt as stmt
use Rattle.mono_syntax.specs.CastStmtView.{cast_block, cast_block_list, cast_branches, cast_else_block}
use Rattle.mono_syntax.specs.Ty.{Ty, bool}
use Rattle.mono_syntax.specs.declared.cast.CastBranch.{CastBranch}
use Rattle.mono_syntax.specs.declared.cast.CastScript.{CastScript}
use Rattle.mono_syntax.specs.declared.leaf.Kind.TheVariants as kinds
use Rattle.mono_syntax.specs.declared.value.Val.{Val}
use Rattle.mono_syntax.specs.declared.value.Val.TheVariants as val
use Rattle.mono_tree.proofs.TypeLaws.{precise_refl, static_same}
use Rattle.mono_tree.specs.BodyEnds.{branches_may_end, else_may_end, may_end, statement_may_end}
use Rattle.mono_tree.specs.CastScripts.{branch_list, else_list, sites_of, values_of}
use Rattle.mono_tree.specs.Static.{is_static}
use Rattle.mono_tree.specs.TypedPrograms.{AreWellTypedBranches, HasBranch, IsOfType, IsWellTypedBlock, IsWellTypedElse, IsWellTypedStatement, ReturnUse, Scope, SiteWhere, StoreUse, type_of_name}
use Rattle.cast_machine.proofs.Fitting.{has_lower}
use Rattle.cast_machine.proofs.Obligations.{HereOk, MoveOk, work_ok}
use Rattle.cast_machine.proofs.Trees.{block_step, branches_back, drop_none, drop_some, else_back, or_assoc, or_left, or_right}
use Rattle.cast_machine.proofs.ValueLists.{count_types, env_store, evals_args, evals_ok, site_of}
use Rattle.cast_machine.specs.Heap.{Heap}
use Rattle.cast_machine.specs.HeapTyping.{AreTyped, IsAsPrecise, IsTyped}
use Rattle.cast_machine.specs.Maps.{update}
use Rattle.cast_machine.specs.Rows.{block_at, block_of, branch_at, branch_turn, branch_work, does, evals, forget, goes, has, leaving, loop_turn, on_bool, otherwise_work, statement, statement_at, store}
use Rattle.cast_machine.specs.Typing.{IsAskedBelow}
use Rattle.cast_machine.specs.WorkTyping.{IsWellTypedWork, OnTop}
use Rattle.cast_machine.specs.declared.data.Frame.{Frame}
use Rattle.cast_machine.specs.declared.data.Outcome.{Outcome}
use Rattle.cast_machine.specs.declared.data.Thread.{Thread}
use Rattle.cast_machine.specs.declared.data.Work.{Work}
use Rattle.cast_machine.specs.declared.data.Work.TheVariants as work

-- ---- the work that a choice leaves

else_work : (p : CastScript) (s : Scope) (a : Option Ty) (last : Option (List CastStmt)) (items : List Work) (ts : List Ty) → IsWellTypedElse p s (cast_else_block last) → (else_may_end (cast_else_block last) ≡ true → IsWellTypedWork p s a items ts) → IsWellTypedWork p s a (otherwise_work last ++ items) ts
else_work p s a None items ts i later = later refl
else_work p s a (Some body) items ts i later = (i, later)

-- the branches from place k on, whose first is b or which are none
pub branch_ok : (p : CastScript) (s : Scope) (a : Option Ty) (bs : List CastBranch) (last : Option (List CastStmt)) (k : ℕ) (items : List Work) (ts : List Ty) → AreWellTypedBranches p s (cast_branches (drop k bs)) → IsWellTypedElse p s (cast_else_block last) → (branches_may_end (cast_branches (drop k bs)) || else_may_end (cast_else_block last) ≡ true → IsWellTypedWork p s a items ts) → IsWellTypedWork p s a (branch_work bs last k ++ items) ts
branch_ok p s a bs last k items ts i j later = go (slice_get bs k) refl
  where
    go : (o : Option CastBranch) → slice_get bs k ≡ o → IsWellTypedWork p s a (branch_at bs last k o ++ items) ts
    go None e = else_work p s a last items ts j (subst (λ (l : List CastBranch). branches_may_end (cast_branches l) || else_may_end (cast_else_block last) ≡ true → IsWellTypedWork p s a items ts) (drop_none bs k e) later)
    go (Some b) e =
        let d = drop_some bs k b e in
        let first = subst (λ (l : List CastBranch). AreWellTypedBranches p s (cast_branches l)) d i in
        (first.0.0, first.0.1, (first.0.2, subst (λ (l : List CastBranch). HasBranch (cast_branches l)) (sym d) tt, i, j, later))

-- a return
asked_low : (p : CastScript) (k : Option ℕ) (S R : Ty) (d a : Option Ty) (ts : List Ty) → d ≡ Some R → IsAskedBelow d a → IsAsPrecise S R → (t : Bool) → is_static R ≡ t → SiteWhere p k kinds.Return R t → (s : Scope) → IsWellTypedWork p s a (leaving k) (S ∷ ts)
asked_low p k S R None a ts e i le t z site s = none_some _ e
asked_low p k S R (Some D) None ts e i le t z site s = absurd i
asked_low p None S R (Some D) (Some r) ts e i le true z site s =
    let same : D ≡ R = some_is e in
    let eq : r ≡ R = static_same r R (subst (λ U. IsAsPrecise r U) same i) z in
    subst (λ U. IsAsPrecise S U) (sym eq) le
asked_low p None S R (Some D) (Some r) ts e i le false z site s = absurd site
asked_low p (Some k) S R (Some D) (Some r) ts e i le true z site s = some_none _ site
asked_low p (Some k) S R (Some D) (Some r) ts e i le false z site s = (r, refl, site_of site, precise_refl r)

pub return_ok : (p : CastScript) (k : Option ℕ) (S : Ty) (s : Scope) (a : Option Ty) (ts : List Ty) → IsAskedBelow s.result a → ReturnUse p s k S → IsWellTypedWork p s a (leaving k) (S ∷ ts)
return_ok p k S s a ts i r = asked_low p k S r.result s.result a ts r.declared i r.value (is_static r.result) refl r.site s

-- whatever stands below a return goes with it
pub leaving_on : (p : CastScript) (k : Option ℕ) (s : Scope) (a : Option Ty) (items : List Work) (ts : List Ty) → IsWellTypedWork p s a (leaving k) ts → IsWellTypedWork p s a (leaving k ++ items) ts
leaving_on p None s a items ts i = i
leaving_on p (Some k) s a items ts i = i

module _ (p : CastScript) (h : Heap) (threads : List Thread) (s : Scope) (rs : List Ty) (me : ℕ) (R : Ty) (f : Frame) (below : List Frame) (ok : HereOk p h threads s rs me R f below) where
  abbrev Ok : Outcome → Type 0
  Ok o = MoveOk p rs me h R o

  abbrev Rest : List Ty → Type 0
  Rest ts = IsWellTypedWork p s f.asked f.work ts

  more_work : (items : List Work) (ts : List Ty) → AreTyped p h f.values ts → IsWellTypedWork p s f.asked (items ++ f.work) ts → Ok (goes (does items f) below)
  more_work items ts vok i = work_ok p h threads s rs me R f below ok (items ++ f.work) f.values ts vok i

  pub block_ok : (body : List CastStmt) (i : ℕ) (ts : List Ty) → AreTyped p h f.values ts → IsWellTypedWork p s f.asked (work.Block body i ∷ f.work) ts → MoveOk p rs me h R (block_at body i (slice_get body i) f below)
  block_ok body i ts vok w = go (slice_get body i) refl
    where
      go : (o : Option CastStmt) → slice_get body i ≡ o → Ok (block_at body i o f below)
      go None e =
          let later = subst (λ (l : List CastStmt). may_end (cast_block l) ≡ true → Rest ts) (drop_none body i e) w.1 in
          work_ok p h threads s rs me R f below ok f.work f.values ts vok (later refl)
      go (Some t) e =
          let d = drop_some body i t e in
          let typed = subst (λ (l : List CastStmt). IsWellTypedBlock p s (cast_block l)) d w.0 in
          let later = subst (λ (l : List CastStmt). may_end (cast_block l) ≡ true → Rest ts) d w.1 in
          more_work (work.Stmt body i ∷ work.Block body (i + 1) ∷ []) ts vok (t, e, typed.0, block_step p s t (drop (i + 1) body) (Rest ts) typed.1 later)

  stored : (x : List ℕ) (T : Ty) (v : Val) → type_of_name s.names x ≡ Some T → IsTyped p h v T → HereOk p h threads s rs me R (record f { names = update f.names x (Some v) }) below
  stored x T v e has = record {
    heap = ok.heap;
    named = record { names_typed = env_store p h f.names s.names x T v (ok.named).names_typed e has; handles_typed = (ok.named).handles_typed; started_later = (ok.named).started_later; asked = (ok.named).asked };
    stack = ok.stack;
    mine = ok.mine;
    made = ok.made;
    results = ok.results;
  }

  pub store_ok : (vs : List Val) (ts : List Ty) (x : List ℕ) → AreTyped p h vs ts → OnTop ts (λ S us. StoreUse s x S × IsWellTypedWork p s f.asked f.work us) → MoveOk p rs me h R (store x vs f below)
  store_ok [] [] x vok i = absurd i
  store_ok (v ∷ vs) (S ∷ ts) x vok i =
      work_ok p h threads s rs me R (record f { names = update f.names x (Some v) }) below (stored x i.0.0 v i.0.1 (has_lower p h v S i.0.0 vok.0 i.0.2)) f.work vs ts vok.1 i.1
  store_ok [] (S ∷ ts) x vok i = absurd vok
  store_ok (v ∷ vs) [] x vok i = absurd vok

  pub forget_ok : (vs : List Val) (ts : List Ty) → AreTyped p h vs ts → OnTop ts (λ S us. IsWellTypedWork p s f.asked f.work us) → MoveOk p rs me h R (forget vs f below)
  forget_ok [] [] vok i = absurd i
  forget_ok (v ∷ vs) (S ∷ ts) vok i = work_ok p h threads s rs me R f below ok f.work vs ts vok.1 i
  forget_ok [] (S ∷ ts) vok i = absurd vok
  forget_ok (v ∷ vs) [] vok i = absurd vok

  pub statement_ok : (ts : List Ty) → AreTyped p h f.values ts → (t : CastStmt) → IsWellTypedStatement p s t → (statement_may_end t ≡ true → IsWellTypedWork p s f.asked f.work ts) → MoveOk p rs me h R (goes (statement t f) below)
  statement_ok ts vok stmt.pass t i = work_ok p h threads s rs me R f below ok f.work f.values ts vok (i refl)
  statement_ok ts vok (stmt.give k e) t i =
      work_ok p h threads s rs me R f below ok (work.Eval e ∷ leaving k) f.values ts vok (t.0, t.1, return_ok p k t.0 s f.asked ts (ok.named).asked t.2)
  statement_ok ts vok (stmt.print es) t i =
      more_work (evals (cast_exprs_list es) ++ work.Print (length (cast_exprs_list es)) ∷ []) ts vok
      (evals_ok p s f.asked es t.0 ts (work.Print (length (cast_exprs_list es))) f.work t.1 (t.0, ts, count_types p s es t.0 t.1, refl, i refl))
  statement_ok ts vok (stmt.assign x e) t i = more_work (work.Eval e ∷ work.Store x ∷ []) ts vok (t.0, t.1, (t.2, i refl))
  statement_ok ts vok (stmt.write m k F o x e) t i = more_work (work.Eval e ∷ work.Eval o ∷ work.Write m k F x None ∷ []) ts vok (t.1, t.3, (t.0, t.2, (t.4, i refl)))
  statement_ok ts vok (stmt.start x k e args) t i =
      more_work (work.Eval e ∷ evals (values_of args) ++ work.Start x k (sites_of args) ∷ []) ts vok
      (t.0, t.3, evals_args p s f.asked args t.1 (t.0 ∷ ts) (work.Start x k (sites_of args)) f.work t.4 (t.1, t.0, ts, t.2, t.5, refl, t.6, i refl))
  statement_ok ts vok (stmt.plain e) t i = more_work (work.Eval e ∷ work.Forget ∷ []) ts vok (t.0, t.1, i refl)
  statement_ok ts vok (stmt.if_any bs last) t i =
      more_work (branch_work (branch_list bs) (else_list last) 0) ts vok
      (branch_ok p s f.asked (branch_list bs) (else_list last) 0 f.work ts
      (subst (λ l. AreWellTypedBranches p s l) (sym (branches_back bs)) t.1)
      (subst (λ l. IsWellTypedElse p s l) (sym (else_back last)) t.2)
      (λ e. i (sym (ap₂ (λ x y. branches_may_end x || else_may_end y) (branches_back bs) (else_back last)) ∙ e)))
  statement_ok ts vok (stmt.loop e body) t i =
      more_work (work.Loop e (cast_block_list body) ∷ []) ts vok (t.0, subst (λ l. IsWellTypedBlock p s l) (sym (cast_block-cast_block_list body)) t.1, i refl)

  pub statement_row : (body : List CastStmt) (i : ℕ) (ts : List Ty) → AreTyped p h f.values ts → IsWellTypedWork p s f.asked (work.Stmt body i ∷ f.work) ts → MoveOk p rs me h R (statement_at (slice_get body i) f below)
  statement_row body i ts vok w = subst (λ o. Ok (statement_at o f below)) (sym w.1) (statement_ok ts vok w.0 w.2 w.3)

  -- ---- choices by a bool

  has_bool : (v : Val) → IsTyped p h v bool → (b : Bool) × (v ≡ val.Bool b)
  has_bool (val.Bool b) i = (b, refl)
  has_bool v i = absurd i.1

  pub bool_of : (v : Val) (S : Ty) → IsTyped p h v S → IsAsPrecise S bool → (b : Bool) × (v ≡ val.Bool b)
  bool_of v S i le = has_bool v (has_lower p h v S bool i le)

  on_bool_ok : (vs : List Val) (ts : List Ty) → AreTyped p h vs ts → (P : Ty → List Ty → Type 0) → OnTop ts P → ((S : Ty) (us : List Ty) → P S us → IsAsPrecise S bool) → (K : Bool → List Work) → ((b : Bool) (S : Ty) (us : List Ty) → P S us → IsWellTypedWork p s f.asked (K b ++ f.work) us) → Ok (on_bool vs K f below)
  on_bool_ok [] [] vok P i low K each = absurd i
  on_bool_ok (v ∷ vs) (S ∷ ts) vok P i low K each =
      let b = bool_of v S vok.0 (low S ts i) in
      subst (λ u. Ok (on_bool (u ∷ vs) K f below)) (sym b.1) (work_ok p h threads s rs me R f below ok (K b.0 ++ f.work) vs ts vok.1 (each b.0 S ts i))
  on_bool_ok [] (S ∷ ts) vok P i low K each = absurd vok
  on_bool_ok (v ∷ vs) [] vok P i low K each = absurd vok

  -- one branch's turn
  pick_branch : (bs : List CastBranch) (last : Option (List CastStmt)) (k : ℕ) (us : List Ty) (b : Bool) → IsWellTypedWork p s f.asked (block_of (slice_get bs k) ++ f.work) us → IsWellTypedWork p s f.asked (branch_work bs last (k + 1) ++ f.work) us → IsWellTypedWork p s f.asked (branch_turn bs last k b ++ f.work) us
  pick_branch bs last k us true x y = x
  pick_branch bs last k us false x y = y

  turn_work : (bs : List CastBranch) (last : Option (List CastStmt)) (k : ℕ) (us : List Ty) → HasBranch (cast_branches (drop k bs)) → AreWellTypedBranches p s (cast_branches (drop k bs)) → IsWellTypedElse p s (cast_else_block last) → (branches_may_end (cast_branches (drop k bs)) || else_may_end (cast_else_block last) ≡ true → Rest us) → (b : Bool) → IsWellTypedWork p s f.asked (branch_turn bs last k b ++ f.work) us
  turn_work bs last k us one i j later = go (slice_get bs k) refl
    where
      go : (o : Option CastBranch) → slice_get bs k ≡ o → (b : Bool) → IsWellTypedWork p s f.asked (branch_turn bs last k b ++ f.work) us
      go None e b = absurd (subst (λ (l : List CastBranch). HasBranch (cast_branches l)) (drop_none bs k e) one)
      go (Some c) e b =
          let d = drop_some bs k c e in
          let typed = subst (λ (l : List CastBranch). AreWellTypedBranches p s (cast_branches l)) d i in
          let next = subst (λ (l : List CastBranch). branches_may_end (cast_branches l) || else_may_end (cast_else_block last) ≡ true → Rest us) d later in
          let B = may_end (cast_block c.body) in
          let C = branches_may_end (cast_branches (drop (k + 1) bs)) in
          let E = else_may_end (cast_else_block last) in
          pick_branch bs last k us b
          (subst (λ o. IsWellTypedWork p s f.asked (block_of o ++ f.work) us) (sym e) (typed.1, λ z. next (or_left (B || C) E (or_left B C z))))
          (branch_ok p s f.asked bs last (k + 1) f.work us typed.2 j (λ z. next (or_assoc B C E (or_right B (C || E) z))))

  pub branch_row : (bs : List CastBranch) (last : Option (List CastStmt)) (k : ℕ) (vs : List Val) (ts : List Ty) → AreTyped p h vs ts → IsWellTypedWork p s f.asked (work.Branch bs last k ∷ f.work) ts → MoveOk p rs me h R (on_bool vs (branch_turn bs last k) f below)
  branch_row bs last k vs ts vok w = on_bool_ok vs ts vok _ w (λ S us x. x.0) (branch_turn bs last k) (λ b S us x. turn_work bs last k us x.1 x.2 x.3 x.4 b)

  loop_work : (e : CastExpr) (body : List CastStmt) (us : List Ty) → IsOfType p s e bool → IsWellTypedBlock p s (cast_block body) → Rest us → (b : Bool) → IsWellTypedWork p s f.asked (loop_turn e body b ++ f.work) us
  loop_work e body us i j later true = (j, λ _. (i, j, later))
  loop_work e body us i j later false = later

  pub turn_row : (e : CastExpr) (body : List CastStmt) (vs : List Val) (ts : List Ty) → AreTyped p h vs ts → IsWellTypedWork p s f.asked (work.Turn e body ∷ f.work) ts → MoveOk p rs me h R (on_bool vs (loop_turn e body) f below)
  turn_row e body vs ts vok w = on_bool_ok vs ts vok _ w (λ S us x. x.0) (loop_turn e body) (λ b S us x. loop_work e body us x.1 x.2 x.3 b)

  pub loop_row : (e : CastExpr) (body : List CastStmt) (ts : List Ty) → AreTyped p h f.values ts → IsWellTypedWork p s f.asked (work.Loop e body ∷ f.work) ts → MoveOk p rs me h R (goes (does (work.Eval e ∷ work.Turn e body ∷ []) f) below)
  loop_row e body ts vok w = more_work (work.Eval e ∷ work.Turn e body ∷ []) ts vok (w.0.0, w.0.1, (w.0.2, w.0, w.1, w.2))
