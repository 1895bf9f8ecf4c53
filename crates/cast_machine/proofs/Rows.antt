-- The row of each item keeps everything well typed, and says that a thread waits only at Join and Leave.
use Rattle.std.proofs.Common.{List, None, Some, [], length, refl, subst, true, ℕ, ◌++◌, ◌∷◌, ◌≡◌}
use Rattle.mono_syntax.specs.Ty.{Ty, dyn, nil}
use Rattle.mono_syntax.specs.declared.cast.CastScript.{CastScript}
use Rattle.mono_syntax.specs.declared.value.Val.TheVariants as val
use Rattle.mono_tree.specs.TypedPrograms.{IsTypedProgram, Scope}
use Rattle.cast_machine.proofs.CallRows.{begin_ok, call_ok, enter_ok, leave_ok, print_ok}
use Rattle.cast_machine.proofs.Expressions.{binary_ok, eval_ok, join_row, neg_ok, not_ok, read_row, short_ok}
use Rattle.cast_machine.proofs.NewObjects.{new_ok}
use Rattle.cast_machine.proofs.Obligations.{HereOk, Kept, MoveOk, WaitOk, obligation_ok, work_ok}
use Rattle.cast_machine.proofs.Statements.{block_ok, branch_row, forget_ok, leaving_on, loop_row, return_ok, statement_row, store_ok, turn_row}
use Rattle.cast_machine.proofs.Writes.{arg_ok, cast_ok, fitted_ok, result_ok, write_again, write_row}
use Rattle.cast_machine.specs.Calls.{finished}
use Rattle.cast_machine.specs.Heap.{Heap}
use Rattle.cast_machine.specs.HeapTyping.{AreTyped}
use Rattle.cast_machine.specs.Rows.{leaving}
use Rattle.cast_machine.specs.Safety.{is_wait}
use Rattle.cast_machine.specs.Step.{Configuration, act}
use Rattle.cast_machine.specs.Typing.{around}
use Rattle.cast_machine.specs.WorkTyping.{IsLater, IsWellTypedTop}
use Rattle.cast_machine.specs.declared.data.Frame.{Frame}
use Rattle.cast_machine.specs.declared.data.Outcome.{Outcome}
use Rattle.cast_machine.specs.declared.data.Outcome.TheVariants as outcome
use Rattle.cast_machine.specs.declared.data.Thread.{Thread}
use Rattle.cast_machine.specs.declared.data.Work.{Work}
use Rattle.cast_machine.specs.declared.data.Work.TheVariants as work

-- what the row of an item comes to
abbrev pub ActOk : CastScript → List Ty → ℕ → List Thread → Heap → Ty → List Work → Outcome → Type 0
ActOk p rs me threads h R items outcome.NoRow = ⊥
ActOk p rs me threads h R items outcome.Waits = (is_wait items ≡ true) × ((t : ℕ) × IsLater rs me t dyn × (finished threads t ≡ None))
ActOk p rs me threads h R items (outcome.Moves d st) = Kept p rs me h R d st

module _ (p : CastScript) (pok : IsTypedProgram p) (c : Configuration) (s : Scope) (rs : List Ty) (me : ℕ) (R : Ty) (f : Frame) (below : List Frame) (ok : HereOk p c.heap c.threads s rs me R f below) where
  abbrev h : Heap
  h = c.heap

  abbrev Ok : Work → Outcome → Type 0
  Ok item o = ActOk p rs me c.threads h R (item ∷ f.work) o

  taken : (item : Work) (o : Outcome) → MoveOk p rs me h R o → Ok item o
  taken item outcome.NoRow i = i
  taken item outcome.Waits i = absurd i
  taken item (outcome.Moves d st) i = i

  waited : (item : Work) (o : Outcome) → is_wait (item ∷ f.work) ≡ true → WaitOk p rs me c.threads h R o → Ok item o
  waited item outcome.NoRow e i = i
  waited item outcome.Waits e i = (e, i)
  waited item (outcome.Moves d st) e i = i

  -- for any heap, lines and other threads
  pub act_ok : (item : Work) (ts : List Ty) → AreTyped p c.heap f.values ts → IsWellTypedTop p (around s f.asked rs me) c.heap [] (item ∷ f.work) f.values ts → ActOk p rs me c.threads c.heap R (item ∷ f.work) (act p c item f below)
  act_ok (work.Block body j) ts vok i = taken (work.Block body j) _ (block_ok p h c.threads s rs me R f below ok body j ts vok i.1)
  act_ok (work.Stmt body j) ts vok i = taken (work.Stmt body j) _ (statement_row p h c.threads s rs me R f below ok body j ts vok i.1)
  act_ok (work.Store x) ts vok i = taken (work.Store x) _ (store_ok p h c.threads s rs me R f below ok f.values ts x vok i.1)
  act_ok work.Forget ts vok i = taken work.Forget _ (forget_ok p h c.threads s rs me R f below ok f.values ts vok i.1)
  act_ok (work.Branch bs last k) ts vok i = taken (work.Branch bs last k) _ (branch_row p h c.threads s rs me R f below ok bs last k f.values ts vok i.1)
  act_ok (work.Loop e body) ts vok i = loop_row p h c.threads s rs me R f below ok e body ts vok i.1
  act_ok (work.Turn e body) ts vok i = taken (work.Turn e body) _ (turn_row p h c.threads s rs me R f below ok e body f.values ts vok i.1)
  act_ok (work.Eval e) ts vok i = taken (work.Eval e) _ (eval_ok p h c.threads s rs me R f below ok pok ts vok e i.1.0 i.1.1 i.1.2)
  act_ok (work.Short b e) ts vok i = taken (work.Short b e) _ (short_ok p h c.threads s rs me R f below ok b e f.values ts vok i.1)
  act_ok (work.Neg a) ts vok i = taken (work.Neg a) _ (neg_ok p h c.threads s rs me R f below ok f.values ts a vok i.1)
  act_ok work.Not ts vok i = taken work.Not _ (not_ok p h c.threads s rs me R f below ok f.values ts vok i.1)
  act_ok (work.Binary o k a) ts vok i = taken (work.Binary o k a) _ (binary_ok p h c.threads s rs me R f below ok f.values ts o k a vok i.1)
  act_ok (work.Read m x) ts vok i = taken (work.Read m x) _ (read_row p h c.threads s rs me R f below ok f.values ts m x vok i.1)
  act_ok (work.New d) ts vok i =
      let j = i.1 in
      taken (work.New d) _ (new_ok p pok h c.threads s rs me R f below ok c.settings.heap d j.0 j.1 j.2 j.3 (subst (λ k. AreTyped p h f.values k) j.4 vok) j.5)
  act_ok (work.Call k ks) ts vok i =
      let j = i.1 in
      taken (work.Call k ks) _ (call_ok p pok h c.threads s rs me R f below ok ts vok k ks (λ g m. work.Enter g m (length ks)) j.0 j.1 j.2 j.3 j.4 j.5
      (λ g M us e al many low. (j.2, j.3, record { function = e; arguments = us; callee = j.1; is = refl; many = many; fit = al }, low, j.6)))
  act_ok (work.Start x k ks) ts vok i =
      let j = i.1 in
      taken (work.Start x k ks) _ (call_ok p pok h c.threads s rs me R f below ok ts vok k ks (λ g m. work.Begin x g m (length ks)) j.0 j.1 j.2 j.3 j.4 j.5
      (λ g M us e al many low. (j.2, j.3, record { function = e; arguments = us; callee = j.1; is = refl; many = many; fit = al }, low, j.6, j.7)))
  act_ok (work.Arg k t j) ts vok i = taken (work.Arg k t j) _ (arg_ok p h c.threads s rs me R f below ok ts vok k t j i.1.0 (i.1.1).0 (i.1.1).1 i.1.2)
  act_ok (work.Cast k) ts vok i = taken (work.Cast k) _ (cast_ok p h c.threads s rs me R f below ok ts k vok i.1)
  act_ok (work.Result k) ts vok i = taken (work.Result k) _ (result_ok p h c.threads s rs me R f below ok ts k vok i.1)
  act_ok (work.Fitted k t j) ts vok i = fitted_ok p h c.threads s rs me R f below ok ts vok k t j i
  act_ok (work.Enter g m n) ts vok i = let j = i.1 in taken (work.Enter g m n) _ (enter_ok p pok h c.threads s rs me R f below ok ts vok g m n j.0 j.1 j.2 j.3 j.4)
  act_ok (work.Begin x g m n) ts vok i = let j = i.1 in taken (work.Begin x g m n) _ (begin_ok p pok h c.threads s rs me R f below ok ts vok x g m n j.0 j.1 j.2 j.3 j.4 j.5)
  act_ok (work.Fall k) ts vok i =
      work_ok p h c.threads s rs me R f below ok (leaving k ++ f.work) (val.Nil ∷ f.values) (nil ∷ ts) ((tt, tt), vok)
      (leaving_on p k s f.asked f.work (nil ∷ ts) (return_ok p k nil s f.asked ts (ok.named).asked i.1))
  act_ok (work.Join t) ts vok i = waited (work.Join t) _ refl (join_row p h c.threads s rs me R f below ok ts vok t i)
  act_ok work.Leave ts vok i = waited work.Leave _ refl (leave_ok p pok h c.threads s rs me R f below ok ts vok i.1)
  act_ok (work.Obligation d a x t r) ts vok i = taken (work.Obligation d a x t r) _ (obligation_ok p h c.threads s rs me R f below ok ts vok d a x t r i)
  act_ok (work.Write m k t x None) ts vok i = taken (work.Write m k t x None) _ (write_row p h c.threads s rs me R f below ok f.values ts m k t x vok i.1 refl)
  act_ok (work.Write m k t x (Some r)) ts vok i = taken (work.Write m k t x (Some r)) _ (write_again p h c.threads s rs me R f below ok f.values ts m k t x r vok i refl)
  act_ok (work.Print n) ts vok i =
      let j = i.1 in
      taken (work.Print n) _ (print_ok p pok h c.threads s rs me R f below ok c.settings.print c.lines n j.0 j.1 j.2 (subst (λ k. AreTyped p h f.values k) j.3 vok) j.4)
