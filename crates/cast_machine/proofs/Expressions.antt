-- The rows of expressions keep everything well typed.
use Rattle.std.proofs.Common.{Bool, List, None, Option, Some, [], arith, false, inl, inr, int_le, int_lt, min, neg_ℤ, not, pos, refl, slice_get, subst, sym, true, ℕ, ℤ, ◌*ℤ◌, ◌++◌, ◌+ℤ◌, ◌-ℤ◌, ◌∙◌, ◌∷◌, ◌≡◌, ◌⊎◌}
use Rattle.mono_list.proofs.Cases.{some_is}
use Rattle.mono_syntax.specs.Limits.{greatest_integer}
use Rattle.mono_syntax.specs.CastExpr.{CastExpr}
use Rattle.mono_syntax.specs.CastExpr as expr
use Rattle.mono_syntax.specs.CastExprView.{cast_exprs_list}
use Rattle.mono_syntax.specs.Ty.{Ty, bool, dyn, fun, int, nil, obj, str}
use Rattle.mono_syntax.specs.declared.cast.CastFunction.{CastFunction}
use Rattle.mono_syntax.specs.declared.cast.CastScript.{CastScript}
use Rattle.mono_syntax.specs.declared.leaf.Kind.TheVariants as kinds
use Rattle.mono_syntax.specs.declared.leaf.Op.{Op}
use Rattle.mono_syntax.specs.declared.leaf.Op.TheVariants as op
use Rattle.mono_syntax.specs.declared.value.Val.{Val}
use Rattle.mono_syntax.specs.declared.value.Val.TheVariants as val
use Rattle.mono_tree.proofs.TypeLaws.{precise_refl, static_same}
use Rattle.mono_tree.specs.CastScripts.{sites_of, values_of}
use Rattle.mono_tree.specs.Sites.{HasSite, IsSite}
use Rattle.mono_tree.specs.TypedPrograms.{Arithmetic, DynSum, FieldUse, HasStaticType, IsOfType, IsTypedProgram, OnIntegers, OperatorUse, Scope, type_of_name}
use Rattle.cast_machine.proofs.Blames.{has_free}
use Rattle.cast_machine.proofs.Fitting.{has_lower}
use Rattle.cast_machine.proofs.Grows.{cell_typed}
use Rattle.cast_machine.proofs.Heap.{on_test}
use Rattle.cast_machine.proofs.Obligations.{HasFree, HereOk, MoveOk, WaitOk, blames_ok, blaming_ok, fails_ok, goes_ok, work_ok}
use Rattle.cast_machine.proofs.Statements.{bool_of}
use Rattle.cast_machine.proofs.ValueLists.{evals_args, evals_ok}
use Rattle.cast_machine.specs.Calls.{finished, join_of}
use Rattle.cast_machine.specs.Cells.{blaming, on_cell, read_cell, read_from, settle}
use Rattle.cast_machine.specs.Heap.{Heap, cell_at}
use Rattle.cast_machine.specs.HeapTyping.{AreTyped, HasType, IsAsPrecise, IsBelow, IsTyped}
use Rattle.cast_machine.specs.Maps.{lookup}
use Rattle.cast_machine.specs.Operators.{divided, floor_quotient, floor_rest, in_range, is_zero, negated, operate, ranged, remaining, same_value, truth, valued}
use Rattle.cast_machine.specs.Rows.{binary_row, does, eval, evals, function_at, goes, handle_at, has, literal, name_at, neg_row, not_row, operates, puts, short}
use Rattle.cast_machine.specs.Typing.{around}
use Rattle.cast_machine.specs.WorkTyping.{IsWellTypedJoin, IsWellTypedWork, OnTop, OnTwo}
use Rattle.cast_machine.specs.declared.data.Cell.{Cell}
use Rattle.cast_machine.specs.declared.data.End.TheVariants as ends
use Rattle.cast_machine.specs.declared.data.Frame.{Frame}
use Rattle.cast_machine.specs.declared.data.Operated.{Operated}
use Rattle.cast_machine.specs.declared.data.Operated.TheVariants as operated
use Rattle.cast_machine.specs.declared.data.Outcome.{Outcome}
use Rattle.cast_machine.specs.declared.data.Thread.{Thread}
use Rattle.cast_machine.specs.declared.data.Work.{Work}
use Rattle.cast_machine.specs.declared.data.Work.TheVariants as work

-- ---- operators

-- what an operator gives has the type, and the sites for its errors are there
abbrev pub OperatedOk : CastScript → Heap → Option ℕ → Option ℕ → Ty → Operated → Type 0
OperatedOk p h k a T (operated.Gives v) = IsTyped p h v T
OperatedOk p h k a T operated.Unfit = HasFree p k
OperatedOk p h k a T operated.ZeroDivision = HasSite p a kinds.Arithmetic
OperatedOk p h k a T operated.Overflow = HasSite p a kinds.Arithmetic

module _ (p : CastScript) (h : Heap) (k a : Option ℕ) (T : Ty) where
  abbrev Fine : Operated → Type 0
  Fine o = OperatedOk p h k a T o

  -- the type of an integer that is in range
  abbrev IsIntType : Type 0
  IsIntType = (n : ℤ) → in_range n ≡ true → IsTyped p h (val.Int n) T

  ranged_ok : IsIntType → HasSite p a kinds.Arithmetic → (n : ℤ) → Fine (valued (ranged n))
  ranged_ok has there n = on_test (in_range n) _ _ (λ o. Fine (valued o)) (λ e. has n e) (λ e. there)

  divided_ok : IsIntType → HasSite p a kinds.Arithmetic → (m n : ℤ) → Fine (valued (divided m n))
  divided_ok has there m n = on_test (is_zero n) _ _ (λ o. Fine (valued o)) (λ e. there) (λ e. ranged_ok has there (floor_quotient m n))

  remaining_ok : IsIntType → HasSite p a kinds.Arithmetic → (m n : ℤ) → Fine (valued (remaining m n))
  remaining_ok has there m n = on_test (is_zero n) _ _ (λ o. Fine (valued o)) (λ e. there) (λ e. ranged_ok has there (floor_rest m n))

  -- a sum of any values, which may be blamed
  sum_ok : IsIntType → HasSite p a kinds.Arithmetic → HasFree p k → (v w : Val) → Fine (operate op.Add v w)
  sum_ok has there free (val.Int m) (val.Int n) = ranged_ok has there (m +ℤ n)
  sum_ok has there free v w = free

int_type : (p : CastScript) (h : Heap) (n : ℤ) → in_range n ≡ true → IsTyped p h (val.Int n) int
int_type p h n e = (e, tt)

pub has_int : (p : CastScript) (h : Heap) (v : Val) (S : Ty) → IsTyped p h v S → IsAsPrecise S int → (n : ℤ) × (v ≡ val.Int n)
has_int p h v S i le = go v (has_lower p h v S int i le)
  where
    go : (u : Val) → IsTyped p h u int → (n : ℤ) × (u ≡ val.Int n)
    go (val.Int n) i = (n, refl)
    go u i = absurd i.1

module _ (p : CastScript) (h : Heap) (k a : Option ℕ) (A B T : Ty) (v w : Val) (i : IsTyped p h v A) (j : IsTyped p h w B) where
  abbrev Good : Operated → Type 0
  Good o = OperatedOk p h k a T o

  -- both are integers
  on_ints : (o : Op) → OnIntegers k A B → ((m n : ℤ) → Good (operate o (val.Int m) (val.Int n))) → Good (operate o v w)
  on_ints o u each =
      let m = has_int p h v A i u.left in
      let n = has_int p h w B j u.right in
      subst (λ x. Good (operate o x w)) (sym m.1) (subst (λ y. Good (operate o (val.Int m.0) y)) (sym n.1) (each m.0 n.0))

  is_int : T ≡ int → (n : ℤ) → in_range n ≡ true → IsTyped p h (val.Int n) T
  is_int e n r = subst (λ U. IsTyped p h (val.Int n) U) (sym e) (int_type p h n r)

  is_bool : T ≡ bool → (b : Bool) → Good (truth b)
  is_bool e b = subst (λ U. IsTyped p h (val.Bool b) U) (sym e) (tt, tt)

  is_dyn_int : T ≡ dyn → (n : ℤ) → in_range n ≡ true → IsTyped p h (val.Int n) T
  is_dyn_int e n r = subst (λ U. IsTyped p h (val.Int n) U) (sym e) (r, tt)

  add_ok : DynSum p k a A B T ⊎ Arithmetic p k a A B T → Good (operate op.Add v w)
  add_ok (inl d) = sum_ok p h k a T (is_dyn_int d.type) d.arithmetic (has_free p k kinds.Operator d.operator refl refl) v w
  add_ok (inr u) = on_ints op.Add u.0 (λ m n. ranged_ok p h k a T (is_int u.2) u.1 (m +ℤ n))

  pub operate_ok : (o : Op) → OperatorUse p o k a A B T → OperatedOk p h k a T (operate o v w)
  operate_ok op.Add u = add_ok u
  operate_ok op.Sub u = on_ints op.Sub u.0 (λ m n. ranged_ok p h k a T (is_int u.2) u.1 (m -ℤ n))
  operate_ok op.Mul u = on_ints op.Mul u.0 (λ m n. ranged_ok p h k a T (is_int u.2) u.1 (m *ℤ n))
  operate_ok op.Div u = on_ints op.Div u.0 (λ m n. divided_ok p h k a T (is_int u.2) u.1 m n)
  operate_ok op.Mod u = on_ints op.Mod u.0 (λ m n. remaining_ok p h k a T (is_int u.2) u.1 m n)
  operate_ok op.Lt u = on_ints op.Lt u.0 (λ m n. is_bool u.2 (int_lt m n))
  operate_ok op.Le u = on_ints op.Le u.0 (λ m n. is_bool u.2 (int_le m n))
  operate_ok op.Gt u = on_ints op.Gt u.0 (λ m n. is_bool u.2 (int_lt n m))
  operate_ok op.Ge u = on_ints op.Ge u.0 (λ m n. is_bool u.2 (int_le n m))
  operate_ok op.Eq u = is_bool u.2 (same_value v w)
  operate_ok op.Ne u = is_bool u.2 (not (same_value v w))

negated_ok : (p : CastScript) (h : Heap) (a : ℕ) → IsSite p a kinds.Arithmetic → (v : Val) → IsTyped p h v int → OperatedOk p h None (Some a) int (negated v)
negated_ok p h a site (val.Int n) i = ranged_ok p h None (Some a) int (int_type p h) site (neg_ℤ n)
negated_ok p h a site v i = absurd i.1

-- a literal is in range
literal_in_range : (n : ℕ) → in_range (pos (min n greatest_integer)) ≡ true
literal_in_range n = grind arith

module _ (p : CastScript) (h : Heap) (threads : List Thread) (s : Scope) (rs : List Ty) (me : ℕ) (R : Ty) (f : Frame) (below : List Frame) (ok : HereOk p h threads s rs me R f below) where
  abbrev Ok : Outcome → Type 0
  Ok o = MoveOk p rs me h R o

  abbrev Rest : List Ty → Type 0
  Rest ts = IsWellTypedWork p s f.asked f.work ts

  -- a value on top, and the rest of the work
  pub push_ok : (vs : List Val) (ts : List Ty) → AreTyped p h vs ts → (v : Val) (T : Ty) → IsTyped p h v T → IsWellTypedWork p s f.asked f.work (T ∷ ts) → MoveOk p rs me h R (goes (has (v ∷ vs) f) below)
  push_ok vs ts vok v T has w = work_ok p h threads s rs me R f below ok f.work (v ∷ vs) (T ∷ ts) (has, vok) w

  -- a value of a type that is given by an equation
  push_at : (ts : List Ty) → AreTyped p h f.values ts → (v : Val) (U T : Ty) → T ≡ U → IsTyped p h v U → Rest (T ∷ ts) → Ok (puts v f below)
  push_at ts vok v U T e has w = push_ok f.values ts vok v U has (subst (λ k. Rest (k ∷ ts)) e w)

  more_work : (items : List Work) (ts : List Ty) → AreTyped p h f.values ts → IsWellTypedWork p s f.asked (items ++ f.work) ts → Ok (goes (does items f) below)
  more_work items ts vok i = work_ok p h threads s rs me R f below ok (items ++ f.work) f.values ts vok i

  name_ok : (ts : List Ty) → AreTyped p h f.values ts → (k : ℕ) → IsSite p k kinds.Name → (x : List ℕ) (T : Ty) → type_of_name s.names x ≡ Some T → Rest (T ∷ ts) → (o : Option (Option Val)) → lookup f.names x ≡ o → Ok (name_at k o f below)
  name_ok ts vok k site x T t w None e = let d = ((ok.named).names_typed).there x T t in let z : None ≡ Some d.0 = sym e ∙ d.1 in absurd cc
  name_ok ts vok k site x T t w (Some None) e = fails_ok p h threads s rs me R f below ok (ends.Unbound k) site
  name_ok ts vok k site x T t w (Some (Some v)) e = push_ok f.values ts vok v T (((ok.named).names_typed).typed x T v t e) w

  handle_ok : (ts : List Ty) → AreTyped p h f.values ts → (k : ℕ) → IsSite p k kinds.Name → (x : List ℕ) (T : Ty) → type_of_name s.threads x ≡ Some T → Rest (T ∷ ts) → (o : Option (Option ℕ)) → lookup f.handles x ≡ o → Ok (handle_at k o f below)
  handle_ok ts vok k site x T t w None e = let d = ((ok.named).handles_typed).there x T t in let z : None ≡ Some d.0 = sym e ∙ d.1 in absurd cc
  handle_ok ts vok k site x T t w (Some None) e = fails_ok p h threads s rs me R f below ok (ends.Unbound k) site
  handle_ok ts vok k site x T t w (Some (Some n)) e =
      goes_ok p h threads s rs me R f below ok (work.Join n ∷ f.work) f.values ts vok (record { empty = refl; type = T; thread = ((ok.named).handles_typed).typed x T n t e; later = w })

  join_ok : (ts : List Ty) → AreTyped p h f.values ts → (t : ℕ) → IsWellTypedJoin p (around s f.asked rs me) [] f.work t ts → (o : Option Val) → finished threads t ≡ o → WaitOk p rs me threads h R (join_of o f below)
  join_ok ts vok t j None e = (t, record { result = (j.thread).result; at = (j.thread).at; low = refl; later = (j.thread).later }, e)
  join_ok ts vok t j (Some v) e =
      push_ok f.values ts vok v j.type (has_lower p h v (j.thread).result j.type (ok.results t v (j.thread).result e (j.thread).at) (j.thread).low) j.later

  pub join_row : (ts : List Ty) → AreTyped p h f.values ts → (t : ℕ) → IsWellTypedJoin p (around s f.asked rs me) [] f.work t ts → WaitOk p rs me threads h R (join_of (finished threads t) f below)
  join_row ts vok t j = join_ok ts vok t j (finished threads t) refl

  function_has : IsTypedProgram p → (g : ℕ) (d : CastFunction) → slice_get p.functions g ≡ Some d → IsTyped p h (val.Fun g d.ty) d.ty
  function_has pok g d e =
      let typed = pok.functions g d e in
      (record { function = d; at = e; low = precise_refl d.ty }, subst (λ (U : Ty). HasType h (val.Fun g U) U) (sym typed.type) (precise_refl (fun typed.parameters typed.result)))

  pub eval_ok : IsTypedProgram p → (ts : List Ty) → AreTyped p h f.values ts → (e : CastExpr) (T : Ty) → HasStaticType p s e T → IsWellTypedWork p s f.asked f.work (T ∷ ts) → MoveOk p rs me h R (eval p e f below)
  eval_ok pok ts vok (expr.number n) T t i = push_at ts vok (literal n) int T t.1 (literal_in_range n, tt) i
  eval_ok pok ts vok (expr.text x) T t i = push_at ts vok (val.Text x) str T t (tt, tt) i
  eval_ok pok ts vok (expr.truth b) T t i = push_at ts vok (val.Bool b) bool T t (tt, tt) i
  eval_ok pok ts vok expr.nil T t i = push_at ts vok val.Nil nil T t (tt, tt) i
  eval_ok pok ts vok (expr.local k x) T t i = name_ok ts vok k t.0 x T t.1 i (lookup f.names x) refl
  eval_ok pok ts vok (expr.function g) T t i = subst (λ o. Ok (function_at g o f below)) (sym t.1) (push_at ts vok (val.Fun g (t.0).ty) (t.0).ty T t.2 (function_has pok g t.0 t.1) i)
  eval_ok pok ts vok (expr.neg a e) T t i = more_work (work.Eval e ∷ work.Neg a ∷ []) ts vok (t.1.0, t.1.1, (t.1.2, t.0, subst (λ k. Rest (k ∷ ts)) t.2 i))
  eval_ok pok ts vok (expr.negation e) T t i = more_work (work.Eval e ∷ work.Not ∷ []) ts vok (t.0.0, t.0.1, (t.0.2, subst (λ k. Rest (k ∷ ts)) t.1 i))
  eval_ok pok ts vok (expr.binary o k a x y) T t i = more_work (work.Eval x ∷ work.Eval y ∷ work.Binary o k a ∷ []) ts vok (t.0, t.2, (t.1, t.3, (T, t.4, i)))
  eval_ok pok ts vok (expr.both x y) T t i = more_work (work.Eval x ∷ work.Short false y ∷ []) ts vok (t.0.0, t.0.1, (t.0.2, t.1, subst (λ k. Rest (k ∷ ts)) t.2 i))
  eval_ok pok ts vok (expr.either x y) T t i = more_work (work.Eval x ∷ work.Short true y ∷ []) ts vok (t.0.0, t.0.1, (t.0.2, t.1, subst (λ k. Rest (k ∷ ts)) t.2 i))
  eval_ok pok ts vok (expr.read m e x) T t i = more_work (work.Eval e ∷ work.Read m x ∷ []) ts vok (t.0, t.1, (T, t.2, i))
  eval_ok pok ts vok (expr.make c es) T t i =
      more_work (evals (cast_exprs_list es) ++ work.New c ∷ []) ts vok (evals_ok p s f.asked es t.0 ts (work.New c) f.work t.1 (t.0, ts, T, t.2, refl, i))
  eval_ok pok ts vok (expr.call k e args) T t i =
      more_work (work.Eval e ∷ evals (values_of args) ++ work.Call k (sites_of args) ∷ []) ts vok
      (t.0, t.2, evals_args p s f.asked args t.1 (t.0 ∷ ts) (work.Call k (sites_of args)) f.work t.3 (t.1, t.0, ts, T, t.4, refl, i))
  eval_ok pok ts vok (expr.fit k e) T t i = more_work (work.Eval e ∷ work.Cast k ∷ []) ts vok (t.0, t.1, (T, t.2, i))
  eval_ok pok ts vok (expr.join k x) T t i = handle_ok ts vok k t.0 x T t.1 i (lookup f.handles x) refl

  -- ---- operators

  operates_ok : (vs : List Val) (ts : List Ty) → AreTyped p h vs ts → (k a : Option ℕ) (T : Ty) → Rest (T ∷ ts) → (o : Operated) → OperatedOk p h k a T o → Ok (operates k a o (has vs f) below)
  operates_ok vs ts vok k a T w (operated.Gives v) i = push_ok vs ts vok v T i w
  operates_ok vs ts vok k a T w operated.Unfit i = blames_ok p h threads s rs me R f below ok k i
  operates_ok vs ts vok k None T w operated.ZeroDivision i = absurd i
  operates_ok vs ts vok k (Some a) T w operated.ZeroDivision i = fails_ok p h threads s rs me R f below ok (ends.ZeroDivision a) i
  operates_ok vs ts vok k None T w operated.Overflow i = absurd i
  operates_ok vs ts vok k (Some a) T w operated.Overflow i = fails_ok p h threads s rs me R f below ok (ends.Overflow a) i

  pub binary_ok : (vs : List Val) (ts : List Ty) (o : Op) (k a : Option ℕ) → AreTyped p h vs ts → OnTwo ts (λ B A us. (T : Ty) × OperatorUse p o k a A B T × IsWellTypedWork p s f.asked f.work (T ∷ us)) → MoveOk p rs me h R (binary_row o k a vs f below)
  binary_ok (w ∷ v ∷ vs) (B ∷ A ∷ ts) o k a vok i = operates_ok vs ts vok.1.1 k a i.0 i.2 (operate o v w) (operate_ok p h k a A B i.0 v w vok.1.0 vok.0 o i.1)
  binary_ok [] [] o k a vok i = absurd i
  binary_ok (u ∷ []) (B ∷ []) o k a vok i = absurd i
  binary_ok vs (B ∷ []) o k a vok i = absurd i
  binary_ok [] ts o k a vok i = absurd vok
  binary_ok (u ∷ []) (B ∷ A ∷ ts) o k a vok i = absurd vok.1
  binary_ok vs [] o k a vok i = absurd vok

  pub neg_ok : (vs : List Val) (ts : List Ty) (a : ℕ) → AreTyped p h vs ts → OnTop ts (λ S us. IsAsPrecise S int × IsSite p a kinds.Arithmetic × IsWellTypedWork p s f.asked f.work (int ∷ us)) → MoveOk p rs me h R (neg_row a vs f below)
  neg_ok (v ∷ vs) (S ∷ ts) a vok i = operates_ok vs ts vok.1 None (Some a) int i.2 (negated v) (negated_ok p h a i.1 v (has_lower p h v S int vok.0 i.0))
  neg_ok [] [] a vok i = absurd i
  neg_ok [] (S ∷ ts) a vok i = absurd vok
  neg_ok (v ∷ vs) [] a vok i = absurd vok

  pub not_ok : (vs : List Val) (ts : List Ty) → AreTyped p h vs ts → OnTop ts (λ S us. IsAsPrecise S bool × IsWellTypedWork p s f.asked f.work (bool ∷ us)) → MoveOk p rs me h R (not_row vs f below)
  not_ok (v ∷ vs) (S ∷ ts) vok i =
      let b = bool_of p h threads s rs me R f below ok v S vok.0 i.0 in
      subst (λ u. Ok (not_row (u ∷ vs) f below)) (sym b.1) (push_ok vs ts vok.1 (val.Bool (not b.0)) bool (tt, tt) i.1)
  not_ok [] [] vok i = absurd i
  not_ok [] (S ∷ ts) vok i = absurd vok
  not_ok (v ∷ vs) [] vok i = absurd vok

  -- the second part is evaluated
  second_ok : (e : CastExpr) (vs : List Val) (ts : List Ty) → AreTyped p h vs ts → IsOfType p s e bool → Rest (bool ∷ ts) → Ok (goes (does (work.Eval e ∷ []) (has vs f)) below)
  second_ok e vs ts vok t w =
      let same = static_same t.0 bool t.2 refl in
      work_ok p h threads s rs me R f below ok (work.Eval e ∷ f.work) vs ts vok (t.0, t.1, subst (λ U. Rest (U ∷ ts)) (sym same) w)

  short_bool : (b : Bool) (e : CastExpr) (c : Bool) (vs : List Val) (ts : List Ty) → AreTyped p h vs ts → IsOfType p s e bool → Rest (bool ∷ ts) → Ok (short b e (val.Bool c ∷ vs) f below)
  short_bool true e true vs ts vok t w = push_ok vs ts vok (val.Bool true) bool (tt, tt) w
  short_bool true e false vs ts vok t w = second_ok e vs ts vok t w
  short_bool false e false vs ts vok t w = push_ok vs ts vok (val.Bool false) bool (tt, tt) w
  short_bool false e true vs ts vok t w = second_ok e vs ts vok t w

  pub short_ok : (b : Bool) (e : CastExpr) (vs : List Val) (ts : List Ty) → AreTyped p h vs ts → OnTop ts (λ S us. IsAsPrecise S bool × IsOfType p s e bool × IsWellTypedWork p s f.asked f.work (bool ∷ us)) → MoveOk p rs me h R (short b e vs f below)
  short_ok b e (v ∷ vs) (S ∷ ts) vok i =
      let c = bool_of p h threads s rs me R f below ok v S vok.0 i.0 in
      subst (λ u. Ok (short b e (u ∷ vs) f below)) (sym c.1) (short_bool b e c.0 vs ts vok.1 i.1 i.2)
  short_ok b e [] [] vok i = absurd i
  short_ok b e [] (S ∷ ts) vok i = absurd vok
  short_ok b e (v ∷ vs) [] vok i = absurd vok

  -- ---- reads

  read_cell_ok : (vs : List Val) (ts : List Ty) → AreTyped p h vs ts → (m : Option ℕ) (T : Ty) → Rest (T ∷ ts) → (a : ℕ) (x : List ℕ) (o : Option Cell) → cell_at h a x ≡ o → (IsBelow h a x T ⊎ ((T ≡ dyn) × HasFree p m)) → Ok (settle a x (on_cell (blaming m) (read_cell f vs) o) below)
  read_cell_ok vs ts vok m T w a x None e (inl b) = let z : None ≡ Some b.cell = sym e ∙ b.at in absurd cc
  read_cell_ok vs ts vok m T w a x None e (inr d) = blaming_ok p h threads s rs me R f below ok a x m d.1
  read_cell_ok vs ts vok m T w a x (Some d) e (inl b) =
      let one : b.cell ≡ d = some_is (sym b.at ∙ e) in
      push_ok vs ts vok d.value T (has_lower p h d.value d.ty T (cell_typed ok.heap a x d e) (subst (λ (y : Cell). IsAsPrecise y.ty T) one b.low)) w
  read_cell_ok vs ts vok m T w a x (Some d) e (inr n) =
      push_ok vs ts vok d.value T (subst (λ U. IsTyped p h d.value U) (sym n.0) ((cell_typed ok.heap a x d e).0, tt)) w

  read_ok : (vs : List Val) (ts : List Ty) → AreTyped p h vs ts → (m : Option ℕ) (x : List ℕ) (T : Ty) → Rest (T ∷ ts) → (v : Val) (S : Ty) → IsTyped p h v S → FieldUse p m S x T → Ok (read_from h m x (v ∷ vs) f below)
  read_ok vs ts vok m x T w (val.Obj d a) (obj fs) has u = read_cell_ok vs ts vok m T w a x (cell_at h a x) refl (inl (has.1.1 x T u.0))
  read_ok vs ts vok m x T w (val.Obj d a) dyn has u = read_cell_ok vs ts vok m T w a x (cell_at h a x) refl (inr (u.0, has_free p m kinds.Member u.1 refl refl))
  read_ok vs ts vok m x T w v dyn has u = blames_ok p h threads s rs me R f below ok m (has_free p m kinds.Member u.1 refl refl)
  read_ok vs ts vok m x T w v (obj fs) has u = absurd has.1
  read_ok vs ts vok m x T w v S has u = absurd u

  pub read_row : (vs : List Val) (ts : List Ty) (m : Option ℕ) (x : List ℕ) → AreTyped p h vs ts → OnTop ts (λ S us. (T : Ty) × FieldUse p m S x T × IsWellTypedWork p s f.asked f.work (T ∷ us)) → MoveOk p rs me h R (read_from h m x vs f below)
  read_row [] [] m x vok i = absurd i
  read_row (v ∷ vs) (S ∷ ts) m x vok i = read_ok vs ts vok.1 m x i.0 i.2 v S vok.0 i.1
  read_row [] (S ∷ ts) m x vok i = absurd vok
  read_row (v ∷ vs) [] m x vok i = absurd vok
