-- Calls, starts, prints and leaving keep everything well typed.
use Rattle.std.proofs.Common.{Bool, List, None, Option, Some, [], arith, bytes_eq, false, is_some, length, nat_eq, nat_le, refl, slice_get, subst, suc, sym, true, zero, ℕ, ◌&&◌, ◌++◌, ◌+◌, ◌<◌, ◌∙◌, ◌∷◌, ◌≡◌}
use Rattle.std.proofs.lemmas.Bool.{and_parts, false≢true}
use Rattle.mono_list.proofs.Cases.{some_is, some_none}
use Rattle.mono_syntax.specs.Limits.{most_threads}
use Rattle.mono_syntax.specs.CastStmtView.{cast_block}
use Rattle.mono_syntax.specs.Ty.{Ty, Tys, bool, dyn, fun, int, nil, obj, str}
use Rattle.mono_syntax.specs.declared.cast.CastScript.{CastScript}
use Rattle.mono_syntax.specs.declared.cast.NamedType.{NamedType}
use Rattle.mono_syntax.specs.declared.leaf.Kind.TheVariants as kinds
use Rattle.mono_syntax.specs.declared.value.Val.{Val}
use Rattle.mono_syntax.specs.declared.value.Val.TheVariants as val
use Rattle.mono_tree.proofs.TypeLaws.{bytes_eq-same, precise_refl}
use Rattle.mono_tree.specs.BodyEnds.{may_end}
use Rattle.mono_tree.specs.CastScripts.{params_of, result_of}
use Rattle.mono_tree.specs.Precision.{precise, precise_all}
use Rattle.mono_tree.specs.TypedPrograms.{CallUse, EndUse, IsTypedProgram, Scope, scope_of, type_of_name}
use Rattle.cast_machine.proofs.Blames.{has_free}
use Rattle.cast_machine.proofs.Fitting.{has_lower}
use Rattle.cast_machine.proofs.Grows.{MoreResults, extends_refl, handles_grow, stack_grows, started_grow, values_of_script}
use Rattle.cast_machine.proofs.Heap.{lookup-update, lookup-update_other, nat_eq-refl, nat_eq-same, on_test}
use Rattle.cast_machine.proofs.Obligations.{HereOk, MoveOk, WaitOk, blames_ok, fails_ok, move_wait, work_ok, work_top}
use Rattle.cast_machine.proofs.ValueLists.{ArgsOk, all_count, args_sites, args_types, args_work, bind_ok, dyn_args, dyn_sites, sites_args, split_values, take_split, tys_same, unbound_env, unbound_there}
use Rattle.cast_machine.specs.Calls.{all_finished, arg_items, begin_at, call_row, call_test, called, count_of, enter_at, finished, leave, leave_to, leave_with, print_args, take_args, unbound, words_of}
use Rattle.cast_machine.specs.Heap.{Heap}
use Rattle.cast_machine.specs.HeapTyping.{AreTyped, HasType, IsAsPrecise, IsFunctionOf, IsTyped}
use Rattle.cast_machine.specs.Maps.{lookup, update}
use Rattle.cast_machine.specs.Rows.{blames, does, goes, has}
use Rattle.cast_machine.specs.Typing.{AreHandlesTyped, AreLater, IsWellTypedFrame, IsWellTypedStack, around}
use Rattle.cast_machine.specs.WorkTyping.{AreAllPrecise, EnterUse, IsLater, IsWellTypedWork, LeaveUse, push_all}
use Rattle.cast_machine.specs.declared.data.End.TheVariants as ends
use Rattle.cast_machine.specs.declared.data.Frame.{Frame}
use Rattle.cast_machine.specs.declared.data.Outcome.{Outcome}
use Rattle.cast_machine.specs.declared.data.Thread.{Thread}
use Rattle.cast_machine.specs.declared.data.Work.{Work}
use Rattle.cast_machine.specs.declared.data.Work.TheVariants as work

-- a function type at least as precise as another
fun_parts : (M : Ty) (ps : Tys) (r : Ty) → IsAsPrecise M (fun ps r) → (M ≡ fun (params_of M) (result_of M)) × (precise_all (params_of M) ps ≡ true) × IsAsPrecise (result_of M) r
fun_parts (fun ms u) ps r e = let x = and_parts (precise_all ms ps) (precise u r) e in (refl, x.0, x.1)
fun_parts dyn ps r e = absurd (false≢true e)
fun_parts int ps r e = absurd (false≢true e)
fun_parts bool ps r e = absurd (false≢true e)
fun_parts str ps r e = absurd (false≢true e)
fun_parts nil ps r e = absurd (false≢true e)
fun_parts (obj fs) ps r e = absurd (false≢true e)

pub unbound_handles : (rs : List Ty) (me : ℕ) (types : List NamedType) → AreHandlesTyped rs me (unbound types) types
unbound_handles rs me types = record {
  there = λ x T e. (None, unbound_there types x T e);
  typed = λ x T t e d. let z : Some None ≡ Some (Some t) = sym (unbound_there types x T e) ∙ d in absurd cc;
}

-- the end of a body
end_work : (p : CastScript) (s : Scope) (a : Option Ty) (k : Option ℕ) (t : Bool) → EndUse p s k t → t ≡ true → IsWellTypedWork p s a (work.Fall k ∷ []) []
end_work p s a k true i e = i
end_work p s a k false i e = absurd (false≢true e)

-- the first frame of a call
called_ok : (p : CastScript) → IsTypedProgram p → (h : Heap) (rs : List Ty) (me : ℕ) (g : ℕ) (M : Ty) (i : IsFunctionOf p g M) (args : List Val) (ts : List Ty) → AreAllPrecise ts (params_of M) → AreTyped p h args ts → IsWellTypedFrame p rs me h (called i.function M args)
called_ok p pok h rs me g M i args ts al vok =
    let d = i.function in
    let dok = pok.functions g d i.at in
    let parts = fun_parts M dok.parameters dok.result (subst (λ U. IsAsPrecise M U) dok.type i.low) in
    record {
      scope = scope_of d.block (Some dok.result);
      named = record {
        names_typed = bind_ok p h d.block.names d.params args ts (params_of M) dok.parameters (unbound d.block.names) dok.named parts.1 al vok (unbound_env p h d.block.names);
        handles_typed = unbound_handles rs me d.block.threads;
        started_later = tt;
        asked = parts.2;
      };
      types = [];
      values = tt;
      work = (refl, (dok.body, end_work p (scope_of d.block (Some dok.result)) (Some (result_of M)) d.falls (may_end (cast_block d.block.body)) dok.end));
    }

-- ---- threads

pub get_more : (rs : List Ty) (U : Ty) → MoreResults rs (rs ++ U ∷ [])
get_more [] U t V e = absurd cc
get_more (X ∷ rs) U zero V e = e
get_more (X ∷ rs) U (suc t) V e = get_more rs U t V e

get_new : (rs : List Ty) (U : Ty) → slice_get (rs ++ U ∷ []) (length rs) ≡ Some U
get_new [] U = refl
get_new (X ∷ rs) U = get_new rs U

-- one more started thread
started_more : (rs : List Ty) (me n : ℕ) (ts : List ℕ) → AreLater rs me ts → IsLater rs me n dyn → AreLater rs me (ts ++ n ∷ [])
started_more rs me n [] i j = (j, tt)
started_more rs me n (t ∷ ts) i j = (i.0, started_more rs me n ts i.1 j)

handle_there : (rs : List Ty) (me : ℕ) (handles : List (List ℕ × Option ℕ)) (types : List NamedType) (x : List ℕ) (T : Ty) (n : ℕ) → AreHandlesTyped rs me handles types → type_of_name types x ≡ Some T → (y : List ℕ) (U : Ty) → type_of_name types y ≡ Some U → (b : Bool) → bytes_eq x y ≡ b → (o : Option ℕ) × (lookup (update handles x (Some n)) y ≡ Some o)
handle_there rs me handles types x T n ok t y U u true e =
    let old = ok.there x T t in
    (Some n, subst (λ k. lookup (update handles x (Some n)) k ≡ Some (Some n)) (bytes_eq-same x y e) (lookup-update handles x (Some n) old.0 old.1))
handle_there rs me handles types x T n ok t y U u false e =
    let old = ok.there y U u in (old.0, lookup-update_other handles x y (Some n) e ∙ old.1)

handle_typed : (rs : List Ty) (me : ℕ) (handles : List (List ℕ × Option ℕ)) (types : List NamedType) (x : List ℕ) (T : Ty) (n : ℕ) → AreHandlesTyped rs me handles types → type_of_name types x ≡ Some T → IsLater rs me n T → (y : List ℕ) (U : Ty) (m : ℕ) → type_of_name types y ≡ Some U → lookup (update handles x (Some n)) y ≡ Some (Some m) → (b : Bool) → bytes_eq x y ≡ b → IsLater rs me m U
handle_typed rs me handles types x T n ok t later y U m u d true i =
    let same = bytes_eq-same x y i in
    let old = ok.there x T t in
    let now : lookup (update handles x (Some n)) y ≡ Some (Some n) = subst (λ k. lookup (update handles x (Some n)) k ≡ Some (Some n)) same (lookup-update handles x (Some n) old.0 old.1) in
    let nm : n ≡ m = some_is (some_is (sym now ∙ d)) in
    let tu : T ≡ U = some_is (sym t ∙ subst (λ k. type_of_name types k ≡ Some U) (sym same) u) in
    subst (λ k. IsLater rs me k U) nm (subst (λ k. IsLater rs me n k) tu later)
handle_typed rs me handles types x T n ok t later y U m u d false i = ok.typed y U m u (sym (lookup-update_other handles x y (Some n) i) ∙ d)

handle_store : (rs : List Ty) (me : ℕ) (handles : List (List ℕ × Option ℕ)) (types : List NamedType) (x : List ℕ) (T : Ty) (n : ℕ) → AreHandlesTyped rs me handles types → type_of_name types x ≡ Some T → IsLater rs me n T → AreHandlesTyped rs me (update handles x (Some n)) types
handle_store rs me handles types x T n ok t later = record {
  there = λ y U u. handle_there rs me handles types x T n ok t y U u (bytes_eq x y) refl;
  typed = λ y U m u d. handle_typed rs me handles types x T n ok t later y U m u d (bytes_eq x y) refl;
}

-- ---- the callee stands below the arguments

record Callee (p : CastScript) (h : Heap) (vs : List Val) (args : List Ty) (F : Ty) (us : List Ty) (n : ℕ) : Type 0 where
  pub values : List Val
  pub callee : Val
  pub under : List Val
  pub taken : take_args n vs [] ≡ Some (values, callee ∷ under)
  pub values_ok : AreTyped p h values args
  pub callee_ok : IsTyped p h callee F
  pub under_ok : AreTyped p h under us

callee_from : (p : CastScript) (h : Heap) (vs : List Val) (args : List Ty) (F : Ty) (us : List Ty) (n : ℕ) (values under : List Val) → take_args n vs [] ≡ Some (values, under) → AreTyped p h values args → AreTyped p h under (F ∷ us) → Callee p h vs args F us n
callee_from p h vs args F us n values [] e i j = absurd j
callee_from p h vs args F us n values (v ∷ under) e i j = record { values = values; callee = v; under = under; taken = e; values_ok = i; callee_ok = j.0; under_ok = j.1 }

callee_of : (p : CastScript) (h : Heap) (vs : List Val) (ts args : List Ty) (F : Ty) (us : List Ty) (n : ℕ) → AreTyped p h vs ts → ts ≡ push_all args (F ∷ us) → length args ≡ n → Callee p h vs args F us n
callee_of p h vs ts args F us n vok e l =
    let x = split_values p h vs args (F ∷ us) (subst (λ k. AreTyped p h vs k) e vok) in
    callee_from p h vs args F us n x.args x.below (take_split p h vs args (F ∷ us) x n l) x.args_ok x.below_ok

-- as many sites as arguments
call_count : (p : CastScript) (k : Option ℕ) (ks : List (Option ℕ)) (F : Ty) (args : List Ty) (T : Ty) → CallUse p k ks F args T → length args ≡ length ks
call_count p k ks (fun ps r) args T i = args_sites p ks args ps i.1
call_count p k ks dyn args T i = dyn_sites p ks args i.1
call_count p k ks F args T i = absurd i

below_limit : (n : ℕ) → nat_le most_threads n ≡ false → n < most_threads
below_limit n e = grind arith

module _ (p : CastScript) (pok : IsTypedProgram p) (h : Heap) (threads : List Thread) (s : Scope) (rs : List Ty) (me : ℕ) (R : Ty) (f : Frame) (below : List Frame) (ok : HereOk p h threads s rs me R f below) where
  abbrev Ok : Outcome → Type 0
  Ok o = MoveOk p rs me h R o

  module _ (ts : List Ty) (vok : AreTyped p h f.values ts) (k : Option ℕ) (ks : List (Option ℕ)) (enter : ℕ → Ty → Work) (args : List Ty) (F : Ty) (us : List Ty) (T : Ty) (call : CallUse p k ks F args T) (is : ts ≡ push_all args (F ∷ us)) (next : (g : ℕ) (M : Ty) (xs : List Ty) → IsFunctionOf p g M → AreAllPrecise xs (params_of M) → length xs ≡ length ks → IsAsPrecise (result_of M) T → IsWellTypedWork p s f.asked (enter g M ∷ f.work) (push_all xs (F ∷ us))) where
    many : length args ≡ length ks
    many = call_count p k ks F args T call

    goes_in : (g : ℕ) (ms : Tys) (r : Ty) → IsFunctionOf p g (fun ms r) → ArgsOk p ks args ms → count_of ms ≡ length ks → IsAsPrecise r T → Ok (goes (does (arg_items ks ms ++ enter g (fun ms r) ∷ []) f) below)
    goes_in g ms r i a e low =
        work_ok p h threads s rs me R f below ok ((arg_items ks ms ++ enter g (fun ms r) ∷ []) ++ f.work) f.values ts vok
        (subst (λ u. IsWellTypedWork p s f.asked ((arg_items ks ms ++ enter g (fun ms r) ∷ []) ++ f.work) u) (sym is)
        (args_work p s f.asked ks args ms (F ∷ us) (enter g (fun ms r)) f.work a
        (λ xs al. next g (fun ms r) xs i al (all_count xs ms al ∙ e) low)))

    fun_call : (values under : List Val) (g : ℕ) (ms : Tys) (r : Ty) → IsFunctionOf p g (fun ms r) → (F' : Ty) → CallUse p k ks F' args T → HasType h (val.Fun g (fun ms r)) F' → Ok (call_test k ks enter (Some (values, val.Fun g (fun ms r) ∷ under)) f below)
    fun_call values under g ms r i (fun ps u) x fit =
        let y = and_parts (precise_all ms ps) (precise r u) fit in
        let e : count_of ms ≡ length ks = tys_same ms ps y.0 ∙ sym (args_types p ks args ps x.1) ∙ many in
        on_test (nat_eq (count_of ms) (length ks)) _ _ Ok
        (λ t. goes_in g ms r i (sites_args p ks args ms ps x.1 y.0) e (subst (λ U. IsAsPrecise r U) (sym x.2) y.1))
        (λ t. absurd (false≢true (sym t ∙ subst (λ j. nat_eq j (length ks) ≡ true) (sym e) (nat_eq-refl (length ks)))))
    fun_call values under g ms r i dyn x fit =
        on_test (nat_eq (count_of ms) (length ks)) _ _ Ok
        (λ t. let e = nat_eq-same (count_of ms) (length ks) t in goes_in g ms r i (dyn_args p ks args ms x.1 (e ∙ sym many)) e (subst (λ U. IsAsPrecise r U) (sym x.2) refl))
        (λ t. blames_ok p h threads s rs me R f below ok k (has_free p k kinds.Call x.0 refl refl))
    fun_call values under g ms r i F' x fit = absurd x

    no_call : (values under : List Val) (v : Val) (F' : Ty) → CallUse p k ks F' args T → ((ps : Tys) (u : Ty) → HasType h v (fun ps u) → ⊥) → HasType h v F' → Ok (blames k)
    no_call values under v (fun ps u) x none fit = absurd (none ps u fit)
    no_call values under v dyn x none fit = blames_ok p h threads s rs me R f below ok k (has_free p k kinds.Call x.0 refl refl)
    no_call values under v F' x none fit = absurd x

    call_value : (values under : List Val) (v : Val) → IsTyped p h v F → Ok (call_test k ks enter (Some (values, v ∷ under)) f below)
    call_value values under (val.Fun g (fun ms r)) i = fun_call values under g ms r i.0 F call i.1
    call_value values under (val.Fun g M) i = no_call values under (val.Fun g M) F call (λ ps u e. false≢true e) i.1
    call_value values under v i = no_call values under v F call (λ ps u e. e) i.1

    pub call_ok : MoveOk p rs me h R (call_row k ks enter f below)
    call_ok =
        let x = callee_of p h f.values ts args F us (length ks) vok is many in
        subst (λ o. Ok (call_test k ks enter o f below)) (sym x.taken) (call_value x.values x.under x.callee x.callee_ok)

  -- ---- entering

  pub enter_ok : (ts : List Ty) → AreTyped p h f.values ts → (g : ℕ) (M : Ty) (n : ℕ) (us : List Ty) (T : Ty) → EnterUse p g M n ts us → IsAsPrecise (result_of M) T → IsWellTypedWork p s f.asked f.work (T ∷ us) → MoveOk p rs me h R (enter_at M (slice_get p.functions g) (take_args n f.values []) f below)
  enter_ok ts vok g M n us T e low w =
      let x = callee_of p h f.values ts e.arguments e.callee us n vok e.is e.many in
      subst (λ o. Ok (enter_at M o (take_args n f.values []) f below)) (sym (e.function).at)
      (subst (λ o. Ok (enter_at M (Some (e.function).function) o f below)) (sym x.taken)
      (record {
        grows = extends_refl h;
        heap = ok.heap;
        state = (
          called_ok p pok h rs me g M e.function x.values e.arguments e.fit x.values_ok,
          (
            record { scope = s; named = ok.named; types = us; values = x.under_ok; type = T; low = low; work = w },
            ok.stack,
          ),
        );
        begun = tt;
        said = tt;
        ends = tt;
        lives = λ z. tt;
      }))

  -- ---- a new thread

  pub begin_ok : (ts : List Ty) → AreTyped p h f.values ts → (x : List ℕ) (g : ℕ) (M : Ty) (n : ℕ) (us : List Ty) (T : Ty) → EnterUse p g M n ts us → IsAsPrecise (result_of M) T → type_of_name s.threads x ≡ Some T → IsWellTypedWork p s f.asked f.work us → MoveOk p rs me h R (begin_at (length threads) x M (slice_get p.functions g) (take_args n f.values []) f below)
  begin_ok ts vok x g M n us T e low bound w =
      let y = callee_of p h f.values ts e.arguments e.callee us n vok e.is e.many in
      let r = result_of M in
      let rs' = rs ++ r ∷ [] in
      let made = length threads in
      let grow = get_more rs r in
      let at : slice_get rs' made ≡ Some r = subst (λ k. slice_get rs' k ≡ Some r) (sym ok.made) (get_new rs r) in
      let less : me < made = subst (λ k. me < k) (sym ok.made) ok.mine in
      let some_less : 0 < length rs = omega (arith, ok.mine) in
      subst (λ o. Ok (begin_at made x M o (take_args n f.values []) f below)) (sym (e.function).at)
      (subst (λ o. Ok (begin_at made x M (Some (e.function).function) o f below)) (sym y.taken)
      (on_test (nat_le most_threads made) _ _ Ok
      (λ full. fails_ok p h threads s rs me R f below ok ends.ThreadLimit tt)
      (λ room. record {
        grows = extends_refl h;
        heap = ok.heap;
        state = (
          record {
            scope = s;
            named = record {
              names_typed = (ok.named).names_typed;
              handles_typed = handle_store rs' me f.handles s.threads x T made (handles_grow grow (ok.named).handles_typed) bound (record { result = r; at = at; low = low; later = less });
              started_later = started_more rs' me made f.started (started_grow rs rs' me f.started grow (ok.named).started_later) (record { result = r; at = at; low = refl; later = less });
              asked = (ok.named).asked;
            };
            types = us;
            values = y.under_ok;
            work = work_top p (around s f.asked rs' me) h f.work y.under us w;
          },
          stack_grows p rs rs' me grow (extends_refl h) f.asked below R ok.stack,
        );
        begun = ((called_ok p pok h rs' (length rs) g M e.function y.values e.arguments e.fit y.values_ok, (some_less, precise_refl r)), tt, subst (λ k. k < most_threads) ok.made (below_limit made room), refl);
        said = tt;
        ends = tt;
        lives = λ z. tt;
      })))

  -- ---- leaving

  leave_below : (v : Val) (r : Ty) → IsTyped p h v r → (under : List Frame) → IsWellTypedStack p rs me h (Some r) under R → Ok (leave_to v under)
  leave_below v r has [] i = record {
    grows = extends_refl h;
    heap = ok.heap;
    state = has_lower p h v r R has i.1;
    begun = tt;
    said = tt;
    ends = tt;
    lives = λ z. i.0;
  }
  leave_below v r has (g ∷ under) i =
      let low = i.0 in
      record {
        grows = extends_refl h;
        heap = ok.heap;
        state = (
          record {
            scope = low.scope;
            named = low.named;
            types = low.type ∷ low.types;
            values = (has_lower p h v r low.type has low.low, low.values);
            work = work_top p (around low.scope g.asked rs me) h g.work (v ∷ g.values) (low.type ∷ low.types) low.work;
          },
          i.1,
        );
        begun = tt;
        said = tt;
        ends = tt;
        lives = λ z. tt;
      }

  leave_asked : (vs : List Val) (ts : List Ty) → AreTyped p h vs ts → (a : Option Ty) → LeaveUse a ts → IsWellTypedStack p rs me h a below R → Ok (leave_with vs a below)
  leave_asked vs ts vok None l i = record { grows = extends_refl h; heap = ok.heap; state = tt; begun = tt; said = tt; ends = tt; lives = λ z. some_none _ z }
  leave_asked [] [] vok (Some r) l i = absurd l
  leave_asked (v ∷ vs) (S ∷ ts) vok (Some r) l i = leave_below v r (has_lower p h v S r vok.0 l) below i
  leave_asked [] (S ∷ ts) vok (Some r) l i = absurd vok
  leave_asked (v ∷ vs) [] vok (Some r) l i = absurd vok

  waits_on : (ts : List ℕ) → AreLater rs me ts → all_finished threads ts ≡ false → (t : ℕ) × IsLater rs me t dyn × (finished threads t ≡ None)
  waits_on [] i e = absurd (false≢true (sym e))
  waits_on (t ∷ ts) i e = go (λ z. waits_on ts i.1 z) (finished threads t) refl
    where
      go : ((all_finished threads ts ≡ false) → (u : ℕ) × IsLater rs me u dyn × (finished threads u ≡ None)) → (o : Option Val) → finished threads t ≡ o → (u : ℕ) × IsLater rs me u dyn × (finished threads u ≡ None)
      go next None d = (t, i.0, d)
      go next (Some v) d = next (subst (λ o. (is_some o && all_finished threads ts) ≡ false) d e)

  pub leave_ok : (ts : List Ty) → AreTyped p h f.values ts → LeaveUse f.asked ts → WaitOk p rs me threads h R (leave threads f below)
  leave_ok ts vok l =
      on_test (all_finished threads f.started) _ _ (λ o. WaitOk p rs me threads h R o)
      (λ all. move_wait p rs me threads h R (leave_with f.values f.asked below) (leave_asked f.values ts vok f.asked l ok.stack))
      (λ some. waits_on f.started (ok.named).started_later some)

  -- ---- a print

  pub print_ok : (room : ℕ) (lines : List (List Val)) (n : ℕ) (args us : List Ty) → length args ≡ n → AreTyped p h f.values (push_all args us) → IsWellTypedWork p s f.asked f.work us → MoveOk p rs me h R (print_args room lines (take_args n f.values []) f below)
  print_ok room lines n args us e vok w =
      let x = split_values p h f.values args us vok in
      subst (λ o. Ok (print_args room lines o f below)) (sym (take_split p h f.values args us x n e))
      (on_test (nat_le (words_of lines + (length x.args + 1)) room) _ _ Ok
      (λ fits. record {
        grows = extends_refl h;
        heap = ok.heap;
        state = (record { scope = s; named = ok.named; types = us; values = x.below_ok; work = work_top p (around s f.asked rs me) h f.work x.below us w }, ok.stack);
        begun = tt;
        said = values_of_script p h x.args args x.args_ok;
        ends = tt;
        lives = λ _. tt;
      })
      (λ full. fails_ok p h threads s rs me R f below ok ends.PrintFull tt))
