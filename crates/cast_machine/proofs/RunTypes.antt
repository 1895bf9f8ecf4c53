-- A run of a script whose types are types of the language has no others.
use Rattle.std.proofs.Common.{◌-◌, nat_eq, ◌≡◌, ℕ, zero, suc, ◌+◌, true, ◌&&◌, List, [], ◌∷◌, ◌++◌, Option, Some, None, is_some, unwrap_or, nat_lt, slice_get, slice_set, refl, sym, subst, ◌∙◌, ⊎_elim}
use Rattle.std.proofs.lemmas.Bool.{false≢true}
use Rattle.mono_list.proofs.Cases.{none_some, some_is}
use Rattle.mono_syntax.specs.Limits.{most_items}
use Rattle.mono_syntax.specs.Ty.{Ty, dyn, obj}
use Rattle.mono_syntax.specs.declared.value.Val.{Val}
use Rattle.mono_syntax.specs.declared.value.Val.TheVariants as val
use Rattle.mono_syntax.specs.declared.cast.CastScript.{CastScript}
use Rattle.mono_tree.specs.Static.{is_static}
use Rattle.mono_tree.specs.TypedPrograms.{FieldUse, IsTypedProgram, WriteUse}
use Rattle.cast_machine.proofs.Heap.{on_test}
use Rattle.cast_machine.proofs.RowTypes.{IsLanguageChange, IsLanguageOutcome, StaticIs, act_is, cells_set, names_unbound, object_cells}
use Rattle.cast_machine.proofs.ThreadLists.{end_cases, set_cases}
use Rattle.cast_machine.proofs.Threads.{pick_ok}
use Rattle.mono_tree.proofs.TypeLaws.{static_same}
use Rattle.cast_machine.specs.Heap.{Heap, cell_at, object_at, set_cell, set_in, set_object, size}
use Rattle.cast_machine.specs.HeapTyping.{AreTyped, IsAsPrecise, IsTyped}
use Rattle.cast_machine.specs.LanguageTypes.{AreLanguageFrames, AreLanguageItems, AreLanguageLines, AreLanguageValues, AreLanguageCells, HasLanguageTypes, IsAskedType, HasTypesOfLanguage, IsLanguageCell, IsLanguageFrame, IsLanguageHeap, IsLanguageState, IsLanguageThread}
use Rattle.cast_machine.specs.Maps.{update}
use Rattle.cast_machine.specs.Step.{Configuration, act, changed, first_end, fueled, heeds, items_of, main_frame, moved, picked, placed, run_from, start_of, step_at, step_of, taken_out, thread_step, top_step}
use Rattle.cast_machine.specs.Typing.{IsWellTyped, IsWellTypedFrame, IsWellTypedState, around, result_type, results_of}
use Rattle.cast_machine.specs.WorkTyping.{Around, IsWellTypedTop, IsWellTypedWork, OnTwo}
use Rattle.cast_machine.specs.declared.data.Cell.{Cell}
use Rattle.cast_machine.specs.declared.data.Change.{Change}
use Rattle.cast_machine.specs.declared.data.Change.TheVariants as change
use Rattle.cast_machine.specs.declared.data.End.TheVariants as ends
use Rattle.cast_machine.specs.declared.data.Frame.{Frame}
use Rattle.cast_machine.specs.declared.data.Object.{Object}
use Rattle.cast_machine.specs.declared.data.Outcome.{Outcome}
use Rattle.cast_machine.specs.declared.data.Outcome.TheVariants as outcome
use Rattle.cast_machine.specs.declared.data.Settings.{Settings}
use Rattle.cast_machine.specs.declared.data.State.{State}
use Rattle.cast_machine.specs.declared.data.State.TheVariants as state
use Rattle.cast_machine.specs.declared.data.Thread.{Thread}
use Rattle.cast_machine.specs.declared.data.Work.{Work}
use Rattle.cast_machine.specs.declared.data.Work.TheVariants as work

-- ---- a static write sets the recorded type

use_static : (p : CastScript) (h : Heap) (m k : Option ℕ) (d a : ℕ) (x : List ℕ) (S F A : Ty) (c : Cell) → IsTyped p h (val.Obj d a) S → WriteUse p m k S x F A → cell_at h a x ≡ Some c → is_static F ≡ true → F ≡ c.ty
use_static p h m k d a x S F A c typed u at static = sym (static_same c.ty F (low S typed u.field) static)
  where
    low : (S' : Ty) → IsTyped p h (val.Obj d a) S' → FieldUse p m S' x F → IsAsPrecise c.ty F
    low (obj fs) i w = let b = i.1.1 x F w.0 in let one : b.cell ≡ c = some_is (sym b.at ∙ at) in subst (λ (y : Cell). IsAsPrecise y.ty F) one b.low
    low dyn i w = subst (λ U. IsAsPrecise c.ty U) (sym w.0) refl
    low S' i w = absurd w

module _ (p : CastScript) (h : Heap) (f : Frame) where
  receiver : (vs : List Val) (ts : List Ty) (d a : ℕ) (v : Val) (ws : List Val) → AreTyped p h vs ts → vs ≡ val.Obj d a ∷ v ∷ ws → (S A : Ty) (us : List Ty) → ts ≡ S ∷ A ∷ us → IsTyped p h (val.Obj d a) S
  receiver vs ts d a v ws i e S A us z = (subst (λ l. AreTyped p h (val.Obj d a ∷ v ∷ ws) l) z (subst (λ l. AreTyped p h l ts) e i)).0

  static_is : (q : Around) (item : Work) (rest : List Work) (ts : List Ty) → AreTyped p h f.values ts → IsWellTypedTop p q h [] (item ∷ rest) f.values ts → StaticIs h item f
  static_is q (work.Write m k F x None) rest ts vok tok = λ d a v ws e c at static. two ts vok tok.1 d a v ws e c at static
    where
      two : (ts : List Ty) → AreTyped p h f.values ts → OnTwo ts (λ S A us. WriteUse p m k S x F A × IsWellTypedWork p q.scope q.asked rest us) → (d a : ℕ) (v : Val) (ws : List Val) → f.values ≡ val.Obj d a ∷ v ∷ ws → (c : Cell) → cell_at h a x ≡ Some c → is_static F ≡ true → F ≡ c.ty
      two (S ∷ A ∷ us) i w d a v ws e c at static = use_static p h m k d a x S F A c (receiver f.values (S ∷ A ∷ us) d a v ws i e S A us refl) w.0 at static
      two (S ∷ []) i w d a v ws e c at static = absurd w
      two [] i w d a v ws e c at static = absurd w
  static_is q (work.Write m k F x (Some R)) rest ts vok tok = λ d a v ws e c at static. three c f.values ts tok static
    where
      three : (c : Cell) (vs : List Val) (ts : List Ty) → IsWellTypedTop p q h [] (work.Write m k F x (Some R) ∷ rest) vs ts → is_static F ≡ true → F ≡ c.ty
      three c (o ∷ v ∷ vs) (S ∷ A ∷ us) i static = absurd (false≢true (sym i.dynamic ∙ static))
      three c vs ts i static = absurd i
  static_is q item rest ts vok tok = tt

-- ---- changes

object_set : (h : Heap) (a : ℕ) (o : Object) → IsLanguageHeap h → AreLanguageCells o.cells → IsLanguageHeap (set_object h a o)
object_set [] a o i j = tt
object_set (q ∷ h) a o i j =
    on_test (nat_eq a 0) _ _ IsLanguageHeap
    (λ _. (j, i.1))
    (λ _. on_test (nat_lt a (size q)) _ _ IsLanguageHeap (λ _. i) (λ _. (i.0, object_set h (a - size q) o i.1 j)))

heap_set : (h : Heap) (a : ℕ) (x : List ℕ) (c : Cell) → IsLanguageHeap h → IsLanguageCell c → IsLanguageHeap (set_cell h a x c)
heap_set h a x c i k = go (object_at h a) refl
  where
    go : (q : Option Object) → object_at h a ≡ q → IsLanguageHeap (set_in h a x c q)
    go None e = i
    go (Some o) e = object_set h a (record o { cells = update o.cells x c }) i (cells_set o.cells x c (object_cells h a o i e) k)

heap_more : (h : Heap) (o : Object) → IsLanguageHeap h → AreLanguageCells o.cells → IsLanguageHeap (h ++ o ∷ [])
heap_more [] o i k = (k, tt)
heap_more (q ∷ h) o i k = (i.0, heap_more h o i.1 k)

lines_more : (ls : List (List Val)) (line : List Val) → AreLanguageLines ls → AreLanguageValues line → AreLanguageLines (ls ++ line ∷ [])
lines_more [] line i k = (k, tt)
lines_more (l ∷ ls) line i k = (i.0, lines_more ls line i.1 k)

abbrev Each : List Thread → Type 0
Each ths = (t : ℕ) (th : Thread) → slice_get ths t ≡ Some th → IsLanguageThread th

each_set : (ths : List Thread) (t : ℕ) (new : Thread) → Each ths → IsLanguageThread new → Each (slice_set ths t new)
each_set ths t new all i u th e = ⊎_elim (λ here. subst IsLanguageThread here.1 i) (λ other. all u th other) (set_cases ths t u new th e)

each_more : (ths : List Thread) (new : Thread) → Each ths → IsLanguageThread new → Each (ths ++ new ∷ [])
each_more ths new all i u th e = ⊎_elim (λ old. all u th old) (λ fresh. subst IsLanguageThread fresh.1 i) (end_cases ths u new th e)

changed_is : (c : Configuration) → HasTypesOfLanguage c → (d : Change) → IsLanguageChange d → HasTypesOfLanguage (changed d c)
changed_is c i change.Same k = i
changed_is c i (change.Sets a x e) k = record { heap = heap_set c.heap a x e i.heap k; lines = i.lines; threads = i.threads }
changed_is c i (change.Adds o) k = record { heap = heap_more c.heap o i.heap k; lines = i.lines; threads = i.threads }
changed_is c i (change.Says line) k = record { heap = i.heap; lines = lines_more c.lines line i.lines k; threads = i.threads }
changed_is c i (change.Begins th) k = record { heap = i.heap; lines = i.lines; threads = each_more c.threads th i.threads k }
changed_is c i (change.Ends e) k = record { heap = i.heap; lines = i.lines; threads = i.threads }

placed_is : (c : Configuration) → HasTypesOfLanguage c → (t : ℕ) (th : Thread) → IsAskedType th.asked → (s : State) (n : ℕ) → IsLanguageState s → HasTypesOfLanguage (placed t th s n c)
placed_is c i t th a s n k = record { heap = i.heap; lines = i.lines; threads = each_set c.threads t (record th { state = s; steps = n }) i.threads (a, k) }

fueled_is : (fuel n : ℕ) (s : State) → IsLanguageState s → IsLanguageState (fueled fuel n s)
fueled_is fuel n (state.Running f below) i = on_test (nat_lt n fuel) _ _ IsLanguageState (λ _. i) (λ _. tt)
fueled_is fuel n (state.Failing e) i = i
fueled_is fuel n (state.Finished v) i = i
fueled_is fuel n state.Stopped i = i

abbrev After : Option Configuration → Type 0
After None = Unit {0}
After (Some c) = HasTypesOfLanguage c

moved_is : (c : Configuration) → HasTypesOfLanguage c → (t : ℕ) (th : Thread) → IsAskedType th.asked → (o : Outcome) → IsLanguageOutcome o → After (moved t th o c)
moved_is c i t th a outcome.NoRow k = tt
moved_is c i t th a outcome.Waits k = tt
moved_is c i t th a (outcome.Moves d s) k =
    on_test (nat_lt most_items (items_of s)) _ _ HasTypesOfLanguage
    (λ _. placed_is c i t th a (state.Failing ends.DepthLimit) (th.steps + 1) tt)
    (λ _. placed_is (changed d c) (changed_is c i d k.0) t th a (fueled c.settings.fuel (th.steps + 1) s) (th.steps + 1) (fueled_is c.settings.fuel (th.steps + 1) s k.1))

-- ---- a step

module _ (p : CastScript) (pok : IsTypedProgram p) (lt : HasLanguageTypes p) where
  module _ (c : Configuration) (ok : IsWellTyped p c) (i : HasTypesOfLanguage c) (t : ℕ) where
    abbrev out : Configuration
    out = record c { threads = slice_set c.threads t taken_out }

    out_is : HasTypesOfLanguage (record c { threads = slice_set c.threads t taken_out })
    out_is = record { heap = i.heap; lines = i.lines; threads = each_set c.threads t taken_out i.threads (tt, tt) }

    top_is : (th : Thread) → IsAskedType th.asked → (items : List Work) (f : Frame) (below : List Frame) → f.work ≡ items → IsLanguageFrame f → AreLanguageFrames below → IsWellTypedFrame p (results_of c.threads) t c.heap f → After (top_step p t th items f below out)
    top_is th a [] f below w k l typed = tt
    top_is th a (item ∷ rest) f below w k l typed =
        let items : AreLanguageItems (item ∷ rest) = subst AreLanguageItems w k.work in
        let g : IsLanguageFrame (record f { work = rest }) = record { names = k.names; asked = k.asked; work = items.1; values = k.values } in
        let top = subst (λ is. IsWellTypedTop p (around typed.scope f.asked (results_of c.threads) t) c.heap [] is f.values typed.types) w typed.work in
        on_test (is_some c.end && heeds item) _ _ After
        (λ _. placed_is out out_is t th a state.Stopped th.steps tt)
        (λ _. moved_is out out_is t th a (act p out item (record f { work = rest }) below)
        (act_is p pok lt (record f { work = rest }) below g l out out_is item items.0 (static_is p c.heap (record f { work = rest }) (around typed.scope f.asked (results_of c.threads) t) item rest typed.types typed.values top)))

    thread_is : (th : Thread) → IsAskedType th.asked → (s : State) → IsLanguageState s → IsWellTypedState p (results_of c.threads) t c.heap (result_type th) s → After (thread_step p t th s out)
    thread_is th a (state.Running f below) k typed = top_is th a f.work f below refl k.0 k.1 typed.0
    thread_is th a (state.Failing e) k typed =
        placed_is (record out { end = first_end c.end e }) (record { heap = out_is.heap; lines = out_is.lines; threads = out_is.threads }) t th a state.Stopped th.steps tt
    thread_is th a (state.Finished v) k typed = tt
    thread_is th a state.Stopped k typed = tt

    step_is : (o : Option Thread) → slice_get c.threads t ≡ o → After (step_at p t o c)
    step_is None e = tt
    step_is (Some th) e = let k = i.threads t th e in thread_is th k.0 th.state k.1 (ok.threads t th e)

    after_is : (o : Option Configuration) → After o → HasTypesOfLanguage (unwrap_or o c)
    after_is None k = i
    after_is (Some d) k = k

    pub pick_is : HasTypesOfLanguage (picked p c t)
    unfolding step_of
    pick_is = after_is (step_of p c t) (step_is (slice_get c.threads t) refl)

  pub run_is : (c : Configuration) → IsWellTyped p c → HasTypesOfLanguage c → (order : List ℕ) → HasTypesOfLanguage (run_from p c order)
  run_is c ok i [] = i
  run_is c ok i (t ∷ order) = run_is (picked p c t) (pick_ok p pok c ok t).0 (pick_is c ok i t) order

pub start_is : (p : CastScript) (s : Settings) → HasTypesOfLanguage (start_of p s)
start_is p s = record { heap = tt; lines = tt; threads = at }
  where
    main : IsLanguageThread (record { asked = None; state = state.Running (main_frame p) []; steps = 0 })
    main = (tt, (record { names = names_unbound p.main.names; asked = tt; work = (tt, (tt, tt)); values = tt }, tt))

    at : (t : ℕ) (th : Thread) → slice_get (start_of p s).threads t ≡ Some th → IsLanguageThread th
    at zero th e = subst IsLanguageThread (some_is e) main
    at (suc t) th e = none_some _ e
