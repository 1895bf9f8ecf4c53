-- A run stays within its limits.
use Rattle.std.proofs.Common.{length-append, ◌-◌, ◌≡◌, ℕ, zero, suc, ◌+◌, ◌≤◌, ◌<◌, true, false, ◌&&◌, List, [], ◌∷◌, ◌++◌, length, Option, Some, None, is_some, unwrap_or, nat_lt, nat_eq, cond, max, slice_get, slice_set, refl, ap, sym, subst, ◌∙◌, ⊎_elim, arith}
use Rattle.mono_list.proofs.Cases.{split, none_some, some_is}
use Rattle.mono_syntax.specs.Limits.{most_items}
use Rattle.mono_syntax.specs.declared.cast.CastScript.{CastScript}
use Rattle.mono_syntax.specs.declared.value.Val.{Val}
use Rattle.cast_machine.proofs.Heap.{on_test}
use Rattle.cast_machine.proofs.RowLimits.{RowWithin, act_within, length-unbound, length-update, small_frame}
use Rattle.cast_machine.proofs.ThreadLists.{end_cases, length-slice_set, set_cases}
use Rattle.cast_machine.specs.Calls.{unbound, words_of}
use Rattle.cast_machine.specs.Heap.{Heap, heap_size, object_at, set_cell, set_in, set_object, size}
use Rattle.cast_machine.specs.Maps.{update}
use Rattle.cast_machine.specs.RunLimits.{HasSmallBlocks, IsFueledIn, IsThreadWithin, IsWithinLimits}
use Rattle.cast_machine.specs.Step.{Configuration, act, changed, counted, first_end, fueled, heeds, items_of, main_frame, moved, picked, placed, run_from, start_of, step_at, step_of, taken_out, thread_step, top_step}
use Rattle.cast_machine.specs.declared.data.Cell.{Cell}
use Rattle.cast_machine.specs.declared.data.Change.{Change}
use Rattle.cast_machine.specs.declared.data.Change.TheVariants as change
use Rattle.cast_machine.specs.declared.data.End.TheVariants as ends
use Rattle.cast_machine.specs.declared.data.Frame.{Frame}
use Rattle.cast_machine.specs.declared.data.Object.{Object}
use Rattle.cast_machine.specs.declared.data.Outcome.{Outcome}
use Rattle.cast_machine.specs.declared.data.Outcome.TheVariants as outcome
use Rattle.cast_machine.specs.declared.data.Settings.{Settings}
use Rattle.cast_machine.specs.declared.data.State.{State}
use Rattle.cast_machine.specs.declared.data.State.TheVariants as state
use Rattle.cast_machine.specs.declared.data.Thread.{Thread}
use Rattle.cast_machine.specs.declared.data.Work.{Work}

-- ---- sizes

pub heap_size-append : (h : Heap) (o : Object) → heap_size (h ++ o ∷ []) ≡ heap_size h + size o
heap_size-append [] o = omega arith
heap_size-append (x ∷ h) o = plus (size x) (heap_size (h ++ o ∷ [])) (heap_size h) (size o) (heap_size-append h o)
  where
    plus : (a b c d : ℕ) → b ≡ c + d → a + b ≡ a + c + d
    plus a b c d e = omega arith

size_object : (h : Heap) (a : ℕ) (o new : Object) → object_at h a ≡ Some o → size new ≡ size o → heap_size (set_object h a new) ≡ heap_size h
size_object [] a o new = λ e s. none_some _ e
size_object (x ∷ h) a o new =
    split (nat_eq a 0) (λ b. cond b (Some x) (cond (nat_lt a (size x)) None (object_at h (a - size x))) ≡ Some o → size new ≡ size o → heap_size (cond b (new ∷ h) (cond (nat_lt a (size x)) (x ∷ h) (x ∷ set_object h (a - size x) new))) ≡ size x + heap_size h)
    (λ t e s. ap (λ k. k + heap_size h) (s ∙ ap size (sym (some_is e))))
    (λ f. split (nat_lt a (size x)) (λ b. cond b None (object_at h (a - size x)) ≡ Some o → size new ≡ size o → heap_size (cond b (x ∷ h) (x ∷ set_object h (a - size x) new)) ≡ size x + heap_size h)
    (λ t e s. none_some _ e)
    (λ g e s. ap (λ k. size x + k) (size_object h (a - size x) o new e s)))

size_set : (h : Heap) (a : ℕ) (x : List ℕ) (d : Cell) → heap_size (set_cell h a x d) ≡ heap_size h
size_set h a x d = go (object_at h a) refl
  where
    go : (q : Option Object) → object_at h a ≡ q → heap_size (set_in h a x d q) ≡ heap_size h
    go None e = refl
    go (Some o) e = size_object h a o (record o { cells = update o.cells x d }) e (ap (λ n. max 1 n) (length-update o.cells x d))

pub words_of-append : (lines : List (List Val)) (line : List Val) → words_of (lines ++ line ∷ []) ≡ words_of lines + (length line + 1)
words_of-append [] line = omega arith
words_of-append (x ∷ lines) line = more (length x) (words_of (lines ++ line ∷ [])) (words_of lines) (length line) (words_of-append lines line)
  where
    more : (a b c d : ℕ) → b ≡ c + (d + 1) → a + 1 + b ≡ a + 1 + c + (d + 1)
    more a b c d e = omega arith

-- ---- threads

module _ (p : CastScript) (fuel : ℕ) where
  abbrev pub AllWithin : List Thread → Type 0
  AllWithin ths = (t : ℕ) (th : Thread) → slice_get ths t ≡ Some th → IsThreadWithin p fuel th

  set_within : (ths : List Thread) (t : ℕ) (new : Thread) → AllWithin ths → IsThreadWithin p fuel new → AllWithin (slice_set ths t new)
  set_within ths t new all i u th e = ⊎_elim (λ here. subst (IsThreadWithin p fuel) here.1 i) (λ other. all u th other) (set_cases ths t u new th e)

  end_within : (ths : List Thread) (new : Thread) → AllWithin ths → IsThreadWithin p fuel new → AllWithin (ths ++ new ∷ [])
  end_within ths new all i u th e = ⊎_elim (λ old. all u th old) (λ fresh. subst (IsThreadWithin p fuel) fresh.1 i) (end_cases ths u new th e)

-- a thread that has not begun a step
fresh_within : (p : CastScript) (fuel : ℕ) → 1 ≤ fuel → (th : Thread) → th.steps ≡ 0 → (HasSmallBlocks p → items_of th.state ≤ most_items) → IsThreadWithin p fuel th
fresh_within p fuel h th e small = record {
  steps = omega (arith, e);
  fuel_left = go th.state th.steps e;
  items = ⊎_elim (λ one. absurd (omega (arith, e, one))) small;
}
  where
    go : (s : State) (n : ℕ) → n ≡ 0 → IsFueledIn fuel n s
    go (state.Running f below) n z = omega arith
    go (state.Failing x) n z = tt
    go (state.Finished v) n z = tt
    go state.Stopped n z = tt

fueled_within : (fuel n : ℕ) (s : State) → IsFueledIn fuel n (fueled fuel n s)
fueled_within fuel n (state.Running f below) = on_test (nat_lt n fuel) _ _ (λ (s : State). IsFueledIn fuel n s) (λ t. less t) (λ _. tt)
  where
    less : nat_lt n fuel ≡ true → n < fuel
    less e = grind arith
fueled_within fuel n (state.Failing e) = tt
fueled_within fuel n (state.Finished v) = tt
fueled_within fuel n state.Stopped = tt

fueled_items : (fuel n : ℕ) (s : State) → items_of s ≤ most_items → items_of (fueled fuel n s) ≤ most_items
fueled_items fuel n (state.Running f below) i = on_test (nat_lt n fuel) _ _ (λ (s : State). items_of s ≤ most_items) (λ t. i) (λ _. omega arith)
fueled_items fuel n (state.Failing e) i = i
fueled_items fuel n (state.Finished v) i = i
fueled_items fuel n state.Stopped i = i

not_deep : (n : ℕ) → nat_lt most_items n ≡ false → n ≤ most_items
not_deep n e = grind arith

-- ---- a step

module _ (p : CastScript) where
  -- thread t in another state
  placed_within : (c : Configuration) → IsWithinLimits p c → (t : ℕ) (th : Thread) (s : State) (n : ℕ) → IsThreadWithin p c.settings.fuel (record th { state = s; steps = n }) → IsWithinLimits p (placed t th s n c)
  placed_within c i t th s n j = record {
    threads = omega (arith, i.threads, length-slice_set c.threads t (record th { state = s; steps = n }));
    heap = i.heap;
    print = i.print;
    each = set_within p c.settings.fuel c.threads t (record th { state = s; steps = n }) i.each j;
  }

  changed_within : (c : Configuration) → IsWithinLimits p c → 1 ≤ c.settings.fuel → (d : Change) (s : State) → RowWithin p c (outcome.Moves d s) → IsWithinLimits p (changed d c)
  changed_within c i one change.Same s r = i
  changed_within c i one (change.Sets a x d) s r = record { threads = i.threads; heap = omega (arith, i.heap, size_set c.heap a x d); print = i.print; each = i.each }
  changed_within c i one (change.Adds o) s r = record { threads = i.threads; heap = omega (arith, r, heap_size-append c.heap o); print = i.print; each = i.each }
  changed_within c i one (change.Says line) s r = record { threads = i.threads; heap = i.heap; print = omega (arith, r, words_of-append c.lines line); each = i.each }
  changed_within c i one (change.Begins th) s r = record {
    threads = let less = r.0 in omega (arith, less, length-append c.threads (th ∷ []));
    heap = i.heap;
    print = i.print;
    each = end_within p c.settings.fuel c.threads th i.each (fresh_within p c.settings.fuel one th r.1 r.2);
  }
  changed_within c i one (change.Ends e) s r = record { threads = i.threads; heap = i.heap; print = i.print; each = i.each }

  same_settings : (d : Change) (c : Configuration) → (changed d c).settings ≡ c.settings
  same_settings change.Same c = refl
  same_settings (change.Sets a x e) c = refl
  same_settings (change.Adds o) c = refl
  same_settings (change.Says line) c = refl
  same_settings (change.Begins th) c = refl
  same_settings (change.Ends e) c = refl

  abbrev After : Option Configuration → Type 0
  After None = Unit {0}
  After (Some c) = IsWithinLimits p c

  module _ (c : Configuration) (i : IsWithinLimits p c) (one : 1 ≤ c.settings.fuel) (t : ℕ) (th : Thread) (j : IsThreadWithin p c.settings.fuel th) where
    -- a state without items, after as many steps as before or one more
    still_within : (s : State) (n : ℕ) → n ≤ c.settings.fuel → IsFueledIn c.settings.fuel n s → items_of s ≤ 0 → IsWithinLimits p (placed t th s n c)
    still_within s n low left none = placed_within c i t th s n (record { steps = low; fuel_left = left; items = λ _. omega (arith, none) })

    counted_within : th.steps < c.settings.fuel → (d : Change) (s : State) → RowWithin p c (outcome.Moves d s) → IsWithinLimits p (counted t th d s c)
    counted_within less d s r =
        on_test (nat_lt most_items (items_of s)) _ _ (IsWithinLimits p)
        (λ deep. still_within (state.Failing ends.DepthLimit) (th.steps + 1) (omega (arith, less)) tt (omega arith))
        (λ fits.
        let new : Thread = record th { state = fueled c.settings.fuel (th.steps + 1) s; steps = th.steps + 1 } in
        let within : IsThreadWithin p c.settings.fuel new = record {
          steps = omega (arith, less);
          fuel_left = fueled_within c.settings.fuel (th.steps + 1) s;
          items = λ _. fueled_items c.settings.fuel (th.steps + 1) s (not_deep (items_of s) fits);
        } in
        placed_within (changed d c) (changed_within c i one d s r) t th (fueled c.settings.fuel (th.steps + 1) s) (th.steps + 1)
        (subst (λ (k : Settings). IsThreadWithin p k.fuel new) (sym (same_settings d c)) within))

    moved_within : th.steps < c.settings.fuel → (o : Outcome) → RowWithin p c o → After (moved t th o c)
    moved_within less outcome.NoRow r = tt
    moved_within less outcome.Waits r = tt
    moved_within less (outcome.Moves d s) r = counted_within less d s r

    top_within : th.steps < c.settings.fuel → (items : List Work) (f : Frame) (below : List Frame) → After (top_step p t th items f below c)
    top_within less [] f below = tt
    top_within less (item ∷ rest) f below =
        on_test (is_some c.end && heeds item) _ _ After
        (λ over. still_within state.Stopped th.steps j.steps tt (omega arith))
        (λ on. moved_within less (act p c item (record f { work = rest }) below) (act_within p c item (record f { work = rest }) below))

    thread_within : (s : State) → IsFueledIn c.settings.fuel th.steps s → After (thread_step p t th s c)
    thread_within (state.Running f below) less = top_within less f.work f below
    thread_within (state.Failing e) less =
        placed_within (record c { end = first_end c.end e }) (record { threads = i.threads; heap = i.heap; print = i.print; each = i.each }) t th state.Stopped th.steps
        (record { steps = j.steps; fuel_left = tt; items = λ _. omega arith })
    thread_within (state.Finished v) less = tt
    thread_within state.Stopped less = tt

  -- without a thread
  out_within : (c : Configuration) → IsWithinLimits p c → (t : ℕ) → IsWithinLimits p (record c { threads = slice_set c.threads t taken_out })
  out_within c i t = record {
    threads = omega (arith, i.threads, length-slice_set c.threads t taken_out);
    heap = i.heap;
    print = i.print;
    each = set_within p c.settings.fuel c.threads t taken_out i.each (record { steps = omega arith; fuel_left = tt; items = λ _. omega arith });
  }

  step_within : (c : Configuration) → IsWithinLimits p c → 1 ≤ c.settings.fuel → (t : ℕ) (o : Option Thread) → slice_get c.threads t ≡ o → After (step_at p t o c)
  step_within c i one t None e = tt
  step_within c i one t (Some th) e =
      let j = i.each t th e in
      thread_within (record c { threads = slice_set c.threads t taken_out }) (out_within c i t) one t th j th.state j.fuel_left

  settings_kept : (c : Configuration) (t : ℕ) → (picked p c t).settings ≡ c.settings
  unfolding step_of
  settings_kept c t = at (slice_get c.threads t)
    where
      counted_same : (k : Configuration) (th : Thread) (d : Change) (s : State) → (counted t th d s k).settings ≡ k.settings
      counted_same k th d s = on_test (nat_lt most_items (items_of s)) _ _ (λ (x : Configuration). x.settings ≡ k.settings) (λ _. refl) (λ _. same_settings d k)

      moved_same : (k : Configuration) (th : Thread) (o : Outcome) → k.settings ≡ c.settings → (unwrap_or (moved t th o k) c).settings ≡ c.settings
      moved_same k th outcome.NoRow e = refl
      moved_same k th outcome.Waits e = refl
      moved_same k th (outcome.Moves d s) e = counted_same k th d s ∙ e

      top_same : (k : Configuration) (th : Thread) (items : List Work) (f : Frame) (below : List Frame) → k.settings ≡ c.settings → (unwrap_or (top_step p t th items f below k) c).settings ≡ c.settings
      top_same k th [] f below e = refl
      top_same k th (item ∷ rest) f below e =
          on_test (is_some k.end && heeds item) _ _ (λ o. (unwrap_or o c).settings ≡ c.settings) (λ _. e) (λ _. moved_same k th (act p k item (record f { work = rest }) below) e)

      thread_same : (k : Configuration) (th : Thread) (s : State) → k.settings ≡ c.settings → (unwrap_or (thread_step p t th s k) c).settings ≡ c.settings
      thread_same k th (state.Running f below) e = top_same k th f.work f below e
      thread_same k th (state.Failing x) e = e
      thread_same k th (state.Finished v) e = refl
      thread_same k th state.Stopped e = refl

      at : (o : Option Thread) → (unwrap_or (step_at p t o c) c).settings ≡ c.settings
      at None = refl
      at (Some th) = thread_same (record c { threads = slice_set c.threads t taken_out }) th th.state refl

  after_within : (c : Configuration) → IsWithinLimits p c → (o : Option Configuration) → After o → IsWithinLimits p (unwrap_or o c)
  after_within c i None j = i
  after_within c i (Some d) j = j

  pub pick_within : (c : Configuration) → IsWithinLimits p c → 1 ≤ c.settings.fuel → (t : ℕ) → IsWithinLimits p (picked p c t)
  unfolding step_of
  pick_within c i one t = after_within c i (step_of p c t) (step_within c i one t (slice_get c.threads t) refl)

  pub run_within : (c : Configuration) → IsWithinLimits p c → 1 ≤ c.settings.fuel → (order : List ℕ) → IsWithinLimits p (run_from p c order)
  run_within c i one [] = i
  run_within c i one (t ∷ order) = run_within (picked p c t) (pick_within c i one t) (subst (λ (k : Settings). 1 ≤ k.fuel) (sym (settings_kept c t)) one) order

  main_small : HasSmallBlocks p → items_of (state.Running (main_frame p) []) ≤ most_items
  main_small small =
      let names = length-unbound Val p.main.names in
      let handles = length-unbound ℕ p.main.threads in
      small_frame (length (unbound {A = Val} p.main.names)) (length (unbound {A = ℕ} p.main.threads)) (omega (arith, names, small.main.0)) (omega (arith, handles, small.main.1))

  pub start_within : (s : Settings) → 1 ≤ s.fuel → IsWithinLimits p (start_of p s)
  start_within s one = record { threads = omega arith; heap = omega arith; print = omega arith; each = at }
    where
      at : (t : ℕ) (th : Thread) → slice_get (start_of p s).threads t ≡ Some th → IsThreadWithin p s.fuel th
      at zero th e = subst (IsThreadWithin p s.fuel) (some_is e) (fresh_within p s.fuel one (record { asked = None; state = state.Running (main_frame p) []; steps = 0 }) refl main_small)
      at (suc t) th e = none_some _ e
