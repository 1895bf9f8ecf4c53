-- No running seat has too many items, a word that was looked at leads to an exchange, and so a running seat never rests.
use Rattle.std.proofs.Common.{◌≡◌, ⊎_elim, ℕ, zero, suc, ◌+◌, ◌-◌, ◌≤◌, Bool, true, false, List, [], ◌∷◌, ◌++◌, length, Option, Some, None}
use Rattle.std.proofs.Common.{nat_eq, nat_le, nat_lt, if◌then◌else◌, refl, sym, ap, ◌∙◌, subst, arith, slice_get, slice_set}
use Rattle.std.proofs.lemmas.Bool.{false≢true}
use Rattle.mono_list.proofs.Cases.{none_some, some_is}
use Rattle.mono_syntax.specs.Ty.{Ty, dyn}
use Rattle.mono_syntax.specs.declared.value.Val.{Val}
use Rattle.mono_syntax.specs.declared.value.Val.TheVariants as val
use Rattle.mono_syntax.specs.declared.cast.CastScript.{CastScript}
use Rattle.mono_syntax.specs.declared.cast.CastFunction.{CastFunction}
use Rattle.mono_syntax.specs.declared.cast.NamedType.{NamedType}
use Rattle.mono_tree.specs.TypedPrograms.{IsTypedProgram}
use Rattle.cast_machine.specs.declared.data.Cell.{Cell}
use Rattle.cast_machine.specs.declared.data.End.{End}
use Rattle.cast_machine.specs.declared.data.End.TheVariants as ends
use Rattle.cast_machine.specs.declared.data.Frame.{Frame}
use Rattle.cast_machine.specs.declared.data.Settings.{Settings}
use Rattle.cast_machine.specs.declared.data.State.{State}
use Rattle.cast_machine.specs.declared.data.State.TheVariants as state
use Rattle.cast_machine.specs.declared.data.Outcome.TheVariants as outcome
use Rattle.cast_machine.specs.declared.data.Verdict.{Verdict}
use Rattle.cast_machine.specs.declared.data.Verdict.TheVariants as verdict
use Rattle.cast_machine.specs.declared.data.Work.{Work}
use Rattle.cast_machine.specs.Maps.{update}
use Rattle.cast_machine.specs.Heap.{Heap}
use Rattle.cast_machine.specs.Rows.{has}
use Rattle.cast_machine.specs.Cells.{settle, on_cell, blaming}
use Rattle.cast_machine.specs.Calls.{bind, called, leave_with, unbound}
use Rattle.cast_machine.specs.Step.{Configuration, act, frame_items, frames_items, fueled, main_frame}
use Rattle.cast_machine.specs.HeapTyping.{IsValueOf}
use Rattle.cast_machine.specs.Typing.{IsWellTypedState, around}
use Rattle.cast_machine.specs.WorkTyping.{IsWellTypedTop}
use Rattle.cast_machine.proofs.Heap.{length-update, on_test}
use Rattle.cast_machine.proofs.ThreadLists.{set_cases, end_cases}
use Rattle.word_machine.specs.Hosts.{after_events, ticks_of, hosts_start}
use Rattle.word_machine.specs.Rests.{MayRest, RestsRight, NeverRests}
use Rattle.word_machine.specs.Seats.{Micro, Quick, Seen, Count, Filling, Seeing, Seat, Next, NLocal, NRest, NWants, NBegins, deep, after}
use Rattle.word_machine.specs.Seats.{moves, halts, turns, filling, put_begun, fresh_seat, next_top, resume_top, next_action, resume}
use Rattle.word_machine.specs.Ticks.{Core, acted, tick_seat, tick, core_start, after_ticks}
use Rattle.word_machine.specs.TopRows.{lift, TopSays}
use Rattle.word_machine.specs.Tops.{Top, TLocal, TMiss, TCell, TBlind, TNew, TPrint, TLook, TLeave, TJoin, TBegin, top_of, own}
use Rattle.word_machine.specs.Words.{Words, Answer, Kept, Full, Word, Differs, Counts, Drawn, Ends, Result, apply}
use Rattle.word_machine.specs.Seats as TheSeats
use Rattle.word_machine.specs.Words as TheWords
use Rattle.cast_machine.specs.RunLimits.{HasSmallBlocks}
use Rattle.word_machine.proofs.Saying.{says}
use Rattle.word_machine.proofs.Waiting.{field_gone, top_value}
use Rattle.word_machine.proofs.CoreOk.{fin, Finishes, seen_grows, SeatBy, CoreOk}
use Rattle.word_machine.proofs.Leaf.{typed, typ, no_row}
use Rattle.word_machine.proofs.Tick.{left_all, tick_ok}
use Rattle.word_machine.proofs.Follow.{start_core}
use Rattle.word_machine.proofs.Hosting.{events_ok, start_held}
use Rattle.word_machine.proofs.HostActs.{runs_seat}

-- ---- what is kept

abbrev pub Shallow : State → Type 0
Shallow (state.Running f below) = deep (state.Running f below) ≡ false
Shallow st = Unit {0}

abbrev pub ArmedTop : Cell → List Frame → Top → Type 0
ArmedTop d below (TCell a x v) = (new : Cell) × (g : Frame) × (v d ≡ verdict.Sets new g) × (deep (state.Running g below) ≡ false)
ArmedTop d below T = Unit {0}

abbrev pub ArmedWork : CastScript → Cell → Frame → List Frame → List Work → Type 0
ArmedWork p d f below [] = Unit {0}
ArmedWork p d f below (i ∷ is) = ArmedTop d below (top_of p i (record f { work = is }))

abbrev pub Armed : CastScript → Micro → State → Type 0
Armed p (Seen d) (state.Running f below) = ArmedWork p d f below f.work
Armed p m st = Unit {0}

abbrev pub Lively : CastScript → Seat → Type 0
Lively p q = Shallow q.state × Armed p q.micro q.state

abbrev pub plain : Micro → Bool
plain (Seen d) = false
plain m = true

unarmed : (p : CastScript) (m : Micro) → plain m ≡ true → (st : State) → Armed p m st
unarmed p Quick e st = tt
unarmed p (Seen d) e st = absurd (false≢true e)
unarmed p (Count n) e st = tt
unarmed p (Filling b n) e st = tt
unarmed p (Seeing l n) e st = tt

plain_filling : (b n : ℕ) → plain (filling b n) ≡ true
plain_filling b zero = refl
plain_filling b (suc n) = refl

after_shallow : (s : Settings) (n : ℕ) (st : State) → Shallow (after s n st)
after_shallow s n st = go (deep st) refl
  where
    fuels : (y : State) → deep y ≡ false → Shallow (fueled s.fuel n y)
    fuels (state.Running f below) e = on_test (nat_lt n s.fuel) _ _ Shallow (λ i. e) (λ i. tt)
    fuels (state.Failing x) e = tt
    fuels (state.Finished v) e = tt
    fuels state.Stopped e = tt

    go : (b : Bool) → deep st ≡ b → Shallow (if b then state.Failing ends.DepthLimit else fueled s.fuel n st)
    go true e = tt
    go false e = fuels st e

-- ---- first frames

bind_length : (xs : List (List ℕ)) (vs : List Val) (names : List (List ℕ × Option Val)) → length (bind xs vs names) ≡ length names
bind_length [] vs names = refl
bind_length (x ∷ xs) [] names = refl
bind_length (x ∷ xs) (v ∷ vs) names = bind_length xs vs (update names x (Some v)) ∙ length-update names x (Some v)

unbound_length : (A : Type 0) (l : List NamedType) → length (unbound {A = A} l) ≡ length l
unbound_length A [] = refl
unbound_length A (b ∷ l) = ap suc (unbound_length A l)

first_shallow : (a b z : ℕ) → a ≤ 4096 → b ≤ 4096 → z ≡ 1 + (a + (b + 2)) → nat_lt 16384 (z + 0) ≡ false
first_shallow a b z i j e = grind arith

fresh_lively : (p : CastScript) → HasSmallBlocks p → (g : ℕ) (d : CastFunction) → slice_get p.functions g ≡ Some d
    → (m : Ty) (args : List Val)
    → Lively p (fresh_seat d m args)
fresh_lively p small g d at m args = (
  first_shallow (length (d.block).names) (length (d.block).threads) (frame_items (called d m args)) (small.functions g d at).0
      (small.functions g d at).1
      (ap (λ n. 1 + (n + (length (unbound {A = ℕ} (d.block).threads) + 2))) (bind_length d.params args (unbound (d.block).names)
      ∙ unbound_length Val (d.block).names)
      ∙ ap (λ n. 1 + (length (d.block).names + (n + 2))) (unbound_length ℕ (d.block).threads)),
  tt,
)

pub main_lively : (p : CastScript) → HasSmallBlocks p → (t : ℕ) (q : Seat) → slice_get (core_start p).seats t ≡ Some q → Lively p q
main_lively p small zero q e =
    subst (λ x. Lively p x) (some_is e) (
      first_shallow (length (p.main).names) (length (p.main).threads) (frame_items (main_frame p)) (small.main).0 (small.main).1
          (ap (λ n. 1 + (n + (length (unbound {A = ℕ} (p.main).threads) + 2))) (unbound_length Val (p.main).names)
          ∙ ap (λ n. 1 + (length (p.main).names + (n + 2))) (unbound_length ℕ (p.main).threads)),
      tt,
    )
main_lively p small (suc t) q e = none_some _ e

-- ---- a tick keeps it

abbrev LivelyNext : CastScript → Next → Type 0
LivelyNext p (NLocal q) = Lively p q
LivelyNext p (NBegins n j m args new) = Lively p new
LivelyNext p n = Unit {0}

module _ (p : CastScript) (small : HasSmallBlocks p) (s : Settings) where
  moves_on : (q : Seat) (m : Micro) (st : State) → plain m ≡ true → Lively p (moves s q m st)
  moves_on q m st e = (after_shallow s (q.steps + 1) st, unarmed p m e (after s (q.steps + 1) st))

  module _ (t : ℕ) (a : Option Ty) (f : Frame) (below : List Frame) (n : ℕ) (item : Work) (is : List Work) (top : f.work ≡ item ∷ is) where
    abbrev q : Micro → Seat
    q m = record { asked = a; state = state.Running f below; steps = n; micro = m }

    abbrev g0 : Frame
    g0 = record f { work = is }

    turned : (m m' : Micro) → Lively p (q m) → plain m' ≡ true → Lively p (q m')
    turned m m' l e = (l.0, unarmed p m' e (state.Running f below))

    -- a look whose verdict sets arms the exchange
    looked_on : (m : Micro) → Lively p (q m) → (b : ℕ) (x : List ℕ) (v : Cell → Verdict) → top_of p item g0 ≡ TCell b x v
        → (d : Cell) (y : Verdict) → v d ≡ y → Lively p (TheSeats.looked p s (q m) below d y)
    looked_on m l b x v e d verdict.NoRow i = l
    looked_on m l b x v e d (verdict.Goes g) i = moves_on (q m) Quick (state.Running g below) refl
    looked_on m l b x v e d (verdict.Fails z) i = moves_on (q m) Quick (state.Failing z) refl
    looked_on m l b x v e d (verdict.Sets new g) i = go (deep (state.Running g below)) refl
      where
        go : (z : Bool) → deep (state.Running g below) ≡ z
            → Lively p (if z then moves s (q m) Quick (state.Failing ends.DepthLimit) else turns (q m) (Seen d))
        go true dp = moves_on (q m) Quick (state.Failing ends.DepthLimit) refl
        go false dp = (l.0, subst (λ w. ArmedWork p d f below w) (sym top) (subst (λ T. ArmedTop d below T) (sym e) (new, g, i, dp)))

    looked_at_on : (m : Micro) → Lively p (q m) → (b : ℕ) (x : List ℕ) (v : Cell → Verdict) → top_of p item g0 ≡ TCell b x v
        → (o : Option Cell) → Lively p (TheSeats.looked_at p s (q m) below v o)
    looked_at_on m l b x v e None = l
    looked_at_on m l b x v e (Some d) = looked_on m l b x v e d (v d) refl

    exchanged_on : (m : Micro) → Lively p (q m) → (y : Verdict) → Lively p (TheSeats.exchanged p s (q m) below y)
    exchanged_on m l verdict.NoRow = l
    exchanged_on m l (verdict.Goes g) = l
    exchanged_on m l (verdict.Fails e) = l
    exchanged_on m l (verdict.Sets new g) = moves_on (q m) Quick (state.Running g below) refl

    went_on : (m : Micro) → Lively p (q m) → (o : Option State) → Lively p (TheSeats.went_own p s (q m) o)
    went_on m l None = l
    went_on m l (Some st) = moves_on (q m) Quick st refl

    left_on : (m : Micro) → Lively p (q m) → (o : Option Ty) (vs : List Val) → Lively p (TheSeats.left_as p s (q m) o vs)
    left_on m l None vs = moves_on (q m) Quick state.Stopped refl
    left_on m l (Some T) [] = l
    left_on m l (Some T) (v ∷ vs) = moves_on (q m) Quick (state.Finished v) refl

    sees_on : (m : Micro) → Lively p (q m) → (c : ℕ) → Lively p (TheSeats.sees p s (q m) m g0 c)
    sees_on (Seeing [] j) l c = turned (Seeing [] j) (Seeing [] c) l refl
    sees_on (Seeing (u ∷ left) j) l c = turned (Seeing (u ∷ left) j) (Seeing f.started c) l refl
    sees_on m l c = turned m (Seeing f.started c) l refl

    saw_on : (m : Micro) → Lively p (q m) → (o : Option Val) → Lively p (TheSeats.saw p s (q m) m o)
    saw_on (Seeing (u ∷ left) c) l (Some v) = turned (Seeing (u ∷ left) c) (Seeing left c) l refl
    saw_on m l o = turned m Quick l refl

    resumed_on : (m : Micro) → Lively p (q m) → (T : Top) → top_of p item g0 ≡ T → (r : Answer)
        → Lively p (resume_top p s (q m) m item g0 below T r)
    resumed_on m l (TCell b x v) e (Word o) = looked_at_on m l b x v e o
    resumed_on m l (TCell b x v) e (Differs o) = looked_at_on m l b x v e o
    resumed_on (Seen d) l (TCell b x v) e Kept = exchanged_on (Seen d) l (v d)
    resumed_on m l (TCell b x v) e Kept = l
    resumed_on m l (TBlind b x new g) e Kept = moves_on (q m) Quick (state.Running g below) refl
    resumed_on m l (TNew o g) e (Ends None c) = turned m (Count 0) l refl
    resumed_on m l (TNew o g) e (Ends (Some z) c) = (tt, tt)
    resumed_on m l (TNew o g) e (Counts c) = turned m (Count c) l refl
    resumed_on m l (TNew o g) e Full = moves_on (q m) Quick (state.Failing ends.HeapFull) refl
    resumed_on m l (TNew o g) e (Drawn b) = moves_on (q m) (filling b (length o.cells))
        (state.Running (has (val.Obj o.class b ∷ g.values) g) below) (plain_filling b (length o.cells))
    resumed_on m l (TPrint args g) e (Ends None c) = turned m (Count c) l refl
    resumed_on m l (TPrint args g) e (Ends (Some z) c) = (tt, tt)
    resumed_on m l (TPrint args g) e Full = moves_on (q m) Quick (state.Failing ends.PrintFull) refl
    resumed_on m l (TPrint args g) e (Drawn b) = moves_on (q m) Quick (state.Running g below) refl
    resumed_on m l TLook e (Ends None c) = went_on m l (own p s item g0 below)
    resumed_on m l TLook e (Ends (Some z) c) = (tt, tt)
    resumed_on m l TLeave e (Ends None c) = sees_on m l c
    resumed_on m l TLeave e (Ends (Some z) c) = (tt, tt)
    resumed_on m l TLeave e Kept = left_on m l f.asked f.values
    resumed_on m l TLeave e (Result o) = saw_on m l o
    resumed_on m l (TJoin u) e (Ends None c) = turned m (Count c) l refl
    resumed_on m l (TJoin u) e (Ends (Some z) c) = (tt, tt)
    resumed_on m l (TJoin u) e (Result None) = turned m Quick l refl
    resumed_on m l (TJoin u) e (Result (Some v)) = moves_on (q m) Quick (state.Running (has (v ∷ f.values) g0) below) refl
    resumed_on m l (TBegin x j d M args g) e (Ends None c) = turned m (Count 1) l refl
    resumed_on m l (TBegin x j d M args g) e (Ends (Some z) c) = (tt, tt)
    resumed_on m l (TBegin x j d M args g) e (Counts c) = turned m (Count c) l refl
    resumed_on m l (TBegin x j d M args g) e Full = moves_on (q m) Quick (state.Failing ends.ThreadLimit) refl
    resumed_on m l (TBegin x j d M args g) e (Drawn u) = moves_on (q m) Quick (state.Running (put_begun g x u) below) refl
    resumed_on m l T e r = l

    own_next : (m : Micro) (o : Option State) → LivelyNext p (TheSeats.goes_own p s t (q m) o)
    own_next m None = tt
    own_next m (Some st) = moves_on (q m) Quick st refl

    miss_next : (m : Micro) (k : Option ℕ) → LivelyNext p (TheSeats.misses p s t (q m) k)
    miss_next m None = tt
    miss_next m (Some k) = moves_on (q m) Quick (state.Failing (ends.Blame k)) refl

    armed_next : (m : Micro) (b : ℕ) (x : List ℕ) (d : Cell) (y : Verdict) → LivelyNext p (TheSeats.armed p s t (q m) below b x d y)
    armed_next m b x d verdict.NoRow = tt
    armed_next m b x d (verdict.Goes g) = tt
    armed_next m b x d (verdict.Fails e) = tt
    armed_next m b x d (verdict.Sets new g) = on_test (deep (state.Running g below)) _ _ (λ r. LivelyNext p r) (λ e. tt) (λ e. tt)

    leave_next : (m : Micro) (vs : List Val) (bl : List Frame) → LivelyNext p (TheSeats.leaves_to p s t (q m) vs bl)
    leave_next m [] bl = tt
    leave_next m (v ∷ vs) [] = tt
    leave_next m (v ∷ vs) (g ∷ bl) = moves_on (q m) Quick (state.Running (has (v ∷ g.values) g) bl) refl

    leaves_next : (m : Micro) (c : ℕ) (o : Option Ty) → LivelyNext p (TheSeats.leaves p s t (q m) g0 below c o)
    leaves_next m c None = tt
    leaves_next m c (Some T) = leave_next m f.values below

    next_on : (m : Micro) (T : Top) (c : Configuration) → TopSays p c item g0 below T
        → LivelyNext p (next_top p s t (q m) m item g0 below T)
    next_on m TLocal c say = own_next m (own p s item g0 below)
    next_on m (TMiss k) c say = miss_next m k
    next_on (Seen d) (TCell b x v) c say = armed_next (Seen d) b x d (v d)
    next_on m (TCell b x v) c say = tt
    next_on m (TBlind b x new g) c say = on_test (deep (state.Running g below)) _ _ (λ r. LivelyNext p r)
        (λ e. moves_on (q m) Quick (state.Failing ends.DepthLimit) refl) (λ e. tt)
    next_on (Count z) (TNew o g) c say = on_test (deep (state.Running (has (val.Nil ∷ g.values) g) below)) _ _ (λ r. LivelyNext p r)
        (λ e. tt) (λ e. tt)
    next_on m (TNew o g) c say = tt
    next_on m (TPrint args g) c say = on_test (deep (state.Running g below)) _ _ (λ r. LivelyNext p r) (λ e. tt) (λ e. tt)
    next_on m TLook c say = tt
    next_on (Seeing [] z) TLeave c say = leaves_next (Seeing [] z) z f.asked
    next_on (Seeing (u ∷ left) z) TLeave c say = tt
    next_on m TLeave c say = tt
    next_on (Count z) (TJoin u) c say = tt
    next_on m (TJoin u) c say = tt
    next_on (Count z) (TBegin x j d M args g) c say = on_test (deep (state.Running (put_begun g x 0) below)) _ _ (λ r. LivelyNext p r)
        (λ e. tt) (λ e. fresh_lively p small j d (say.1).at M args)
    next_on m (TBegin x j d M args g) c say = tt

  work_next : (t : ℕ) (a : Option Ty) (f : Frame) (below : List Frame) (n : ℕ) (m : Micro) (w : List Work) → f.work ≡ w
      → LivelyNext p (TheSeats.next_work p s t (record { asked = a; state = state.Running f below; steps = n; micro = m }) m f below w)
  work_next t a f below n m [] e = tt
  work_next t a f below n m (i ∷ is) e = next_on t a f below n i is e m (top_of p i (record f { work = is }))
      (Rattle.word_machine.specs.Tops.alone s) (says p (Rattle.word_machine.specs.Tops.alone s) (record f { work = is }) below i)

  work_resumed : (t : ℕ) (a : Option Ty) (f : Frame) (below : List Frame) (n : ℕ) (m : Micro)
      → Lively p (record { asked = a; state = state.Running f below; steps = n; micro = m }) → (w : List Work) → f.work ≡ w → (r : Answer)
      → Lively p (TheSeats.resume_work p s (record { asked = a; state = state.Running f below; steps = n; micro = m }) m f below w r)
  work_resumed t a f below n m l [] e r = l
  work_resumed t a f below n m l (i ∷ is) e r = resumed_on t a f below n i is e m l (top_of p i (record f { work = is })) refl r

  end_resumed : (a : Option Ty) (x : End) (n : ℕ) (m : Micro) (r : Answer)
      → Lively p (TheSeats.resume_end p s (record { asked = a; state = state.Failing x; steps = n; micro = m }) r)
  end_resumed a x n m Kept = (tt, tt)
  end_resumed a x n m (Ends None c) = (tt, tt)
  end_resumed a x n m (Ends (Some e) c) = (tt, tt)
  end_resumed a x n (Seen d) r = (tt, tt)
  end_resumed a x n m r = (tt, tt)

  seat_next : (t : ℕ) (a : Option Ty) (st : State) (n : ℕ) (m : Micro)
      → LivelyNext p (next_action p s t (record { asked = a; state = st; steps = n; micro = m }))
  seat_next t a st n (Filling b left) = tt
  seat_next t a (state.Running f below) n Quick = work_next t a f below n Quick f.work refl
  seat_next t a (state.Running f below) n (Seen d) = work_next t a f below n (Seen d) f.work refl
  seat_next t a (state.Running f below) n (Count c) = work_next t a f below n (Count c) f.work refl
  seat_next t a (state.Running f below) n (Seeing l c) = work_next t a f below n (Seeing l c) f.work refl
  seat_next t a (state.Failing e) n m = tt
  seat_next t a (state.Finished v) n m = tt
  seat_next t a state.Stopped n m = tt

  seat_resumed : (t : ℕ) (a : Option Ty) (st : State) (n : ℕ) (m : Micro)
      → Lively p (record { asked = a; state = st; steps = n; micro = m }) → (r : Answer)
      → Lively p (resume p s (record { asked = a; state = st; steps = n; micro = m }) r)
  seat_resumed t a st n (Filling b left) l r = (l.0, unarmed p (filling b (left - 1)) (plain_filling b (left - 1)) st)
  seat_resumed t a (state.Running f below) n Quick l r = work_resumed t a f below n Quick l f.work refl r
  seat_resumed t a (state.Running f below) n (Seen d) l r = work_resumed t a f below n (Seen d) l f.work refl r
  seat_resumed t a (state.Running f below) n (Count c) l r = work_resumed t a f below n (Count c) l f.work refl r
  seat_resumed t a (state.Running f below) n (Seeing z c) l r = work_resumed t a f below n (Seeing z c) l f.work refl r
  seat_resumed t a (state.Failing e) n m l r = end_resumed a e n m r
  seat_resumed t a (state.Finished v) n m l r = l
  seat_resumed t a state.Stopped n m l r = l

  abbrev pub AllLively : List Seat → Type 0
  AllLively qs = (t : ℕ) (q : Seat) → slice_get qs t ≡ Some q → Lively p q

  set_lively : (qs : List Seat) (t : ℕ) (q : Seat) → AllLively qs → Lively p q → AllLively (slice_set qs t q)
  set_lively qs t q all l u r e = ⊎_elim (λ i. subst (λ x. Lively p x) i.1 l) (λ i. all u r i) (set_cases qs t u q r e)

  end_lively : (qs : List Seat) (q : Seat) → AllLively qs → Lively p q → AllLively (qs ++ q ∷ [])
  end_lively qs q all l u r e = ⊎_elim (λ i. all u r i) (λ i. subst (λ x. Lively p x) i.1 l) (end_cases qs u q r e)

  acted_lively : (k : Core) (t : ℕ) (back : Answer → Seat) → AllLively k.seats → ((r : Answer) → Lively p (back r)) → (n : Next)
      → LivelyNext p n → AllLively (acted s k t back n).seats
  acted_lively k t back all l (NLocal q) i = set_lively k.seats t q all i
  acted_lively k t back all l NRest i = all
  acted_lively k t back all l (NWants a) i = set_lively k.seats t (back (apply s k.words a).1) all (l (apply s k.words a).1)
  acted_lively k t back all l (NBegins c j m args new) i =
      on_test (nat_eq c (length k.seats)) _ _ (λ (x : Core). AllLively x.seats)
      (λ e. on_test (nat_le 256 (length k.seats)) _ _ (λ (x : Core). AllLively x.seats)
      (λ y. set_lively k.seats t (back Full) all (l Full))
      (λ y. end_lively (slice_set k.seats t (back (Drawn (length k.seats)))) new
      (set_lively k.seats t (back (Drawn (length k.seats))) all (l (Drawn (length k.seats)))) i))
      (λ e. set_lively k.seats t (back (Counts (length k.seats))) all (l (Counts (length k.seats))))

  pub tick_lively : (k : Core) (t : ℕ) → AllLively k.seats → AllLively (tick p s k t).seats
  tick_lively k t all = go (slice_get k.seats t) refl
    where
      go : (o : Option Seat) → slice_get k.seats t ≡ o → AllLively (tick_seat p s k t o).seats
      go None e = all
      go (Some x) e = acted_lively k t (resume p s x) all (λ r. seat_resumed t x.asked x.state x.steps x.micro (all t x e) r)
          (next_action p s t x) (seat_next t x.asked x.state x.steps x.micro)

  pub ticks_lively : (k : Core) (ts : List ℕ) → AllLively k.seats → AllLively (after_ticks p s k ts).seats
  ticks_lively k [] all = all
  ticks_lively k (t ∷ ts) all = ticks_lively (tick p s k t) ts (tick_lively k t all)

-- ---- rest

abbrev rests : Next → Bool
rests NRest = true
rests n = false

not_deeper : (a b : ℕ) → a ≤ b → nat_lt 16384 b ≡ false → nat_lt 16384 a ≡ false
not_deeper a b i e = grind arith

-- the test of depth is passed
passes : (b : Bool) (n m : Next) → b ≡ false → rests m ≡ false → rests (if b then n else m) ≡ false
passes true n m e i = absurd (false≢true (sym e))
passes false n m e i = i

module _ (p : CastScript) (pok : IsTypedProgram p) (s : Settings) (rs : List Ty) (k : Core) (ok : CoreOk p rs k) (t : ℕ) (a : Option Ty)
    (f : Frame) (below : List Frame) (n : ℕ) (item : Work) (is : List Work) (top : f.work ≡ item ∷ is) where
  abbrev qq : Micro → Seat
  qq m = record { asked = a; state = state.Running f below; steps = n; micro = m }

  abbrev g1 : Frame
  g1 = record f { work = is }

  abbrev c2 : Configuration
  c2 = typed p pok s rs k ok t

  abbrev h : Heap
  h = (k.words).heap

  abbrev Typed : Type 0
  Typed = IsWellTypedState p rs t h (typ a) (state.Running f below)

  abbrev At : Micro → Type 0
  At m = slice_get k.seats t ≡ Some (qq m)

  pub rowless : (m : Micro) → At m → Typed → act p c2 item g1 below ≡ outcome.NoRow → ⊥
  rowless m at i e = no_row p pok s rs k ok t a f below n m at item is top i e

  -- without its top item the frame is one smaller
  without_item : frame_items f ≡ frame_items g1 + 1
  without_item = ap (λ w. 1 + (length f.names + (length f.handles + (length w + length f.values)))) top ∙ omega arith

  pub fits_on : (m : ℕ) → m ≤ frame_items g1 + 1 → deep (state.Running f below) ≡ false → nat_lt 16384 (m + frames_items below) ≡ false
  fits_on m i e = let w = without_item in not_deeper (m + frames_items below) (frame_items f + frames_items below) (omega (arith, w, i)) e

  own_goes : (m : Micro) → At m → Typed → act p c2 item g1 below ≡ lift (own p s item g1 below) → (o : Option State)
      → own p s item g1 below ≡ o → rests (TheSeats.goes_own p s t (qq m) o) ≡ false
  own_goes m at i e None z = absurd (rowless m at i (e ∙ ap lift z))
  own_goes m at i e (Some st) z = refl

  pub miss_goes : (m : Micro) → At m → Typed → (o : Option ℕ) → TopSays p c2 item g1 below (TMiss o)
      → rests (TheSeats.misses p s t (qq m) o) ≡ false
  miss_goes m at i (Some j) say = refl
  miss_goes m at i None say =
      let y = say.3 in
      let v : IsValueOf p h (val.Obj y.class say.0) = top_value p h f.values (i.0).types (val.Obj y.class say.0) y.rest y.is (i.0).values in
      let gone = field_gone p h ok.heap y.class say.0 say.1 v y.has in
      absurd (rowless m at i (say.4 ∙ ap (λ o. settle say.0 say.1 (on_cell (blaming None) say.2 o) below) gone))

  armed_goes : (m : Micro) (b : ℕ) (x : List ℕ) (d : Cell) (v : Cell → Verdict) → ArmedTop d below (TCell b x v)
      → rests (TheSeats.armed p s t (qq m) below b x d (v d)) ≡ false
  armed_goes m b x d v i = subst (λ y. rests (TheSeats.armed p s t (qq m) below b x d y) ≡ false) (sym i.2)
      (passes (deep (state.Running i.1 below)) NRest (NWants (TheWords.AExchange b x d i.0)) i.3 refl)

  leave_goes : (c : ℕ) → At (Seeing [] c) → Typed
      → ((d : ℕ → Option Val) → Finishes (fin k.seats) d → SeatBy p rs d t h (typ a) (state.Running f below) (Seeing [] c))
      → TopSays p c2 item g1 below TLeave → (o : Option Ty) → f.asked ≡ o → rests (TheSeats.leaves p s t (qq (Seeing [] c)) g1 below c o)
      ≡ false
  leave_goes c at i pl say None e = refl
  leave_goes c at i pl say (Some T) e = go f.values refl below
    where
      go : (vs : List Val) → f.values ≡ vs → (bl : List Frame) → rests (TheSeats.leaves_to p s t (qq (Seeing [] c)) vs bl) ≡ false
      go [] ev bl =
          absurd (rowless (Seeing [] c) at i
          (say ∙ ap (λ b. if b then leave_with f.values f.asked below else outcome.Waits)
          (left_all p pok s rs k ok t a f below n item is top c at pl)
          ∙ ap (λ o. leave_with f.values o below) e ∙ ap (λ vs. leave_with vs (Some T) below) ev))
      go (v ∷ vs) ev [] = refl
      go (v ∷ vs) ev (g ∷ bl) = refl

  top_goes : (m : Micro) → At m → Typed
      → ((d : ℕ → Option Val) → Finishes (fin k.seats) d → SeatBy p rs d t h (typ a) (state.Running f below) m)
      → deep (state.Running f below) ≡ false → (T : Top) → TopSays p c2 item g1 below T → ((d : Cell) → m ≡ Seen d → ArmedTop d below T)
      → rests (next_top p s t (qq m) m item g1 below T) ≡ false
  top_goes m at i pl sh TLocal say ar = own_goes m at i say (own p s item g1 below) refl
  top_goes m at i pl sh (TMiss o) say ar = miss_goes m at i o say
  top_goes (Seen d) at i pl sh (TCell b x v) say ar = armed_goes (Seen d) b x d v (ar d refl)
  top_goes m at i pl sh (TCell b x v) say ar = refl
  top_goes m at i pl sh (TBlind b x new g) say ar = on_test (deep (state.Running g below)) _ _ (λ r. rests r ≡ false) (λ e. refl)
      (λ e. refl)
  top_goes (Count c) at i pl sh (TNew o g) say ar =
      passes (deep (state.Running (has (val.Nil ∷ g.values) g) below)) NRest (NWants (TheWords.ADraw c (TheSeats.unfilled t o)))
      (let l = say.2 in fits_on (frame_items (has (val.Nil ∷ g.values) g)) (omega (arith, l)) sh) refl
  top_goes m at i pl sh (TNew o g) say ar = refl
  top_goes m at i pl sh (TPrint args g) say ar =
      passes (deep (state.Running g below)) NRest (NWants (TheWords.APrint (TheSeats.guess m) args))
      (let l = say.1 in fits_on (frame_items g) (omega (arith, l)) sh) refl
  top_goes m at i pl sh TLook say ar = refl
  top_goes (Seeing [] c) at i pl sh TLeave say ar = leave_goes c at i pl say f.asked refl
  top_goes (Seeing (u ∷ left) c) at i pl sh TLeave say ar = refl
  top_goes m at i pl sh TLeave say ar = refl
  top_goes (Count c) at i pl sh (TJoin u) say ar = refl
  top_goes m at i pl sh (TJoin u) say ar = refl
  top_goes (Count c) at i pl sh (TBegin x j d M args g) say ar =
      passes (deep (state.Running (put_begun g x 0) below)) NRest (NBegins c j M args (fresh_seat d M args))
      (let l = say.2 in let w = length-update g.handles x (Some 0) in fits_on (frame_items (put_begun g x 0)) (omega (arith, l, w)) sh) refl
  top_goes m at i pl sh (TBegin x j d M args g) say ar = refl

module _ (p : CastScript) (pok : IsTypedProgram p) (s : Settings) (rs : List Ty) (k : Core) (ok : CoreOk p rs k) (t : ℕ) where
  work_goes : (a : Option Ty) (f : Frame) (below : List Frame) (n : ℕ) (m : Micro)
      → slice_get k.seats t ≡ Some (record { asked = a; state = state.Running f below; steps = n; micro = m })
      → IsWellTypedState p rs t (k.words).heap (typ a) (state.Running f below)
      → ((d : ℕ → Option Val) → Finishes (fin k.seats) d → SeatBy p rs d t (k.words).heap (typ a) (state.Running f below) m)
      → deep (state.Running f below) ≡ false → ((d : Cell) → m ≡ Seen d → ArmedWork p d f below f.work) → (w : List Work) → f.work ≡ w
      → rests (TheSeats.next_work p s t (record { asked = a; state = state.Running f below; steps = n; micro = m }) m f below w) ≡ false
  work_goes a f below n m at i pl sh ar [] e = absurd
      ((subst (λ w. IsWellTypedTop p (around (i.0).scope f.asked rs t) (k.words).heap [] w f.values (i.0).types) e (i.0).work).1)
  work_goes a f below n m at i pl sh ar (item ∷ is) e =
      top_goes p pok s rs k ok t a f below n item is e m at i pl sh (top_of p item (record f { work = is }))
      (says p (typed p pok s rs k ok t) (record f { work = is }) below item)
      (λ d z. subst (λ w. ArmedWork p d f below w) e (ar d z))

  abbrev Goes : Option Ty → State → ℕ → Micro → Type 0
  Goes a st n m = rests (next_action p s t (record { asked = a; state = st; steps = n; micro = m })) ≡ true → MayRest st

  no_cell : {A : Type 0} (m : Micro) → plain m ≡ true → (d : Cell) → m ≡ Seen d → A
  no_cell {A = A} m e d i = absurd (false≢true (sym (ap plain i) ∙ e))

  seat_goes : (a : Option Ty) (st : State) (n : ℕ) (m : Micro)
      → slice_get k.seats t ≡ Some (record { asked = a; state = st; steps = n; micro = m })
      → SeatBy p rs (fin k.seats) t (k.words).heap (typ a) st m → Lively p (record { asked = a; state = st; steps = n; micro = m })
      → Goes a st n m
  seat_goes a st n (Filling b left) at i l e = absurd (false≢true e)
  seat_goes a (state.Running f below) n Quick at i l e = absurd
      (false≢true (sym (work_goes a f below n Quick at i (λ d y. i) l.0 (λ d z. no_cell Quick refl d z) f.work refl) ∙ e))
  seat_goes a (state.Running f below) n (Seen c) at i l e = absurd
      (false≢true
      (sym (work_goes a f below n (Seen c) at i (λ d y. i) l.0
      (λ d z. subst (λ x. ArmedWork p x f below f.work) (seen_is c d z) l.1) f.work refl) ∙ e))
    where
      cell_in : Cell → Micro → Cell
      cell_in z (Seen x) = x
      cell_in z m = z

      seen_is : (x y : Cell) → Seen x ≡ Seen y → x ≡ y
      seen_is x y j = ap (cell_in x) j
  seat_goes a (state.Running f below) n (Count c) at i l e = absurd
      (false≢true (sym (work_goes a f below n (Count c) at i (λ d y. i) l.0 (λ d z. no_cell (Count c) refl d z) f.work refl) ∙ e))
  seat_goes a (state.Running f below) n (Seeing left c) at i l e = absurd
      (false≢true
      (sym (work_goes a f below n (Seeing left c) at i.0 (λ d x. (i.0, seen_grows (fin k.seats) d x (state.Running f below) left i.1)) l.0
      (λ d z. no_cell (Seeing left c) refl d z) f.work refl) ∙ e))
  seat_goes a (state.Failing x) n m at i l e = absurd (false≢true e)
  seat_goes a (state.Finished v) n m at i l e = tt
  seat_goes a state.Stopped n m at i l e = tt

rests_right : (p : CastScript) → IsTypedProgram p → (s : Settings) (rs : List Ty) (k : Core) → CoreOk p rs k
    → ((t : ℕ) (q : Seat) → slice_get k.seats t ≡ Some q → Lively p q) → RestsRight p s k
rests_right p pok s rs k ok all t q at e = seat_goes p pok s rs k ok t q.asked q.state q.steps q.micro at (ok.seats t q at) (all t q at)
    (ap rests e)

-- ---- the law

pub core_after : (p : CastScript) → IsTypedProgram p → (s : Settings) (rs : List Ty) (k : Core) → CoreOk p rs k → (ts : List ℕ)
    → (rs' : List Ty) × CoreOk p rs' (after_ticks p s k ts)
core_after p pok s rs k ok [] = (rs, ok)
core_after p pok s rs k ok (t ∷ ts) = let g = tick_ok p pok s rs k ok t in core_after p pok s g.results (tick p s k t) g.ok ts

pub never_rests : NeverRests
never_rests p pok small s = (
  (λ ts. core_right ts),
  (λ events h t q x e.
      let held = events_ok p pok s hosts_start (core_start p) (start_held p pok s) events in
      core_right (ticks_of p s hosts_start events) t q
      (runs_seat p (after_events p s hosts_start events)
      (after_ticks p s (core_start p) (ticks_of p s hosts_start events)) held.stands h s t q x).0 e),
)
  where
    core_right : (ts : List ℕ) → RestsRight p s (after_ticks p s (core_start p) ts)
    core_right ts =
        let c = core_after p pok s (dyn ∷ []) (core_start p) (start_core p pok s) ts in
        rests_right p pok s c.0 (after_ticks p s (core_start p) ts) c.1 (ticks_lively p small s (core_start p) ts (main_lively p small))
