-- A thread that has a step comes nearer to it by each tick.
use Rattle.std.proofs.Common.{◌≡◌, ◌⊎◌, inl, inr, ⊎_elim, ℕ, zero, suc, ◌+◌, ◌-◌, ◌<◌, Bool, true, false, List, [], ◌∷◌, ◌++◌}
use Rattle.std.proofs.Common.{length, Option, Some, None, is_some, nat_eq, nat_le, if◌then◌else◌, refl, sym, ap, ◌∙◌, subst}
use Rattle.std.proofs.Common.{arith, slice_get, slice_set}
use Rattle.std.proofs.lemmas.Bool.{and_from, and_parts, false≢true}
use Rattle.std.proofs.lemmas.Bool.Decides.{Decides-int_eq}
use Rattle.mono_list.proofs.Cases.{none_some}
use Rattle.mono_syntax.specs.Ty.{Ty}
use Rattle.mono_syntax.specs.declared.value.Val.{Val}
use Rattle.mono_syntax.specs.declared.value.Val.TheVariants as val
use Rattle.mono_syntax.specs.declared.cast.CastScript.{CastScript}
use Rattle.mono_syntax.specs.declared.cast.CastFunction.{CastFunction}
use Rattle.mono_tree.specs.TypedPrograms.{IsTypedProgram}
use Rattle.mono_tree.proofs.TypeLaws.{bytes_eq-refl, precise_refl}
use Rattle.mono_tree.specs.Precision.{precise}
use Rattle.cast_machine.specs.declared.data.Cell.{Cell}
use Rattle.cast_machine.specs.declared.data.End.{End}
use Rattle.cast_machine.specs.declared.data.End.TheVariants as ends
use Rattle.cast_machine.specs.declared.data.Frame.{Frame}
use Rattle.cast_machine.specs.declared.data.Object.{Object}
use Rattle.cast_machine.specs.declared.data.Ready.{Ready}
use Rattle.cast_machine.specs.declared.data.Settings.{Settings}
use Rattle.cast_machine.specs.declared.data.State.{State}
use Rattle.cast_machine.specs.declared.data.State.TheVariants as state
use Rattle.cast_machine.specs.declared.data.Outcome.TheVariants as outcome
use Rattle.cast_machine.specs.declared.data.Verdict.{Verdict}
use Rattle.cast_machine.specs.declared.data.Verdict.TheVariants as verdict
use Rattle.cast_machine.specs.declared.data.Work.{Work}
use Rattle.cast_machine.specs.declared.data.Work.TheVariants as work
use Rattle.cast_machine.specs.Heap.{Heap, size, heap_size, cell_at, set_cell}
use Rattle.cast_machine.specs.Rows.{has}
use Rattle.cast_machine.specs.Cells.{same_type, settle, on_cell}
use Rattle.cast_machine.specs.Calls.{all_finished, finished, join_of, leave_with, words_of}
use Rattle.cast_machine.specs.Step.{Configuration, act, frame_items}
use Rattle.cast_machine.specs.Step.{step_at, step_of}
use Rattle.cast_machine.specs.Typing.{IsWellTypedState, around}
use Rattle.cast_machine.specs.WorkTyping.{IsWellTypedTop}
use Rattle.cast_machine.proofs.Heap.{length-update, nat_eq-refl, on_test}
use Rattle.cast_machine.proofs.ThreadLists.{length-slice_set, set_here}
use Rattle.word_machine.specs.Follows.{is_filling}
use Rattle.word_machine.specs.Seats.{Micro, Quick, Seen, Count, Filling, Seeing, Seat, Next, NRest, NWants, NBegins, deep, moves}
use Rattle.word_machine.specs.Seats.{turns, filling, guess, put_begun, fresh_seat, next_top, resume_top}
use Rattle.word_machine.specs.Ticks.{Core, stands, acted, answered, tick_seat, tick, tick_steps}
use Rattle.word_machine.specs.TopRows.{lift, CellSays, TopSays}
use Rattle.word_machine.specs.Tops.{Top, TLocal, TMiss, TCell, TBlind, TNew, TPrint, TLook, TLeave, TJoin, TBegin, top_of, own}
use Rattle.word_machine.specs.Words.{Words, Answer, same_val, same_cell}
use Rattle.word_machine.specs.computed.Ranks.{one_or_two, seen_rank, leave_rank, top_rank, work_rank, base_rank, seat_rank, rank_in}
use Rattle.word_machine.specs.computed.Ranks.{rank}
use Rattle.word_machine.specs.Seats as TheSeats
use Rattle.word_machine.specs.Ticks as TheTicks
use Rattle.word_machine.specs.Words as TheWords
use Rattle.cast_machine.specs.RunLimits.{HasSmallBlocks}
use Rattle.word_machine.proofs.Saying.{says}
use Rattle.word_machine.proofs.Waiting.{field_there, top_value}
use Rattle.word_machine.proofs.CoreOk.{threads_get, fin, all_fin, Finishes, seen_grows, SeatBy, CoreOk, FillOk}
use Rattle.word_machine.proofs.Leaf.{there, typed, typ, stepped}
use Rattle.word_machine.proofs.Tick.{left_all, all_same, fin_same}
use Rattle.word_machine.proofs.Lively.{ArmedTop, ArmedWork, Lively, AllLively, rowless, fits_on}

-- ---- a word is the same as itself

pub type_self : (t : Ty) → same_type t t ≡ true
type_self t = and_from (precise t t) (precise t t) (precise_refl t) (precise_refl t)

value_self : (v : Val) → same_val v v ≡ true
value_self (val.Int n) = (Decides-int_eq n n).1 refl
value_self (val.Bool true) = refl
value_self (val.Bool false) = refl
value_self val.Nil = refl
value_self (val.Text t) = bytes_eq-refl t
value_self (val.Obj c a) = and_from (nat_eq c c) (nat_eq a a) (nat_eq-refl c) (nat_eq-refl a)
value_self (val.Fun g m) = and_from (nat_eq g g) (same_type m m) (nat_eq-refl g) (type_self m)

cell_self : (d : Cell) → same_cell d d ≡ true
cell_self d = and_from (same_type d.ty d.ty) (same_val d.value d.value) (type_self d.ty) (value_self d.value)

low : (b : Bool) (j : ℕ) → one_or_two b < 4 + j
low true j = omega arith
low false j = omega arith

leave_low : (c w : ℕ) (left : List ℕ) → leave_rank c w left < 3 + length left
leave_low c w [] = few (nat_eq c w)
  where
    few : (b : Bool) → one_or_two b < 3 + 0
    few true = omega arith
    few false = omega arith
leave_low c w (u ∷ left) = omega arith

-- of all that are finished, this one is
all_at : (d : ℕ → Option Val) (xs : List ℕ) (u : ℕ) (left : List ℕ) → all_fin d (xs ++ u ∷ left) ≡ true → (v : Val) × (d u ≡ Some v)
all_at d [] u left e = here (d u) refl (and_parts (is_some (d u)) (all_fin d left) e).0
  where
    here : (o : Option Val) → d u ≡ o → is_some o ≡ true → (v : Val) × (d u ≡ Some v)
    here None i z = absurd (false≢true z)
    here (Some v) i z = (v, i)
all_at d (x ∷ xs) u left e = all_at d xs u left (and_parts (is_some (d x)) (all_fin d (xs ++ u ∷ left)) e).1

abbrev rests_still : State → Bool
rests_still (state.Finished v) = true
rests_still state.Stopped = true
rests_still st = false

-- what a wait waits for is there
abbrev IsReady : (ℕ → Option Val) → Frame → Top → Type 0
IsReady d f TLeave = all_fin d f.started ≡ true
IsReady d f (TJoin u) = (v : Val) × (d u ≡ Some v)
IsReady d f T = Unit {0}

module _ (p : CastScript) (pok : IsTypedProgram p) (s : Settings) (rs : List Ty) (k : Core) (ok : CoreOk p rs k)
    (none : (k.words).end ≡ None) (t : ℕ) (small : HasSmallBlocks p) where
  abbrev h : Heap
  h = (k.words).heap

  module _ (a : Option Ty) (f : Frame) (below : List Frame) (n : ℕ) (item : Work) (is : List Work) (top : f.work ≡ item ∷ is)
      (i : IsWellTypedState p rs t h (typ a) (state.Running f below)) (sh : deep (state.Running f below) ≡ false) where
    abbrev q : Micro → Seat
    q m = record { asked = a; state = state.Running f below; steps = n; micro = m }

    abbrev g0 : Frame
    g0 = record f { work = is }

    abbrev c1 : Configuration
    c1 = there p pok s rs k ok t

    abbrev c2 : Configuration
    c2 = typed p pok s rs k ok t

    abbrev At : Micro → Type 0
    At m = slice_get k.seats t ≡ Some (q m)

    abbrev Rank : Top → Micro → ℕ
    Rank T m = top_rank k.words (length k.seats) g0 T m

    -- the step is taken, or no word changes and the thread is nearer to it
    abbrev Near : Top → Micro → Bool → Core → Type 0
    Near T m b k' = (b ≡ true)
        ⊎ ((m' : Micro) × (is_filling m' ≡ false) × (k' ≡ record { words = k.words; seats = slice_set k.seats t (q m') })
        × (Rank T m' < Rank T m))

    abbrev NearAns : Top → Micro → Words × Answer → Type 0
    NearAns T m r = Near T m (TheTicks.top_steps p s item g0 below T r.1) (answered s k t (resume_top p s (q m) m item g0 below T) r)

    abbrev NearAct : Top → Micro → Next → Type 0
    NearAct T m r = Near T m (TheTicks.next_steps p s k.words (length k.seats) (TheTicks.top_steps p s item g0 below T) r)
        (acted s k t (resume_top p s (q m) m item g0 below T) r)

    turned : (T : Top) (m m' : Micro) → is_filling m' ≡ false → Rank T m' < Rank T m
        → Near T m false (record { words = k.words; seats = slice_set k.seats t (q m') })
    turned T m m' e l = inr (m', e, refl, l)

    no_row : (m : Micro) → At m → act p c2 item g0 below ≡ outcome.NoRow → ⊥
    no_row m at e = rowless p pok s rs k ok t a f below n item is top m at i e

    -- a word that was looked for is there
    cell_there : (b : ℕ) (x : List ℕ) → CellSays p item g0 b x → (d : Cell) × (cell_at h b x ≡ Some d)
    cell_there b x y = ⊎_elim
        (λ z. field_there p h ok.heap z.class b x (top_value p h f.values (i.0).types (val.Obj z.class b) z.rest z.is (i.0).values) z.has)
        (λ z. pending z.0 z.1 z.2 (subst (λ w. IsWellTypedTop p (around (i.0).scope f.asked rs t) h [] (w ∷ is) f.values (i.0).types) z.3
        (subst (λ w. IsWellTypedTop p (around (i.0).scope f.asked rs t) h [] w f.values (i.0).types) top (i.0).work)))
        y
      where
        pending : (c : ℕ) (T : Ty) (r : Option Ready)
            → IsWellTypedTop p (around (i.0).scope f.asked rs t) h [] (work.Obligation c b x T r ∷ is) f.values (i.0).types
            → (d : Cell) × (cell_at h b x ≡ Some d)
        pending c T None w = ((w.0).cell, (w.0).at)
        pending c T (Some r) w = ((w.0).cell, (w.0).at)

    near_looked : (m : Micro) → At m → (b : ℕ) (x : List ℕ) (v : Cell → Verdict) → TopSays p c2 item g0 below (TCell b x v) → (d : Cell)
        → cell_at h b x ≡ Some d → 1 < Rank (TCell b x v) m → (y : Verdict) → v d ≡ y
        → Near (TCell b x v) m (TheTicks.verdict_steps below y)
        (record { words = k.words; seats = slice_set k.seats t (TheSeats.looked p s (q m) below d y) })
    near_looked m at b x v say d here l verdict.NoRow e = absurd
        (no_row m at (say.1 ∙ ap (λ o. settle b x (on_cell say.0 v o) below) here ∙ ap (λ z. settle b x z below) e))
    near_looked m at b x v say d here l (verdict.Goes g) e = inl refl
    near_looked m at b x v say d here l (verdict.Fails z) e = inl refl
    near_looked m at b x v say d here l (verdict.Sets new g) e = go (deep (state.Running g below))
      where
        one : Rank (TCell b x v) (Seen d) ≡ 1
        one = ap (seen_rank d) here ∙ ap one_or_two (cell_self d)

        go : (z : Bool)
            → Near (TCell b x v) m z
            (record {
              words = k.words;
              seats = slice_set k.seats t (if z then moves s (q m) Quick (state.Failing ends.DepthLimit)
                  else turns (q m) (Seen d));
            })
        go true = inl refl
        go false = turned (TCell b x v) m (Seen d) refl (subst (λ j. j < Rank (TCell b x v) m) (sym one) l)

    near_word : (m : Micro) → At m → (b : ℕ) (x : List ℕ) (v : Cell → Verdict) → TopSays p c2 item g0 below (TCell b x v)
        → 1 < Rank (TCell b x v) m → (o : Option Cell) → cell_at h b x ≡ o
        → Near (TCell b x v) m (TheTicks.look_steps below v o)
        (record { words = k.words; seats = slice_set k.seats t (TheSeats.looked_at p s (q m) below v o) })
    near_word m at b x v say l None e = none_some _ (sym e ∙ (cell_there b x say.2).1)
    near_word m at b x v say l (Some d) e = near_looked m at b x v say d e l (v d) refl

    near_exchange : (d : Cell) → At (Seen d) → (b : ℕ) (x : List ℕ) (v : Cell → Verdict) → TopSays p c2 item g0 below (TCell b x v)
        → (new : Cell) → (o : Option Cell) → cell_at h b x ≡ o → NearAns (TCell b x v) (Seen d) (TheWords.exchange s k.words b x d new o)
    near_exchange d at b x v say new None e = none_some _ (sym e ∙ (cell_there b x say.2).1)
    near_exchange d at b x v say new (Some now) e = go (same_cell d now) refl
      where
        go : (z : Bool) → same_cell d now ≡ z
            → NearAns (TCell b x v) (Seen d) (if z then (record k.words { heap = set_cell h b x new }, TheWords.Kept)
            else (k.words, TheWords.Differs (Some now)))
        go true z = inl refl
        go false z = near_looked (Seen d) at b x v say now e
            (subst (λ j. 1 < j) (sym (ap (seen_rank d) e ∙ ap one_or_two z)) (omega arith)) (v now) refl

    near_armed : (d : Cell) → At (Seen d) → (b : ℕ) (x : List ℕ) (v : Cell → Verdict) → TopSays p c2 item g0 below (TCell b x v)
        → ArmedTop d below (TCell b x v) → NearAct (TCell b x v) (Seen d) (TheSeats.armed p s t (q (Seen d)) below b x d (v d))
    near_armed d at b x v say w =
        subst (λ y. NearAct (TCell b x v) (Seen d) (TheSeats.armed p s t (q (Seen d)) below b x d y)) (sym w.2)
        (subst (λ z. NearAct (TCell b x v) (Seen d) (if z then NRest else NWants (TheWords.AExchange b x d w.0))) (sym w.3)
        (near_exchange d at b x v say w.0 (cell_at h b x) refl))

    -- ---- local steps, and a look at the end

    near_own : (m : Micro) → At m → act p c2 item g0 below ≡ lift (own p s item g0 below) → (o : Option State) → own p s item g0 below ≡ o
        → NearAct TLocal m (TheSeats.goes_own p s t (q m) o)
    near_own m at e None z = absurd (no_row m at (e ∙ ap lift z))
    near_own m at e (Some st) z = inl refl

    near_went : (m : Micro) → At m → act p c2 item g0 below ≡ lift (own p s item g0 below) → (o : Option State) → own p s item g0 below ≡ o
        → is_some o ≡ true
    near_went m at e None z = absurd (no_row m at (e ∙ ap lift z))
    near_went m at e (Some st) z = refl

    -- no end is there
    no_end : (T : Top) (m : Micro) → NearAns T m (k.words, TheWords.Ends None (words_of (k.words).lines)) → (e : Option End)
        → (k.words).end ≡ e
        → NearAns T m (k.words, TheWords.Ends e (words_of (k.words).lines))
    no_end T m x None e = x
    no_end T m x (Some z) e = none_some _ (sym none ∙ e)

    -- ---- draws

    one_same : (c : ℕ) → one_or_two (nat_eq c c) ≡ 1
    one_same c = ap one_or_two (nat_eq-refl c)

    two_differ : (c w : ℕ) → nat_eq c w ≡ false → one_or_two (nat_eq w w) < one_or_two (nat_eq c w)
    two_differ c w e = subst (λ j. j < one_or_two (nat_eq c w)) (sym (one_same w)) (subst (λ b. 1 < one_or_two b) (sym e) (omega arith))

    near_draw : (c : ℕ) (o : Object) (g : Frame)
        → NearAns (TNew o g) (Count c) (TheWords.apply s k.words (TheWords.ADraw c (TheSeats.unfilled t o)))
    near_draw c o g = go (nat_eq c (heap_size h)) refl (nat_le (heap_size h + size (TheSeats.unfilled t o)) s.heap)
      where
        go : (b : Bool) → nat_eq c (heap_size h) ≡ b → (r : Bool)
            → NearAns (TNew o g) (Count c)
            (if b then (if r then (record k.words { heap = h ++ TheSeats.unfilled t o ∷ [] }, TheWords.Drawn (heap_size h))
            else (k.words, TheWords.Full))
            else (k.words, TheWords.Counts (heap_size h)))
        go true z true = inl refl
        go true z false = inl refl
        go false z r = turned (TNew o g) (Count c) (Count (heap_size h)) refl (two_differ c (heap_size h) z)

    near_print : (c : ℕ) (m : Micro) (args : List Val) (g : Frame)
        → (nat_eq c (words_of (k.words).lines) ≡ false → one_or_two (nat_eq (words_of (k.words).lines) (words_of (k.words).lines)) < Rank
        (TPrint args g) m) → (o : Option End) → (k.words).end ≡ o → NearAns (TPrint args g) m (TheWords.draw_print s k.words c args o)
    near_print c m args g l (Some z) e = none_some _ (sym none ∙ e)
    near_print c m args g l None e = go (nat_eq c (words_of (k.words).lines)) refl
        (nat_le (words_of (k.words).lines + (length args + 1)) s.print)
      where
        go : (b : Bool) → nat_eq c (words_of (k.words).lines) ≡ b → (r : Bool)
            → NearAns (TPrint args g) m
            (if b then (if r then (record k.words { lines = (k.words).lines ++ args ∷ [] }, TheWords.Drawn (words_of (k.words).lines))
            else (k.words, TheWords.Full)) else (k.words, TheWords.Ends None (words_of (k.words).lines)))
        go true z true = inl refl
        go true z false = inl refl
        go false z r = turned (TPrint args g) m (Count (words_of (k.words).lines)) refl (l z)

    near_begin : (c : ℕ) (x : List ℕ) (j : ℕ) (d : CastFunction) (M : Ty) (args : List Val) (g : Frame)
        → NearAct (TBegin x j d M args g) (Count c) (NBegins c j M args (fresh_seat d M args))
    near_begin c x j d M args g = go (nat_eq c (length k.seats)) refl (nat_le 256 (length k.seats))
      where
        T : Top
        T = TBegin x j d M args g

        back : Answer → Seat
        back z = resume_top p s (q (Count c)) (Count c) item g0 below (TBegin x j d M args g) z

        go : (b : Bool) → nat_eq c (length k.seats) ≡ b → (r : Bool) →
            Near (TBegin x j d M args g) (Count c)
            (TheTicks.top_steps p s item g0 below (TBegin x j d M args g)
            (if b then (if r then TheWords.Full else TheWords.Drawn (length k.seats))
            else TheWords.Counts (length k.seats)))
            (if b then (if r then answered s k t (resume_top p s (q (Count c)) (Count c) item g0 below (TBegin x j d M args g))
            (k.words, TheWords.Full)
            else record {
              words = k.words;
              seats = slice_set k.seats t (resume_top p s (q (Count c)) (Count c) item g0 below (TBegin x j d M args g)
                  (TheWords.Drawn (length k.seats))) ++ fresh_seat d M args ∷ [];
            })
            else answered s k t (resume_top p s (q (Count c)) (Count c) item g0 below (TBegin x j d M args g))
            (k.words, TheWords.Counts (length k.seats)))
        go true z true = inl refl
        go true z false = inl refl
        go false z r = turned (TBegin x j d M args g) (Count c) (Count (length k.seats)) refl (two_differ c (length k.seats) z)

    -- ---- leaving

    near_done : (c : ℕ) → (o : Option End) → (k.words).end ≡ o → NearAns TLeave (Seeing [] c) (TheWords.record_end s k.words c ends.Done o)
    near_done c (Some z) e = none_some _ (sym none ∙ e)
    near_done c None e = go (nat_eq c (words_of (k.words).lines)) refl
      where
        go : (b : Bool) → nat_eq c (words_of (k.words).lines) ≡ b
            → NearAns TLeave (Seeing [] c) (if b then (record k.words { end = Some ends.Done }, TheWords.Kept)
            else (k.words, TheWords.Ends None (words_of (k.words).lines)))
        go true z = inl refl
        go false z = turned TLeave (Seeing [] c) (Seeing [] (words_of (k.words).lines)) refl (two_differ c (words_of (k.words).lines) z)

    near_leaves : (c : ℕ) → At (Seeing [] c)
        → ((d : ℕ → Option Val) → Finishes (fin k.seats) d → SeatBy p rs d t h (typ a) (state.Running f below) (Seeing [] c))
        → TopSays p c2 item g0 below TLeave → (o : Option Ty) → f.asked ≡ o
        → NearAct TLeave (Seeing [] c) (TheSeats.leaves p s t (q (Seeing [] c)) g0 below c o)
    near_leaves c at pl say None e = near_done c (k.words).end refl
    near_leaves c at pl say (Some T) e = go f.values refl below
      where
        go : (vs : List Val) → f.values ≡ vs → (bl : List Frame)
            → NearAct TLeave (Seeing [] c) (TheSeats.leaves_to p s t (q (Seeing [] c)) vs bl)
        go [] ev bl =
            absurd (no_row (Seeing [] c) at
            (say ∙ ap (λ b. if b then leave_with f.values f.asked below else outcome.Waits)
            (left_all p pok s rs k ok t a f below n item is top c at pl)
            ∙ ap (λ o. leave_with f.values o below) e ∙ ap (λ vs. leave_with vs (Some T) below) ev))
        go (v ∷ vs) ev [] = inl refl
        go (v ∷ vs) ev (g ∷ bl) = inl refl

    near_saw : (u : ℕ) (left : List ℕ) (c : ℕ) (v : Val) (o : Option Val) → o ≡ Some v
        → NearAns TLeave (Seeing (u ∷ left) c) (k.words, TheWords.Result o)
    near_saw u left c v None e = none_some _ e
    near_saw u left c v (Some w) e = turned TLeave (Seeing (u ∷ left) c) (Seeing left c) refl
        (let l = leave_low c (words_of (k.words).lines) left in omega (arith, l))

    near_sees : (m : Micro) → Rank TLeave m ≡ 4 + length f.started
        → TheSeats.sees p s (q m) m g0 (words_of (k.words).lines) ≡ q (Seeing f.started (words_of (k.words).lines))
        → NearAns TLeave m (k.words, TheWords.Ends (k.words).end (words_of (k.words).lines))
    near_sees m e z =
        no_end TLeave m
        (subst (λ r. Near TLeave m false (record { words = k.words; seats = slice_set k.seats t r })) (sym z)
        (turned TLeave m (Seeing f.started (words_of (k.words).lines)) refl
        (subst (λ j. leave_rank (words_of (k.words).lines) (words_of (k.words).lines) f.started < j) (sym e)
        (let l = leave_low (words_of (k.words).lines) (words_of (k.words).lines) f.started in omega (arith, l)))))
        (k.words).end refl

    near_join : (m : Micro) (u : ℕ) (v : Val) (o : Option Val) → o ≡ Some v → NearAns (TJoin u) m (k.words, TheWords.Result o)
    near_join m u v None e = none_some _ e
    near_join m u v (Some w) e = inl refl

    -- a test of depth that is passed
    shallow_act : (T : Top) (m : Micro) (b : Bool) (N : Next) → b ≡ false → NearAct T m N → NearAct T m (if b then NRest else N)
    shallow_act T m true N e x = absurd (false≢true (sym e))
    shallow_act T m false N e x = x

    near_top : (m : Micro) → At m → ((d : ℕ → Option Val) → Finishes (fin k.seats) d → SeatBy p rs d t h (typ a) (state.Running f below) m)
        → (T : Top) → TopSays p c2 item g0 below T → IsReady (fin k.seats) f T → ((d : Cell) → m ≡ Seen d → ArmedTop d below T)
        → NearAct T m (next_top p s t (q m) m item g0 below T)
    near_top m at pl TLocal say rd ar = near_own m at say (own p s item g0 below) refl
    near_top m at pl (TMiss (Some j)) say rd ar = inl refl
    near_top m at pl (TMiss None) say rd ar = absurd (missing m at say)
      where
        missing : (m : Micro) → At m → TopSays p c2 item g0 below (TMiss None) → ⊥
        missing m at say = false≢true
            (sym (Rattle.word_machine.proofs.Lively.miss_goes p pok s rs k ok t a f below n item is top m at i None say) ∙ refl)
    near_top (Seen d) at pl (TCell b x v) say rd ar = near_armed d at b x v say (ar d refl)
    near_top m at pl (TCell b x v) say rd ar = near_word m at b x v say (omega arith) (cell_at h b x) refl
    near_top m at pl (TBlind b x new g) say rd ar = on_test (deep (state.Running g below)) _ _ (λ r. NearAct (TBlind b x new g) m r)
        (λ e. inl refl) (λ e. inl refl)
    near_top (Count c) at pl (TNew o g) say rd ar =
        shallow_act (TNew o g) (Count c) (deep (state.Running (has (val.Nil ∷ g.values) g) below))
        (NWants (TheWords.ADraw c (TheSeats.unfilled t o)))
        (let l = say.2 in fits_on p pok s rs k ok t a f below n item is top (frame_items (has (val.Nil ∷ g.values) g))
        (omega (arith, l)) sh)
        (near_draw c o g)
    near_top m at pl (TNew o g) say rd ar = no_end (TNew o g) m
        (turned (TNew o g) m (Count 0) refl (low (nat_eq 0 (heap_size h)) (length f.started))) (k.words).end refl
    near_top (Count c) at pl (TPrint args g) say rd ar =
        shallow_act (TPrint args g) (Count c) (deep (state.Running g below)) (NWants (TheWords.APrint c args))
        (let l = say.1 in fits_on p pok s rs k ok t a f below n item is top (frame_items g) (omega (arith, l)) sh)
        (near_print c (Count c) args g (λ e. two_differ c (words_of (k.words).lines) e) (k.words).end refl)
    near_top m at pl (TPrint args g) say rd ar =
        shallow_act (TPrint args g) m (deep (state.Running g below)) (NWants (TheWords.APrint 0 args))
        (let l = say.1 in fits_on p pok s rs k ok t a f below n item is top (frame_items g) (omega (arith, l)) sh)
        (near_print 0 m args g (λ e. low (nat_eq (words_of (k.words).lines) (words_of (k.words).lines)) (length f.started))
        (k.words).end refl)
    near_top m at pl TLook say rd ar = no_end TLook m (inl (near_went m at say (own p s item g0 below) refl)) (k.words).end refl
    near_top (Seeing [] c) at pl TLeave say rd ar = near_leaves c at pl say f.asked refl
    near_top (Seeing (u ∷ left) c) at pl TLeave say rd ar =
        let w = (pl (fin k.seats) (λ u v e. e)).1 in
        let v = all_at (fin k.seats) w.0 u left (subst (λ l. all_fin (fin k.seats) l ≡ true) w.1 rd) in
        near_saw u left c v.0 (TheWords.result_at (k.words).results u) ((ok.counts).results u ∙ v.1)
    near_top m at pl TLeave say rd ar = near_sees m refl refl
    near_top (Count c) at pl (TJoin u) say rd ar = near_join (Count c) u rd.0 (TheWords.result_at (k.words).results u)
        ((ok.counts).results u ∙ rd.1)
    near_top m at pl (TJoin u) say rd ar = no_end (TJoin u) m (turned (TJoin u) m (Count (words_of (k.words).lines)) refl (omega arith))
        (k.words).end refl
    near_top (Count c) at pl (TBegin x j d M args g) say rd ar =
        shallow_act (TBegin x j d M args g) (Count c) (deep (state.Running (put_begun g x 0) below))
        (NBegins c j M args (fresh_seat d M args))
        (let l = say.2 in let w = length-update g.handles x (Some 0) in fits_on p pok s rs k ok t a f below n item is top
        (frame_items (put_begun g x 0)) (omega (arith, l, w)) sh)
        (near_begin c x j d M args g)
    near_top m at pl (TBegin x j d M args g) say rd ar = no_end (TBegin x j d M args g) m
        (turned (TBegin x j d M args g) m (Count 1) refl (low (nat_eq 1 (length k.seats)) (length f.started))) (k.words).end refl

    -- ---- a step of the calculus says that the waits are over

    ready : (m : Micro) → At m → (c : Configuration) → step_of p (stands s k) t ≡ Some c → (T : Top) → TopSays p c1 item g0 below T
        → IsReady (fin k.seats) f T
    ready m at c e TLeave say = go (all_finished c1.threads f.started) refl
      where
        go : (b : Bool) → all_finished c1.threads f.started ≡ b → all_fin (fin k.seats) f.started ≡ true
        go true z = sym (all_same p pok s rs k ok t a f below n item is top m at f.started) ∙ z
        go false z =
            none_some _
            (sym (stepped p pok s rs k ok t a f below n m at item is top none outcome.Waits
            (say ∙ ap (λ b. if b then leave_with f.values f.asked below else outcome.Waits) z)) ∙ e)
    ready m at c e (TJoin u) say = go (finished c1.threads u) refl
      where
        go : (o : Option Val) → finished c1.threads u ≡ o → (v : Val) × (fin k.seats u ≡ Some v)
        go (Some v) z = (v, sym (fin_same p pok s rs k ok t a f below n item is top m at u) ∙ z)
        go None z = none_some _
            (sym (stepped p pok s rs k ok t a f below n m at item is top none outcome.Waits (say ∙ ap (λ o. join_of o g0 below) z)) ∙ e)
    ready m at c e TLocal say = tt
    ready m at c e (TMiss j) say = tt
    ready m at c e (TCell b x v) say = tt
    ready m at c e (TBlind b x new g) say = tt
    ready m at c e (TNew o g) say = tt
    ready m at c e (TPrint args g) say = tt
    ready m at c e TLook say = tt
    ready m at c e (TBegin x j d M args g) say = tt

  -- ---- a seat

  -- whether the tick is the step, or the thread is nearer to it
  abbrev Nearer : ℕ → Bool → Core → Type 0
  Nearer r b k' = (b ≡ true) ⊎ (rank p k' t < r)

  -- a rank behind a tick
  rank_after : (w : Words) (old x : Seat) → slice_get k.seats t ≡ Some old → rank p (record { words = w; seats = slice_set k.seats t x }) t
      ≡ seat_rank p w (length k.seats) x.micro x.state
  rank_after w old x at =
      ap (λ o. rank_in p (record { words = w; seats = slice_set k.seats t x }) o) (set_here k.seats t x old at)
      ∙ ap (λ l. seat_rank p w l x.micro x.state) (length-slice_set k.seats t x)

  -- a rank by the top item
  rank_is : (f : Frame) (below : List Frame) (item : Work) (is : List Work) → f.work ≡ item ∷ is → (m : Micro) → is_filling m ≡ false
      → (w : Words) (made : ℕ) → seat_rank p w made m (state.Running f below) ≡ top_rank w made (record f { work = is })
      (top_of p item (record f { work = is })) m
  rank_is f below item is top Quick e w made = ap (λ z. work_rank p w made Quick f z) top
  rank_is f below item is top (Seen d) e w made = ap (λ z. work_rank p w made (Seen d) f z) top
  rank_is f below item is top (Count c) e w made = ap (λ z. work_rank p w made (Count c) f z) top
  rank_is f below item is top (Seeing l c) e w made = ap (λ z. work_rank p w made (Seeing l c) f z) top
  rank_is f below item is top (Filling b l) e w made = absurd (false≢true (sym e))

  running : (c : Configuration) → step_of p (stands s k) t ≡ Some c → (a : Option Ty) (f : Frame) (below : List Frame) (n : ℕ) (m : Micro)
      → is_filling m ≡ false → slice_get k.seats t ≡ Some (record { asked = a; state = state.Running f below; steps = n; micro = m })
      → IsWellTypedState p rs t h (typ a) (state.Running f below)
      → ((d : ℕ → Option Val) → Finishes (fin k.seats) d → SeatBy p rs d t h (typ a) (state.Running f below) m)
      → deep (state.Running f below) ≡ false → ((d : Cell) → m ≡ Seen d → ArmedWork p d f below f.work) → (w : List Work) → f.work ≡ w →
      Nearer (seat_rank p k.words (length k.seats) m (state.Running f below))
      (TheTicks.next_steps p s k.words (length k.seats) (TheTicks.work_steps p s f below w)
      (TheSeats.next_work p s t (record { asked = a; state = state.Running f below; steps = n; micro = m }) m f below w))
      (acted s k t (TheSeats.resume_work p s (record { asked = a; state = state.Running f below; steps = n; micro = m }) m f below w)
      (TheSeats.next_work p s t (record { asked = a; state = state.Running f below; steps = n; micro = m }) m f below w))
  running c e a f below n m nf at i pl sh ar [] top = absurd
      ((subst (λ w. IsWellTypedTop p (around (i.0).scope f.asked rs t) h [] w f.values (i.0).types) top (i.0).work).1)
  running c e a f below n m nf at i pl sh ar (item ∷ is) top =
      let g0 : Frame = record f { work = is } in
      let T = top_of p item g0 in
      ⊎_elim inl
      (λ z. inr
      (subst (λ k'. rank p k' t < seat_rank p k.words (length k.seats) m (state.Running f below)) (sym z.2)
      (subst (λ j. j < seat_rank p k.words (length k.seats) m (state.Running f below))
      (sym (rank_after k.words (record { asked = a; state = state.Running f below; steps = n; micro = m })
      (record { asked = a; state = state.Running f below; steps = n; micro = z.0 }) at ∙ rank_is f below item is top z.0 z.1 k.words
      (length k.seats)))
      (subst (λ j. top_rank k.words (length k.seats) g0 T z.0 < j) (sym (rank_is f below item is top m nf k.words (length k.seats))) z.3))))
      (near_top a f below n item is top i sh m at pl T (says p (typed p pok s rs k ok t) g0 below item)
      (ready a f below n item is top i sh m at c e T (says p (there p pok s rs k ok t) g0 below item))
      (λ d y. subst (λ w. ArmedWork p d f below w) top (ar d y)))

  abbrev Fails : Option Ty → End → ℕ → Micro → ℕ → Words × Answer → Type 0
  Fails a x n m r y = Nearer r (TheTicks.end_steps p s y.1)
      (answered s k t (TheSeats.resume_end p s (record { asked = a; state = state.Failing x; steps = n; micro = m })) y)

  failing : (a : Option Ty) (x : End) (n : ℕ) (m : Micro) → is_filling m ≡ false
      → slice_get k.seats t ≡ Some (record { asked = a; state = state.Failing x; steps = n; micro = m }) → (o : Option End)
      → (k.words).end ≡ o →
      Fails a x n m (one_or_two (nat_eq (guess m) (words_of (k.words).lines))) (TheWords.record_end s k.words (guess m) x o)
  failing a x n m nf at (Some z) e = none_some _ (sym none ∙ e)
  failing a x n m nf at None e = go (nat_eq (guess m) (words_of (k.words).lines)) refl
    where
      go : (b : Bool) → nat_eq (guess m) (words_of (k.words).lines) ≡ b →
          Fails a x n m (one_or_two b) (if b then (record k.words { end = Some x }, TheWords.Kept)
          else (k.words, TheWords.Ends None (words_of (k.words).lines)))
      go true z = inl refl
      go false z = inr
          (subst (λ j. j < 2)
          (sym (rank_after k.words (record { asked = a; state = state.Failing x; steps = n; micro = m })
          (record { asked = a; state = state.Failing x; steps = n; micro = Count (words_of (k.words).lines) }) at
          ∙ ap one_or_two (nat_eq-refl (words_of (k.words).lines)))) (omega arith))

  -- behind its fills a thread is at its base
  quick_low : (w : Words) (made : ℕ) (st : State) → seat_rank p w made Quick st < base_rank st + 1
  quick_low w made (state.Running f below) = go f.work
    where
      by_top : (f : Frame) (T : Top) → top_rank w made f T Quick < 5 + length f.started + 1
      by_top f TLocal = omega arith
      by_top f (TMiss j) = omega arith
      by_top f (TCell a x v) = omega arith
      by_top f (TBlind a x new g) = omega arith
      by_top f (TNew o g) = omega arith
      by_top f (TPrint args g) = omega arith
      by_top f TLook = omega arith
      by_top f TLeave = omega arith
      by_top f (TJoin u) = omega arith
      by_top f (TBegin x j d m args g) = omega arith

      go : (z : List Work) → work_rank p w made Quick f z < 5 + length f.started + 1
      go [] = omega arith
      go (i ∷ is) = by_top (record f { work = is }) (top_of p i (record f { work = is }))
  quick_low w made (state.Failing e) = go (nat_eq 0 (words_of w.lines))
    where
      go : (b : Bool) → one_or_two b < 3 + 1
      go true = omega arith
      go false = omega arith
  quick_low w made (state.Finished v) = omega arith
  quick_low w made state.Stopped = omega arith

  filled : (a : Option Ty) (st : State) (n b left : ℕ)
      → slice_get k.seats t ≡ Some (record { asked = a; state = st; steps = n; micro = Filling b left }) → nat_eq left 0 ≡ false
      → rank p (tick_seat p s k t (Some (record { asked = a; state = st; steps = n; micro = Filling b left }))) t < base_rank st + left
  filled a st n b left at e =
      let w = (TheWords.apply s k.words (TheWords.AFill b)).0 in
      subst (λ j. j < base_rank st + left)
      (sym (rank_after w (record { asked = a; state = st; steps = n; micro = Filling b left })
      (record { asked = a; state = st; steps = n; micro = filling b (left - 1) }) at)) (go w left e)
    where
      go : (w : Words) (l : ℕ) → nat_eq l 0 ≡ false → seat_rank p w (length k.seats) (filling b (l - 1)) st < base_rank st + l
      go w zero y = absurd (false≢true (sym y))
      go w (suc j) y = subst (λ z. seat_rank p w (length k.seats) (filling b z) st < base_rank st + suc j) (less j) (by_rest w j)
        where
          less : (x : ℕ) → x ≡ suc x - 1
          less x = omega arith

          by_rest : (w : Words) (x : ℕ) → seat_rank p w (length k.seats) (filling b x) st < base_rank st + suc x
          by_rest w zero = let l = quick_low w (length k.seats) st in omega (arith, l)
          by_rest w (suc x) = omega arith

  -- ---- any seat with a step

  no_seat : slice_get k.seats t ≡ None → step_of p (stands s k) t ≡ None
  unfolding step_of
  no_seat e = ap (λ o. step_at p t o (stands s k)) (gone k.seats t e)
    where
      gone : (l : List Seat) (u : ℕ) → slice_get l u ≡ None → slice_get (TheTicks.threads_of l) u ≡ None
      gone [] u i = refl
      gone (x ∷ l) zero i = none_some _ (sym i)
      gone (x ∷ l) (suc u) i = gone l u i

  pub no_step : (a : Option Ty) (st : State) (n : ℕ) (m : Micro)
      → slice_get k.seats t ≡ Some (record { asked = a; state = st; steps = n; micro = m }) → rests_still st ≡ true
      → step_of p (stands s k) t ≡ None
  unfolding step_of
  no_step a (state.Finished v) n m at e = ap (λ o. step_at p t o (stands s k))
      (threads_get k.seats t (record { asked = a; state = state.Finished v; steps = n; micro = m }) at)
  no_step a state.Stopped n m at e = ap (λ o. step_at p t o (stands s k))
      (threads_get k.seats t (record { asked = a; state = state.Stopped; steps = n; micro = m }) at)
  no_step a (state.Running f below) n m at e = absurd (false≢true e)
  no_step a (state.Failing x) n m at e = absurd (false≢true e)

  no_seen : {A : Type 0} (m : Micro) → Rattle.word_machine.proofs.Lively.plain m ≡ true → (d : Cell) → m ≡ Seen d → A
  no_seen {A = A} m e d i = absurd (false≢true (sym (ap Rattle.word_machine.proofs.Lively.plain i) ∙ e))

  left_more : (rs' : List Ty) (R : Ty) (st : State) (b left : ℕ) → FillOk p rs' t h R st b left → nat_eq left 0 ≡ false
  left_more rs' R st b left i = ap (λ n. nat_eq n 0) (sym i.waits) ∙ i.hides

  abbrev Seat_near : Option Ty → State → ℕ → Micro → Type 0
  Seat_near a st n m = Nearer (seat_rank p k.words (length k.seats) m st)
      (TheTicks.seat_steps p s k t (Some (record { asked = a; state = st; steps = n; micro = m })))
      (tick_seat p s k t (Some (record { asked = a; state = st; steps = n; micro = m })))

  seat_near : (c : Configuration) → step_of p (stands s k) t ≡ Some c → (a : Option Ty) (st : State) (n : ℕ) (m : Micro)
      → slice_get k.seats t ≡ Some (record { asked = a; state = st; steps = n; micro = m }) → SeatBy p rs (fin k.seats) t h (typ a) st m
      → Lively p (record { asked = a; state = st; steps = n; micro = m }) → Seat_near a st n m
  seat_near c e a st n (Filling b left) at i l = inr (filled a st n b left at (left_more rs (typ a) st b left i))
  seat_near c e a (state.Running f below) n Quick at i l = running c e a f below n Quick refl at i (λ d y. i) l.0
      (λ d z. no_seen Quick refl d z) f.work refl
  seat_near c e a (state.Running f below) n (Seen x) at i l = running c e a f below n (Seen x) refl at i (λ d y. i) l.0
      (λ d z. subst (λ y. ArmedWork p y f below f.work) (ap (cell_in x) z) l.1) f.work refl
    where
      cell_in : Cell → Micro → Cell
      cell_in z (Seen y) = y
      cell_in z m = z
  seat_near c e a (state.Running f below) n (Count x) at i l = running c e a f below n (Count x) refl at i (λ d y. i) l.0
      (λ d z. no_seen (Count x) refl d z) f.work refl
  seat_near c e a (state.Running f below) n (Seeing left x) at i l = running c e a f below n (Seeing left x) refl at i.0
      (λ d y. (i.0, seen_grows (fin k.seats) d y (state.Running f below) left i.1)) l.0
      (λ d z. no_seen (Seeing left x) refl d z) f.work refl
  seat_near c e a (state.Failing x) n Quick at i l = failing a x n Quick refl at (k.words).end refl
  seat_near c e a (state.Failing x) n (Seen d) at i l = failing a x n (Seen d) refl at (k.words).end refl
  seat_near c e a (state.Failing x) n (Count j) at i l = failing a x n (Count j) refl at (k.words).end refl
  seat_near c e a (state.Failing x) n (Seeing left j) at i l = failing a x n (Seeing left j) refl at (k.words).end refl
  seat_near c e a (state.Finished v) n m at i l = none_some _ (sym (no_step a (state.Finished v) n m at refl) ∙ e)
  seat_near c e a state.Stopped n m at i l = none_some _ (sym (no_step a state.Stopped n m at refl) ∙ e)

  at_near : (c : Configuration) → step_of p (stands s k) t ≡ Some c → AllLively p small s k.seats → (o : Option Seat)
      → slice_get k.seats t ≡ o → Nearer (rank_in p k o) (TheTicks.seat_steps p s k t o) (tick_seat p s k t o)
  at_near c e all None at = none_some _ (sym (no_seat at) ∙ e)
  at_near c e all (Some x) at = seat_near c e x.asked x.state x.steps x.micro at (ok.seats t x at) (all t x at)

  pub near : (c : Configuration) → step_of p (stands s k) t ≡ Some c → AllLively p small s k.seats
      → Nearer (rank p k t) (tick_steps p s k t) (tick p s k t)
  near c e all = at_near c e all (slice_get k.seats t) refl
