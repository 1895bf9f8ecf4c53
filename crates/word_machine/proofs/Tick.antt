-- One tick of one thread is one step of the calculus or none.
use Rattle.std.proofs.Common.{◌≡◌, ◌<◌, inl, ⊎_elim, ℕ, zero, suc, ◌+◌, ◌-◌, Bool, true, false, List, [], ◌∷◌, ◌++◌, length, Option, Some}
use Rattle.std.proofs.Common.{None, nat_eq, nat_le, nat_lt, if◌then◌else◌, refl, sym, ap, ap₂, ◌∙◌, subst, arith, slice_get, slice_set}
use Rattle.std.proofs.Common.{is_some, ◌&&◌}
use Rattle.std.proofs.lemmas.Bool.{and_from, and_parts, false≢true, leb-false}
use Rattle.std.proofs.lemmas.Bool.Decides.{Decides-int_eq}
use Rattle.mono_list.proofs.Cases.{none_some, some_is}
use Rattle.mono_syntax.specs.Ty.{Ty}
use Rattle.mono_syntax.specs.declared.value.Val.{Val}
use Rattle.mono_syntax.specs.declared.value.Val.TheVariants as val
use Rattle.mono_syntax.specs.declared.cast.CastScript.{CastScript}
use Rattle.mono_syntax.specs.declared.cast.CastFunction.{CastFunction}
use Rattle.mono_tree.specs.TypedPrograms.{IsTypedProgram}
use Rattle.mono_tree.proofs.TypeLaws.{bytes_eq-same}
use Rattle.cast_machine.specs.declared.data.Cell.{Cell}
use Rattle.cast_machine.specs.declared.data.End.{End}
use Rattle.cast_machine.specs.declared.data.End.TheVariants as ends
use Rattle.cast_machine.specs.declared.data.Frame.{Frame}
use Rattle.cast_machine.specs.declared.data.Object.{Object}
use Rattle.cast_machine.specs.declared.data.Settings.{Settings}
use Rattle.cast_machine.specs.declared.data.State.{State}
use Rattle.cast_machine.specs.declared.data.State.TheVariants as state
use Rattle.cast_machine.specs.declared.data.Change.TheVariants as change
use Rattle.cast_machine.specs.declared.data.Outcome.{Outcome}
use Rattle.cast_machine.specs.declared.data.Outcome.TheVariants as outcome
use Rattle.cast_machine.specs.declared.data.Verdict.{Verdict}
use Rattle.cast_machine.specs.declared.data.Verdict.TheVariants as verdict
use Rattle.cast_machine.specs.declared.data.Work.{Work}
use Rattle.cast_machine.specs.Maps.{lookup, keys}
use Rattle.mono_tree.specs.CastScripts.{class_names}
use Rattle.cast_machine.specs.Heap.{Heap, size, heap_size, object_at, cell_in, cell_at, shape_in, set_cell}
use Rattle.cast_machine.specs.HeapTyping.{Extends, IsTyped, IsValueOf}
use Rattle.cast_machine.specs.Rows.{has, fails}
use Rattle.cast_machine.specs.Cells.{same_type, settle, on_cell, blaming}
use Rattle.cast_machine.specs.Calls.{all_finished, finished, join_of, leave_with, value_of, words_of}
use Rattle.cast_machine.specs.Step.{Configuration, act, frames_items, taken_out}
use Rattle.cast_machine.specs.Typing.{IsWellTypedState}
use Rattle.cast_machine.proofs.Grows.{HeapOk, has_grows, state_grows}
use Rattle.cast_machine.proofs.Heap.{length-update, nat_eq-same, object-new, cell-split, shape-split, on_test}
use Rattle.cast_machine.proofs.Obligations.{same_type-eq}
use Rattle.cast_machine.proofs.ThreadLists.{length-slice_set}
use Rattle.word_machine.specs.Seats.{Micro, Quick, Seen, Count, Filling, Seeing, Seat, Next, deep, after, moves, halts, turns, filling}
use Rattle.word_machine.specs.Seats.{unfilled, fresh_seat, put_begun, guess, next_top, resume_top}
use Rattle.word_machine.specs.Ticks.{Core, thread_of, threads_of, reveal, answered, acted, tick_seat, tick}
use Rattle.word_machine.specs.TopRows.{lift, FieldSays, TopSays}
use Rattle.word_machine.specs.Tops.{Top, TLocal, TMiss, TCell, TBlind, TNew, TPrint, TLook, TLeave, TJoin, TBegin, top_of, own}
use Rattle.word_machine.specs.Words.{Words, fill, Answer, same_val, same_cell}
use Rattle.word_machine.specs.Seats as TheSeats
use Rattle.word_machine.specs.Ticks as TheTicks
use Rattle.word_machine.specs.Words as TheWords
use Rattle.word_machine.proofs.Saying.{says}
use Rattle.word_machine.proofs.Reveal.{cell-reveal, cell-same, reveal-set, reveal-fill, reveal-size, reveal-more, object-set_cell}
use Rattle.word_machine.proofs.CoreOk.{HasClass, fin, all_fin, Finishes, seen_grows, extends_trans, full, FillOk, SeatBy, CoreOk, CountsOk}
use Rattle.word_machine.proofs.CoreOk.{counts_finish, keeps_refl, threads_length}
use Rattle.word_machine.proofs.Waiting.{field_there, field_gone, top_value, if_shown, hidden_cell, hidden_shape, extends_more, keeps_more}
use Rattle.word_machine.proofs.Waiting.{extends_with, less, fill_here, extends_fill, keeps_fill, fill_split, fill_shape_split}
use Rattle.word_machine.proofs.Leaf.{Good, after_busy, counts_same, no_row, seat, typ, there, typed, ends_in, after_by, fin_out, kept}
use Rattle.word_machine.proofs.Leaf.{rest_leaf, still_leaf, look_leaf, halt_leaf, end_leaf, change_leaf, own_leaf, deep_leaf, done_leaf}
use Rattle.word_machine.proofs.Leaf.{begin_leaf}

same_val-eq : (v w : Val) → same_val v w ≡ true → v ≡ w
same_val-eq (val.Int n) (val.Int m) e = ap val.Int ((Decides-int_eq n m).0 e)
same_val-eq (val.Bool true) (val.Bool true) e = refl
same_val-eq (val.Bool false) (val.Bool false) e = refl
same_val-eq val.Nil val.Nil e = refl
same_val-eq (val.Text t) (val.Text u) e = ap val.Text (bytes_eq-same t u e)
same_val-eq (val.Obj c a) (val.Obj d b) e = let x = and_parts (nat_eq c d) (nat_eq a b) e in ap₂ val.Obj (nat_eq-same c d x.0)
    (nat_eq-same a b x.1)
same_val-eq (val.Fun f m) (val.Fun g n) e = let x = and_parts (nat_eq f g) (same_type m n) e in ap₂ val.Fun (nat_eq-same f g x.0)
    (same_type-eq m n x.1)
same_val-eq v w e = absurd (false≢true e)

same_cell-eq : (c d : Cell) → same_cell c d ≡ true → c ≡ d
same_cell-eq c d e =
    let x = and_parts (same_type c.ty d.ty) (same_val c.value d.value) e in
    ap₂ {A = Ty} {B = Val} {C = Cell} (λ T v. record { ty = T; value = v }) (same_type-eq c.ty d.ty x.0) (same_val-eq c.value d.value x.1)

pub suc_not_zero : (j : ℕ) → nat_eq (suc j) 0 ≡ false
suc_not_zero j = grind arith

below_limit : (n : ℕ) → nat_le 256 n ≡ false → n < 256
below_limit n e = leb-false 256 n e

module _ (p : CastScript) (pok : IsTypedProgram p) (s : Settings) (rs : List Ty) (k : Core) (ok : CoreOk p rs k) (t : ℕ) where
  abbrev h : Heap
  h = (k.words).heap

  abbrev Fine : Bool → Core → Type 0
  Fine z k' = Good p s rs k t z k'

  abbrev c1 : Configuration
  c1 = there p pok s rs k ok t

  abbrev c2 : Configuration
  c2 = typed p pok s rs k ok t

  abbrev ins : Seat → Words → Core
  ins q w = ends_in p pok s rs k ok t q w

  -- a running thread with an item on top; g0 is its frame without the item
  module _ (a : Option Ty) (f : Frame) (below : List Frame) (n : ℕ) (item : Work) (is : List Work) (top : f.work ≡ item ∷ is) where
    abbrev q : Micro → Seat
    q m = seat a (state.Running f below) n m

    abbrev g0 : Frame
    g0 = record f { work = is }

    abbrev At : Micro → Type 0
    At m = slice_get k.seats t ≡ Some (seat a (state.Running f below) n m)

    abbrev Typed : Type 0
    Typed = IsWellTypedState p rs t h (typ a) (state.Running f below)

    abbrev Plain : Micro → Type 0
    Plain m = (d : ℕ → Option Val) → Finishes (fin k.seats) d → SeatBy p rs d t h (typ a) (state.Running f below) m

    abbrev Says : Configuration → Top → Type 0
    Says c T = TopSays p c item g0 below T

    -- behind an answer, and behind the next action
    abbrev Ans : Micro → Top → Words × Answer → Type 0
    Ans m T r = Fine (TheTicks.top_steps p s item g0 below T r.1) (answered s k t (resume_top p s (q m) m item g0 below T) r)

    abbrev Act : Micro → Top → Next → Type 0
    Act m T r = Fine (TheTicks.next_steps p s k.words (length k.seats) (TheTicks.top_steps p s item g0 below T) r)
        (acted s k t (resume_top p s (q m) m item g0 below T) r)

    owns : (m : Micro) → At m → Typed → (st : State) → value_of st ≡ None → act p c1 item g0 below ≡ outcome.Moves change.Same st
        → act p c2 item g0 below ≡ outcome.Moves change.Same st → Fine true (ins (moves s (q m) Quick st) k.words)
    owns m at i st busy e1 e2 = own_leaf p pok s rs k ok t a f below n m at item is top i st busy e1 e2

    stills : (m m' : Micro) → At m → Plain m' → Fine false (ins (q m') k.words)
    stills m m' at pl = still_leaf p pok s rs k ok t a (state.Running f below) n m m' at pl

    ended : (m : Micro) → At m → (e : End) → (k.words).end ≡ Some e → Fine false (ins (halts (q m)) k.words)
    ended m at e i = halt_leaf p pok s rs k ok t a (state.Running f below) n m at refl e i

    rowless : (m : Micro) → At m → Typed → act p c2 item g0 below ≡ outcome.NoRow → ⊥
    rowless m at i e = no_row p pok s rs k ok t a f below n m at item is top i e

    kept_counts : (m m' : Micro) → At m → (st : State) → value_of st ≡ None → (w : Words) → w.results ≡ (k.words).results
        → CountsOk w (slice_set k.seats t (moves s (q m) m' st))
    kept_counts m m' at st busy w ws = counts_same p pok s rs k ok t w ws (q m) (moves s (q m) m' st) at (after_busy s (n + 1) st busy)

    -- ---- cells

    looked_ok : (m : Micro) → At m → Typed → Plain m → (b : ℕ) (x : List ℕ) (v : Cell → Verdict) → Says c1 (TCell b x v)
        → Says c2 (TCell b x v) → (d : Cell) → cell_at h b x ≡ Some d → (y : Verdict) → v d ≡ y
        → Fine (TheTicks.verdict_steps below y) (ins (TheSeats.looked p s (q m) below d y) k.words)
    looked_ok m at i pl b x v s1 s2 d here y is' = go y e1 e2
      where
        e1 : act p c1 item g0 below ≡ settle b x y below
        e1 = s1.1 ∙ ap (λ o. settle b x (on_cell s1.0 v o) below) (cell-reveal h b x d here) ∙ ap (λ z. settle b x z below) is'

        e2 : act p c2 item g0 below ≡ settle b x y below
        e2 = s2.1 ∙ ap (λ o. settle b x (on_cell s2.0 v o) below) here ∙ ap (λ z. settle b x z below) is'

        sets : (new : Cell) (g : Frame) → act p c1 item g0 below ≡ settle b x (verdict.Sets new g) below → (z : Bool)
            → deep (state.Running g below) ≡ z
            → Fine z (ins (if z then moves s (q m) Quick (state.Failing ends.DepthLimit) else turns (q m) (Seen d)) k.words)
        sets new g e true dp = deep_leaf p pok s rs k ok t a f below n m at item is top (change.Sets b x new) (state.Running g below) e dp
        sets new g e false dp = stills m (Seen d) at (λ e' y. i)

        go : (y : Verdict) → act p c1 item g0 below ≡ settle b x y below → act p c2 item g0 below ≡ settle b x y below
            → Fine (TheTicks.verdict_steps below y) (ins (TheSeats.looked p s (q m) below d y) k.words)
        go verdict.NoRow u w = stills m m at pl
        go (verdict.Goes g) u w = owns m at i (state.Running g below) refl u w
        go (verdict.Fails e) u w = owns m at i (state.Failing e) refl u w
        go (verdict.Sets new g) u w = sets new g u (deep (state.Running g below)) refl

    looked_at_ok : (m : Micro) → At m → Typed → Plain m → (b : ℕ) (x : List ℕ) (v : Cell → Verdict) → Says c1 (TCell b x v)
        → Says c2 (TCell b x v) → (o : Option Cell) → cell_at h b x ≡ o
        → Fine (TheTicks.look_steps below v o) (ins (TheSeats.looked_at p s (q m) below v o) k.words)
    looked_at_ok m at i pl b x v s1 s2 None e = stills m m at pl
    looked_at_ok m at i pl b x v s1 s2 (Some d) e = looked_ok m at i pl b x v s1 s2 d e (v d) refl

    -- the cell is set
    set_ok : (m : Micro) → At m → Typed → (b : ℕ) (x : List ℕ) (v : Cell → Verdict) → Says c1 (TCell b x v) → Says c2 (TCell b x v)
        → (d : Cell) → cell_at h b x ≡ Some d → (new : Cell) (g : Frame) → v d ≡ verdict.Sets new g → deep (state.Running g below) ≡ false
        → Fine true (ins (moves s (q m) Quick (state.Running g below)) (record k.words { heap = set_cell h b x new }))
    set_ok m at i b x v s1 s2 d here new g is' shallow =
        let e1 : act p c1 item g0 below ≡ settle b x (verdict.Sets new g) below = s1.1 ∙ ap (λ o. settle b x (on_cell s1.0 v o) below)
        (cell-reveal h b x d here) ∙ ap (λ z. settle b x z below) is' in
        let e2 : act p c2 item g0 below ≡ settle b x (verdict.Sets new g) below = s2.1 ∙ ap (λ o. settle b x (on_cell s2.0 v o) below) here
        ∙ ap (λ z. settle b x z below) is' in
        let kp = kept p pok s rs k ok t a f below n m at item is top i (change.Sets b x new) (state.Running g below) e2 in
        change_leaf p pok s rs k ok t a f below n m at item is top Quick (record k.words { heap = set_cell h b x new })
        (change.Sets b x new) (state.Running g below) e1 shallow
        (sym (reveal-set h b x new)) refl (λ _. ap (λ r. record c1 { heap = r }) (sym (reveal-set h b x new))) refl
        (record { grows = kp.grows; hidden = λ u o e w other. object-set_cell h b u x new d o here e w })
        kp.heap (λ d'. after_by p s rs t (set_cell h b x new) (typ a) (n + 1) (state.Running g below) kp.state) (λ z j. refl)
        (kept_counts m Quick at (state.Running g below) refl (record k.words { heap = set_cell h b x new }) refl)

    -- an exchange
    exchange_ok : (d : Cell) → At (Seen d) → Typed → (b : ℕ) (x : List ℕ) (v : Cell → Verdict) → Says c1 (TCell b x v)
        → Says c2 (TCell b x v) → (new : Cell) (g : Frame) → v d ≡ verdict.Sets new g → deep (state.Running g below) ≡ false
        → (o : Option Cell) → cell_at h b x ≡ o → Ans (Seen d) (TCell b x v) (TheWords.exchange s k.words b x d new o)
    exchange_ok d at i b x v s1 s2 new g is' shallow None e = stills (Seen d) (Seen d) at (λ e' y. i)
    exchange_ok d at i b x v s1 s2 new g is' shallow (Some now) e =
        on_test (same_cell d now) _ _ (λ r. Ans (Seen d) (TCell b x v) r)
        (λ yes.
        let here : cell_at h b x ≡ Some d = e ∙ ap Some (sym (same_cell-eq d now yes)) in
        subst (λ z. Fine true (ins (TheSeats.exchanged p s (q (Seen d)) below z) (record k.words { heap = set_cell h b x new }))) (sym is')
        (set_ok (Seen d) at i b x v s1 s2 d here new g is' shallow))
        (λ differs. looked_ok (Seen d) at i (λ e' y. i) b x v s1 s2 now e (v now) refl)

    armed_ok : (d : Cell) → At (Seen d) → Typed → (b : ℕ) (x : List ℕ) (v : Cell → Verdict) → Says c1 (TCell b x v) → Says c2 (TCell b x v)
        → (y : Verdict) → v d ≡ y → Act (Seen d) (TCell b x v) (TheSeats.armed p s t (q (Seen d)) below b x d y)
    armed_ok d at i b x v s1 s2 verdict.NoRow is' = rest_leaf p pok s rs k ok t
    armed_ok d at i b x v s1 s2 (verdict.Goes g) is' = rest_leaf p pok s rs k ok t
    armed_ok d at i b x v s1 s2 (verdict.Fails e) is' = rest_leaf p pok s rs k ok t
    armed_ok d at i b x v s1 s2 (verdict.Sets new g) is' =
        on_test (deep (state.Running g below)) _ _ (λ r. Act (Seen d) (TCell b x v) r)
        (λ dp. rest_leaf p pok s rs k ok t)
        (λ shallow. exchange_ok d at i b x v s1 s2 new g is' shallow (cell_at h b x) refl)

    -- a receiver that stands on the value list is an object that is shown
    receiver : Typed → (b : ℕ) (x : List ℕ) (z : Bool) (y : FieldSays p g0 b x z) → IsValueOf p h (val.Obj y.class b)
    receiver i b x z y = top_value p h f.values (i.0).types (val.Obj y.class b) y.rest y.is (i.0).values

    -- a store without a look
    blind_ok : (m : Micro) → At m → Typed → (b : ℕ) (x : List ℕ) (new : Cell) (g : Frame) → Says c1 (TBlind b x new g)
        → Says c2 (TBlind b x new g) → (z : Bool) → deep (state.Running g below) ≡ z
        → Act m (TBlind b x new g) (if z then TheSeats.NLocal (moves s (q m) Quick (state.Failing ends.DepthLimit))
        else TheSeats.NWants (TheWords.AStore b x new))
    blind_ok m at i b x new g s1 s2 z dp =
        let d = field_there p h ok.heap (s2.4).class b x (receiver i b x true s2.4) (s2.4).has in
        go d.0 d.1 z dp
      where
        go : (d : Cell) → cell_at h b x ≡ Some d → (z : Bool) → deep (state.Running g below) ≡ z
            → Act m (TBlind b x new g) (if z then TheSeats.NLocal (moves s (q m) Quick (state.Failing ends.DepthLimit))
            else TheSeats.NWants (TheWords.AStore b x new))
        go d here true e =
            deep_leaf p pok s rs k ok t a f below n m at item is top (change.Sets b x new) (state.Running g below)
            (s1.2 ∙ ap (λ o. settle b x (on_cell s1.0 s1.1 o) below) (cell-reveal h b x d here) ∙ ap (λ y. settle b x y below) (s1.3 d)) e
        go d here false e = set_ok m at i b x s2.1 (s1.0, s1.2 ∙ both (cell_at (reveal h) b x), inl s1.4)
            (s2.0, s2.2, inl s2.4) d here new g (s2.3 d) e
          where
            both : (o : Option Cell) → settle b x (on_cell s1.0 s1.1 o) below ≡ settle b x (on_cell s1.0 s2.1 o) below
            both None = refl
            both (Some y) = ap (λ w. settle b x w below) (s1.3 y ∙ sym (s2.3 y))

    -- a field that the receiver's class hasn't
    miss_ok : (m : Micro) → At m → Typed → (j : Option ℕ) → Says c1 (TMiss j) → Says c2 (TMiss j)
        → Act m (TMiss j) (TheSeats.misses p s t (q m) j)
    miss_ok m at i None s1 s2 = rest_leaf p pok s rs k ok t
    miss_ok m at i (Some j) s1 s2 =
        let v1 = receiver i s1.0 s1.1 false s1.3 in
        let v2 = receiver i s2.0 s2.1 false s2.3 in
        let g1 = field_gone p h ok.heap (s1.3).class s1.0 s1.1 v1 (s1.3).has in
        let g2 = field_gone p h ok.heap (s2.3).class s2.0 s2.1 v2 (s2.3).has in
        owns m at i (state.Failing (ends.Blame j)) refl
        (s1.4 ∙ ap (λ o. settle s1.0 s1.1 (on_cell (blaming (Some j)) s1.2 o) below) (cell-same h s1.0 s1.1 (s1.3).class v1.0 v1.1 ∙ g1))
        (s2.4 ∙ ap (λ o. settle s2.0 s2.1 (on_cell (blaming (Some j)) s2.2 o) below) g2)

    -- ---- a step by itself

    local_ok : (m : Micro) → At m → Typed → act p c1 item g0 below ≡ lift (own p s item g0 below)
        → act p c2 item g0 below ≡ lift (own p s item g0 below) → (o : Option State) → own p s item g0 below ≡ o
        → Act m TLocal (TheSeats.goes_own p s t (q m) o)
    local_ok m at i s1 s2 None e = absurd (rowless m at i (s2 ∙ ap lift e))
    local_ok m at i s1 s2 (Some (state.Running g b)) e = owns m at i (state.Running g b) refl (s1 ∙ ap lift e) (s2 ∙ ap lift e)
    local_ok m at i s1 s2 (Some (state.Failing x)) e = owns m at i (state.Failing x) refl (s1 ∙ ap lift e) (s2 ∙ ap lift e)
    local_ok m at i s1 s2 (Some (state.Finished v)) e = absurd (rowless m at i (s2 ∙ ap lift e))
    local_ok m at i s1 s2 (Some state.Stopped) e = owns m at i state.Stopped refl (s1 ∙ ap lift e) (s2 ∙ ap lift e)

    went_ok : (m : Micro) → At m → Typed → Plain m → act p c1 item g0 below ≡ lift (own p s item g0 below)
        → act p c2 item g0 below ≡ lift (own p s item g0 below) → (o : Option State) → own p s item g0 below ≡ o
        → Fine (is_some o) (ins (TheSeats.went_own p s (q m) o) k.words)
    went_ok m at i pl s1 s2 None e = absurd (rowless m at i (s2 ∙ ap lift e))
    went_ok m at i pl s1 s2 (Some (state.Running g b)) e = owns m at i (state.Running g b) refl (s1 ∙ ap lift e) (s2 ∙ ap lift e)
    went_ok m at i pl s1 s2 (Some (state.Failing x)) e = owns m at i (state.Failing x) refl (s1 ∙ ap lift e) (s2 ∙ ap lift e)
    went_ok m at i pl s1 s2 (Some (state.Finished v)) e = absurd (rowless m at i (s2 ∙ ap lift e))
    went_ok m at i pl s1 s2 (Some state.Stopped) e = owns m at i state.Stopped refl (s1 ∙ ap lift e) (s2 ∙ ap lift e)

    -- a look at the end, and then the step
    look_ok : (m : Micro) → At m → Typed → Plain m → Says c1 TLook → Says c2 TLook → (o : Option End) → (k.words).end ≡ o
        → Ans m TLook (k.words, TheWords.Ends o (words_of (k.words).lines))
    look_ok m at i pl s1 s2 None e = went_ok m at i pl s1 s2 (own p s item g0 below) refl
    look_ok m at i pl s1 s2 (Some x) e = ended m at x e

    -- ---- a join

    pub fin_same : (m : Micro) → At m → (u : ℕ) → finished c1.threads u ≡ fin k.seats u
    fin_same m at u = fin_out p pok s rs k ok t u (q m) at refl

    join_look : (m : Micro) → At m → Typed → (u : ℕ) → (e : Option End) → (k.words).end ≡ e
        → Ans m (TJoin u) (k.words, TheWords.Ends e (words_of (k.words).lines))
    join_look m at i u None e = stills m (Count (words_of (k.words).lines)) at (λ d y. i)
    join_look m at i u (Some x) e = ended m at x e

    join_ok : (m : Micro) → At m → Typed → (u : ℕ) → Says c1 (TJoin u) → Says c2 (TJoin u) → (o : Option Val) → fin k.seats u ≡ o
        → Ans m (TJoin u) (k.words, TheWords.Result o)
    join_ok m at i u s1 s2 None e = stills m Quick at (λ d y. i)
    join_ok m at i u s1 s2 (Some v) e =
        owns m at i (state.Running (has (v ∷ f.values) g0) below) refl
        (s1 ∙ ap (λ o. join_of o g0 below) (fin_same m at u ∙ e)) (s2 ∙ ap (λ o. join_of o g0 below) (fin_same m at u ∙ e))

    -- ---- leaving a frame, or main's end

    sees_ok : (m : Micro) → At m → Typed → Plain m → Fine false (ins (TheSeats.sees p s (q m) m g0 (words_of (k.words).lines)) k.words)
    sees_ok (Seeing [] j) at i pl = stills (Seeing [] j) (Seeing [] (words_of (k.words).lines)) at pl
    sees_ok (Seeing (u ∷ left) j) at i pl = stills (Seeing (u ∷ left) j) (Seeing f.started (words_of (k.words).lines)) at
        (λ d y. (i, ([], refl, refl)))
    sees_ok m at i pl = stills m (Seeing f.started (words_of (k.words).lines)) at (λ d y. (i, ([], refl, refl)))

    leave_look : (m : Micro) → At m → Typed → Plain m → (o : Option End) → (k.words).end ≡ o
        → Ans m TLeave (k.words, TheWords.Ends o (words_of (k.words).lines))
    leave_look m at i pl None e = sees_ok m at i pl
    leave_look m at i pl (Some x) e = ended m at x e

    done_ok : (c : ℕ) (m : Micro) → At m → Typed → Plain m → f.asked ≡ None
        → act p c1 item g0 below ≡ outcome.Moves (change.Ends ends.Done) state.Stopped → (o : Option End) → (k.words).end ≡ o
        → Ans m TLeave (TheWords.record_end s k.words c ends.Done o)
    done_ok c m at i pl ea s1 (Some x) e = ended m at x e
    done_ok c m at i pl ea s1 None e =
        on_test (nat_eq c (words_of (k.words).lines)) _ _ (λ r. Ans m TLeave r)
        (λ yes.
        subst (λ o. Fine true (ins (TheSeats.left_as p s (q m) o f.values) (record k.words { end = Some ends.Done }))) (sym ea)
        (done_leaf p pok s rs k ok t a f below n m at item is top e s1))
        (λ differs. sees_ok m at i pl)

    append_one : (xs : List ℕ) (u : ℕ) (left : List ℕ) → xs ++ u ∷ left ≡ (xs ++ u ∷ []) ++ left
    append_one [] u left = refl
    append_one (x ∷ xs) u left = ap (λ l. x ∷ l) (append_one xs u left)

    append_none : (l : List ℕ) → l ++ [] ≡ l
    append_none [] = refl
    append_none (x ∷ l) = ap (λ r. x ∷ r) (append_none l)

    all_one : (d : ℕ → Option Val) (xs : List ℕ) (u : ℕ) (v : Val) → all_fin d xs ≡ true → d u ≡ Some v → all_fin d (xs ++ u ∷ []) ≡ true
    all_one d [] u v e i = ap (λ o. is_some o && true) i
    all_one d (x ∷ xs) u v e i = let y = and_parts (is_some (d x)) (all_fin d xs) e in and_from (is_some (d x))
        (all_fin d (xs ++ u ∷ [])) y.0 (all_one d xs u v y.1 i)

    saw_ok : (u : ℕ) (left : List ℕ) (c : ℕ) → At (Seeing (u ∷ left) c) → Typed → Plain (Seeing (u ∷ left) c) → (o : Option Val)
        → fin k.seats u ≡ o → Ans (Seeing (u ∷ left) c) TLeave (k.words, TheWords.Result o)
    saw_ok u left c at i pl None e = stills (Seeing (u ∷ left) c) Quick at (λ d y. i)
    saw_ok u left c at i pl (Some v) e =
        stills (Seeing (u ∷ left) c) (Seeing left c) at
        (λ d y. let z = (pl d y).1 in (i, (z.0 ++ u ∷ [], z.1 ∙ append_one z.0 u left, all_one d z.0 u v z.2 (y u v e))))

    -- all are finished
    pub all_same : (m : Micro) → At m → (us : List ℕ) → all_finished c1.threads us ≡ all_fin (fin k.seats) us
    all_same m at [] = refl
    all_same m at (u ∷ us) = ap₂ (λ x y. is_some x && y) (fin_same m at u) (all_same m at us)

    pub left_all : (c : ℕ) → At (Seeing [] c) → Plain (Seeing [] c) → all_finished c1.threads f.started ≡ true
    left_all c at pl = let z = (pl (fin k.seats) (λ u v e. e)).1 in all_same (Seeing [] c) at f.started
        ∙ ap (all_fin (fin k.seats)) (z.1 ∙ append_none z.0) ∙ z.2

    leaves_ok : (c : ℕ) → At (Seeing [] c) → Typed → Plain (Seeing [] c) → Says c1 TLeave → Says c2 TLeave → (o : Option Ty) → f.asked ≡ o
        → Act (Seeing [] c) TLeave (TheSeats.leaves p s t (q (Seeing [] c)) g0 below c o)
    leaves_ok c at i pl s1 s2 None e = done_ok c (Seeing [] c) at i pl e
        (s1 ∙ ap (λ b. if b then leave_with f.values f.asked below else outcome.Waits) (left_all c at pl)
        ∙ ap (λ o. leave_with f.values o below) e) (k.words).end refl
    leaves_ok c at i pl s1 s2 (Some T) e = go f.values refl below refl
      where
        e1 : act p c1 item g0 below ≡ leave_with f.values (Some T) below
        e1 = s1 ∙ ap (λ b. if b then leave_with f.values f.asked below else outcome.Waits) (left_all c at pl)
            ∙ ap (λ o. leave_with f.values o below) e

        e2 : act p c2 item g0 below ≡ leave_with f.values (Some T) below
        e2 = s2 ∙ ap (λ b. if b then leave_with f.values f.asked below else outcome.Waits) (left_all c at pl)
            ∙ ap (λ o. leave_with f.values o below) e

        with_these : (vs : List Val) → f.values ≡ vs → (bl : List Frame) → below ≡ bl
            → leave_with f.values (Some T) below ≡ leave_with vs (Some T) bl
        with_these vs ev bl eb = ap (λ x. leave_with x (Some T) below) ev ∙ ap (λ x. leave_with vs (Some T) x) eb

        go : (vs : List Val) → f.values ≡ vs → (bl : List Frame) → below ≡ bl
            → Act (Seeing [] c) TLeave (TheSeats.leaves_to p s t (q (Seeing [] c)) vs bl)
        go [] ev bl eb = absurd (rowless (Seeing [] c) at i (e2 ∙ with_these [] ev bl eb))
        go (v ∷ vs) ev [] eb =
            let st : State = state.Finished v in
            let kp = kept p pok s rs k ok t a f below n (Seeing [] c) at item is top i change.Same st (e2 ∙ with_these (v ∷ vs) ev [] eb) in
            subst (λ o. Fine true
            (ins (TheSeats.left_as p s (q (Seeing [] c)) o f.values) (record k.words { results = slice_set (k.words).results t (Some v) })))
            (sym e)
            (subst (λ us. Fine true
            (ins (TheSeats.left_as p s (q (Seeing [] c)) (Some T) us)
            (record k.words { results = slice_set (k.words).results t (Some v) })))
            (sym ev)
            (change_leaf p pok s rs k ok t a f below n (Seeing [] c) at item is top Quick
            (record k.words { results = slice_set (k.words).results t (Some v) }) change.Same st
            (e1 ∙ with_these (v ∷ vs) ev [] eb) refl refl refl (λ _. refl) refl
            (keeps_refl t h) ok.heap (λ d. after_by p s rs t h (typ a) (n + 1) st kp.state) (λ z j. refl)
            (counts_finish k.words k.seats t (q (Seeing [] c)) (moves s (q (Seeing [] c)) Quick st) v at refl ok.counts)))
        go (v ∷ vs) ev (g ∷ bl) eb = owns (Seeing [] c) at i (state.Running (has (v ∷ g.values) g) bl) refl
            (e1 ∙ with_these (v ∷ vs) ev (g ∷ bl) eb) (e2 ∙ with_these (v ∷ vs) ev (g ∷ bl) eb)

    -- ---- a print

    print_room : (m : Micro) → At m → Typed → (args : List Val) (g : Frame) → Says c1 (TPrint args g) → Says c2 (TPrint args g)
        → deep (state.Running g below) ≡ false → (k.words).end ≡ None → (b : Bool)
        → nat_le (words_of (k.words).lines + (length args + 1)) s.print ≡ b
        → Ans m (TPrint args g)
        (if b then (record k.words { lines = (k.words).lines ++ args ∷ [] }, TheWords.Drawn (words_of (k.words).lines))
        else (k.words, TheWords.Full))
    print_room m at i args g s1 s2 shallow none true room =
        let st : State = state.Running g below in
        let e1 : act p c1 item g0 below ≡ outcome.Moves (change.Says args) st = s1.0
        ∙ ap (λ b. if b then outcome.Moves (change.Says args) st else fails ends.PrintFull) room in
        let e2 : act p c2 item g0 below ≡ outcome.Moves (change.Says args) st = s2.0
        ∙ ap (λ b. if b then outcome.Moves (change.Says args) st else fails ends.PrintFull) room in
        let kp = kept p pok s rs k ok t a f below n m at item is top i (change.Says args) st e2 in
        change_leaf p pok s rs k ok t a f below n m at item is top Quick (record k.words { lines = (k.words).lines ++ args ∷ [] })
        (change.Says args) st e1 shallow refl refl (λ _. refl) refl
        (keeps_refl t h) ok.heap (λ d. after_by p s rs t h (typ a) (n + 1) st kp.state) (λ z j. none_some _ (sym none ∙ j))
        (kept_counts m Quick at st refl (record k.words { lines = (k.words).lines ++ args ∷ [] }) refl)
    print_room m at i args g s1 s2 shallow none false full' =
        owns m at i (state.Failing ends.PrintFull) refl
        (s1.0 ∙ ap (λ b. if b then outcome.Moves (change.Says args) (state.Running g below) else fails ends.PrintFull) full')
        (s2.0 ∙ ap (λ b. if b then outcome.Moves (change.Says args) (state.Running g below) else fails ends.PrintFull) full')

    print_ok : (c : ℕ) (m : Micro) → At m → Typed → (args : List Val) (g : Frame) → Says c1 (TPrint args g) → Says c2 (TPrint args g)
        → deep (state.Running g below) ≡ false → (o : Option End) → (k.words).end ≡ o
        → Ans m (TPrint args g) (TheWords.draw_print s k.words c args o)
    print_ok c m at i args g s1 s2 shallow (Some x) e = ended m at x e
    print_ok c m at i args g s1 s2 shallow None e =
        on_test (nat_eq c (words_of (k.words).lines)) _ _ (λ r. Ans m (TPrint args g) r)
        (λ yes. print_room m at i args g s1 s2 shallow e (nat_le (words_of (k.words).lines + (length args + 1)) s.print) refl)
        (λ differs. stills m (Count (words_of (k.words).lines)) at (λ e' y. i))

    -- ---- a new thread

    begin_look : (m : Micro) → At m → Typed → (x : List ℕ) (j : ℕ) (d : CastFunction) (M : Ty) (args : List Val) (g : Frame)
        → (e : Option End) → (k.words).end ≡ e → Ans m (TBegin x j d M args g) (k.words, TheWords.Ends e (words_of (k.words).lines))
    begin_look m at i x j d M args g None e = stills m (Count 1) at (λ d' y. i)
    begin_look m at i x j d M args g (Some z) e = ended m at z e

    module _ (m : Micro) (at : At m) (i : Typed) (y : List ℕ) (j : ℕ) (d : CastFunction) (M : Ty) (args : List Val) (g : Frame)
        (s1 : Says c1 (TBegin y j d M args g)) (s2 : Says c2 (TBegin y j d M args g)) where
      abbrev begun_state : ℕ → State
      begun_state u = state.Running (put_begun g y u) below

      abbrev makes : ℕ → Outcome
      makes u = outcome.Moves (change.Begins (thread_of (fresh_seat d M args))) (begun_state u)

      same_deep : (u v : ℕ) → deep (begun_state u) ≡ deep (begun_state v)
      same_deep u v = ap (λ l. nat_lt 16384 ((1 + (length g.names + (l + (length g.work + length g.values)))) + frames_items below))
          (length-update g.handles y (Some u) ∙ sym (length-update g.handles y (Some v)))

      made_same : length c1.threads ≡ length k.seats
      made_same = length-slice_set (threads_of k.seats) t taken_out ∙ threads_length k.seats

      e1 : act p c1 item g0 below ≡ (if nat_le 256 (length k.seats) then fails ends.ThreadLimit else makes (length k.seats))
      e1 = s1.0 ∙ ap (λ u. if nat_le 256 u then fails ends.ThreadLimit else makes u) made_same

      e2 : act p c2 item g0 below ≡ (if nat_le 256 (length k.seats) then fails ends.ThreadLimit else makes (length k.seats))
      e2 = s2.0 ∙ ap (λ u. if nat_le 256 u then fails ends.ThreadLimit else makes u) made_same

      abbrev taken : Answer → Seat
      taken z = resume_top p s (q m) m item g0 below (TBegin y j d M args g) z

      begin_room : deep (begun_state 0) ≡ false → (b : Bool) → nat_le 256 (length k.seats) ≡ b
          → Fine (TheTicks.top_steps p s item g0 below (TBegin y j d M args g) (if b then TheWords.Full
          else TheWords.Drawn (length k.seats)))
          (if b then answered s k t taken (k.words, TheWords.Full)
          else record {
            words = k.words;
            seats = slice_set k.seats t (taken (TheWords.Drawn (length k.seats))) ++ fresh_seat d M args ∷
                [];
          })
      begin_room shallow true b =
          owns m at i (state.Failing ends.ThreadLimit) refl
          (e1 ∙ ap (λ z. if z then fails ends.ThreadLimit else makes (length k.seats)) b)
          (e2 ∙ ap (λ z. if z then fails ends.ThreadLimit else makes (length k.seats)) b)
      begin_room shallow false b =
          begin_leaf p pok s rs k ok t a f below n m at item is top i (fresh_seat d M args) refl refl (below_limit (length k.seats) b)
          (begun_state (length k.seats)) refl
          (e1 ∙ ap (λ z. if z then fails ends.ThreadLimit else makes (length k.seats)) b)
          (e2 ∙ ap (λ z. if z then fails ends.ThreadLimit else makes (length k.seats)) b)
          (same_deep (length k.seats) 0 ∙ shallow)

      begin_ok : (c : ℕ) → deep (begun_state 0) ≡ false → Act m (TBegin y j d M args g) (TheSeats.NBegins c j M args (fresh_seat d M args))
      begin_ok c shallow = go (nat_eq c (length k.seats)) refl
        where
          go : (z : Bool) → nat_eq c (length k.seats) ≡ z
              → Fine (TheTicks.top_steps p s item g0 below (TBegin y j d M args g)
              (if z then (if nat_le 256 (length k.seats) then TheWords.Full else TheWords.Drawn (length k.seats))
              else TheWords.Counts (length k.seats)))
              (if z then (if nat_le 256 (length k.seats) then answered s k t taken (k.words, TheWords.Full)
              else record {
                words = k.words;
                seats = slice_set k.seats t (taken (TheWords.Drawn (length k.seats))) ++ fresh_seat d M args ∷
                    [];
              })
              else answered s k t taken (k.words, TheWords.Counts (length k.seats)))
          go true e = begin_room shallow (nat_le 256 (length k.seats)) refl
          go false e = stills m (Count (length k.seats)) at (λ d' z. i)

    -- ---- a new object

    new_look : (m : Micro) → At m → Typed → (o : Object) (g : Frame) → (e : Option End) → (k.words).end ≡ e
        → Ans m (TNew o g) (k.words, TheWords.Ends e (words_of (k.words).lines))
    new_look m at i o g None e = stills m (Count 0) at (λ e' y. i)
    new_look m at i o g (Some x) e = ended m at x e

    module _ (m : Micro) (at : At m) (i : Typed) (o : Object) (g : Frame) (s1 : Says c1 (TNew o g)) (s2 : Says c2 (TNew o g)) where
      abbrev new : Object
      new = unfilled t o

      abbrev h' : Heap
      h' = h ++ new ∷ []

      -- the state behind the step
      abbrev st : State
      st = state.Running (has (val.Obj o.class (heap_size h) ∷ g.values) g) below

      abbrev adds : ℕ → Outcome
      adds z = outcome.Moves (change.Adds o) (state.Running (has (val.Obj o.class z ∷ g.values) g) below)

      n1 : (b : Bool) → nat_le (heap_size h + size o) s.heap ≡ b
          → act p c1 item g0 below ≡ (if b then adds (heap_size h) else fails ends.HeapFull)
      n1 b room = s1.0 ∙ ap (λ z. if nat_le (z + size o) s.heap then adds z else fails ends.HeapFull) (reveal-size h)
          ∙ ap (λ z. if z then adds (heap_size h) else fails ends.HeapFull) room

      n2 : (b : Bool) → nat_le (heap_size h + size o) s.heap ≡ b
          → act p c2 item g0 below ≡ (if b then adds (heap_size h) else fails ends.HeapFull)
      n2 b room = s2.0 ∙ ap (λ z. if z then adds (heap_size h) else fails ends.HeapFull) room

      zero_waits : o.waits ≡ 0
      zero_waits = ap (λ (u : Object). u.waits) s2.1

      module _ (shallow : deep st ≡ false) (room : nat_le (heap_size h + size o) s.heap ≡ true) where
        heap_typed : HeapOk p (h ++ o ∷ [])
        heap_typed = (kept p pok s rs k ok t a f below n m at item is top i (change.Adds o) st (n2 true room)).heap

        state_typed : IsWellTypedState p rs t (h ++ o ∷ []) (typ a) (after s (n + 1) st)
        state_typed = after_by p s rs t (h ++ o ∷ []) (typ a) (n + 1) st
            (kept p pok s rs k ok t a f below n m at item is top i (change.Adds o) st (n2 true room)).state

        -- the new object in the heap in which it is shown
        at_o : object_at (h ++ o ∷ []) (heap_size h) ≡ Some o
        at_o = object-new h o

        cell_o : (x : List ℕ) (c : Cell) → lookup o.cells x ≡ Some c → cell_at (h ++ o ∷ []) (heap_size h) x ≡ Some c
        cell_o x c e = ap (λ r. cell_in r x) at_o ∙ ap (λ w. if nat_eq w 0 then lookup o.cells x else None) zero_waits ∙ e

        named_o : keys o.cells ≡ class_names p o.class
        named_o =
            let none : Option (ℕ × List (List ℕ)) = None in
            (heap_typed.own).named (heap_size h) o.class (keys o.cells)
            (ap shape_in at_o ∙ ap (λ w. if nat_eq w 0 then Some (o.class, keys o.cells) else none) zero_waits)

        class_o : HasClass p o.class
        class_o =
            let none : Option (ℕ × List (List ℕ)) = None in
            (heap_typed.own).classes (heap_size h) o.class (keys o.cells)
            (ap shape_in at_o ∙ ap (λ w. if nat_eq w 0 then Some (o.class, keys o.cells) else none) zero_waits)

        later : (w : Heap) → Extends h w → (u : Object) → object_at w (heap_size h) ≡ Some u → u.class ≡ o.class → u.cells ≡ o.cells
            → u.waits ≡ 0 → ((x : List ℕ) (c : Cell) → lookup o.cells x ≡ Some c → IsTyped p w c.value c.ty)
            × IsWellTypedState p rs t w (typ a) (after s (n + 1) st)
        later w y u au cl cs uw =
            let z = extends_with h w o zero_waits y u au cl cs uw in (
              λ x c e. has_grows p z c.value c.ty (
                (heap_typed.own).values (heap_size h) x c (cell_o x c e),
                (heap_typed.letter).typed (heap_size h) x c (cell_o x c e),
              ),
              state_grows p rs rs t (λ v U e. e) z (typ a) (after s (n + 1) st) state_typed,
            )

        old_typed : (b : ℕ) (x : List ℕ) (c : Cell) → cell_at h b x ≡ Some c → IsTyped p h' c.value c.ty
        old_typed b x c e = has_grows p (extends_more h new) c.value c.ty (((ok.heap).own).values b x c e, ((ok.heap).letter).typed b x c e)

        -- an object without fields is shown at once
        cells_by : (j : ℕ) → length o.cells ≡ j → (b : ℕ) (x : List ℕ) (c : Cell) → cell_at h' b x ≡ Some c → IsTyped p h' c.value c.ty
        cells_by zero e b x c d = ⊎_elim
            (λ old. old_typed b x c old)
            (λ fresh. (later h' (extends_more h new) new (object-new h new) refl refl e).0 x c fresh.1)
            (cell-split h new b x c d)
        cells_by (suc j) e b x c d = old_typed b x c (hidden_cell h new (ap (λ w. nat_eq w 0) e ∙ suc_not_zero j) b x c d)

        names_by : (j : ℕ) → length o.cells ≡ j → (b cl : ℕ) (ns : List (List ℕ))
            → Rattle.cast_machine.specs.Heap.shape_at h' b ≡ Some (cl, ns) → ns ≡ class_names p cl
        names_by zero e b cl ns d = ⊎_elim
            (λ old. ((ok.heap).own).named b cl ns old)
            (λ fresh.
            let y = some_is (if_shown (nat_eq new.waits 0) (Some (o.class, keys o.cells)) (cl, ns) fresh).1 in
            sym (ap (λ (r : ℕ × List (List ℕ)). r.1) y) ∙ named_o ∙ ap (λ (r : ℕ × List (List ℕ)). class_names p r.0) y)
            (shape-split h new b (cl, ns) d)
        names_by (suc j) e b cl ns d = ((ok.heap).own).named b cl ns
            (hidden_shape h new (ap (λ w. nat_eq w 0) e ∙ suc_not_zero j) b (cl, ns) d)

        classes_by : (j : ℕ) → length o.cells ≡ j → (b cl : ℕ) (ns : List (List ℕ))
            → Rattle.cast_machine.specs.Heap.shape_at h' b ≡ Some (cl, ns) → HasClass p cl
        classes_by zero e b cl ns d = ⊎_elim
            (λ old. ((ok.heap).own).classes b cl ns old)
            (λ fresh.
            let y = some_is (if_shown (nat_eq new.waits 0) (Some (o.class, keys o.cells)) (cl, ns) fresh).1 in
            subst (λ (r : ℕ × List (List ℕ)). HasClass p r.0) y class_o)
            (shape-split h new b (cl, ns) d)
        classes_by (suc j) e b cl ns d = ((ok.heap).own).classes b cl ns
            (hidden_shape h new (ap (λ w. nat_eq w 0) e ∙ suc_not_zero j) b (cl, ns) d)

        heap_by : HeapOk p h'
        heap_by = record {
          letter = record { typed = λ b x c d. (cells_by (length o.cells) refl b x c d).1 };
          own = record {
            values = λ b x c d. (cells_by (length o.cells) refl b x c d).0;
            named = λ b cl ns d. names_by (length o.cells) refl b cl ns d;
            classes = λ b cl ns d. classes_by (length o.cells) refl b cl ns d;
          };
        }

        seat_by : (d : ℕ → Option Val) (j : ℕ) → length o.cells ≡ j
            → SeatBy p rs d t h' (typ a) (after s (n + 1) st) (filling (heap_size h) j)
        seat_by d zero e = (later h' (extends_more h new) new (object-new h new) refl refl e).1
        seat_by d (suc j) e = record {
          object = new;
          at = object-new h new;
          waits = e;
          hides = ap (λ w. nat_eq w 0) e ∙ suc_not_zero j;
          maker = refl;
          named = named_o;
          class = class_o;
          busy = after_busy s (n + 1) (state.Running (has (val.Obj o.class (heap_size h) ∷ g.values) g) below) refl;
          typed = λ w y u. later w (extends_trans (extends_more h new) y) (full new) u refl refl refl;
        }

        drawn_ok : Fine true (ins (moves s (q m) (filling (heap_size h) (length o.cells)) st) (record k.words { heap = h' }))
        drawn_ok =
            change_leaf p pok s rs k ok t a f below n m at item is top (filling (heap_size h) (length o.cells))
            (record k.words { heap = h' }) (change.Adds o) st (n1 true room) shallow
            shown_h refl (λ _. ap (λ r. record c1 { heap = r }) shown_h) refl
            (keeps_more t h new) heap_by (λ d. seat_by d (length o.cells) refl) (λ z j. refl)
            (kept_counts m (filling (heap_size h) (length o.cells)) at st refl (record k.words { heap = h' }) refl)
          where
            shown_h : reveal h ++ o ∷ [] ≡ reveal h'
            shown_h = ap (λ r. reveal h ++ r ∷ []) s2.1 ∙ sym (reveal-more h new)

      new_room : deep st ≡ false → (b : Bool) → nat_le (heap_size h + size o) s.heap ≡ b
          → Ans m (TNew o g) (if b then (record k.words { heap = h' }, TheWords.Drawn (heap_size h)) else (k.words, TheWords.Full))
      new_room shallow true room = drawn_ok shallow room
      new_room shallow false room = owns m at i (state.Failing ends.HeapFull) refl (n1 false room) (n2 false room)

      draw_ok : (c : ℕ) → deep st ≡ false → Ans m (TNew o g) (TheWords.apply s k.words (TheWords.ADraw c (unfilled t o)))
      draw_ok c shallow =
          on_test (nat_eq c (heap_size h)) _ _ (λ r. Ans m (TNew o g) r)
          (λ yes. new_room shallow (nat_le (heap_size h + size o) s.heap) refl)
          (λ differs. stills m (Count (heap_size h)) at (λ e' y. i))

    -- ---- the top item

    pub top_ok : (m : Micro) → slice_get k.seats t ≡ Some (seat a (state.Running f below) n m)
        → IsWellTypedState p rs t (k.words).heap (typ a) (state.Running f below)
        → ((d : ℕ → Option Val) → Finishes (fin k.seats) d → SeatBy p rs d t (k.words).heap (typ a) (state.Running f below) m) → (T : Top)
        → TopSays p (there p pok s rs k ok t) item (record f { work = is }) below T
        → TopSays p (typed p pok s rs k ok t) item (record f { work = is }) below T
        → Good p s rs k t (TheTicks.next_steps p s k.words (length k.seats) (TheTicks.top_steps p s item (record f { work = is }) below T)
        (next_top p s t (seat a (state.Running f below) n m) m item (record f { work = is }) below T))
        (acted s k t (resume_top p s (seat a (state.Running f below) n m) m item (record f { work = is }) below T)
        (next_top p s t (seat a (state.Running f below) n m) m item (record f { work = is }) below T))
    top_ok m at i pl TLocal s1 s2 = local_ok m at i s1 s2 (own p s item g0 below) refl
    top_ok m at i pl (TMiss j) s1 s2 = miss_ok m at i j s1 s2
    top_ok (Seen d) at i pl (TCell b x v) s1 s2 = armed_ok d at i b x v s1 s2 (v d) refl
    top_ok m at i pl (TCell b x v) s1 s2 = looked_at_ok m at i pl b x v s1 s2 (cell_at h b x) refl
    top_ok m at i pl (TBlind b x new g) s1 s2 = blind_ok m at i b x new g s1 s2 (deep (state.Running g below)) refl
    top_ok (Count c) at i pl (TNew o g) s1 s2 =
        on_test (deep (state.Running (has (val.Nil ∷ g.values) g) below)) _ _ (λ r. Act (Count c) (TNew o g) r)
        (λ dp. rest_leaf p pok s rs k ok t)
        (λ shallow. draw_ok (Count c) at i o g s1 s2 c shallow)
    top_ok m at i pl (TNew o g) s1 s2 = new_look m at i o g (k.words).end refl
    top_ok m at i pl (TPrint args g) s1 s2 =
        on_test (deep (state.Running g below)) _ _ (λ r. Act m (TPrint args g) r)
        (λ dp. rest_leaf p pok s rs k ok t)
        (λ shallow. print_ok (guess m) m at i args g s1 s2 shallow (k.words).end refl)
    top_ok m at i pl TLook s1 s2 = look_ok m at i pl s1 s2 (k.words).end refl
    top_ok (Seeing [] c) at i pl TLeave s1 s2 = leaves_ok c at i pl s1 s2 f.asked refl
    top_ok (Seeing (u ∷ left) c) at i pl TLeave s1 s2 = saw_ok u left c at i pl (TheWords.result_at (k.words).results u)
        (sym ((ok.counts).results u))
    top_ok m at i pl TLeave s1 s2 = leave_look m at i pl (k.words).end refl
    top_ok (Count c) at i pl (TJoin u) s1 s2 = join_ok (Count c) at i u s1 s2 (TheWords.result_at (k.words).results u)
        (sym ((ok.counts).results u))
    top_ok m at i pl (TJoin u) s1 s2 = join_look m at i u (k.words).end refl
    top_ok (Count c) at i pl (TBegin y j d M args g) s1 s2 =
        on_test (deep (state.Running (put_begun g y 0) below)) _ _ (λ r. Act (Count c) (TBegin y j d M args g) r)
        (λ dp. rest_leaf p pok s rs k ok t)
        (λ shallow. begin_ok (Count c) at i y j d M args g s1 s2 c shallow)
    top_ok m at i pl (TBegin y j d M args g) s1 s2 = begin_look m at i y j d M args g (k.words).end refl

  -- a failing thread
  fail_ok : (a : Option Ty) (e : End) (n c : ℕ) (m : Micro) → slice_get k.seats t ≡ Some (seat a (state.Failing e) n m)
      → IsWellTypedState p rs t h (typ a) (state.Failing e) → (o : Option End) → (k.words).end ≡ o
      → Fine (TheTicks.end_steps p s (TheWords.record_end s k.words c e o).1)
      (answered s k t (TheSeats.resume_end p s (seat a (state.Failing e) n m)) (TheWords.record_end s k.words c e o))
  fail_ok a e n c m at i (Some x) d = halt_leaf p pok s rs k ok t a (state.Failing e) n m at refl x d
  fail_ok a e n c m at i None d =
      on_test (nat_eq c (words_of (k.words).lines)) _ _
      (λ r. Fine (TheTicks.end_steps p s r.1) (answered s k t (TheSeats.resume_end p s (seat a (state.Failing e) n m)) r))
      (λ yes. end_leaf p pok s rs k ok t a e n m at d)
      (λ differs. still_leaf p pok s rs k ok t a (state.Failing e) n m (Count (words_of (k.words).lines)) at (λ e' y. i))

  -- one word of an own object is filled
  module _ (a : Option Ty) (st : State) (n b left : ℕ) (at : slice_get k.seats t ≡ Some (seat a st n (Filling b left)))
      (i : FillOk p rs t (k.words).heap (typ a) st b left) where
    grown : Extends h (fill h b)
    grown = extends_fill h b i.object i.at i.hides

    now_full : nat_eq ((i.object).waits - 1) 0 ≡ true → object_at (fill h b) b ≡ Some (full i.object)
    now_full e = fill_here h b i.object i.at ∙ ap (λ w. Some (record i.object { waits = w })) (nat_eq-same ((i.object).waits - 1) 0 e)

    filled_cells : (u : ℕ) (x : List ℕ) (c : Cell) → cell_at (fill h b) u x ≡ Some c → IsTyped p (fill h b) c.value c.ty
    filled_cells u x c e = ⊎_elim
        (λ old. has_grows p grown c.value c.ty (((ok.heap).own).values u x c old, ((ok.heap).letter).typed u x c old))
        (λ fresh. (i.typed (fill h b) grown (now_full fresh.2)).0 x c fresh.1)
        (fill_split h b i.object i.at i.hides u x c e)

    filled_heap : HeapOk p (fill h b)
    filled_heap = record {
      letter = record { typed = λ u x c e. (filled_cells u x c e).1 };
      own = record {
        values = λ u x c e. (filled_cells u x c e).0;
        named = λ u cl ns e. ⊎_elim
            (λ old. ((ok.heap).own).named u cl ns old)
            (λ fresh. sym (ap (λ (r : ℕ × List (List ℕ)). r.1) fresh) ∙ i.named ∙ ap (λ (r : ℕ × List (List ℕ)). class_names p r.0) fresh)
            (fill_shape_split h b i.object i.at i.hides u (cl, ns) e);
        classes = λ u cl ns e. ⊎_elim
            (λ old. ((ok.heap).own).classes u cl ns old)
            (λ fresh. subst (λ (r : ℕ × List (List ℕ)). HasClass p r.0) fresh i.class)
            (fill_shape_split h b i.object i.at i.hides u (cl, ns) e);
      };
    }

    filled_seat : (d : ℕ → Option Val) (j : ℕ) → left - 1 ≡ j → SeatBy p rs d t (fill h b) (typ a) st (filling b j)
    filled_seat d zero e = (i.typed (fill h b) grown (now_full (ap (λ w. nat_eq (w - 1) 0) i.waits ∙ ap (λ w. nat_eq w 0) e))).1
    filled_seat d (suc j) e = record {
      object = less i.object;
      at = fill_here h b i.object i.at;
      waits = ap (λ w. w - 1) i.waits ∙ e;
      hides = ap (λ w. nat_eq (w - 1) 0) i.waits ∙ ap (λ w. nat_eq w 0) e ∙ suc_not_zero j;
      maker = i.maker;
      named = i.named;
      class = i.class;
      busy = i.busy;
      typed = λ w x u. i.typed w (extends_trans grown x) u;
    }

    fill_ok : Fine false (ins (seat a st n (filling b (left - 1))) (record k.words { heap = fill h b }))
    fill_ok =
        look_leaf p pok s rs k ok t a st n (Filling b left) (filling b (left - 1)) at (record k.words { heap = fill h b })
        (reveal-fill h b) refl refl refl (keeps_fill h b i.object i.at i.hides t i.maker) filled_heap (λ d x. filled_seat d (left - 1) refl)

  running : (a : Option Ty) (f : Frame) (below : List Frame) (n : ℕ) (m : Micro)
      → slice_get k.seats t ≡ Some (seat a (state.Running f below) n m) → IsWellTypedState p rs t h (typ a) (state.Running f below)
      → ((d : ℕ → Option Val) → Finishes (fin k.seats) d → SeatBy p rs d t h (typ a) (state.Running f below) m) → (w : List Work)
      → f.work ≡ w →
      Fine (TheTicks.next_steps p s k.words (length k.seats) (TheTicks.work_steps p s f below w)
      (TheSeats.next_work p s t (seat a (state.Running f below) n m) m f below w))
      (acted s k t (TheSeats.resume_work p s (seat a (state.Running f below) n m) m f below w)
      (TheSeats.next_work p s t (seat a (state.Running f below) n m) m f below w))
  running a f below n m at i pl [] e = rest_leaf p pok s rs k ok t
  running a f below n m at i pl (item ∷ is) e =
      top_ok a f below n item is e m at i pl (top_of p item (record f { work = is }))
      (says p (there p pok s rs k ok t) (record f { work = is }) below item)
      (says p (typed p pok s rs k ok t) (record f { work = is }) below item)

  seat_ok : (a : Option Ty) (st : State) (n : ℕ) (m : Micro) → slice_get k.seats t ≡ Some (seat a st n m)
      → SeatBy p rs (fin k.seats) t h (typ a) st m
      → Fine (TheTicks.seat_steps p s k t (Some (seat a st n m))) (tick_seat p s k t (Some (seat a st n m)))
  seat_ok a st n (Filling b left) at i = fill_ok a st n b left at i
  seat_ok a (state.Running f below) n Quick at i = running a f below n Quick at i (λ d x. i) f.work refl
  seat_ok a (state.Running f below) n (Seen c) at i = running a f below n (Seen c) at i (λ d x. i) f.work refl
  seat_ok a (state.Running f below) n (Count c) at i = running a f below n (Count c) at i (λ d x. i) f.work refl
  seat_ok a (state.Running f below) n (Seeing left c) at i = running a f below n (Seeing left c) at i.0
      (λ d x. (i.0, seen_grows (fin k.seats) d x (state.Running f below) left i.1)) f.work refl
  seat_ok a (state.Failing e) n Quick at i = fail_ok a e n 0 Quick at i (k.words).end refl
  seat_ok a (state.Failing e) n (Seen c) at i = fail_ok a e n 0 (Seen c) at i (k.words).end refl
  seat_ok a (state.Failing e) n (Count c) at i = fail_ok a e n c (Count c) at i (k.words).end refl
  seat_ok a (state.Failing e) n (Seeing left c) at i = fail_ok a e n 0 (Seeing left c) at i.0 (k.words).end refl
  seat_ok a (state.Finished v) n Quick at i = rest_leaf p pok s rs k ok t
  seat_ok a (state.Finished v) n (Seen c) at i = rest_leaf p pok s rs k ok t
  seat_ok a (state.Finished v) n (Count c) at i = rest_leaf p pok s rs k ok t
  seat_ok a (state.Finished v) n (Seeing left c) at i = rest_leaf p pok s rs k ok t
  seat_ok a state.Stopped n Quick at i = rest_leaf p pok s rs k ok t
  seat_ok a state.Stopped n (Seen c) at i = rest_leaf p pok s rs k ok t
  seat_ok a state.Stopped n (Count c) at i = rest_leaf p pok s rs k ok t
  seat_ok a state.Stopped n (Seeing left c) at i = rest_leaf p pok s rs k ok t

  at_seat : (o : Option Seat) → slice_get k.seats t ≡ o → Fine (TheTicks.seat_steps p s k t o) (tick_seat p s k t o)
  at_seat None e = rest_leaf p pok s rs k ok t
  at_seat (Some x) e = seat_ok x.asked x.state x.steps x.micro e (ok.seats t x e)

  pub tick_ok : Good p s rs k t (TheTicks.tick_steps p s k t) (tick p s k t)
  tick_ok = at_seat (slice_get k.seats t) refl
