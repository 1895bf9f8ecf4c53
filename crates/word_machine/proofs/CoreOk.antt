-- What holds of every configuration of the word machine.
use Rattle.std.proofs.Common.{◌≡◌, ◌⊎◌, ◌≤◌, ◌<◌, inl, inr, ⊎_elim, ℕ, zero, suc, ◌+◌, Bool, true, false, ◌&&◌, List, [], ◌∷◌, ◌++◌, length}
use Rattle.std.proofs.Common.{Option, Some, None, nat_eq, refl, sym, ap, ◌∙◌, subst, arith, slice_get, slice_set, is_some}
use Rattle.std.proofs.lemmas.Bool.{and_parts, and_from, false≢true}
use Rattle.mono_list.proofs.Cases.{none_some, some_is}
use Rattle.mono_syntax.specs.Ty.{Ty}
use Rattle.mono_syntax.specs.declared.value.Val.{Val}
use Rattle.mono_syntax.specs.declared.cast.CastClass.{CastClass}
use Rattle.mono_syntax.specs.declared.cast.CastScript.{CastScript}
use Rattle.mono_tree.specs.CastScripts.{class_names}
use Rattle.cast_machine.specs.declared.data.Cell.{Cell}
use Rattle.cast_machine.specs.declared.data.Object.{Object}
use Rattle.cast_machine.specs.declared.data.Thread.{Thread}
use Rattle.cast_machine.specs.declared.data.State.{State}
use Rattle.cast_machine.specs.declared.data.State.TheVariants as state
use Rattle.cast_machine.specs.declared.data.Change.TheVariants as change
use Rattle.cast_machine.specs.Maps.{lookup, keys}
use Rattle.cast_machine.specs.Heap.{Heap, object_at}
use Rattle.cast_machine.specs.Calls.{finished, value_in, value_of}
use Rattle.cast_machine.specs.HeapTyping.{IsTyped, Extends}
use Rattle.cast_machine.specs.Typing.{IsWellTypedState, result_type, results_of}
use Rattle.cast_machine.proofs.Grows.{HeapOk, MoreResults, below_grows, extends_refl, state_grows}
use Rattle.cast_machine.proofs.Heap.{nat_eq-refl, nat_eq-same}
use Rattle.cast_machine.proofs.ThreadLists.{set_cases, set_here, end_cases, end_there, results_set, results_threads_after, length-slice_set}
use Rattle.word_machine.specs.Seats.{Micro, Filling, Seeing, Seat}
use Rattle.word_machine.specs.Ticks.{Core, reveal, thread_of, threads_of}
use Rattle.word_machine.specs.Words.{Words, result_at}

abbrev pub res : Seat → Ty
res q = result_type (thread_of q)

pub extends_trans : {g h k : Heap} → Extends g h → Extends h k → Extends g k
extends_trans x y = record { shapes = λ a s e. y.shapes a s (x.shapes a s e); cells = λ a f c e. below_grows y (x.cells a f c e) }

-- the object with all its words filled
abbrev pub full : Object → Object
full o = record o { waits = 0 }

-- the script has this class
abbrev pub HasClass : CastScript → ℕ → Type 0
HasClass p c = (d : CastClass) × (slice_get p.classes c ≡ Some d)

-- a seat that fills the words of its new object. What it does afterwards is well typed in every later heap with that object
pub record FillOk (p : CastScript) (rs : List Ty) (t : ℕ) (h : Heap) (R : Ty) (st : State) (base left : ℕ) : Type 0 where
  pub object : Object
  pub at : object_at h base ≡ Some object
  pub waits : object.waits ≡ left
  pub hides : nat_eq object.waits 0 ≡ false
  pub maker : object.maker ≡ t
  pub named : keys object.cells ≡ class_names p object.class
  pub class : HasClass p object.class
  pub busy : value_of st ≡ None
  pub typed : (g : Heap) → Extends h g → object_at g base ≡ Some (full object)
      → ((f : List ℕ) (c : Cell) → lookup object.cells f ≡ Some c → IsTyped p g c.value c.ty) × IsWellTypedState p rs t g R st

pub threads_get : (qs : List Seat) (t : ℕ) (q : Seat) → slice_get qs t ≡ Some q → slice_get (threads_of qs) t ≡ Some (thread_of q)
threads_get [] t q e = none_some _ e
threads_get (x ∷ qs) zero q e = ap (λ (k : Seat). Some (thread_of k)) (some_is e)
threads_get (x ∷ qs) (suc t) q e = threads_get qs t q e

pub threads_set : (qs : List Seat) (t : ℕ) (q : Seat) → threads_of (slice_set qs t q) ≡ slice_set (threads_of qs) t (thread_of q)
threads_set [] t q = refl
threads_set (x ∷ qs) zero q = refl
threads_set (x ∷ qs) (suc t) q = ap (λ r. thread_of x ∷ r) (threads_set qs t q)

pub threads_length : (qs : List Seat) → length (threads_of qs) ≡ length qs
threads_length [] = refl
threads_length (q ∷ qs) = ap suc (threads_length qs)

-- the results of the finished threads
abbrev pub fin : List Seat → ℕ → Option Val
fin qs u = finished (threads_of qs) u

abbrev pub all_fin : (ℕ → Option Val) → List ℕ → Bool
all_fin d [] = true
all_fin d (t ∷ ts) = is_some (d t) && all_fin d ts

-- what was seen finished
abbrev pub SeenOk : (ℕ → Option Val) → State → List ℕ → Type 0
SeenOk d (state.Running f below) left = (seen : List ℕ) × (f.started ≡ seen ++ left) × (all_fin d seen ≡ true)
SeenOk d st left = Unit {0}

abbrev pub SeatBy : CastScript → List Ty → (ℕ → Option Val) → ℕ → Heap → Ty → State → Micro → Type 0
SeatBy p rs d t h R st (Filling base left) = FillOk p rs t h R st base left
SeatBy p rs d t h R st (Seeing left n) = IsWellTypedState p rs t h R st × SeenOk d st left
SeatBy p rs d t h R st m = IsWellTypedState p rs t h R st

abbrev pub SeatOk : CastScript → List Ty → (ℕ → Option Val) → ℕ → Heap → Seat → Type 0
SeatOk p rs d t h q = SeatBy p rs d t h (res q) q.state q.micro

-- the result words are the results of the finished threads
pub record CountsOk (w : Words) (qs : List Seat) : Type 0 where
  pub room : length w.results ≡ 256
  pub few : length qs ≤ 256
  pub results : (u : ℕ) → result_at w.results u ≡ fin qs u

pub record CoreOk (p : CastScript) (rs : List Ty) (k : Core) : Type 0 where
  pub heap : HeapOk p (k.words).heap
  pub seats : (t : ℕ) (q : Seat) → slice_get k.seats t ≡ Some q → SeatOk p rs (fin k.seats) t (k.words).heap q
  pub same : results_of (threads_of k.seats) ≡ rs
  -- the configuration for which it stands is well typed
  pub shown : HeapOk p (reveal (k.words).heap)
  pub states : (t : ℕ) (q : Seat) → slice_get k.seats t ≡ Some q → IsWellTypedState p rs t (reveal (k.words).heap) (res q) q.state
  pub counts : CountsOk k.words k.seats

-- what an action of seat t keeps: the heap gains precision, and the hidden objects of others stay
pub record Keeps (t : ℕ) (h h' : Heap) : Type 0 where
  pub grows : Extends h h'
  pub hidden : (b : ℕ) (o : Object) → object_at h b ≡ Some o → nat_eq o.waits 0 ≡ false → (o.maker ≡ t → ⊥) → object_at h' b ≡ Some o

pub keeps_refl : (t : ℕ) (h : Heap) → Keeps t h h
keeps_refl t h = record { grows = extends_refl h; hidden = λ b o e w n. e }

fill_grows : (p : CastScript) (rs rs' : List Ty) (t u : ℕ) {h h' : Heap} (R : Ty) (st : State) (base left : ℕ) → MoreResults rs rs'
    → (u ≡ t → ⊥) → Keeps t h h' → FillOk p rs u h R st base left → FillOk p rs' u h' R st base left
fill_grows p rs rs' t u R st base left more other x i = record {
  object = i.object;
  at = x.hidden base i.object i.at i.hides (λ same. other (sym i.maker ∙ same));
  waits = i.waits;
  hides = i.hides;
  maker = i.maker;
  named = i.named;
  class = i.class;
  busy = i.busy;
  typed = λ g y e. let z = i.typed g (extends_trans x.grows y) e in (z.0, state_grows p rs rs' u more (extends_refl g) R st z.1);
}

-- threads that are finished stay so
abbrev pub Finishes : (ℕ → Option Val) → (ℕ → Option Val) → Type 0
Finishes d d' = (u : ℕ) (v : Val) → d u ≡ Some v → d' u ≡ Some v

finished_grows : (d d' : ℕ → Option Val) → Finishes d d' → (ts : List ℕ) → all_fin d ts ≡ true → all_fin d' ts ≡ true
finished_grows d d' x [] e = refl
finished_grows d d' x (t ∷ ts) e =
    let y = and_parts (is_some (d t)) (all_fin d ts) e in
    and_from (is_some (d' t)) (all_fin d' ts) (one (d t) refl y.0) (finished_grows d d' x ts y.1)
  where
    one : (o : Option Val) → d t ≡ o → is_some o ≡ true → is_some (d' t) ≡ true
    one None i s = absurd (false≢true s)
    one (Some v) i s = ap is_some (x t v i)

pub seen_grows : (d d' : ℕ → Option Val) → Finishes d d' → (st : State) (left : List ℕ) → SeenOk d st left → SeenOk d' st left
seen_grows d d' x (state.Running f below) left i = (i.0, i.1, finished_grows d d' x i.0 i.2)
seen_grows d d' x (state.Failing e) left i = tt
seen_grows d d' x (state.Finished v) left i = tt
seen_grows d d' x state.Stopped left i = tt

seat_grows : (p : CastScript) (rs rs' : List Ty) (d d' : ℕ → Option Val) (t u : ℕ) {h h' : Heap} (R : Ty) (st : State) (m : Micro)
    → MoreResults rs rs' → Finishes d d' → (u ≡ t → ⊥) → Keeps t h h' → SeatBy p rs d u h R st m → SeatBy p rs' d' u h' R st m
seat_grows p rs rs' d d' t u R st (Filling base left) more x other k i = fill_grows p rs rs' t u R st base left more other k i
seat_grows p rs rs' d d' t u R st (Seeing left n) more x other k i = (
  state_grows p rs rs' u more k.grows R st i.0,
  seen_grows d d' x st left i.1,
)
seat_grows p rs rs' d d' t u R st m more x other k i = state_grows p rs rs' u more k.grows R st i

-- lists of seats
abbrev pub with_new : List Seat → Option Seat → List Seat
with_new l None = l
with_new l (Some q) = l ++ q ∷ []

abbrev pub more_results : List Ty → Option Seat → List Ty
more_results rs None = rs
more_results rs (Some q) = rs ++ res q ∷ []

set_forward : (l : List Seat) (t u : ℕ) (q r : Seat) → slice_get l u ≡ Some r → ((t ≡ u) × (slice_get (slice_set l t q) u ≡ Some q))
    ⊎ (slice_get (slice_set l t q) u ≡ Some r)
set_forward [] t u q r e = none_some _ e
set_forward (z ∷ l) zero zero q r e = inl (refl, refl)
set_forward (z ∷ l) zero (suc u) q r e = inr e
set_forward (z ∷ l) (suc t) zero q r e = inr e
set_forward (z ∷ l) (suc t) (suc u) q r e = ⊎_elim (λ i. inl (ap suc i.0, i.1)) inr (set_forward l t u q r e)

new_forward : (l : List Seat) (m : Option Seat) (u : ℕ) (r : Seat) → slice_get l u ≡ Some r → slice_get (with_new l m) u ≡ Some r
new_forward l None u r e = e
new_forward l (Some q) u r e = end_there l u q r e

new_back : (l : List Seat) (m : Option Seat) (u : ℕ) (r : Seat) → slice_get (with_new l m) u ≡ Some r → (slice_get l u ≡ Some r)
    ⊎ ((u ≡ length l) × (m ≡ Some r))
new_back l None u r e = inl e
new_back l (Some q) u r e = ⊎_elim inl (λ x. inr (x.0, ap Some x.1)) (end_cases l u q r e)

pub fin_seat : (qs : List Seat) (u : ℕ) (v : Val) → fin qs u ≡ Some v → (r : Seat) × (slice_get qs u ≡ Some r) × (value_of r.state ≡ Some v)
fin_seat [] u v e = none_some _ e
fin_seat (x ∷ qs) zero v e = (x, refl, e)
fin_seat (x ∷ qs) (suc u) v e = fin_seat qs u v e

pub fin_at : (qs : List Seat) (u : ℕ) (r : Seat) → slice_get qs u ≡ Some r → fin qs u ≡ value_of r.state
fin_at qs u r e = ap value_in (threads_get qs u r e)

pub fin_grows : (qs : List Seat) (t : ℕ) (old q : Seat) (m : Option Seat) → slice_get qs t ≡ Some old
    → ((v : Val) → value_of old.state ≡ Some v → value_of q.state ≡ Some v) → Finishes (fin qs) (fin (with_new (slice_set qs t q) m))
fin_grows qs t old q m at keeps u v e =
    let x = fin_seat qs u v e in
    let l = slice_set qs t q in
    ⊎_elim
    (λ here.
    let one : old ≡ x.0 = some_is (sym at ∙ subst (λ j. slice_get qs j ≡ Some x.0) (sym here.0) x.1) in
    fin_at (with_new l m) u q (new_forward l m u q here.1) ∙ keeps v (ap (λ (y : Seat). value_of y.state) one ∙ x.2))
    (λ other. fin_at (with_new l m) u x.0 (new_forward l m u x.0 other) ∙ x.2)
    (set_forward qs t u q x.0 x.1)

threads_end : (l : List Seat) (q : Seat) → threads_of (l ++ q ∷ []) ≡ threads_of l ++ thread_of q ∷ []
threads_end [] q = refl
threads_end (x ∷ l) q = ap (λ r. thread_of x ∷ r) (threads_end l q)

abbrev pub begun : List Thread → Option Seat → List Thread
begun ths None = ths
begun ths (Some q) = ths ++ thread_of q ∷ []

pub threads_new : (l : List Seat) (m : Option Seat) → threads_of (with_new l m) ≡ begun (threads_of l) m
threads_new l None = refl
threads_new l (Some q) = threads_end l q

abbrev pub NewState : CastScript → List Ty → ℕ → Heap → Option Seat → Type 0
NewState p rs n h None = Unit {0}
NewState p rs n h (Some q) = IsWellTypedState p rs n h (res q) q.state

new_state : (p : CastScript) (rs : List Ty) (n : ℕ) (h : Heap) (m : Option Seat) (r : Seat) → m ≡ Some r → NewState p rs n h m
    → IsWellTypedState p rs n h (res r) r.state
new_state p rs n h None r e i = none_some _ e
new_state p rs n h (Some q) r e i = subst (λ (x : Seat). IsWellTypedState p rs n h (res x) x.state) (some_is e) i

-- the same of the configuration for which it stands
pub record ShownOk (p : CastScript) (rs : List Ty) (t n : ℕ) (h h' : Heap) (q : Seat) (m : Option Seat) : Type 0 where
  pub grows : Extends h h'
  pub heap : HeapOk p h'
  pub state : IsWellTypedState p rs t h' (res q) q.state
  pub begun : NewState p rs n h' m

abbrev pub NewOk : CastScript → List Ty → (ℕ → Option Val) → ℕ → Heap → Option Seat → Type 0
NewOk p rs d n h None = Unit {0}
NewOk p rs d n h (Some q) = SeatOk p rs d n h q

new_ok : (p : CastScript) (rs : List Ty) (d : ℕ → Option Val) (n : ℕ) (h : Heap) (m : Option Seat) (r : Seat) → m ≡ Some r
    → NewOk p rs d n h m → SeatOk p rs d n h r
new_ok p rs d n h None r e i = none_some _ e
new_ok p rs d n h (Some q) r e i = subst (λ x. SeatOk p rs d n h x) (some_is e) i

-- ---- the result words

fin_set : (qs : List Seat) (t u : ℕ) (old q : Seat) → slice_get qs t ≡ Some old → value_of q.state ≡ value_of old.state
    → fin (slice_set qs t q) u ≡ fin qs u
fin_set [] t u old q at e = none_some _ at
fin_set (x ∷ qs) zero zero old q at e = e ∙ sym (ap (λ (y : Seat). value_of y.state) (some_is at))
fin_set (x ∷ qs) zero (suc u) old q at e = refl
fin_set (x ∷ qs) (suc t) zero old q at e = refl
fin_set (x ∷ qs) (suc t) (suc u) old q at e = fin_set qs t u old q at e

fin_end : (qs : List Seat) (u : ℕ) (q : Seat) → value_of q.state ≡ None → fin (qs ++ q ∷ []) u ≡ fin qs u
fin_end [] zero q e = e
fin_end [] (suc u) q e = refl
fin_end (x ∷ qs) zero q e = refl
fin_end (x ∷ qs) (suc u) q e = fin_end qs u q e

length_set : (qs : List Seat) (t : ℕ) (q : Seat) → length (slice_set qs t q) ≡ length qs
length_set [] t q = refl
length_set (x ∷ qs) zero q = refl
length_set (x ∷ qs) (suc t) q = ap suc (length_set qs t q)

length_end : (qs : List Seat) (q : Seat) → length (qs ++ q ∷ []) ≡ length qs + 1
length_end [] q = refl
length_end (x ∷ qs) q = grind (arith, length_end qs q)

length_results : (rs : List (Option Val)) (t : ℕ) (o : Option Val) → length (slice_set rs t o) ≡ length rs
length_results [] t o = refl
length_results (x ∷ rs) zero o = refl
length_results (x ∷ rs) (suc t) o = ap suc (length_results rs t o)

pub counts_keep : (w : Words) (qs : List Seat) (t : ℕ) (old q : Seat) → slice_get qs t ≡ Some old → value_of q.state ≡ value_of old.state
    → CountsOk w qs → CountsOk w (slice_set qs t q)
counts_keep w qs t old q at e c = record {
  room = c.room;
  few = subst (λ n. n ≤ 256) (sym (length_set qs t q)) c.few;
  results = λ u. c.results u ∙ sym (fin_set qs t u old q at e);
}

pub counts_begin : (w : Words) (qs : List Seat) (t : ℕ) (old q new : Seat) → slice_get qs t ≡ Some old
    → value_of q.state ≡ value_of old.state → value_of new.state ≡ None → length qs < 256 → CountsOk w qs
    → CountsOk w (slice_set qs t q ++ new ∷ [])
counts_begin w qs t old q new at e busy few c = record {
  room = c.room;
  few = subst (λ n. n ≤ 256) (sym (length_end (slice_set qs t q) new ∙ ap (λ n. n + 1) (length_set qs t q))) (omega arith);
  results = λ u. c.results u ∙ sym (fin_end (slice_set qs t q) u new busy ∙ fin_set qs t u old q at e);
}

-- a result is stored
finish_results : (rs : List (Option Val)) (qs : List Seat) (t : ℕ) (old q : Seat) (v : Val) → slice_get qs t ≡ Some old
    → value_of q.state ≡ Some v → length qs ≤ length rs → ((u : ℕ) → result_at rs u ≡ fin qs u) → (u : ℕ)
    → result_at (slice_set rs t (Some v)) u ≡ fin (slice_set qs t q) u
finish_results rs [] t old q v at e few i u = none_some _ at
finish_results [] (x ∷ qs) t old q v at e few i u = absurd (omega arith)
finish_results (r ∷ rs) (x ∷ qs) zero old q v at e few i zero = sym e
finish_results (r ∷ rs) (x ∷ qs) zero old q v at e few i (suc u) = i (suc u)
finish_results (r ∷ rs) (x ∷ qs) (suc t) old q v at e few i zero = i zero
finish_results (r ∷ rs) (x ∷ qs) (suc t) old q v at e few i (suc u) = finish_results rs qs t old q v at e (omega arith) (λ j. i (suc j)) u

pub counts_finish : (w : Words) (qs : List Seat) (t : ℕ) (old q : Seat) (v : Val) → slice_get qs t ≡ Some old → value_of q.state ≡ Some v
    → CountsOk w qs → CountsOk (record w { results = slice_set w.results t (Some v) }) (slice_set qs t q)
counts_finish w qs t old q v at e c = record {
  room = length_results w.results t (Some v) ∙ c.room;
  few = subst (λ n. n ≤ 256) (sym (length_set qs t q)) c.few;
  results = finish_results w.results qs t old q v at e (subst (λ n. length qs ≤ n) (sym c.room) c.few) c.results;
}

-- one seat acts, and maybe starts another
pub core_ok : (p : CastScript) (rs : List Ty) (k : Core) → CoreOk p rs k → (t : ℕ) (old : Seat) → slice_get k.seats t ≡ Some old
    → (w : Words) → Keeps t (k.words).heap w.heap → HeapOk p w.heap → (q : Seat) (m : Option Seat) → q.asked ≡ old.asked
    → ((v : Val) → value_of old.state ≡ Some v → value_of q.state ≡ Some v)
    → SeatOk p (more_results rs m) (fin (with_new (slice_set k.seats t q) m)) t w.heap q
    → NewOk p (more_results rs m) (fin (with_new (slice_set k.seats t q) m)) (length k.seats) w.heap m
    → ShownOk p (more_results rs m) t (length k.seats) (reveal (k.words).heap) (reveal w.heap) q m
    → CountsOk w (with_new (slice_set k.seats t q) m)
    → CoreOk p (more_results rs m) (record { words = w; seats = with_new (slice_set k.seats t q) m })
core_ok p rs k ok t old at w x hok q m asks keeps qok nok sok cok = record {
  counts = cok;
  shown = sok.heap;
  states = λ u r e. ⊎_elim
      (λ stays. ⊎_elim
      (λ here. subst (λ j. IsWellTypedState p rs' j (reveal w.heap) (res r) r.state) here.0
      (subst (λ (z : Seat). IsWellTypedState p rs' t (reveal w.heap) (res z) z.state) here.1 sok.state))
      (λ other. state_grows p rs rs' u (more_grows rs m) sok.grows (res r) r.state (ok.states u r other))
      (set_cases k.seats t u q r stays))
      (λ fresh. subst (λ j. IsWellTypedState p rs' j (reveal w.heap) (res r) r.state) (sym (fresh.0 ∙ length-slice_set k.seats t q))
      (new_state p rs' (length k.seats) (reveal w.heap) m r fresh.1 sok.begun))
      (new_back (slice_set k.seats t q) m u r e);
  heap = hok;
  seats = λ u r e. ⊎_elim
      (λ stays. go u r stays)
      (λ fresh. subst (λ j. SeatOk p rs' d' j w.heap r) (sym (fresh.0 ∙ length-slice_set k.seats t q))
      (new_ok p rs' d' (length k.seats) w.heap m r fresh.1 nok))
      (new_back (slice_set k.seats t q) m u r e);
  same = ap results_of (threads_new (slice_set k.seats t q) m) ∙ results_begun (threads_of (slice_set k.seats t q)) m
      ∙ ap (λ l. more_results l m) (ap results_of (threads_set k.seats t q) ∙ results_set (threads_of k.seats) t (thread_of old)
      (thread_of q) (threads_get k.seats t old at) (ap (λ a. result_type (record { asked = a; state = state.Stopped; steps = 0 })) asks)
      ∙ ok.same);
}
  where
    rs' : List Ty
    rs' = more_results rs m

    d' : ℕ → Option Val
    d' = fin (with_new (slice_set k.seats t q) m)

    results_begun : (ths : List Thread) (n : Option Seat) → results_of (begun ths n) ≡ more_results (results_of ths) n
    results_begun ths None = refl
    results_begun ths (Some n) = results_threads_after (change.Begins (thread_of n)) ths

    more_grows : (l : List Ty) (n : Option Seat) → MoreResults l (more_results l n)
    more_grows l None u V e = e
    more_grows l (Some n) u V e = end_there l u (res n) V e

    go : (u : ℕ) (r : Seat) → slice_get (slice_set k.seats t q) u ≡ Some r
        → SeatOk p (more_results rs m) (fin (with_new (slice_set k.seats t q) m)) u w.heap r
    go u r e = ⊎_elim
        (λ here. subst (λ j. SeatOk p rs' d' j w.heap r) here.0 (subst (λ j. SeatOk p rs' d' t w.heap j) here.1 qok))
        (λ old. other old (nat_eq u t) refl)
        (set_cases k.seats t u q r e)
      where
        other : slice_get k.seats u ≡ Some r → (b : Bool) → nat_eq u t ≡ b
            → SeatOk p (more_results rs m) (fin (with_new (slice_set k.seats t q) m)) u w.heap r
        other i false y = seat_grows p rs rs' (fin k.seats) d' t u (res r) r.state r.micro (more_grows rs m)
            (fin_grows k.seats t old q m at keeps) (λ same. false≢true (sym y ∙ subst (λ j. nat_eq u j ≡ true) same (nat_eq-refl u))) x
            (ok.seats u r i)
        other i true y =
            let same = nat_eq-same u t y in
            let is : q ≡ r = some_is (sym (set_here k.seats t q old at)
            ∙ subst (λ j. slice_get (slice_set k.seats t q) j ≡ Some r) same e) in
            subst (λ j. SeatOk p rs' d' j w.heap r) (sym same) (subst (λ j. SeatOk p rs' d' t w.heap j) is qok)
