-- An obligation in one step keeps everything well typed.
use Rattle.cast_machine.specs.BlamedSites.{IsRightBlame}
use Rattle.std.proofs.Common.{Bool, List, None, Option, Some, [], arith, false, inl, inr, length, refl, slice_get, subst, sym, true, ℕ, ⊎_elim, ◌++◌, ◌<◌, ◌∙◌, ◌∷◌, ◌≡◌, ◌⊎◌}
use Rattle.std.proofs.lemmas.Bool.{and_parts, false≢true}
use Rattle.mono_list.proofs.Cases.{some_is}
use Rattle.mono_syntax.specs.Limits.{most_threads}
use Rattle.mono_syntax.specs.Ty.{Fields, Ty, dyn, more_fields, no_fields, obj}
use Rattle.mono_syntax.specs.declared.cast.CastScript.{CastScript}
use Rattle.mono_syntax.specs.declared.value.Val.{Val}
use Rattle.mono_syntax.specs.declared.value.Val.TheVariants as val
use Rattle.mono_tree.proofs.TypeLaws.{meet_below, precise_antisym}
use Rattle.mono_tree.specs.CastScripts.{fields_of}
use Rattle.mono_tree.specs.FieldNames.{names_of}
use Rattle.mono_tree.specs.Meet.{meet_of}
use Rattle.mono_tree.specs.Precision.{precise}
use Rattle.mono_tree.specs.Sites.{loses_precision}
use Rattle.mono_tree.specs.TypedPrograms.{HasField, Scope}
use Rattle.cast_machine.proofs.Fitting.{FitOk, extends_set, fit_ok, heap_set, shape_cell}
use Rattle.cast_machine.proofs.Grows.{HeapOk, cell_typed, extends_refl, names_grow, stack_grows, top_grows, values_grow}
use Rattle.cast_machine.proofs.Heap.{cell-set, on_test}
use Rattle.cast_machine.specs.Calls.{finished}
use Rattle.cast_machine.specs.Cells.{blamed, blaming, holds, is_ready, meets, obligation_cell, obligation_step, on_cell, same_object, same_type, settle, strengthen}
use Rattle.cast_machine.specs.Fits.{fit_of}
use Rattle.cast_machine.specs.Heap.{Heap, cell_at, set_cell, shape_at}
use Rattle.cast_machine.specs.HeapTyping.{AreTyped, Extends, IsAsPrecise, IsBelow, IsTyped, AreValuesOf}
use Rattle.cast_machine.specs.Obligations.{obligations}
use Rattle.cast_machine.specs.Rows.{blames, fails, goes, has}
use Rattle.cast_machine.specs.Typing.{AreRightEnds, IsNamed, IsRightEnd, IsWellTypedStack, IsWellTypedState, Lives, around, result_type}
use Rattle.cast_machine.specs.WorkTyping.{Around, IsLater, IsPending, IsWellTypedObligation, IsWellTypedTop, IsWellTypedWork, Later, MayBeBlamed, Owns, Pending}
use Rattle.cast_machine.specs.declared.data.Cell.{Cell}
use Rattle.cast_machine.specs.declared.data.Change.{Change}
use Rattle.cast_machine.specs.declared.data.Change.TheVariants as change
use Rattle.cast_machine.specs.declared.data.End.{End}
use Rattle.cast_machine.specs.declared.data.End.TheVariants as ends
use Rattle.cast_machine.specs.declared.data.Fit.{Fit}
use Rattle.cast_machine.specs.declared.data.Fit.TheVariants as fits
use Rattle.cast_machine.specs.declared.data.Frame.{Frame}
use Rattle.cast_machine.specs.declared.data.Outcome.{Outcome}
use Rattle.cast_machine.specs.declared.data.Outcome.TheVariants as outcome
use Rattle.cast_machine.specs.declared.data.Ready.{Ready}
use Rattle.cast_machine.specs.declared.data.State.{State}
use Rattle.cast_machine.specs.declared.data.State.TheVariants as state
use Rattle.cast_machine.specs.declared.data.Thread.{Thread}
use Rattle.cast_machine.specs.declared.data.Verdict.{Verdict}
use Rattle.cast_machine.specs.declared.data.Verdict.TheVariants as verdict
use Rattle.cast_machine.specs.declared.data.Work.{Work}
use Rattle.cast_machine.specs.declared.data.Work.TheVariants as work

-- ---- what a step keeps

-- the heap, the results and the end after a change
abbrev pub heap_after : Change → Heap → Heap
heap_after (change.Sets a x d) h = set_cell h a x d
heap_after (change.Adds o) h = h ++ o ∷ []
heap_after d h = h

abbrev pub results_after : Change → List Ty → List Ty
results_after (change.Begins th) rs = rs ++ result_type th ∷ []
results_after d rs = rs

abbrev pub end_after : Change → Option End
end_after (change.Ends e) = Some e
end_after d = None

abbrev pub BegunOk : CastScript → List Ty → ℕ → Heap → Change → Type 0
BegunOk p rs n h (change.Begins th) = IsWellTypedState p rs n h (result_type th) th.state × Lives n th.state × (n < most_threads) × (th.steps ≡ 0)
BegunOk p rs n h d = Unit {0}

-- a line that is printed has values of the script
abbrev pub SaidOk : CastScript → Heap → Change → Type 0
SaidOk p h (change.Says line) = AreValuesOf p h line
SaidOk p h d = Unit {0}

pub record Kept (p : CastScript) (rs : List Ty) (me : ℕ) (h : Heap) (R : Ty) (d : Change) (st : State) : Type 0 where
  pub grows : Extends h (heap_after d h)
  pub heap : HeapOk p (heap_after d h)
  pub state : IsWellTypedState p (results_after d rs) me (heap_after d h) R st
  pub begun : BegunOk p (results_after d rs) (length rs) (heap_after d h) d
  pub said : SaidOk p (heap_after d h) d
  pub ends : AreRightEnds p (end_after d)
  pub lives : end_after d ≡ None → Lives me st

-- a row applies, and the step is taken
abbrev pub MoveOk : CastScript → List Ty → ℕ → Heap → Ty → Outcome → Type 0
MoveOk p rs me h R outcome.NoRow = ⊥
MoveOk p rs me h R outcome.Waits = ⊥
MoveOk p rs me h R (outcome.Moves d st) = Kept p rs me h R d st

-- the same, or it waits for a later thread that isn't finished
abbrev pub WaitOk : CastScript → List Ty → ℕ → List Thread → Heap → Ty → Outcome → Type 0
WaitOk p rs me threads h R outcome.NoRow = ⊥
WaitOk p rs me threads h R outcome.Waits = (t : ℕ) × IsLater rs me t dyn × (finished threads t ≡ None)
WaitOk p rs me threads h R (outcome.Moves d st) = Kept p rs me h R d st

pub move_wait : (p : CastScript) (rs : List Ty) (me : ℕ) (threads : List Thread) (h : Heap) (R : Ty) (o : Outcome) → MoveOk p rs me h R o → WaitOk p rs me threads h R o
move_wait p rs me threads h R outcome.NoRow i = i
move_wait p rs me threads h R outcome.Waits i = absurd i
move_wait p rs me threads h R (outcome.Moves d st) i = i

-- where a running thread stands: its top frame without the top item, the frames below, and the other threads
pub record HereOk (p : CastScript) (h : Heap) (threads : List Thread) (s : Scope) (rs : List Ty) (me : ℕ) (R : Ty) (f : Frame) (below : List Frame) : Type 0 where
  pub heap : HeapOk p h
  pub named : IsNamed p (around s f.asked rs me) h f.names f.handles f.started
  pub stack : IsWellTypedStack p rs me h f.asked below R
  pub mine : me < length rs
  pub made : length threads ≡ length rs
  pub results : (t : ℕ) (v : Val) (U : Ty) → finished threads t ≡ Some v → slice_get rs t ≡ Some U → IsTyped p h v U

-- the frame with other work and values
abbrev pub framed : Frame → List Work → List Val → Frame
framed f items vs = record f { work = items; values = vs }

-- static work on top
pub work_top : (p : CastScript) (q : Around) (h : Heap) (items : List Work) (vs : List Val) (ts : List Ty) → Later p q items ts → IsWellTypedTop p q h [] items vs ts
work_top p q h [] vs ts i = absurd i
work_top p q h (work.Fitted k T j ∷ items) vs ts i = absurd i
work_top p q h (work.Join t ∷ items) vs ts i = absurd i
work_top p q h (work.Obligation cl a f T r ∷ items) vs ts i = absurd i
work_top p q h (work.Write m k F f (Some R) ∷ items) vs ts i = absurd i
work_top p q h items vs ts i = (refl, i)

-- fewer obligations, where those that went are met
abbrev Covers : Heap → List Pending → List Pending → Type 0
Covers h left less = (b : ℕ) (g : List ℕ) (U : Ty) → IsPending left b g U → IsPending less b g U ⊎ IsBelow h b g U

covers_more : (h : Heap) (left less : List Pending) (q : Pending) → Covers h left less → Covers h (q ∷ left) (q ∷ less)
covers_more h left less q c b g U = ⊎_elim (λ here. inl (inl here)) (λ later. ⊎_elim (λ i. inl (inr i)) inr (c b g U later))

owns_less : {h : Heap} {left less : List Pending} {v : Val} {T : Ty} → Covers h left less → Owns h left v T → Owns h less v T
owns_less c i = record {
  class = i.class;
  base = i.base;
  fields = i.fields;
  value = i.value;
  type = i.type;
  shape = i.shape;
  done = λ f U m. ⊎_elim (λ l. c i.base f U l) inr (i.done f U m);
}

discharge : (p : CastScript) (q : Around) (h : Heap) (left less : List Pending) (items : List Work) (vs : List Val) (ts : List Ty) → (left ≡ [] → less ≡ []) → Covers h left less → IsWellTypedTop p q h left items vs ts → IsWellTypedTop p q h less items vs ts
discharge p q h left less (work.Obligation cl a f T None ∷ items) vs ts e c i =
    let o : Pending = record { object = a; field = f; to = T } in
    (i.0, discharge p q h (o ∷ left) (o ∷ less) items vs ts (λ x. absurd cc) (covers_more h left less o c) i.1)
discharge p q h left less (work.Obligation cl a f T (Some r) ∷ items) vs ts e c i = (i.0, owns_less c i.1, i.2)
discharge p q h left less (work.Fitted k T j ∷ items) vs ts e c i = record { site = i.site; value = i.value; at = i.at; owns = owns_less c i.owns; later = i.later }
discharge p q h left less (work.Join t ∷ items) vs ts e c i = record { empty = e i.empty; type = i.type; thread = i.thread; later = i.later }
discharge p q h left less (work.Write m k F f (Some R) ∷ items) (r ∷ v ∷ vs) (S ∷ A ∷ ts) e c i = record { owns = owns_less c i.owns; write = i.write; dynamic = i.dynamic; later = i.later }
discharge p q h left less (work.Write m k F f (Some R) ∷ items) vs ts e c i = absurd i
discharge p q h left less items vs ts e c i = (e i.0, i.1)

-- the top obligation, whether ready or not
pub top_rest : (p : CastScript) (q : Around) (h : Heap) (cl a : ℕ) (f : List ℕ) (T : Ty) (r : Option Ready) (items : List Work) (vs : List Val) (ts : List Ty) → IsWellTypedTop p q h [] (work.Obligation cl a f T r ∷ items) vs ts → IsWellTypedObligation p h items cl a f T × IsWellTypedTop p q h (record { object = a; field = f; to = T } ∷ []) items vs ts
top_rest p q h cl a f T None items vs ts i = i
top_rest p q h cl a f T (Some r) items vs ts i = (i.0, i.2)

-- it is met, and goes
pub met : (p : CastScript) (q : Around) (h : Heap) (a : ℕ) (f : List ℕ) (T : Ty) (items : List Work) (vs : List Val) (ts : List Ty) → IsBelow h a f T → IsWellTypedTop p q h (record { object = a; field = f; to = T } ∷ []) items vs ts → IsWellTypedTop p q h [] items vs ts
met p q h a f T items vs ts b i =
    discharge p q h _ [] items vs ts (λ x. absurd cc)
    (λ c g U. ⊎_elim
    (λ same. inr (subst (λ k. IsBelow h k g U) same.0 (subst (λ k. IsBelow h a k U) same.1 (subst (λ k. IsBelow h a f k) same.2 b))))
    (λ no. absurd no))
    i

-- a group of obligations on top
pushed : ℕ → Fields → List Pending → List Pending
pushed a no_fields left = left
pushed a (more_fields n T fs) left = pushed a fs (record { object = a; field = n; to = T } ∷ left)

blamed-obligations : (cl a : ℕ) (fs : Fields) (owner : Work) (items : List Work) → blamed (obligations cl a fs (owner ∷ []) ++ items) ≡ blamed (owner ∷ items)
blamed-obligations cl a no_fields owner items = refl
blamed-obligations cl a (more_fields n T fs) owner items = blamed-obligations cl a fs owner items

pushed-old : (a : ℕ) (fs : Fields) (left : List Pending) (b : ℕ) (g : List ℕ) (U : Ty) → IsPending left b g U → IsPending (pushed a fs left) b g U
unfolding pushed
pushed-old a no_fields left b g U i = i
pushed-old a (more_fields n T fs) left b g U i = pushed-old a fs (record { object = a; field = n; to = T } ∷ left) b g U (inr i)

pushed-new : (a : ℕ) (fs : Fields) (left : List Pending) (g : List ℕ) (U : Ty) → HasField fs g U → IsPending (pushed a fs left) a g U
unfolding pushed
pushed-new a no_fields left g U i = absurd i
pushed-new a (more_fields n T fs) left g U i =
    ⊎_elim
    (λ here. pushed-old a fs (record { object = a; field = n; to = T } ∷ left) a g U (inl (refl, here.0, here.1)))
    (λ later. pushed-new a fs (record { object = a; field = n; to = T } ∷ left) g U later)
    i

push_top : (p : CastScript) (q : Around) (h : Heap) (cl a : ℕ) (fs : Fields) (left : List Pending) (owner : Work) (rest : List Work) (vs : List Val) (ts : List Ty) → ((f : List ℕ) (U : Ty) → HasField fs f U → IsWellTypedObligation p h (owner ∷ rest) cl a f U) → IsWellTypedTop p q h (pushed a fs left) (owner ∷ rest) vs ts → IsWellTypedTop p q h left (obligations cl a fs (owner ∷ []) ++ rest) vs ts
unfolding pushed
push_top p q h cl a no_fields left owner rest vs ts each i = i
push_top p q h cl a (more_fields n T fs) left owner rest vs ts each i =
    let o = each n T (inl (refl, refl)) in
    let same = blamed-obligations cl a fs owner rest in (
      record { cell = o.cell; at = o.at; blame = subst (λ k. MayBeBlamed p h k a n T) (sym same) o.blame; shape = o.shape },
      push_top p q h cl a fs (record { object = a; field = n; to = T } ∷ left) owner rest vs ts (λ f U m. each f U (inr m)) i,
    )

-- a group of obligations above their owner
pub group : (p : CastScript) (q : Around) (h : Heap) (c a : ℕ) (fs : Fields) (owner : Work) (rest : List Work) (vs : List Val) (ts : List Ty) (v : Val) (T : Ty) → v ≡ val.Obj c a → T ≡ obj fs → shape_at h a ≡ Some (c, names_of fs) → ((f : List ℕ) (U : Ty) → HasField fs f U → MayBeBlamed p h (blamed (owner ∷ rest)) a f U) → ((left : List Pending) → Owns h left v T → IsWellTypedTop p q h left (owner ∷ rest) vs ts) → IsWellTypedTop p q h [] (obligations c a fs (owner ∷ []) ++ rest) vs ts
group p q h c a fs owner rest vs ts v T ev et es blame below =
    push_top p q h c a fs [] owner rest vs ts
    (λ f U m. let x = shape_cell h a c fs f U es m in record { cell = x.0; at = x.1; blame = blame f U m; shape = (names_of fs, es) })
    (below (pushed a fs []) (record { class = c; base = a; fields = fs; value = ev; type = et; shape = es; done = λ f U m. inl (pushed-new a fs [] f U m) }))

-- an owner with nothing left
pub owns-all : (p : CastScript) (h : Heap) (v : Val) (T : Ty) → Owns h [] v T → IsTyped p h v T
owns-all p h v T o =
    let all : IsTyped p h (val.Obj o.class o.base) (obj o.fields) = ((names_of o.fields, o.shape), (o.shape, λ f U m. ⊎_elim (λ no. absurd no) (λ b. b) (o.done f U m))) in
    subst (λ u. IsTyped p h u T) (sym o.value) (subst (λ U. IsTyped p h (val.Obj o.class o.base) U) (sym o.type) all)

same_object-eq : (v w : Val) → same_object v w ≡ true → v ≡ w
same_object-eq (val.Obj c a) (val.Obj d b) e = grind arith
same_object-eq v w e = cc

pub same_type-eq : (S T : Ty) → same_type S T ≡ true → S ≡ T
same_type-eq S T e = let x = and_parts (precise S T) (precise T S) e in precise_antisym S T x.0 x.1

-- ---- the step's outcome

-- a site that may be blamed
abbrev pub IsFree : CastScript → ℕ → Type 0
IsFree p k = IsRightBlame p k

abbrev pub HasFree : CastScript → Option ℕ → Type 0
HasFree p None = ⊥
HasFree p (Some k) = IsFree p k

module _ (p : CastScript) (h : Heap) (threads : List Thread) (s : Scope) (rs : List Ty) (me : ℕ) (R : Ty) (f : Frame) (below : List Frame) (ok : HereOk p h threads s rs me R f below) where
  pub goes_ok : (items : List Work) (vs : List Val) (ts : List Ty) → AreTyped p h vs ts → IsWellTypedTop p (around s f.asked rs me) h [] items vs ts → MoveOk p rs me h R (goes (framed f items vs) below)
  goes_ok items vs ts vok tok = record {
    grows = extends_refl h;
    heap = ok.heap;
    state = (record { scope = s; named = ok.named; types = ts; values = vok; work = tok }, ok.stack);
    begun = tt;
    said = tt;
    ends = tt;
    lives = λ e. tt;
  }

  pub work_ok : (items : List Work) (vs : List Val) (ts : List Ty) → AreTyped p h vs ts → IsWellTypedWork p s f.asked items ts → MoveOk p rs me h R (goes (framed f items vs) below)
  work_ok items vs ts vok wok = goes_ok items vs ts vok (work_top p (around s f.asked rs me) h items vs ts wok)

  -- with a changed cell
  pub sets_new : (a : ℕ) (x : List ℕ) (d : Cell) → Extends h (set_cell h a x d) → HeapOk p (set_cell h a x d) → (items : List Work) (vs : List Val) (ts : List Ty) → AreTyped p h vs ts → IsWellTypedTop p (around s f.asked rs me) (set_cell h a x d) [] items vs ts → MoveOk p rs me h R (outcome.Moves (change.Sets a x d) (state.Running (framed f items vs) below))
  sets_new a x d g hok items vs ts vok tok = record {
    grows = g;
    heap = hok;
    state = (
      record { scope = s; named = names_grow p (around s f.asked rs me) rs (λ t U e. e) g ok.named; types = ts; values = values_grow p g vs ts vok; work = tok },
      stack_grows p rs rs me (λ t U e. e) g f.asked below R ok.stack,
    );
    begun = tt;
    said = tt;
    ends = tt;
    lives = λ e. tt;
  }

  pub sets_on : (a : ℕ) (x : List ℕ) (d : Cell) → Extends h (set_cell h a x d) → HeapOk p (set_cell h a x d) → (items : List Work) (vs : List Val) (ts : List Ty) → AreTyped p h vs ts → IsWellTypedTop p (around s f.asked rs me) h [] items vs ts → MoveOk p rs me h R (outcome.Moves (change.Sets a x d) (state.Running (framed f items vs) below))
  sets_on a x d g hok items vs ts vok tok = sets_new a x d g hok items vs ts vok (top_grows p (around s f.asked rs me) rs (λ t U e. e) g [] items vs ts tok)

  pub fails_ok : (e : End) → IsRightEnd p e → MoveOk p rs me h R (fails e)
  fails_ok e i = record { grows = extends_refl h; heap = ok.heap; state = i; begun = tt; said = tt; ends = tt; lives = λ e. tt }

  pub blaming_ok : (a : ℕ) (x : List ℕ) (k : Option ℕ) → HasFree p k → MoveOk p rs me h R (settle a x (blaming k) below)
  blaming_ok a x None i = absurd i
  blaming_ok a x (Some k) i = fails_ok (ends.Blame k) i

  pub blames_ok : (k : Option ℕ) → HasFree p k → MoveOk p rs me h R (blames k)
  blames_ok None i = absurd i
  blames_ok (Some k) i = fails_ok (ends.Blame k) i

-- a site below an obligation that isn't met may be blamed
pub free_below : (p : CastScript) (h : Heap) (k : Option ℕ) (a : ℕ) (f : List ℕ) (T : Ty) (c : Cell) → cell_at h a f ≡ Some c → precise c.ty T ≡ false → MayBeBlamed p h k a f T → HasFree p k
free_below p h None a f T c at isnt i = i
free_below p h (Some k) a f T c at isnt i = (go (loses_precision p k) refl, i.0)
  where
    go : (t : Bool) → loses_precision p k ≡ t → loses_precision p k ≡ false
    go false e = e
    go true e = let b = i.1 e in let one : b.cell ≡ c = some_is (sym b.at ∙ at) in absurd (false≢true (sym isnt ∙ subst (λ (x : Cell). IsAsPrecise x.ty T) one b.low))

-- a site that may not be blamed stands below no obligation that isn't met
not_free : (p : CastScript) (h : Heap) (k : Option ℕ) (a : ℕ) (f : List ℕ) (T : Ty) (c : Cell) → cell_at h a f ≡ Some c → precise c.ty T ≡ false → MayBeBlamed p h k a f T → (b : ℕ) (g : List ℕ) (U : Ty) → MayBeBlamed p h k b g U
not_free p h None a f T c at isnt i b g U = i
not_free p h (Some k) a f T c at isnt i b g U = (i.0, λ e. let x = i.1 e in let one : x.cell ≡ c = some_is (sym x.at ∙ at) in absurd (false≢true (sym isnt ∙ subst (λ (y : Cell). IsAsPrecise y.ty T) one x.low)))

-- a ready pair whose obligations are gone
ready_has : (p : CastScript) (q : Around) (h : Heap) (cl a : ℕ) (f : List ℕ) (T : Ty) (r : Option Ready) (rest : List Work) (vs : List Val) (ts : List Ty) (v : Val) (M : Ty) → IsWellTypedTop p q h [] (work.Obligation cl a f T r ∷ rest) vs ts → is_ready r v M ≡ true → IsTyped p h v M
ready_has p q h cl a f T None rest vs ts v M i e = absurd (false≢true e)
ready_has p q h cl a f T (Some r) rest vs ts v M i e =
    let x = and_parts (same_object r.value v) (same_type r.ty M) e in
    subst (λ u. IsTyped p h u M) (same_object-eq r.value v x.0) (subst (λ U. IsTyped p h r.value U) (same_type-eq r.ty M x.1) (owns-all p h r.value r.ty i.1))

module _ (p : CastScript) (h : Heap) (threads : List Thread) (s : Scope) (rs : List Ty) (me : ℕ) (R : Ty) (f : Frame) (below : List Frame) (ok : HereOk p h threads s rs me R f below) (ts : List Ty) (vok : AreTyped p h f.values ts) (cl a : ℕ) (x : List ℕ) (T : Ty) (ready : Option Ready) (tok : IsWellTypedTop p (around s f.asked rs me) h [] (work.Obligation cl a x T ready ∷ f.work) f.values ts) where
  abbrev q : Around
  q = around s f.asked rs me

  abbrev Ok : Outcome → Type 0
  Ok o = MoveOk p rs me h R o

  -- of a verdict on the cell
  abbrev At : Verdict → Type 0
  At v = Ok (settle a x v below)

  rest : IsWellTypedObligation p h f.work cl a x T × IsWellTypedTop p q h (record { object = a; field = x; to = T } ∷ []) f.work f.values ts
  rest = top_rest p q h cl a x T ready f.work f.values ts tok

  -- the cell becomes (M, v)
  obligation_sets : (d : Cell) → cell_at h a x ≡ Some d → (M : Ty) → meet_of d.ty T ≡ Some M → (v : Val) → IsTyped p h v M → At (verdict.Sets (holds M v) f)
  obligation_sets d at M e v has =
      let m = meet_below d.ty T M e in
      let g = extends_set h a x d M v at m.0 in
      let h' = set_cell h a x (holds M v) in
      sets_new p h threads s rs me R f below ok a x (holds M v) g (heap_set p h a x d M v at m.0 has ok.heap) f.work f.values ts vok
      (met p q h' a x T f.work f.values ts (record { cell = holds M v; at = cell-set h a x (holds M v) d at; low = m.1 }) (top_grows p q rs (λ t U i. i) g _ f.work f.values ts rest.1))

  strengthen_ok : (d : Cell) → cell_at h a x ≡ Some d → precise d.ty T ≡ false → (M : Ty) → meet_of d.ty T ≡ Some M → (o : Fit) → FitOk p h d.value M o → At (strengthen cl a x T ready f d M o)
  strengthen_ok d at isnt M e fits.Unfit i = blaming_ok p h threads s rs me R f below ok a x (blamed f.work) (free_below p h (blamed f.work) a x T d at isnt (rest.0).blame)
  strengthen_ok d at isnt M e (fits.Holds v) i = obligation_sets d at M e v i
  strengthen_ok d at isnt M e (fits.Opens k b) i =
      on_test (is_ready ready d.value M) _ _ At
      (λ yes. obligation_sets d at M e d.value (ready_has p q h cl a x T ready f.work f.values ts d.value M tok yes))
      (λ not_yet. goes_ok p h threads s rs me R f below ok (obligations k b (fields_of M) (work.Obligation cl a x T (Some (record { value = d.value; ty = M })) ∷ []) ++ f.work) f.values ts vok
      (group p q h k b (fields_of M) (work.Obligation cl a x T (Some (record { value = d.value; ty = M }))) f.work f.values ts d.value M i.0 i.1 i.2
      (λ g U m. not_free p h (blamed f.work) a x T d at isnt (rest.0).blame b g U)
      (λ left o. (rest.0, o, rest.1))))

  meets_ok : (d : Cell) → cell_at h a x ≡ Some d → precise d.ty T ≡ false → (o : Option Ty) → meet_of d.ty T ≡ o → At (meets p cl a x T ready f d o)
  meets_ok d at isnt None e = blaming_ok p h threads s rs me R f below ok a x (blamed f.work) (free_below p h (blamed f.work) a x T d at isnt (rest.0).blame)
  meets_ok d at isnt (Some M) e = strengthen_ok d at isnt M e (fit_of p d.value M) (fit_ok p h ok.heap d.value M (cell_typed ok.heap a x d at).0)

  cell_ok : (o : Option Cell) → cell_at h a x ≡ o → At (on_cell verdict.NoRow (obligation_cell p cl a x T ready f) o)
  cell_ok None e = let z : None ≡ Some (rest.0).cell = sym e ∙ (rest.0).at in absurd cc
  cell_ok (Some d) e =
      on_test (precise d.ty T) _ _ At
      (λ yes. goes_ok p h threads s rs me R f below ok f.work f.values ts vok (met p q h a x T f.work f.values ts (record { cell = d; at = e; low = yes }) rest.1))
      (λ isnt. meets_ok d e isnt (meet_of d.ty T) refl)

  pub obligation_ok : MoveOk p rs me h R (obligation_step p h cl a x T ready f below)
  obligation_ok = cell_ok (cell_at h a x) refl
