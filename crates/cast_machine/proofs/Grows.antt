-- What is true of a heap stays true where recorded types only gain precision and threads are only added.
use Rattle.std.proofs.Common.{◌++◌, List, None, Option, Some, [], inl, inr, slice_get, ℕ, ⊎_elim, ◌∷◌, ◌≡◌}
use Rattle.mono_syntax.specs.Ty.{Ty, bool, dyn, fun, int, nil, obj, str}
use Rattle.mono_syntax.specs.declared.cast.CastScript.{CastScript}
use Rattle.mono_syntax.specs.declared.cast.NamedType.{NamedType}
use Rattle.mono_syntax.specs.declared.value.Val.{Val}
use Rattle.mono_syntax.specs.declared.value.Val.TheVariants as val
use Rattle.mono_tree.proofs.TypeLaws.{precise_refl, precise_trans}
use Rattle.mono_tree.specs.FieldNames.{names_of}
use Rattle.cast_machine.specs.Cells.{blamed}
use Rattle.cast_machine.specs.Heap.{Heap, cell_at}
use Rattle.cast_machine.specs.HeapTyping.{AreTyped, Extends, HasType, IsAsPrecise, IsBelow, IsHeapOf, IsTyped, IsValueOf, IsWellTypedHeap, AreLinesOf, AreValuesOf}
use Rattle.cast_machine.specs.Typing.{AreHandlesTyped, AreLater, AreNamesTyped, IsNamed, IsWellTypedFrame, IsWellTypedLower, IsWellTypedStack, IsWellTypedState, around}
use Rattle.cast_machine.specs.WorkTyping.{Around, IsLater, IsWellTypedObligation, IsWellTypedTop, MayBeBlamed, Owns, Pending}
use Rattle.cast_machine.specs.declared.data.Cell.{Cell}
use Rattle.cast_machine.specs.declared.data.Frame.{Frame}
use Rattle.cast_machine.specs.declared.data.State.{State}
use Rattle.cast_machine.specs.declared.data.State.TheVariants as state
use Rattle.cast_machine.specs.declared.data.Work.{Work}
use Rattle.cast_machine.specs.declared.data.Work.TheVariants as work

-- a heap of the script that is well typed
pub record HeapOk (p : CastScript) (h : Heap) : Type 0 where
  pub letter : IsWellTypedHeap h
  pub own : IsHeapOf p h

pub cell_typed : {p : CastScript} {h : Heap} → HeapOk p h → (a : ℕ) (f : List ℕ) (c : Cell) → cell_at h a f ≡ Some c → IsTyped p h c.value c.ty
cell_typed ok a f c e = ((ok.own).values a f c e, (ok.letter).typed a f c e)

pub below_lower : {h : Heap} {a : ℕ} {f : List ℕ} {U V : Ty} → IsBelow h a f U → IsAsPrecise U V → IsBelow h a f V
below_lower {U = U} {V = V} b e = record { cell = b.cell; at = b.at; low = precise_trans (b.cell).ty U V b.low e }

pub below_grows : {h h' : Heap} {a : ℕ} {f : List ℕ} {U : Ty} → Extends h h' → IsBelow h a f U → IsBelow h' a f U
below_grows {a = a} {f = f} x b = below_lower (x.cells a f b.cell b.at) b.low

pub extends_refl : (h : Heap) → Extends h h
extends_refl h = record { shapes = λ a s e. e; cells = λ a f c e. record { cell = c; at = e; low = precise_refl c.ty } }

pub value_grows : (p : CastScript) {h h' : Heap} → Extends h h' → (v : Val) → IsValueOf p h v → IsValueOf p h' v
value_grows p x (val.Int n) i = i
value_grows p x (val.Obj c a) i = (i.0, x.shapes a (c, i.0) i.1)
value_grows p x (val.Bool b) i = i
value_grows p x val.Nil i = i
value_grows p x (val.Text t) i = i
value_grows p x (val.Fun g m) i = i

fits_grow : {h h' : Heap} → Extends h h' → (v : Val) (T : Ty) → HasType h v T → HasType h' v T
fits_grow x v dyn i = i
fits_grow x (val.Fun g m) (fun ps r) i = i
fits_grow x (val.Obj c a) (obj fs) i = (x.shapes a (c, names_of fs) i.0, λ f U m. below_grows x (i.1 f U m))
fits_grow x (val.Int n) int i = i
fits_grow x (val.Bool b) bool i = i
fits_grow x (val.Text t) str i = i
fits_grow x val.Nil nil i = i
fits_grow x v T i = absurd i

pub has_grows : (p : CastScript) {h h' : Heap} → Extends h h' → (v : Val) (T : Ty) → IsTyped p h v T → IsTyped p h' v T
has_grows p x v T i = (value_grows p x v i.0, fits_grow x v T i.1)

pub values_grow : (p : CastScript) {h h' : Heap} → Extends h h' → (vs : List Val) (ts : List Ty) → AreTyped p h vs ts → AreTyped p h' vs ts
values_grow p x [] [] i = i
values_grow p x (v ∷ vs) (T ∷ ts) i = (has_grows p x v T i.0, values_grow p x vs ts i.1)
values_grow p x vs ts i = absurd i

pub line_grows : (p : CastScript) {h h' : Heap} → Extends h h' → (vs : List Val) → AreValuesOf p h vs → AreValuesOf p h' vs
line_grows p x [] i = i
line_grows p x (v ∷ vs) i = (value_grows p x v i.0, line_grows p x vs i.1)

pub lines_grow : (p : CastScript) {h h' : Heap} → Extends h h' → (ls : List (List Val)) → AreLinesOf p h ls → AreLinesOf p h' ls
lines_grow p x [] i = i
lines_grow p x (l ∷ ls) i = (line_grows p x l i.0, lines_grow p x ls i.1)

pub lines_more : (p : CastScript) (h : Heap) (ls : List (List Val)) (line : List Val) → AreLinesOf p h ls → AreValuesOf p h line → AreLinesOf p h (ls ++ line ∷ [])
lines_more p h [] line i j = (j, tt)
lines_more p h (l ∷ ls) line i j = (i.0, lines_more p h ls line i.1 j)

pub values_of_script : (p : CastScript) (h : Heap) (vs : List Val) (ts : List Ty) → AreTyped p h vs ts → AreValuesOf p h vs
values_of_script p h [] [] i = tt
values_of_script p h (v ∷ vs) (T ∷ ts) i = (i.0.0, values_of_script p h vs ts i.1)
values_of_script p h [] (T ∷ ts) i = absurd i
values_of_script p h (v ∷ vs) [] i = absurd i

pub env_grows : {p : CastScript} {h h' : Heap} {names : List (List ℕ × Option Val)} {types : List NamedType} → Extends h h' → AreNamesTyped p h names types → AreNamesTyped p h' names types
env_grows {p = p} x i = record { there = i.there; typed = λ y T v e d. has_grows p x v T (i.typed y T v e d) }

-- more threads
abbrev pub MoreResults : List Ty → List Ty → Type 0
MoreResults rs rs' = (t : ℕ) (R : Ty) → slice_get rs t ≡ Some R → slice_get rs' t ≡ Some R

pub later_grows : {rs rs' : List Ty} {me t : ℕ} {R : Ty} → MoreResults rs rs' → IsLater rs me t R → IsLater rs' me t R
later_grows {t = t} y i = record { result = i.result; at = y t i.result i.at; low = i.low; later = i.later }

pub handles_grow : {rs rs' : List Ty} {me : ℕ} {handles : List (List ℕ × Option ℕ)} {types : List NamedType} → MoreResults rs rs' → AreHandlesTyped rs me handles types → AreHandlesTyped rs' me handles types
handles_grow y i = record { there = i.there; typed = λ x T t e d. later_grows y (i.typed x T t e d) }

pub started_grow : (rs rs' : List Ty) (me : ℕ) (ts : List ℕ) → MoreResults rs rs' → AreLater rs me ts → AreLater rs' me ts
started_grow rs rs' me [] y i = i
started_grow rs rs' me (t ∷ ts) y i = (later_grows y i.0, started_grow rs rs' me ts y i.1)

pub owns_grows : {h h' : Heap} {left : List Pending} {v : Val} {T : Ty} → Extends h h' → Owns h left v T → Owns h' left v T
owns_grows x i = record {
  class = i.class;
  base = i.base;
  fields = i.fields;
  value = i.value;
  type = i.type;
  shape = x.shapes i.base (i.class, names_of i.fields) i.shape;
  done = λ f U m. ⊎_elim inl (λ b. inr (below_grows x b)) (i.done f U m);
}

blame_grows : {h h' : Heap} → Extends h h' → (p : CastScript) (k : Option ℕ) (a : ℕ) (f : List ℕ) (T : Ty) → MayBeBlamed p h k a f T → MayBeBlamed p h' k a f T
blame_grows x p None a f T i = i
blame_grows x p (Some k) a f T i = (i.0, λ e. below_grows x (i.1 e))

ob_grows : {p : CastScript} {h h' : Heap} {rest : List Work} {cl a : ℕ} {f : List ℕ} {T : Ty} → Extends h h' → IsWellTypedObligation p h rest cl a f T → IsWellTypedObligation p h' rest cl a f T
ob_grows {p = p} {rest = rest} {cl = cl} {a = a} {f = f} {T = T} x i =
    let b = x.cells a f i.cell i.at in
    record { cell = b.cell; at = b.at; blame = blame_grows x p (blamed rest) a f T i.blame; shape = ((i.shape).0, x.shapes a (cl, (i.shape).0) (i.shape).1) }

module _ (p : CastScript) (q : Around) (rs' : List Ty) (y : MoreResults q.results rs') where
  pub top_grows : {h h' : Heap} → Extends h h' → (left : List Pending) (rest : List Work) (vs : List Val) (ts : List Ty) → IsWellTypedTop p q h left rest vs ts → IsWellTypedTop p (record q { results = rs' }) h' left rest vs ts
  top_grows x left (work.Obligation cl a f T None ∷ rest) vs ts i = (ob_grows x i.0, top_grows x (record { object = a; field = f; to = T } ∷ left) rest vs ts i.1)
  top_grows x left (work.Obligation cl a f T (Some r) ∷ rest) vs ts i = (ob_grows x i.0, owns_grows x i.1, top_grows x (record { object = a; field = f; to = T } ∷ []) rest vs ts i.2)
  top_grows x left (work.Fitted k T j ∷ rest) vs ts i = record { site = i.site; value = i.value; at = i.at; owns = owns_grows x i.owns; later = i.later }
  top_grows x left (work.Write m k F f (Some R) ∷ rest) (r ∷ v ∷ vs) (S ∷ A ∷ ts) i = record { owns = owns_grows x i.owns; write = i.write; dynamic = i.dynamic; later = i.later }
  top_grows x left (work.Join t ∷ rest) vs ts i = record { empty = i.empty; type = i.type; thread = later_grows y i.thread; later = i.later }
  top_grows x left rest vs ts i = i

  pub names_grow : {h h' : Heap} {names : List (List ℕ × Option Val)} {handles : List (List ℕ × Option ℕ)} {started : List ℕ} → Extends h h' → IsNamed p q h names handles started → IsNamed p (record q { results = rs' }) h' names handles started
  names_grow {started = started} x i = record { names_typed = env_grows x i.names_typed; handles_typed = handles_grow y i.handles_typed; started_later = started_grow q.results rs' q.me started y i.started_later; asked = i.asked }

module _ (p : CastScript) (rs rs' : List Ty) (me : ℕ) (y : MoreResults rs rs') {h h' : Heap} (x : Extends h h') where
  pub frame_grows : (f : Frame) → IsWellTypedFrame p rs me h f → IsWellTypedFrame p rs' me h' f
  frame_grows f i = record {
    scope = i.scope;
    named = names_grow p (around i.scope f.asked rs me) rs' y x i.named;
    types = i.types;
    values = values_grow p x f.values i.types i.values;
    work = top_grows p (around i.scope f.asked rs me) rs' y x [] f.work f.values i.types i.work;
  }

  pub lower_grows : (f : Frame) (R : Ty) → IsWellTypedLower p rs me h f R → IsWellTypedLower p rs' me h' f R
  lower_grows f R i = record {
    scope = i.scope;
    named = names_grow p (around i.scope f.asked rs me) rs' y x i.named;
    types = i.types;
    values = values_grow p x f.values i.types i.values;
    type = i.type;
    low = i.low;
    work = i.work;
  }

  pub stack_grows : (a : Option Ty) (below : List Frame) (R : Ty) → IsWellTypedStack p rs me h a below R → IsWellTypedStack p rs' me h' a below R
  stack_grows a [] R i = i
  stack_grows None (f ∷ below) R i = absurd i
  stack_grows (Some r) (f ∷ below) R i = (lower_grows f r i.0, stack_grows f.asked below R i.1)

  pub state_grows : (R : Ty) (s : State) → IsWellTypedState p rs me h R s → IsWellTypedState p rs' me h' R s
  state_grows R (state.Running f below) i = (frame_grows f i.0, stack_grows f.asked below R i.1)
  state_grows R (state.Failing e) i = i
  state_grows R (state.Finished v) i = has_grows p x v R i
  state_grows R state.Stopped i = i
