-- What a fit says, and what a changed cell keeps.
use Rattle.std.proofs.Common.{Bool, List, None, Option, Some, [], ap, ap₂, arith, bytes_eq, false, if◌then◌else◌, inl, inr, nat_eq, refl, subst, sym, true, ℕ, ⊎_elim, ◌&&◌, ◌∙◌, ◌∷◌, ◌≡◌}
use Rattle.std.proofs.lemmas.Bool.{and_from, and_parts, false≢true}
use Rattle.mono_list.proofs.Cases.{none_some, some_is, split}
use Rattle.mono_syntax.specs.Ty.{Fields, Ty, bool, dyn, fun, int, more_fields, nil, no_fields, obj, str}
use Rattle.mono_syntax.specs.declared.cast.CastScript.{CastScript}
use Rattle.mono_syntax.specs.declared.value.Val.{Val}
use Rattle.mono_syntax.specs.declared.value.Val.TheVariants as val
use Rattle.mono_tree.proofs.TypeLaws.{bytes_eq-refl, bytes_eq-same, meet_at, meet_below, precise_names, precise_refl, precise_trans}
use Rattle.mono_tree.specs.CastScripts.{class_names, fields_of}
use Rattle.mono_tree.specs.FieldNames.{names_of}
use Rattle.mono_tree.specs.Meet.{meet_of}
use Rattle.mono_tree.specs.Precision.{precise, precise_fields}
use Rattle.mono_tree.specs.TypedPrograms.{HasField}
use Rattle.cast_machine.proofs.Grows.{HeapOk, below_lower, cell_typed, has_grows}
use Rattle.cast_machine.proofs.Heap.{cell-set, cell-set_cases, shape-set, shown_cell}
use Rattle.cast_machine.specs.Cells.{holds}
use Rattle.cast_machine.specs.Fits.{fit_fun, fit_obj, fit_of, names_same}
use Rattle.cast_machine.specs.Heap.{Heap, cell_at, cell_in, object_at, set_cell, shape_at, shape_in}
use Rattle.cast_machine.specs.HeapTyping.{Extends, HasType, IsAsPrecise, IsFunctionOf, IsTyped, IsValueOf}
use Rattle.cast_machine.specs.Maps.{keys, lookup}
use Rattle.cast_machine.specs.Rows.{has}
use Rattle.cast_machine.specs.declared.data.Cell.{Cell}
use Rattle.cast_machine.specs.declared.data.Fit.{Fit}
use Rattle.cast_machine.specs.declared.data.Fit.TheVariants as fits
use Rattle.cast_machine.specs.declared.data.Object.{Object}

-- a cell that gains precision
pub extends_set : (h : Heap) (a : ℕ) (f : List ℕ) (d : Cell) (M : Ty) (v : Val) → cell_at h a f ≡ Some d → IsAsPrecise M d.ty → Extends h (set_cell h a f (holds M v))
extends_set h a f d M v e low = record {
  shapes = λ b s i. shape-set h a f (holds M v) d e b ∙ i;
  cells = λ b g c i. ⊎_elim
      (λ same.
      let here : cell_at h b g ≡ Some d = subst (λ k. cell_at h k g ≡ Some d) same.0 (subst (λ k. cell_at h a k ≡ Some d) same.1 e) in
      let one : d ≡ c = some_is (sym here ∙ i) in
      record {
        cell = holds M v;
        at = subst (λ k. cell_at (set_cell h a f (holds M v)) k g ≡ Some (holds M v)) same.0 (subst (λ k. cell_at (set_cell h a f (holds M v)) a k ≡ Some (holds M v)) same.1 (cell-set h a f (holds M v) d e));
        low = subst (λ (k : Cell). IsAsPrecise M k.ty) one low;
      })
      (λ stays. record { cell = c; at = stays ∙ i; low = precise_refl c.ty })
      (cell-set_cases h a f (holds M v) d e b g);
}

set_typed : (p : CastScript) (h : Heap) (a : ℕ) (f : List ℕ) (d : Cell) (M : Ty) (v : Val) → cell_at h a f ≡ Some d → IsAsPrecise M d.ty → IsTyped p h v M → HeapOk p h → (b : ℕ) (g : List ℕ) (c : Cell) → cell_at (set_cell h a f (holds M v)) b g ≡ Some c → IsTyped p (set_cell h a f (holds M v)) c.value c.ty
set_typed p h a f d M v e low has ok b g c i =
    let x = extends_set h a f d M v e low in
    ⊎_elim
    (λ same.
    let h' = set_cell h a f (holds M v) in
    let here : cell_at h' b g ≡ Some (holds M v) = subst (λ k. cell_at h' k g ≡ Some (holds M v)) same.0 (subst (λ k. cell_at h' a k ≡ Some (holds M v)) same.1 (cell-set h a f (holds M v) d e)) in
    let one : holds M v ≡ c = some_is (sym here ∙ i) in
    subst (λ (k : Cell). IsTyped p h' k.value k.ty) one (has_grows p x v M has))
    (λ stays. has_grows p x c.value c.ty (cell_typed ok b g c (sym stays ∙ i)))
    (cell-set_cases h a f (holds M v) d e b g)

pub heap_set : (p : CastScript) (h : Heap) (a : ℕ) (f : List ℕ) (d : Cell) (M : Ty) (v : Val) → cell_at h a f ≡ Some d → IsAsPrecise M d.ty → IsTyped p h v M → HeapOk p h → HeapOk p (set_cell h a f (holds M v))
heap_set p h a f d M v e low has ok = record {
  letter = record { typed = λ b g c i. (set_typed p h a f d M v e low has ok b g c i).1 };
  own = record { values = λ b g c i. (set_typed p h a f d M v e low has ok b g c i).0; named = λ b cl ns i. (ok.own).named b cl ns (sym (shape-set h a f (holds M v) d e b) ∙ i); classes = λ b cl ns i. (ok.own).classes b cl ns (sym (shape-set h a f (holds M v) d e b) ∙ i) };
}

-- a less precise type
pub fields_lower : (fs gs : Fields) (f : List ℕ) (U : Ty) → precise_fields fs gs ≡ true → HasField gs f U → (V : Ty) × HasField fs f V × IsAsPrecise V U
fields_lower no_fields no_fields f U e i = absurd i
fields_lower (more_fields n A fs) (more_fields m B gs) f U e i =
    let x = and_parts (bytes_eq n m) (precise A B && precise_fields fs gs) e in
    let y = and_parts (precise A B) (precise_fields fs gs) x.1 in
    ⊎_elim
    (λ here. (A, inl (bytes_eq-same n m x.0 ∙ here.0, refl), subst (λ k. IsAsPrecise A k) here.1 y.0))
    (λ later. let z = fields_lower fs gs f U y.1 later in (z.0, inr z.1, z.2))
    i
fields_lower fs gs f U e i = absurd (false≢true e)

fits_lower : (h : Heap) (v : Val) (S T : Ty) → HasType h v S → IsAsPrecise S T → HasType h v T
fits_lower h v S dyn i e = tt
fits_lower h v int int i e = i
fits_lower h v bool bool i e = i
fits_lower h v str str i e = i
fits_lower h v nil nil i e = i
fits_lower h (val.Fun g m) (fun ps r) (fun qs s) i e = precise_trans m (fun ps r) (fun qs s) i e
fits_lower h (val.Obj c a) (obj fs) (obj gs) i e =
    (i.0 ∙ ap (λ ns. Some (c, ns)) (precise_names fs gs e), λ f U m. let z = fields_lower fs gs f U e m in below_lower (i.1 f z.0 z.1) z.2)
fits_lower h v S T i e = grind arith

pub has_lower : (p : CastScript) (h : Heap) (v : Val) (S T : Ty) → IsTyped p h v S → IsAsPrecise S T → IsTyped p h v T
has_lower p h v S T i e = (i.0, fits_lower h v S T i.1 e)

pub names_same-eq : (ns ms : List (List ℕ)) → names_same ns ms ≡ true → ns ≡ ms
names_same-eq [] [] e = refl
names_same-eq (n ∷ ns) (m ∷ ms) e =
    let x = and_parts (bytes_eq n m) (names_same ns ms) e in ap₂ (λ a b. a ∷ b) (bytes_eq-same n m x.0) (names_same-eq ns ms x.1)
names_same-eq ns ms e = cc

names_same-refl : (ns : List (List ℕ)) → names_same ns ns ≡ true
names_same-refl [] = refl
names_same-refl (n ∷ ns) = and_from (bytes_eq n n) (names_same ns ns) (bytes_eq-refl n) (names_same-refl ns)

-- what a fit says
abbrev pub FitOk : CastScript → Heap → Val → Ty → Fit → Type 0
FitOk p h v T (fits.Holds u) = IsTyped p h u T
FitOk p h v T (fits.Opens c b) = (v ≡ val.Obj c b) × (T ≡ obj (fields_of T)) × (shape_at h b ≡ Some (c, names_of (fields_of T)))
FitOk p h v T fits.Unfit = IsTyped p h v T → ⊥

fun_fit : (p : CastScript) (h : Heap) (g : ℕ) (m T : Ty) (isf : IsFunctionOf p g m) (is : (u : Ty) → IsAsPrecise u T → HasType h (val.Fun g u) T) (back : HasType h (val.Fun g m) T → IsAsPrecise m T) (o : Option Ty) → meet_of m T ≡ o → FitOk p h (val.Fun g m) T (fit_fun g o)
fun_fit p h g m T isf is back None e = λ i. let d : None ≡ Some m = sym e ∙ meet_at m T (back i.1) in absurd cc
fun_fit p h g m T isf is back (Some u) e = (record { function = isf.function; at = isf.at; low = precise_trans u m ((isf.function).ty) (meet_below m T u e).0 isf.low }, is u (meet_below m T u e).1)

obj_fit : (p : CastScript) (h : Heap) → HeapOk p h → (c a : ℕ) (fs : Fields) → IsValueOf p h (val.Obj c a) → (t : Bool) → names_same (class_names p c) (names_of fs) ≡ t → FitOk p h (val.Obj c a) (obj fs) (fit_obj t c a)
obj_fit p h ok c a fs i true e = (refl, refl, i.1 ∙ ap (λ ns. Some (c, ns)) ((ok.own).named a c i.0 i.1 ∙ names_same-eq (class_names p c) (names_of fs) e))
obj_fit p h ok c a fs i false e = λ has.
    let same : names_of fs ≡ class_names p c = (ok.own).named a c (names_of fs) has.1.0 in
    false≢true (sym e ∙ subst (λ ns. names_same ns (names_of fs) ≡ true) same (names_same-refl (names_of fs)))

pub fit_ok : (p : CastScript) (h : Heap) → HeapOk p h → (v : Val) (T : Ty) → IsValueOf p h v → FitOk p h v T (fit_of p v T)
fit_ok p h ok v dyn i = (i, tt)
fit_ok p h ok (val.Fun g m) (fun ps r) i = fun_fit p h g m (fun ps r) i (λ u e. e) (λ e. e) (meet_of m (fun ps r)) refl
fit_ok p h ok (val.Obj c a) (obj fs) i = obj_fit p h ok c a fs i (names_same (class_names p c) (names_of fs)) refl
fit_ok p h ok (val.Int n) int i = (i, tt)
fit_ok p h ok (val.Bool b) bool i = (tt, tt)
fit_ok p h ok (val.Text t) str i = (tt, tt)
fit_ok p h ok val.Nil nil i = (tt, tt)
fit_ok p h ok v T i = λ e. e.1

-- a field of the shape has a cell
pub has_key : {A : Type 0} (l : List (List ℕ × A)) (fs : Fields) (f : List ℕ) (U : Ty) → keys l ≡ names_of fs → HasField fs f U → (x : A) × (lookup l f ≡ Some x)
has_key [] no_fields f U e i = absurd i
has_key [] (more_fields n T fs) f U e i = absurd cc
has_key (q ∷ l) no_fields f U e i = absurd i
has_key {A = A} (q ∷ l) (more_fields n T fs) f U e i = go (λ j. has_key l fs f U tails j) (bytes_eq q.0 f) refl
  where
    heads : q.0 ≡ n
    heads = cc

    tails : keys l ≡ names_of fs
    tails = cc

    go : (HasField fs f U → (x : A) × (lookup l f ≡ Some x)) → (t : Bool) → bytes_eq q.0 f ≡ t → (x : A) × (lookup (q ∷ l) f ≡ Some x)
    go ih true d = (q.1, rw d refl)
    go ih false d = ⊎_elim
        (λ here. absurd (false≢true (sym d ∙ ap (λ k. bytes_eq k f) (heads ∙ here.0) ∙ bytes_eq-refl f)))
        (λ later. let z = ih later in (z.0, rw d z.1))
        i

pub shape_keys : (q : Option Object) (c : ℕ) (ns : List (List ℕ)) → shape_in q ≡ Some (c, ns) → (o : Object) × (q ≡ Some o) × (keys o.cells ≡ ns) × (nat_eq o.waits 0 ≡ true)
shape_keys None c ns e = absurd cc
shape_keys (Some o) c ns e =
    let shape : Option (ℕ × List (List ℕ)) = Some (o.class, keys o.cells) in
    split (nat_eq o.waits 0) (λ t. (if t then shape else None) ≡ Some (c, ns) → nat_eq o.waits 0 ≡ t → (u : Object) × (Some o ≡ Some u) × (keys u.cells ≡ ns) × (nat_eq u.waits 0 ≡ true))
    (λ _ i w. (o, refl, ap (λ (s : ℕ × List (List ℕ)). s.1) (some_is i), w)) (λ _ i w. none_some _ i) e refl

pub shape_cell : (h : Heap) (a c : ℕ) (fs : Fields) (f : List ℕ) (U : Ty) → shape_at h a ≡ Some (c, names_of fs) → HasField fs f U → (x : Cell) × (cell_at h a f ≡ Some x)
shape_cell h a c fs f U e i =
    let s = shape_keys (object_at h a) c (names_of fs) e in
    let k = has_key (s.0).cells fs f U s.2 i in
    (k.0, ap (λ q. cell_in q f) s.1 ∙ shown_cell s.0 f k.0 s.3 k.1)
