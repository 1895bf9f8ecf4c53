-- A new object keeps everything well typed.
use Rattle.std.proofs.Common.{Bool, List, Some, [], ap, ap₂, bytes_eq, false, inl, inr, length, nat_le, refl, slice_get, subst, suc, sym, true, ℕ, ⊎_elim, ◌++◌, ◌+◌, ◌∙◌, ◌∷◌, ◌≡◌}
use Rattle.std.proofs.lemmas.Bool.{false≢true}
use Rattle.mono_list.proofs.Cases.{none_some, some_is}
use Rattle.mono_syntax.specs.Ty.{Fields, Ty, more_fields, no_fields, obj}
use Rattle.mono_syntax.specs.declared.cast.CastClass.{CastClass}
use Rattle.mono_syntax.specs.declared.cast.CastScript.{CastScript}
use Rattle.mono_syntax.specs.declared.value.Val.{Val}
use Rattle.mono_syntax.specs.declared.value.Val.TheVariants as val
use Rattle.mono_tree.proofs.TypeLaws.{bytes_eq-refl, bytes_eq-same, precise_refl}
use Rattle.mono_tree.specs.CastScripts.{class_names, fields_in, fields_of}
use Rattle.mono_tree.specs.FieldNames.{names_of}
use Rattle.mono_tree.specs.TypedPrograms.{FieldArguments, HasField, IsTypedProgram, NewUse, Scope}
use Rattle.cast_machine.proofs.Classes.{ClassOk, Has, class_ok}
use Rattle.cast_machine.proofs.Fitting.{has_lower}
use Rattle.cast_machine.proofs.Grows.{HeapOk, cell_typed, has_grows, names_grow, stack_grows, values_grow}
use Rattle.cast_machine.proofs.Heap.{cell-more, cell-split, lookup_here, lookup_tail, object-new, on_test, shape-more, shape-split}
use Rattle.cast_machine.proofs.Obligations.{HereOk, MoveOk, fails_ok, work_top}
use Rattle.cast_machine.proofs.ValueLists.{split_values, take_split}
use Rattle.cast_machine.specs.Calls.{cell_of, cells_of, named, new_args, new_at, new_object}
use Rattle.cast_machine.specs.Cells.{holds}
use Rattle.cast_machine.specs.Heap.{Heap, cell_at, cell_in, heap_size, object_at, shape_at, shape_in, size}
use Rattle.cast_machine.specs.HeapTyping.{AreTyped, Extends, IsAsPrecise, IsTyped}
use Rattle.cast_machine.specs.Maps.{keys, lookup}
use Rattle.cast_machine.specs.Rows.{has}
use Rattle.cast_machine.specs.Typing.{around}
use Rattle.cast_machine.specs.WorkTyping.{IsWellTypedWork, push_all}
use Rattle.cast_machine.specs.declared.data.Cell.{Cell}
use Rattle.cast_machine.specs.declared.data.End.TheVariants as ends
use Rattle.cast_machine.specs.declared.data.Frame.{Frame}
use Rattle.cast_machine.specs.declared.data.Object.{Object}
use Rattle.cast_machine.specs.declared.data.Thread.{Thread}

-- each field's name has its argument
pub record Given (p : CastScript) (h : Heap) (fs : Fields) (given : List (List ℕ × Val)) (x : List ℕ) : Type 0 where
  pub value : Val
  pub type : Ty
  pub at : lookup given x ≡ Some value
  pub field : HasField fs x type
  pub typed : IsTyped p h value type

given_ok : (p : CastScript) (h : Heap) (fs : Fields) (params : List (List ℕ)) (values : List Val) (ts : List Ty) (x : List ℕ) → AreTyped p h values ts → FieldArguments fs params ts → Has params x → Given p h fs (named params values) x
given_ok p h fs [] values ts x vok al is = absurd is
given_ok p h fs (n ∷ ns) [] [] x vok al is = absurd al
given_ok p h fs (n ∷ ns) (v ∷ vs) (A ∷ ts) x vok al is = go (λ j. given_ok p h fs ns vs ts x vok.1 al.1 j) (bytes_eq n x) refl
  where
    go : (Has ns x → Given p h fs (named ns vs) x) → (t : Bool) → bytes_eq n x ≡ t → Given p h fs (named (n ∷ ns) (v ∷ vs)) x
    go ih true e =
        record { value = v; type = al.0.0; at = lookup_here (n, v) (named ns vs) x e; field = subst (λ k. HasField fs k al.0.0) (bytes_eq-same n x e) al.0.1; typed = has_lower p h v A al.0.0 vok.0 al.0.2 }
    go ih false e =
        let g = ⊎_elim (λ here. absurd (false≢true (sym e ∙ subst (λ k. bytes_eq k x ≡ true) (sym here) (bytes_eq-refl x)))) ih is in
        record { value = g.value; type = g.type; at = lookup_tail (n, v) (named ns vs) x e ∙ g.at; field = g.field; typed = g.typed }
given_ok p h fs (n ∷ ns) [] (A ∷ ts) x vok al is = absurd vok
given_ok p h fs (n ∷ ns) (v ∷ vs) [] x vok al is = absurd vok

-- the cells that are made
pub record Made (p : CastScript) (h : Heap) (fs : Fields) (given : List (List ℕ × Val)) : Type 0 where
  pub cells : List (List ℕ × Cell)
  pub at : cells_of fs given ≡ Some cells
  pub names : keys cells ≡ names_of fs
  pub typed : (x : List ℕ) (c : Cell) → lookup cells x ≡ Some c → IsTyped p h c.value c.ty
  pub there : (x : List ℕ) (U : Ty) → HasField fs x U → (c : Cell) × (lookup cells x ≡ Some c) × HasField fs x c.ty

made_more : (p : CastScript) (h : Heap) (n : List ℕ) (T : Ty) (fs : Fields) (given : List (List ℕ × Val)) (v : Val) → lookup given n ≡ Some v → IsTyped p h v T → Made p h fs given → Made p h (more_fields n T fs) given
made_more p h n T fs given v at has m = record {
  cells = (n, holds T v) ∷ m.cells;
  at = ap₂ (λ a b. cell_of n T a b) at m.at;
  names = ap (λ ns. n ∷ ns) m.names;
  typed = λ x c e. typed_at (bytes_eq n x) x c refl e;
  there = λ x U i. there_at (bytes_eq n x) x U refl i;
}
  where
    typed_at : (t : Bool) (x : List ℕ) (c : Cell) → bytes_eq n x ≡ t → lookup ((n, holds T v) ∷ m.cells) x ≡ Some c → IsTyped p h c.value c.ty
    typed_at true x c d e = let one : holds T v ≡ c = some_is (sym (lookup_here (n, holds T v) m.cells x d) ∙ e) in subst (λ (y : Cell). IsTyped p h y.value y.ty) one has
    typed_at false x c d e = m.typed x c (sym (lookup_tail (n, holds T v) m.cells x d) ∙ e)

    there_at : (t : Bool) (x : List ℕ) (U : Ty) → bytes_eq n x ≡ t → HasField (more_fields n T fs) x U → (c : Cell) × (lookup ((n, holds T v) ∷ m.cells) x ≡ Some c) × HasField (more_fields n T fs) x c.ty
    there_at true x U d i = (holds T v, lookup_here (n, holds T v) m.cells x d, inl (bytes_eq-same n x d, refl))
    there_at false x U d i =
        let y = ⊎_elim (λ here. absurd (false≢true (sym d ∙ subst (λ k. bytes_eq k x ≡ true) (sym here.0) (bytes_eq-refl x)))) (λ later. m.there x U later) i in
        (y.0, lookup_tail (n, holds T v) m.cells x d ∙ y.1, inr y.2)

made : (p : CastScript) (h : Heap) (fs : Fields) (given : List (List ℕ × Val)) → ((x : List ℕ) (U : Ty) → HasField fs x U → (v : Val) × (lookup given x ≡ Some v) × IsTyped p h v U) → Made p h fs given
made p h no_fields given each = record { cells = []; at = refl; names = refl; typed = λ x c e. none_some _ e; there = λ x U i. absurd i }
made p h (more_fields n T fs) given each =
    let y = each n T (inl (refl, refl)) in
    made_more p h n T fs given y.0 y.1 y.2 (made p h fs given (λ x U i. each x U (inr i)))

module _ (p : CastScript) (h : Heap) (threads : List Thread) (s : Scope) (rs : List Ty) (me : ℕ) (R : Ty) (f : Frame) (below : List Frame) (ok : HereOk p h threads s rs me R f below) (room : ℕ) (vs : List Val) (ts : List Ty) (vok : AreTyped p h vs ts) (cl : ℕ) (T : Ty) (w : IsWellTypedWork p s f.asked f.work (T ∷ ts)) (d : CastClass) (cok : ClassOk d) (at : slice_get p.classes cl ≡ Some d) (type : T ≡ d.ty) where
  module _ (given : List (List ℕ × Val)) (m : Made p h (fields_of d.ty) given) where
    abbrev o : Object
    o = record { class = cl; cells = m.cells; waits = 0; maker = 0 }

    abbrev heap' : Heap
    heap' = h ++ o ∷ []

    grows : Extends h heap'
    grows = record {
      shapes = λ a x e. shape-more h o a x e;
      cells = λ a x c e. record { cell = c; at = cell-more h o a x c e; low = precise_refl c.ty };
    }

    cells_typed : (a : ℕ) (x : List ℕ) (c : Cell) → cell_at heap' a x ≡ Some c → IsTyped p heap' c.value c.ty
    cells_typed a x c e = ⊎_elim
        (λ old. has_grows p grows c.value c.ty (cell_typed ok.heap a x c old))
        (λ fresh. has_grows p grows c.value c.ty (m.typed x c fresh.1))
        (cell-split h o a x c e)

    heap_ok : HeapOk p heap'
    heap_ok = record {
      letter = record { typed = λ a x c e. (cells_typed a x c e).1 };
      own = record {
        values = λ a x c e. (cells_typed a x c e).0;
        named = λ a k ns e. ⊎_elim
            (λ old. ((ok.heap).own).named a k ns old)
            (λ fresh.
            let z : (cl, keys m.cells) ≡ (k, ns) = some_is fresh in
            sym (ap (λ (q : ℕ × List (List ℕ)). q.1) z) ∙ m.names ∙ ap names_of (sym (ap fields_in at)) ∙ ap (class_names p) (ap (λ (q : ℕ × List (List ℕ)). q.0) z))
            (shape-split h o a (k, ns) e);
        classes = λ a k ns e. ⊎_elim
            (λ old. ((ok.heap).own).classes a k ns old)
            (λ fresh. let z : (cl, keys m.cells) ≡ (k, ns) = some_is fresh in (d, subst (λ j. slice_get p.classes j ≡ Some d) (ap (λ (q : ℕ × List (List ℕ)). q.0) z) at))
            (shape-split h o a (k, ns) e);
      };
    }

    here : object_at heap' (heap_size h) ≡ Some o
    here = object-new h o

    shape : shape_at heap' (heap_size h) ≡ Some (cl, names_of (fields_of d.ty))
    shape = ap shape_in here ∙ ap (λ ns. Some (cl, ns)) m.names

    object_typed : IsTyped p heap' (val.Obj cl (heap_size h)) (obj (fields_of d.ty))
    object_typed = (
      (names_of (fields_of d.ty), shape),
      (
        shape,
        λ x U i.
            let y = m.there x U i in
            record { cell = y.0; at = ap (λ q. cell_in q x) here ∙ y.1; low = subst (λ V. IsAsPrecise (y.0).ty V) (cok.unique x (y.0).ty U y.2 i) (precise_refl (y.0).ty) },
      ),
    )

    made_ok : MoveOk p rs me h R (new_object room h cl (Some m.cells) (has vs f) below)
    made_ok =
        on_test (nat_le (heap_size h + size o) room) _ _ (λ x. MoveOk p rs me h R x)
        (λ fits. record {
          grows = grows;
          heap = heap_ok;
          state = (
            record {
              scope = s;
              named = names_grow p (around s f.asked rs me) rs (λ t U e. e) grows ok.named;
              types = obj (fields_of d.ty) ∷ ts;
              values = (object_typed, values_grow p grows vs ts vok);
              work = work_top p (around s f.asked rs me) heap' f.work (val.Obj cl (heap_size h) ∷ vs) (obj (fields_of d.ty) ∷ ts) (subst (λ U. IsWellTypedWork p s f.asked f.work (U ∷ ts)) (type ∙ cok.type) w);
            },
            stack_grows p rs rs me (λ t U e. e) grows f.asked below R ok.stack,
          );
          begun = tt;
          said = tt;
          ends = tt;
          lives = λ _. tt;
        })
        (λ full. fails_ok p h threads s rs me R f below ok ends.HeapFull tt)

  cells_ok : (given : List (List ℕ × Val)) → Made p h (fields_of d.ty) given → MoveOk p rs me h R (new_object room h cl (cells_of (fields_of d.ty) given) (has vs f) below)
  cells_ok given m = subst (λ q. MoveOk p rs me h R (new_object room h cl q (has vs f) below)) (sym m.at) (made_ok given m)

arguments_length : (fs : Fields) (ns : List (List ℕ)) (ts : List Ty) → FieldArguments fs ns ts → length ts ≡ length ns
arguments_length fs [] [] i = refl
arguments_length fs (n ∷ ns) (A ∷ ts) i = ap suc (arguments_length fs ns ts i.1)
arguments_length fs ns ts i = absurd i

pub new_ok : (p : CastScript) (pok : IsTypedProgram p) (h : Heap) (threads : List Thread) (s : Scope) (rs : List Ty) (me : ℕ) (R : Ty) (f : Frame) (below : List Frame) (ok : HereOk p h threads s rs me R f below) (room cl : ℕ) (arguments us : List Ty) (T : Ty) → NewUse p cl arguments T → AreTyped p h f.values (push_all arguments us) → IsWellTypedWork p s f.asked f.work (T ∷ us) → MoveOk p rs me h R (new_at room h cl (slice_get p.classes cl) f below)
new_ok p pok h threads s rs me R f below ok room cl arguments us T n vok w =
    let d = n.class in
    let c = class_ok d (pok.classes cl d n.at) in
    let x = split_values p h f.values arguments us vok in
    let taken = take_split p h f.values arguments us x (length d.params) (arguments_length (fields_of d.ty) d.params arguments n.arguments) in
    let given = named d.params x.args in
    let m = made p h (fields_of d.ty) given (λ y U i.
    let g = given_ok p h (fields_of d.ty) d.params x.args arguments y x.args_ok n.arguments (c.named y U i) in
    (g.value, g.at, subst (λ V. IsTyped p h g.value V) (c.unique y g.type U g.field i) g.typed)) in
    subst (λ q. MoveOk p rs me h R (new_at room h cl q f below)) (sym n.at)
    (subst (λ q. MoveOk p rs me h R (new_args room h cl d q f below)) (sym taken)
    (cells_ok p h threads s rs me R f below ok room x.below us x.below_ok cl T w d c n.at n.type given m))
