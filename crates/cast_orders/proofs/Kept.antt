-- What holds of a heap and a value holds of a heap and a value that are at least as precise.
use Rattle.std.proofs.Common.{ℕ, List, sym, ◌∙◌, subst}
use Rattle.mono_syntax.specs.Ty.{Ty, dyn, int, bool, str, nil, fun, obj, Fields}
use Rattle.mono_syntax.specs.declared.value.Val.{Val}
use Rattle.mono_syntax.specs.declared.value.Val.TheVariants as val
use Rattle.mono_syntax.specs.declared.cast.CastScript.{CastScript}
use Rattle.mono_tree.proofs.TypeLaws.{precise_trans}
use Rattle.cast_machine.specs.Heap.{Heap}
use Rattle.cast_machine.specs.HeapTyping.{HasType, IsBelow, IsValueOf, IsWellTypedHeap}
use Rattle.cast_machine.proofs.Grows.{HeapOk}
use Rattle.cast_orders.specs.Below.{IsValueBelow, IsHeapBelow}
use Rattle.cast_orders.proofs.Places.{shape_below, cell_below, cell_above}

-- a field's recorded type
pub field_kept : (k h : Heap) (a : ℕ) (x : List ℕ) (t : Ty) → IsHeapBelow k h → IsBelow h a x t → IsBelow k a x t
field_kept k h a x t b i =
    let c = cell_below k h a x i.cell b i.at in
    record { cell = c.0; at = c.1; low = precise_trans (c.0).ty (i.cell).ty t (c.2).ty i.low }

obj_kept : (k h : Heap) (c a : ℕ) (fs : Fields) → IsHeapBelow k h → HasType h (val.Obj c a) (obj fs) → HasType k (val.Obj c a) (obj fs)
obj_kept k h c a fs b i = (shape_below k h a b ∙ i.0, λ x t m. field_kept k h a x t b (i.1 x t m))

pub type_kept : (k h : Heap) (w v : Val) (t : Ty) → IsHeapBelow k h → IsValueBelow w v → HasType h v t → HasType k w t
type_kept k h w v dyn b n i = tt
type_kept k h w (val.Fun g m) (fun ps r) b n i = subst (λ x. HasType k x (fun ps r)) (sym n.1) (precise_trans n.0 m (fun ps r) n.2 i)
type_kept k h w (val.Obj c a) (obj fs) b n i = subst (λ x. HasType k x (obj fs)) (sym n) (obj_kept k h c a fs b i)
type_kept k h w (val.Int n) int b e i = subst (λ x. HasType k x int) (sym e) tt
type_kept k h w (val.Bool n) bool b e i = subst (λ x. HasType k x bool) (sym e) tt
type_kept k h w (val.Text n) str b e i = subst (λ x. HasType k x str) (sym e) tt
type_kept k h w val.Nil nil b e i = subst (λ x. HasType k x nil) (sym e) tt
type_kept k h w v t b n i = absurd i

-- ---- a heap of a script

pub own_kept : (p : CastScript) (k h : Heap) (w v : Val) → IsHeapBelow k h → IsValueBelow w v → IsValueOf p h v → IsValueOf p k w
own_kept p k h w (val.Fun g m) b n i =
    subst (λ x. IsValueOf p k x) (sym n.1)
    (record { function = i.function; at = i.at; low = precise_trans n.0 m ((i.function).ty) n.2 i.low })
own_kept p k h w (val.Obj c a) b n i = subst (λ x. IsValueOf p k x) (sym n) (i.0, shape_below k h a b ∙ i.1)
own_kept p k h w (val.Int n) b e i = subst (λ x. IsValueOf p k x) (sym e) i
own_kept p k h w (val.Bool n) b e i = subst (λ x. IsValueOf p k x) (sym e) i
own_kept p k h w (val.Text n) b e i = subst (λ x. IsValueOf p k x) (sym e) i
own_kept p k h w val.Nil b e i = subst (λ x. IsValueOf p k x) (sym e) i

-- a well-typed heap below one of the script
pub heap_kept : (p : CastScript) (k h : Heap) → IsHeapBelow k h → IsWellTypedHeap k → HeapOk p h → HeapOk p k
heap_kept p k h b typed ok = record {
  letter = typed;
  own = record {
    values = λ a x c e. let d = cell_above k h a x c b e in own_kept p k h c.value (d.0).value b (d.2).value ((ok.own).values a x d.0 d.1);
    named = λ a c ns e. (ok.own).named a c ns (sym (shape_below k h a b) ∙ e);
    classes = λ a c ns e. (ok.own).classes a c ns (sym (shape_below k h a b) ∙ e);
  };
}
