-- Heaps and values in precision: a partial order, below which types are kept.
use Rattle.std.proofs.Common.{◌≡◌, ℕ, List, [], ◌∷◌, refl, sym, ◌∙◌, ap, subst}
use Rattle.mono_syntax.specs.Ty.{Ty}
use Rattle.mono_syntax.specs.declared.value.Val.{Val}
use Rattle.mono_syntax.specs.declared.value.Val.TheVariants as val
use Rattle.mono_tree.proofs.TypeLaws.{precise_refl, precise_trans, precise_antisym}
use Rattle.cast_machine.specs.declared.data.Cell.{Cell}
use Rattle.cast_machine.specs.declared.data.Object.{Object}
use Rattle.cast_machine.specs.Heap.{Heap}
use Rattle.cast_machine.specs.HeapTyping.{IsAsPrecise}
use Rattle.cast_orders.specs.Below.{IsValueBelow, IsCellBelow, AreCellsBelow, IsObjectBelow, IsHeapBelow}

-- ---- values

pub value_refl : (v : Val) → IsValueBelow v v
value_refl (val.Fun g m) = (m, refl, precise_refl m)
value_refl v = refl

merged_is : (g k : ℕ) (m n : Ty) → val.Fun g m ≡ val.Fun k n → m ≡ n
merged_is g k m n e = cc

-- below a function there are only functions
fun_trans : (x w : Val) (g : ℕ) (n : Ty) → IsValueBelow x w → IsValueBelow w (val.Fun g n) → IsValueBelow x (val.Fun g n)
fun_trans x w g n b c =
    let d : IsValueBelow x (val.Fun g c.0) = subst (λ y. IsValueBelow x y) c.1 b in (d.0, d.1, precise_trans d.0 c.0 n d.2 c.2)

pub value_trans : (x w v : Val) → IsValueBelow x w → IsValueBelow w v → IsValueBelow x v
value_trans x w (val.Fun g n) b c = fun_trans x w g n b c
value_trans x w (val.Int n) b c = subst (λ y. IsValueBelow x y) c b
value_trans x w (val.Bool n) b c = subst (λ y. IsValueBelow x y) c b
value_trans x w (val.Text n) b c = subst (λ y. IsValueBelow x y) c b
value_trans x w val.Nil b c = subst (λ y. IsValueBelow x y) c b
value_trans x w (val.Obj n a) b c = subst (λ y. IsValueBelow x y) c b

fun_antisym : (w : Val) (g : ℕ) (n : Ty) → IsValueBelow w (val.Fun g n) → IsValueBelow (val.Fun g n) w → w ≡ val.Fun g n
fun_antisym w g n b c =
    let d : IsValueBelow (val.Fun g n) (val.Fun g b.0) = subst (λ y. IsValueBelow (val.Fun g n) y) b.1 c in
    let low : IsAsPrecise n b.0 = subst (λ m. IsAsPrecise m b.0) (sym (merged_is g g n d.0 d.1)) d.2 in
    b.1 ∙ ap (λ m. val.Fun g m) (precise_antisym b.0 n b.2 low)

pub value_antisym : (w v : Val) → IsValueBelow w v → IsValueBelow v w → w ≡ v
value_antisym w (val.Fun g n) b c = fun_antisym w g n b c
value_antisym w (val.Int n) b c = b
value_antisym w (val.Bool n) b c = b
value_antisym w (val.Text n) b c = b
value_antisym w val.Nil b c = b
value_antisym w (val.Obj n a) b c = b

-- ---- cells

pub cell_refl : (c : Cell) → IsCellBelow c c
cell_refl c = record { ty = precise_refl c.ty; value = value_refl c.value }

pub cell_trans : {c d e : Cell} → IsCellBelow c d → IsCellBelow d e → IsCellBelow c e
cell_trans {c = c} {d = d} {e = e} b i = record { ty = precise_trans c.ty d.ty e.ty b.ty i.ty; value = value_trans c.value d.value e.value b.value i.value }

cell_antisym : (c d : Cell) → IsCellBelow c d → IsCellBelow d c → c ≡ d
cell_antisym c d b i =
    let t = precise_antisym c.ty d.ty b.ty i.ty in
    let v = value_antisym c.value d.value b.value i.value in
    λ j. record { ty = t j; value = v j }

pub cells_refl : (cs : List (List ℕ × Cell)) → AreCellsBelow cs cs
cells_refl [] = tt
cells_refl (p ∷ cs) = (refl, cell_refl p.1, cells_refl cs)

cells_trans : (cs ds es : List (List ℕ × Cell)) → AreCellsBelow cs ds → AreCellsBelow ds es → AreCellsBelow cs es
cells_trans [] [] es b c = c
cells_trans [] (q ∷ ds) es b c = absurd b
cells_trans (p ∷ cs) [] es b c = absurd b
cells_trans (p ∷ cs) (q ∷ ds) [] b c = c
cells_trans (p ∷ cs) (q ∷ ds) (r ∷ es) b c = (b.0 ∙ c.0, cell_trans b.1 c.1, cells_trans cs ds es b.2 c.2)

cells_antisym : (cs ds : List (List ℕ × Cell)) → AreCellsBelow cs ds → AreCellsBelow ds cs → cs ≡ ds
cells_antisym [] [] b c = refl
cells_antisym [] (q ∷ ds) b c = absurd b
cells_antisym (p ∷ cs) [] b c = absurd b
cells_antisym (p ∷ cs) (q ∷ ds) b c =
    let e = b.0 in
    let f = cell_antisym p.1 q.1 b.1 c.1 in
    let g = cells_antisym cs ds b.2 c.2 in
    λ j. (e j, f j) ∷ g j

-- ---- heaps

pub heap_refl : (h : Heap) → IsHeapBelow h h
heap_refl [] = tt
heap_refl (o ∷ h) = ((refl, cells_refl o.cells), heap_refl h)

pub heap_trans : (m k h : Heap) → IsHeapBelow m k → IsHeapBelow k h → IsHeapBelow m h
heap_trans [] [] h b c = c
heap_trans [] (q ∷ k) h b c = absurd b
heap_trans (o ∷ m) [] h b c = absurd b
heap_trans (o ∷ m) (q ∷ k) [] b c = c
heap_trans (o ∷ m) (q ∷ k) (r ∷ h) b c = ((b.0.0 ∙ c.0.0, cells_trans o.cells q.cells r.cells b.0.1 c.0.1), heap_trans m k h b.1 c.1)

object_antisym : (o q : Object) → IsObjectBelow o q → IsObjectBelow q o → o ≡ q
object_antisym o q b c =
    let e = b.0 in
    let f = cells_antisym o.cells q.cells b.1 c.1 in
    λ j. record { class = (e j).0; cells = f j; waits = (e j).1; maker = (e j).2 }

pub heap_antisym : (k h : Heap) → IsHeapBelow k h → IsHeapBelow h k → k ≡ h
heap_antisym [] [] b c = refl
heap_antisym [] (q ∷ h) b c = absurd b
heap_antisym (o ∷ k) [] b c = absurd b
heap_antisym (o ∷ k) (q ∷ h) b c =
    let e = object_antisym o q b.0 c.0 in
    let f = heap_antisym k h b.1 c.1 in
    λ j. e j ∷ f j
