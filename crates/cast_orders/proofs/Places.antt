-- Heaps one below the other have the same objects at the same addresses, and a changed cell keeps their order.
use Rattle.std.proofs.Common.{◌≡◌, ℕ, ◌-◌, Bool, true, false, List, [], ◌∷◌, length, max, Option, Some, None, bytes_eq, nat_eq, nat_lt, if◌then◌else◌, refl, sym, ap, ap₂, subst, suc}
use Rattle.mono_list.proofs.Cases.{split, none_some, some_is}
use Rattle.cast_machine.specs.declared.data.Cell.{Cell}
use Rattle.cast_machine.specs.declared.data.Object.{Object}
use Rattle.cast_machine.specs.Heap.{Heap, size, object_at, set_object, cell_in, cell_at, shape_in, shape_at, set_cell, set_in}
use Rattle.cast_machine.specs.Maps.{lookup, update, keys}
use Rattle.cast_machine.proofs.Heap.{cell_object}
use Rattle.cast_orders.specs.Below.{IsCellBelow, AreCellsBelow, IsObjectBelow, IsHeapBelow}
use Rattle.cast_orders.proofs.Order.{cell_refl, cells_refl, heap_refl}

-- ---- what two look-ups find

-- both find something, and the first is below the second, or both find nothing
abbrev Both : {A : Type 0} → (A → A → Type 0) → Option A → Option A → Type 0
Both R None None = Unit {0}
Both R (Some x) (Some y) = R x y
Both R x y = ⊥

both_right : {A : Type 0} (R : A → A → Type 0) (x y : Option A) (d : A) → Both R x y → y ≡ Some d → (c : A) × (x ≡ Some c) × R c d
both_right R x None d b e = none_some _ e
both_right R None (Some y) d b e = absurd b
both_right R (Some x) (Some y) d b e = (x, refl, subst (R x) (some_is e) b)

both_left : {A : Type 0} (R : A → A → Type 0) (x y : Option A) (c : A) → Both R x y → x ≡ Some c → (d : A) × (y ≡ Some d) × R c d
both_left R None y c b e = none_some _ e
both_left R (Some x) None c b e = absurd b
both_left R (Some x) (Some y) c b e = (y, refl, subst (λ k. R k y) (some_is e) b)

lookup_both : (cs ds : List (List ℕ × Cell)) (x : List ℕ) → AreCellsBelow cs ds → Both IsCellBelow (lookup cs x) (lookup ds x)
lookup_both [] [] x b = tt
lookup_both [] (q ∷ ds) x b = absurd b
lookup_both (p ∷ cs) [] x b = absurd b
lookup_both (p ∷ cs) (q ∷ ds) x b =
    subst (λ n. Both IsCellBelow (if bytes_eq n x then Some p.1 else lookup cs x) (if bytes_eq q.0 x then Some q.1 else lookup ds x)) (sym b.0)
    (split (bytes_eq q.0 x) (λ t. Both IsCellBelow (if t then Some p.1 else lookup cs x) (if t then Some q.1 else lookup ds x))
    (λ yes. b.1)
    (λ no. lookup_both cs ds x b.2))

length_same : (cs ds : List (List ℕ × Cell)) → AreCellsBelow cs ds → length cs ≡ length ds
length_same [] [] b = refl
length_same [] (q ∷ ds) b = absurd b
length_same (p ∷ cs) [] b = absurd b
length_same (p ∷ cs) (q ∷ ds) b = ap suc (length_same cs ds b.2)

keys_same : (cs ds : List (List ℕ × Cell)) → AreCellsBelow cs ds → keys cs ≡ keys ds
keys_same [] [] b = refl
keys_same [] (q ∷ ds) b = absurd b
keys_same (p ∷ cs) [] b = absurd b
keys_same (p ∷ cs) (q ∷ ds) b = ap₂ (λ n ns. n ∷ ns) b.0 (keys_same cs ds b.2)

size_same : (o q : Object) → IsObjectBelow o q → size o ≡ size q
size_same o q b = ap (max 1) (length_same o.cells q.cells b.1)

object_both : (k h : Heap) (a : ℕ) → IsHeapBelow k h → Both IsObjectBelow (object_at k a) (object_at h a)
object_both [] [] a b = tt
object_both [] (q ∷ h) a b = absurd b
object_both (o ∷ k) [] a b = absurd b
object_both (o ∷ k) (q ∷ h) a b =
    subst (λ n. Both IsObjectBelow (if nat_eq a 0 then Some o else (if nat_lt a n then None else object_at k (a - n))) (object_at (q ∷ h) a)) (sym (size_same o q b.0))
    (split (nat_eq a 0) (λ t. Both IsObjectBelow (if t then Some o else (if nat_lt a (size q) then None else object_at k (a - size q))) (if t then Some q else (if nat_lt a (size q) then None else object_at h (a - size q))))
    (λ yes. b.0)
    (λ no. split (nat_lt a (size q)) (λ t. Both IsObjectBelow (if t then None else object_at k (a - size q)) (if t then None else object_at h (a - size q)))
    (λ yes. tt)
    (λ no. object_both k h (a - size q) b.1)))

-- ---- shapes and cells

shape_both : (x y : Option Object) → Both IsObjectBelow x y → shape_in x ≡ shape_in y
shape_both None None b = refl
shape_both None (Some q) b = absurd b
shape_both (Some o) None b = absurd b
shape_both (Some o) (Some q) b = ap₂ (λ (u : ℕ × ℕ × ℕ) (ns : List (List ℕ)). if nat_eq u.1 0 then Some (u.0, ns) else None) b.0 (keys_same o.cells q.cells b.1)

pub shape_below : (k h : Heap) (a : ℕ) → IsHeapBelow k h → shape_at k a ≡ shape_at h a
shape_below k h a b = shape_both (object_at k a) (object_at h a) (object_both k h a b)

cell_both : (x y : Option Object) (f : List ℕ) → Both IsObjectBelow x y → Both IsCellBelow (cell_in x f) (cell_in y f)
cell_both None None f b = tt
cell_both None (Some q) f b = absurd b
cell_both (Some o) None f b = absurd b
cell_both (Some o) (Some q) f b =
    subst (λ (u : ℕ × ℕ × ℕ). Both IsCellBelow (if nat_eq o.waits 0 then lookup o.cells f else None) (if nat_eq u.1 0 then lookup q.cells f else None)) b.0
    (split (nat_eq o.waits 0) (λ t. Both IsCellBelow (if t then lookup o.cells f else None) (if t then lookup q.cells f else None))
    (λ yes. lookup_both o.cells q.cells f b.1)
    (λ no. tt))

-- the cell of the lower heap where the upper one has a cell
pub cell_below : (k h : Heap) (a : ℕ) (f : List ℕ) (d : Cell) → IsHeapBelow k h → cell_at h a f ≡ Some d → (c : Cell) × (cell_at k a f ≡ Some c) × IsCellBelow c d
cell_below k h a f d b e = both_right IsCellBelow (cell_at k a f) (cell_at h a f) d (cell_both (object_at k a) (object_at h a) f (object_both k h a b)) e

pub cell_above : (k h : Heap) (a : ℕ) (f : List ℕ) (c : Cell) → IsHeapBelow k h → cell_at k a f ≡ Some c → (d : Cell) × (cell_at h a f ≡ Some d) × IsCellBelow c d
cell_above k h a f c b e = both_left IsCellBelow (cell_at k a f) (cell_at h a f) c (cell_both (object_at k a) (object_at h a) f (object_both k h a b)) e

-- ---- a changed cell

update_above : (cs ds : List (List ℕ × Cell)) (x : List ℕ) (c new : Cell) → AreCellsBelow cs ds → lookup cs x ≡ Some c → IsCellBelow c new → AreCellsBelow cs (update ds x new)
update_above [] ds x c new b e i = none_some _ e
update_above (p ∷ cs) [] x c new b e i = absurd b
update_above (p ∷ cs) (q ∷ ds) x c new b e i =
    let go : (t : Bool) → (if t then Some p.1 else lookup cs x) ≡ Some c → AreCellsBelow (p ∷ cs) (if t then (q.0, new) ∷ ds else q ∷ update ds x new) =
    λ t. elim t as (λ t. (if t then Some p.1 else lookup cs x) ≡ Some c → AreCellsBelow (p ∷ cs) (if t then (q.0, new) ∷ ds else q ∷ update ds x new)) [
      | true ↦ λ s. (b.0, subst (λ k. IsCellBelow k new) (sym (some_is s)) i, b.2)
      | false ↦ λ s. (b.0, b.1, update_above cs ds x c new b.2 s i)
    ] in
    subst (λ n. (if bytes_eq n x then Some p.1 else lookup cs x) ≡ Some c → AreCellsBelow (p ∷ cs) (update (q ∷ ds) x new)) (sym b.0) (go (bytes_eq q.0 x)) e

update_below : (ds : List (List ℕ × Cell)) (x : List ℕ) (d new : Cell) → lookup ds x ≡ Some d → IsCellBelow new d → AreCellsBelow (update ds x new) ds
update_below [] x d new e i = none_some _ e
update_below (q ∷ ds) x d new e i =
    split (bytes_eq q.0 x) (λ t. (if t then Some q.1 else lookup ds x) ≡ Some d → AreCellsBelow (if t then (q.0, new) ∷ ds else q ∷ update ds x new) (q ∷ ds))
    (λ yes s. (refl, subst (λ k. IsCellBelow new k) (sym (some_is s)) i, cells_refl ds))
    (λ no s. (refl, cell_refl q.1, update_below ds x d new s i))
    e

object_above : (k h : Heap) (a : ℕ) (o new : Object) → IsHeapBelow k h → object_at k a ≡ Some o → IsObjectBelow o new → IsHeapBelow k (set_object h a new)
object_above [] h a o new b e i = none_some _ e
object_above (p ∷ k) [] a o new b e i = absurd b
object_above (p ∷ k) (q ∷ h) a o new b e i =
    subst (λ n. (if nat_eq a 0 then Some p else (if nat_lt a n then None else object_at k (a - n))) ≡ Some o → IsHeapBelow (p ∷ k) (set_object (q ∷ h) a new)) (sym (size_same p q b.0))
    (split (nat_eq a 0) (λ t. (if t then Some p else (if nat_lt a (size q) then None else object_at k (a - size q))) ≡ Some o → IsHeapBelow (p ∷ k) (if t then new ∷ h else (if nat_lt a (size q) then q ∷ h else q ∷ set_object h (a - size q) new)))
    (λ yes s. (subst (λ r. IsObjectBelow r new) (sym (some_is s)) i, b.1))
    (λ no. split (nat_lt a (size q)) (λ t. (if t then None else object_at k (a - size q)) ≡ Some o → IsHeapBelow (p ∷ k) (if t then q ∷ h else q ∷ set_object h (a - size q) new))
    (λ yes s. b)
    (λ no s. (b.0, object_above k h (a - size q) o new b.1 s i))))
    e

object_below : (h : Heap) (a : ℕ) (q new : Object) → object_at h a ≡ Some q → IsObjectBelow new q → IsHeapBelow (set_object h a new) h
object_below [] a q new e i = tt
object_below (r ∷ h) a q new e i =
    split (nat_eq a 0) (λ t. (if t then Some r else (if nat_lt a (size r) then None else object_at h (a - size r))) ≡ Some q → IsHeapBelow (if t then new ∷ h else (if nat_lt a (size r) then r ∷ h else r ∷ set_object h (a - size r) new)) (r ∷ h))
    (λ yes s. (subst (λ k. IsObjectBelow new k) (sym (some_is s)) i, heap_refl h))
    (λ no. split (nat_lt a (size r)) (λ t. (if t then None else object_at h (a - size r)) ≡ Some q → IsHeapBelow (if t then r ∷ h else r ∷ set_object h (a - size r) new) (r ∷ h))
    (λ yes s. heap_refl (r ∷ h))
    (λ no s. ((refl, cells_refl r.cells), object_below h (a - size r) q new s i)))
    e

-- a heap stays below one whose changed cell is still above its own
pub set_above : (k h : Heap) (a : ℕ) (f : List ℕ) (c d new : Cell) → IsHeapBelow k h → cell_at k a f ≡ Some c → cell_at h a f ≡ Some d → IsCellBelow c new → IsHeapBelow k (set_cell h a f new)
set_above k h a f c d new b e g i =
    let x = cell_object (object_at k a) f c e in
    let y = cell_object (object_at h a) f d g in
    let z : Both IsObjectBelow (Some x.0) (Some y.0) = subst (λ q. Both IsObjectBelow (Some x.0) q) y.1 (subst (λ q. Both IsObjectBelow q (object_at h a)) x.1 (object_both k h a b)) in
    subst (λ q. IsHeapBelow k (set_in h a f new q)) (sym y.1)
    (object_above k h a x.0 (record (y.0) { cells = update (y.0).cells f new }) b x.1 (z.0, update_above (x.0).cells (y.0).cells f c new z.1 x.2 i))

-- a changed cell that is below leaves the heap below
pub set_below : (h : Heap) (a : ℕ) (f : List ℕ) (d new : Cell) → cell_at h a f ≡ Some d → IsCellBelow new d → IsHeapBelow (set_cell h a f new) h
set_below h a f d new e i =
    let x = cell_object (object_at h a) f d e in
    subst (λ q. IsHeapBelow (set_in h a f new q) h) (sym x.1)
    (object_below h a x.0 (record (x.0) { cells = update (x.0).cells f new }) x.1 (refl, update_below (x.0).cells f d new x.2 i))
