-- Frame lemmas: what a changed cell and a new object leave as it was.
use Rattle.std.proofs.Common.{Bool, List, None, Option, Some, [], ap, arith, bytes_eq, false, if◌then◌else◌, inl, inr, length, max, nat_eq, refl, subst, suc, sym, true, ℕ, ⊎_elim, ◌++◌, ◌-◌, ◌∙◌, ◌∷◌, ◌≡◌, ◌⊎◌}
use Rattle.mono_list.proofs.Cases.{none_some, split}
use Rattle.mono_tree.proofs.TypeLaws.{bytes_eq-same}
use Rattle.cast_machine.specs.Heap.{Heap, cell_at, cell_in, heap_size, object_at, set_cell, set_in, set_object, shape_at, shape_in, size}
use Rattle.cast_machine.specs.Maps.{keys, lookup, update}
use Rattle.cast_machine.specs.declared.data.Cell.{Cell}
use Rattle.cast_machine.specs.declared.data.Object.{Object}

pub nat_eq-refl : (n : ℕ) → nat_eq n n ≡ true
nat_eq-refl n = grind arith

pub nat_eq-same : (n m : ℕ) → nat_eq n m ≡ true → n ≡ m
nat_eq-same n m e = grind arith

-- a split on a test, at any motive
pub on_test : {A : Type 0} (b : Bool) (x y : A) (P : A → Type 0) → (b ≡ true → P x) → (b ≡ false → P y) → P (if b then x else y)
on_test true x y P f g = f refl
on_test false x y P f g = g refl

-- maps
pub lookup_tail : {A : Type 0} (q : List ℕ × A) (l : List (List ℕ × A)) (x : List ℕ) → bytes_eq q.0 x ≡ false → lookup (q ∷ l) x ≡ lookup l x
lookup_tail q l x e = ap (λ t. if t then Some q.1 else lookup l x) e

pub lookup_here : {A : Type 0} (q : List ℕ × A) (l : List (List ℕ × A)) (x : List ℕ) → bytes_eq q.0 x ≡ true → lookup (q ∷ l) x ≡ Some q.1
lookup_here q l x e = ap (λ t. if t then Some q.1 else lookup l x) e

pub lookup-update : {A : Type 0} (l : List (List ℕ × A)) (x : List ℕ) (a b : A) → lookup l x ≡ Some b → lookup (update l x a) x ≡ Some a
lookup-update [] x a b = λ e. absurd cc
lookup-update (p ∷ l) x a b =
    split (bytes_eq p.0 x) (λ t. (if t then Some p.1 else lookup l x) ≡ Some b → lookup (if t then (p.0, a) ∷ l else p ∷ update l x a) x ≡ Some a)
    (λ t e. lookup_here (p.0, a) l x t)
    (λ f e. lookup_tail p (update l x a) x f ∙ lookup-update l x a b e)

-- a name that isn't y is none that y's test passes
other_name : (n x y : List ℕ) → bytes_eq n x ≡ true → bytes_eq x y ≡ false → bytes_eq n y ≡ false
other_name n x y e d = ap (λ k. bytes_eq k y) (bytes_eq-same n x e) ∙ d

pub lookup-update_other : {A : Type 0} (l : List (List ℕ × A)) (x y : List ℕ) (a : A) → bytes_eq x y ≡ false → lookup (update l x a) y ≡ lookup l y
lookup-update_other [] x y a d = refl
lookup-update_other (p ∷ l) x y a d =
    split (bytes_eq p.0 x) (λ t. lookup (if t then (p.0, a) ∷ l else p ∷ update l x a) y ≡ lookup (p ∷ l) y)
    (λ t. let o = other_name p.0 x y t d in lookup_tail (p.0, a) l y o ∙ sym (lookup_tail p l y o))
    (λ f. ap (λ k. if bytes_eq p.0 y then Some p.1 else k) (lookup-update_other l x y a d))

pub keys-update : {A : Type 0} (l : List (List ℕ × A)) (x : List ℕ) (a : A) → keys (update l x a) ≡ keys l
keys-update [] x a = refl
keys-update (p ∷ l) x a =
    split (bytes_eq p.0 x) (λ t. keys (if t then (p.0, a) ∷ l else p ∷ update l x a) ≡ keys (p ∷ l)) (λ t. refl) (λ f. ap (λ k. p.0 ∷ k) (keys-update l x a))

pub length-update : {A : Type 0} (l : List (List ℕ × A)) (x : List ℕ) (a : A) → length (update l x a) ≡ length l
length-update [] x a = refl
length-update (p ∷ l) x a =
    split (bytes_eq p.0 x) (λ t. length (if t then (p.0, a) ∷ l else p ∷ update l x a) ≡ length (p ∷ l)) (λ t. refl) (λ f. ap suc (length-update l x a))

-- objects
pub object-set : (h : Heap) (a : ℕ) (o new : Object) → object_at h a ≡ Some o → object_at (set_object h a new) a ≡ Some new
object-set [] a o new e = cc
object-set (x ∷ h) a o new e = grind (arith, object-set h (a - size x) o new)

pub object-set_other : (h : Heap) (a b : ℕ) (o new : Object) → nat_eq a b ≡ false → object_at h a ≡ Some o → size new ≡ size o → object_at (set_object h a new) b ≡ object_at h b
object-set_other [] a b o new d e s = cc
object-set_other (x ∷ h) a b o new d e s = grind (arith, object-set_other h (a - size x) (b - size x) o new)

pub object-more : (h : Heap) (a : ℕ) (o new : Object) → object_at h a ≡ Some o → object_at (h ++ new ∷ []) a ≡ Some o
object-more [] a o new e = cc
object-more (x ∷ h) a o new e = grind (arith, object-more h (a - size x) o new)

pub object-new : (h : Heap) (new : Object) → object_at (h ++ new ∷ []) (heap_size h) ≡ Some new
object-new [] new = refl
object-new (x ∷ h) new = grind (arith, object-new h new)

-- what stands in the longer heap is old or new
pub object-split : (h : Heap) (a : ℕ) (o new : Object) → object_at (h ++ new ∷ []) a ≡ Some o → (object_at h a ≡ Some o) ⊎ ((a ≡ heap_size h) × (o ≡ new))
object-split [] a o new e = grind arith
object-split (x ∷ h) a o new e = grind (arith, object-split h (a - size x) o new)

-- a changed cell
set_in_object : (h : Heap) (a : ℕ) (f : List ℕ) (c : Cell) (o : Object) → object_at h a ≡ Some o → object_at (set_cell h a f c) a ≡ Some (record o { cells = update o.cells f c })
set_in_object h a f c o e = ap (λ q. object_at (set_in h a f c q) a) e ∙ object-set h a o (record o { cells = update o.cells f c }) e

size_update : (o : Object) (f : List ℕ) (c : Cell) → size (record o { cells = update o.cells f c }) ≡ size o
size_update o f c = ap (max 1) (length-update o.cells f c)

other_object : (h : Heap) (a b : ℕ) (f : List ℕ) (c : Cell) (o : Object) → nat_eq a b ≡ false → object_at h a ≡ Some o → object_at (set_cell h a f c) b ≡ object_at h b
other_object h a b f c o d e = ap (λ q. object_at (set_in h a f c q) b) e ∙ object-set_other h a b o (record o { cells = update o.cells f c }) d e (size_update o f c)

-- a cell is in an object
pub cell_object : (q : Option Object) (f : List ℕ) (c : Cell) → cell_in q f ≡ Some c → (o : Object) × (q ≡ Some o) × (lookup o.cells f ≡ Some c) × (nat_eq o.waits 0 ≡ true)
cell_object None f c e = absurd cc
cell_object (Some o) f c e =
    split (nat_eq o.waits 0) (λ t. (if t then lookup o.cells f else None) ≡ Some c → nat_eq o.waits 0 ≡ t → (u : Object) × (Some o ≡ Some u) × (lookup u.cells f ≡ Some c) × (nat_eq u.waits 0 ≡ true))
    (λ _ i w. (o, refl, i, w)) (λ _ i w. none_some _ i) e refl

-- an object that waits for nothing shows its cells
pub shown_cell : (o : Object) (f : List ℕ) (c : Cell) → nat_eq o.waits 0 ≡ true → lookup o.cells f ≡ Some c → cell_in (Some o) f ≡ Some c
shown_cell o f c w e = ap (λ t. if t then lookup o.cells f else None) w ∙ e

shape_same : (h : Heap) (a : ℕ) (f : List ℕ) (c : Cell) (o : Object) → object_at h a ≡ Some o → (b : ℕ) (t : Bool) → nat_eq a b ≡ t → shape_at (set_cell h a f c) b ≡ shape_at h b
shape_same h a f c o e b true d =
    let same = nat_eq-same a b d in
    subst (λ k. shape_at (set_cell h a f c) k ≡ shape_at h k) same
    (ap shape_in (set_in_object h a f c o e) ∙ ap (λ ns. if nat_eq o.waits 0 then Some (o.class, ns) else None) (keys-update o.cells f c) ∙ sym (ap shape_in e))
shape_same h a f c o e b false d = ap shape_in (other_object h a b f c o d e)

pub shape-set : (h : Heap) (a : ℕ) (f : List ℕ) (c d : Cell) → cell_at h a f ≡ Some d → (b : ℕ) → shape_at (set_cell h a f c) b ≡ shape_at h b
shape-set h a f c d e b = let x = cell_object (object_at h a) f d e in shape_same h a f c x.0 x.1 b (nat_eq a b) refl

pub cell-set : (h : Heap) (a : ℕ) (f : List ℕ) (c d : Cell) → cell_at h a f ≡ Some d → cell_at (set_cell h a f c) a f ≡ Some c
cell-set h a f c d e =
    let x = cell_object (object_at h a) f d e in
    ap (λ q. cell_in q f) (set_in_object h a f c x.0 x.1) ∙ shown_cell (record x.0 { cells = update (x.0).cells f c }) f c x.3 (lookup-update (x.0).cells f c d x.2)

-- another cell stays
cell_other_field : (h : Heap) (a : ℕ) (f g : List ℕ) (c : Cell) (o : Object) → object_at h a ≡ Some o → bytes_eq f g ≡ false → cell_at (set_cell h a f c) a g ≡ cell_at h a g
cell_other_field h a f g c o e d = ap (λ q. cell_in q g) (set_in_object h a f c o e) ∙ ap (λ z. if nat_eq o.waits 0 then z else None) (lookup-update_other o.cells f g c d) ∙ sym (ap (λ q. cell_in q g) e)

pub cell-set_cases : (h : Heap) (a : ℕ) (f : List ℕ) (c d : Cell) → cell_at h a f ≡ Some d → (b : ℕ) (g : List ℕ) → ((a ≡ b) × (f ≡ g)) ⊎ (cell_at (set_cell h a f c) b g ≡ cell_at h b g)
cell-set_cases h a f c d e b g = go (nat_eq a b) (bytes_eq f g) refl refl
  where
    x : (o : Object) × (object_at h a ≡ Some o) × (lookup o.cells f ≡ Some d) × (nat_eq o.waits 0 ≡ true)
    x = cell_object (object_at h a) f d e

    go : (s t : Bool) → nat_eq a b ≡ s → bytes_eq f g ≡ t → ((a ≡ b) × (f ≡ g)) ⊎ (cell_at (set_cell h a f c) b g ≡ cell_at h b g)
    go false t p q = inr (ap (λ o. cell_in o g) (other_object h a b f c x.0 p x.1))
    go true true p q = inl (nat_eq-same a b p, bytes_eq-same f g q)
    go true false p q = inr (subst (λ k. cell_at (set_cell h a f c) k g ≡ cell_at h k g) (nat_eq-same a b p) (cell_other_field h a f g c x.0 x.1 q))

-- a new object
shape_object : (q : Option Object) (s : ℕ × List (List ℕ)) → shape_in q ≡ Some s → (o : Object) × (q ≡ Some o) × (shape_in (Some o) ≡ Some s)
shape_object None s e = absurd cc
shape_object (Some o) s e = (o, refl, e)

pub shape-more : (h : Heap) (new : Object) (a : ℕ) (s : ℕ × List (List ℕ)) → shape_at h a ≡ Some s → shape_at (h ++ new ∷ []) a ≡ Some s
shape-more h new a s e = let x = shape_object (object_at h a) s e in ap shape_in (object-more h a x.0 new x.1) ∙ x.2

pub cell-more : (h : Heap) (new : Object) (a : ℕ) (f : List ℕ) (c : Cell) → cell_at h a f ≡ Some c → cell_at (h ++ new ∷ []) a f ≡ Some c
cell-more h new a f c e = let x = cell_object (object_at h a) f c e in ap (λ q. cell_in q f) (object-more h a x.0 new x.1) ∙ shown_cell x.0 f c x.3 x.2

pub cell-split : (h : Heap) (new : Object) (a : ℕ) (f : List ℕ) (c : Cell) → cell_at (h ++ new ∷ []) a f ≡ Some c → (cell_at h a f ≡ Some c) ⊎ ((a ≡ heap_size h) × (lookup new.cells f ≡ Some c))
cell-split h new a f c e =
    let x = cell_object (object_at (h ++ new ∷ []) a) f c e in
    ⊎_elim
    (λ old. inl (ap (λ q. cell_in q f) old ∙ shown_cell x.0 f c x.3 x.2))
    (λ n. inr (n.0, ap (λ (o : Object). lookup o.cells f) (sym n.1) ∙ x.2))
    (object-split h a x.0 new x.1)

pub shape-split : (h : Heap) (new : Object) (a : ℕ) (s : ℕ × List (List ℕ)) → shape_at (h ++ new ∷ []) a ≡ Some s → (shape_at h a ≡ Some s) ⊎ (shape_in (Some new) ≡ Some s)
shape-split h new a s e =
    let x = shape_object (object_at (h ++ new ∷ []) a) s e in
    ⊎_elim
    (λ old. inl (ap shape_in old ∙ x.2))
    (λ n. inr (ap (λ (o : Object). shape_in (Some o)) (sym n.1) ∙ x.2))
    (object-split h a x.0 new x.1)
