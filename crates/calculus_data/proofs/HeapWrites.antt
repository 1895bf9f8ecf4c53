-- A cell is written at its object's place.
use Rattle.std.proofs.Common.{◌≡◌, ℕ, zero, suc, ◌+◌, ◌-◌, ◌<◌, max, bytes_eq, List, [], ◌∷◌, ◌++◌, length, Option, Some, None, cond, nat_eq, nat_lt, set, get_or, refl, ap, sym, ◌∙◌, subst, arith}
use Rattle.mono_list.proofs.Cases.{split, some_is, none_some, some_none}
use Rattle.cast_machine.specs.declared.data.Cell.{Cell}
use Rattle.cast_machine.specs.declared.data.Object.{Object}
use Rattle.cast_machine.specs.Maps.{update}
use Rattle.cast_machine.specs.Heap.{Heap, size, heap_size, object_at, set_object, set_in, set_cell}
use Rattle.calculus_data.specs.computed.HeapPlaces.{object_place}

record Found (h : Heap) (a i k : ℕ) : Type 0 where
  at : ℕ
  is : k ≡ i + at
  within : at < length h
  get : (d : Object) → object_at h a ≡ Some (get_or h at d)
  put : (n : Object) → set_object h a n ≡ set h at n

found : (h : Heap) (a i k : ℕ) → object_place i h a ≡ Some k → Found h a i k
found [] a i k = λ e. none_some (Found [] a i k) e
found (o ∷ h) a i k =
    split (nat_eq a 0) (λ b. cond b (Some i) (cond (nat_lt a (size o)) None (object_place (i + 1) h (a - size o))) ≡ Some k → Found (o ∷ h) a i k)
    (λ t e. record { at = 0; is = let q : i ≡ k = some_is e in omega arith; within = omega arith; get = λ d. rw t refl; put = λ n. rw t refl })
    (λ f.
    split (nat_lt a (size o)) (λ b. cond b None (object_place (i + 1) h (a - size o)) ≡ Some k → Found (o ∷ h) a i k)
    (λ t e. none_some (Found (o ∷ h) a i k) e)
    (λ g e. let r = found h (a - size o) (i + 1) k e in
    record { at = suc r.at; is = omega (arith, r.is); within = omega (arith, r.within); get = λ d. rw (f, g) (r.get d); put = λ n. rw (f, g) (ap (λ l. o ∷ l) (r.put n)) }))

pub absent : (h : Heap) (a i : ℕ) → object_place i h a ≡ None → object_at h a ≡ None
absent [] a i = λ e. refl
absent (o ∷ h) a i =
    split (nat_eq a 0) (λ b. cond b (Some i) (cond (nat_lt a (size o)) None (object_place (i + 1) h (a - size o))) ≡ None → cond b (Some o) (cond (nat_lt a (size o)) None (object_at h (a - size o))) ≡ None)
    (λ t e. some_none (Some o ≡ None) e)
    (λ f.
    split (nat_lt a (size o)) (λ b. cond b None (object_place (i + 1) h (a - size o)) ≡ None → cond b None (object_at h (a - size o)) ≡ None)
    (λ t e. refl)
    (λ g e. absent h (a - size o) (i + 1) e))

module _ (m h : Heap) (same : m ≡ h) (a : ℕ) where
  pub place_within : (k : ℕ) → Some k ≡ object_place 0 m a → k < length h
  place_within k e = let r = found h a 0 k (sym (subst (λ (n : Heap). Some k ≡ object_place 0 n a) same e)) in omega (arith, r.is, r.within)

  pub place_writes : (k : ℕ) (x : List ℕ) (c : Cell) (o : Object) → Some k ≡ object_place 0 m a → o ≡ get_or h k o → set h k (record o { cells = update o.cells x c }) ≡ set_cell h a x c
  place_writes k x c o e q =
      let r = found h a 0 k (sym (subst (λ (n : Heap). Some k ≡ object_place 0 n a) same e)) in
      let at : r.at ≡ k = omega (arith, r.is) in
      let get : object_at h a ≡ Some o = r.get o ∙ ap (λ (j : ℕ). Some (get_or h j o)) at ∙ ap (λ (p : Object). Some p) (sym q) in
      ap (λ (j : ℕ). set h j (record o { cells = update o.cells x c })) (sym at) ∙ sym (r.put (record o { cells = update o.cells x c })) ∙ sym (ap (set_in h a x c) get)

  pub place_absent : (x : List ℕ) (c : Cell) → None ≡ object_place 0 m a → h ≡ set_cell h a x c
  place_absent x c e = sym (ap (set_in h a x c) (absent h a 0 (sym (subst (λ (n : Heap). None ≡ object_place 0 n a) same e))))

-- ---- the number of cells

pub heap_size-append : (h : Heap) (o : Object) → heap_size (h ++ o ∷ []) ≡ heap_size h + size o
heap_size-append [] o = omega arith
heap_size-append (x ∷ h) o = plus (size x) (heap_size (h ++ o ∷ [])) (heap_size h) (size o) (heap_size-append h o)
  where
    plus : (a b c d : ℕ) → b ≡ c + d → a + b ≡ a + c + d
    plus a b c d e = omega arith

length-update : {A : Type 0} (l : List (List ℕ × A)) (x : List ℕ) (a : A) → length (update l x a) ≡ length l
length-update [] x a = refl
length-update (p ∷ l) x a =
    split (bytes_eq p.0 x) (λ b. length (cond b ((p.0, a) ∷ l) (p ∷ update l x a)) ≡ suc (length l))
    (λ t. refl)
    (λ f. ap suc (length-update l x a))

heap_size-set : (h : Heap) (i : ℕ) (d n : Object) → size n ≡ size (get_or h i d) → heap_size (set h i n) ≡ heap_size h
heap_size-set [] i d n e = refl
heap_size-set (o ∷ h) zero d n e = ap (λ (k : ℕ). k + heap_size h) e
heap_size-set (o ∷ h) (suc i) d n e = ap (λ (k : ℕ). size o + k) (heap_size-set h i d n e)

pub object_size : (o : Object) (x : List ℕ) (c : Cell) → size (record o { cells = update o.cells x c }) ≡ size o
object_size o x c = ap (λ (k : ℕ). max 1 k) (length-update o.cells x c)

set_object_size : (h : Heap) (a : ℕ) (o n : Object) → object_at h a ≡ Some o → size n ≡ size o → heap_size (set_object h a n) ≡ heap_size h
set_object_size [] a o n = λ e s. refl
set_object_size (q ∷ h) a o n =
    split (nat_eq a 0) (λ b. cond b (Some q) (cond (nat_lt a (size q)) None (object_at h (a - size q))) ≡ Some o → size n ≡ size o → heap_size (cond b (n ∷ h) (cond (nat_lt a (size q)) (q ∷ h) (q ∷ set_object h (a - size q) n))) ≡ heap_size (q ∷ h))
    (λ t e s. ap (λ (k : ℕ). k + heap_size h) (s ∙ ap size (sym (some_is e))))
    (λ f.
    split (nat_lt a (size q)) (λ b. cond b None (object_at h (a - size q)) ≡ Some o → size n ≡ size o → heap_size (cond b (q ∷ h) (q ∷ set_object h (a - size q) n)) ≡ heap_size (q ∷ h))
    (λ t e s. refl)
    (λ g e s. ap (λ (k : ℕ). size q + k) (set_object_size h (a - size q) o n e s)))

pub heap_size-set_cell : (h : Heap) (a : ℕ) (x : List ℕ) (c : Cell) → heap_size (set_cell h a x c) ≡ heap_size h
heap_size-set_cell h a x c = go (object_at h a) refl
  where
    go : (o : Option Object) → object_at h a ≡ o → heap_size (set_in h a x c o) ≡ heap_size h
    go None e = refl
    go (Some o) e = set_object_size h a o (record o { cells = update o.cells x c }) e (object_size o x c)

pub ruleset heap_sizes = (heap_size-append, heap_size-set_cell)
