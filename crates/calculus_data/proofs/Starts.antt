-- The object at an address is found among the addresses of all.
use Rattle.std.proofs.Common.{◌≡◌, ℕ, zero, suc, ◌+◌, ◌-◌, ◌<◌, ◌≤◌, ◌^◌, min, List, [], ◌∷◌, ◌++◌, length, false, Option, Some, None, Result, Ok, Err, cond, nat_eq, nat_lt, get_or, slice_get, refl, ap, sym, ◌∙◌, subst, arith}
use Rattle.std.specs.Prelude.{MatchResult}
use Rattle.std.specs.Ordering.{nat_cmp}
use Rattle.std.specs.List.Sorted.{IsBinarySearchResult}
use Rattle.std.proofs.lemmas.List.Sorted.{searched}
use Rattle.std.proofs.lemmas.Bool.{eqb-true, ltb-true, ltb-false, le-ltb}
use Rattle.mono_list.proofs.Cases.{split, split_option, some_is, none_some}
use Rattle.cast_machine.specs.declared.data.Object.{Object}
use Rattle.cast_machine.specs.declared.data.Cell.{Cell}
use Rattle.cast_machine.specs.Maps.{update}
use Rattle.cast_machine.specs.Heap.{Heap, size, heap_size, object_at, set_object, set_in, set_cell}
use Rattle.calculus_data.proofs.HeapWrites.{object_size}
use Rattle.calculus_data.specs.computed.HeapPlaces.{object_place, starts_from, starts_of}

some_cells : (n : ℕ) → 1 ≤ n → nat_eq n 0 ≡ false
some_cells n l = split (nat_eq n 0) (λ b. b ≡ false) (λ t. absurd (let z = eqb-true n 0 t in omega (arith, z, l))) (λ f. refl)

behind : (s b : ℕ) → nat_lt (s + b) s ≡ false
behind s b = le-ltb (s + b) s (omega arith)

one_at_least : (o : Object) → 1 ≤ size o
one_at_least o = omega arith

-- the cells before an object of the list
abbrev before : Heap → ℕ → ℕ
before h zero = 0
before [] (suc i) = 0
before (o ∷ h) (suc i) = size o + before h i

starts_length : (h : Heap) (b : ℕ) → length (starts_from b h) ≡ length h
starts_length [] b = refl
starts_length (o ∷ h) b = ap suc (starts_length h (b + size o))

start_is : (h : Heap) (b i : ℕ) → i < length h → get_or (starts_from b h) i 0 ≡ min (b + before h i) (2 ^ 64 - 1)
start_is [] b i l = absurd (omega (arith, l))
start_is (o ∷ h) b zero l = ap (λ (n : ℕ). min n (2 ^ 64 - 1)) (omega arith)
start_is (o ∷ h) b (suc i) l = start_is h (b + size o) i (omega (arith, l)) ∙ ap (λ (n : ℕ). min n (2 ^ 64 - 1)) (plus b (size o) (before h i))
  where
    plus : (a c d : ℕ) → a + c + d ≡ a + (c + d)
    plus a c d = omega arith

rises : (h : Heap) (i j : ℕ) → i ≤ j → j < length h → before h i ≤ before h j
rises h zero j l w = omega arith
rises h (suc i) zero l w = absurd (omega (arith, l))
rises [] (suc i) (suc j) l w = absurd (omega (arith, w))
rises (o ∷ h) (suc i) (suc j) l w = let r = rises h i j (omega (arith, l)) (omega (arith, w)) in omega (arith, r)

place_there : (h : Heap) (j i : ℕ) → i < length h → object_place j h (before h i) ≡ Some (j + i)
place_there [] j i l = absurd (omega (arith, l))
place_there (o ∷ h) j zero l = ap (λ (n : ℕ). Some n) (omega arith)
place_there (o ∷ h) j (suc i) l =
    let big = one_at_least o in
    let some = place_there h (j + 1) i (omega (arith, l)) in
    go (size o) (before h i) big (λ (a : ℕ). object_place (j + 1) h a) some
  where
    go : (s b : ℕ) → 1 ≤ s → (f : ℕ → Option ℕ) → f b ≡ Some (j + 1 + i)
        → cond (nat_eq (s + b) 0) (Some j) (cond (nat_lt (s + b) s) None (f (s + b - s))) ≡ Some (j + suc i)
    go s b l f e =
        let zero_not : nat_eq (s + b) 0 ≡ false = some_cells (s + b) (omega (arith, l)) in
        let not_less : nat_lt (s + b) s ≡ false = behind s b in
        let left : s + b - s ≡ b = omega arith in
        let same : j + 1 + i ≡ j + suc i = omega arith in
        rw (zero_not, not_less, left) (e ∙ ap (λ (n : ℕ). Some n) same)

record Before (h : Heap) (a j k : ℕ) : Type 0 where
  pub at : ℕ
  pub is : k ≡ j + at
  pub within : at < length h
  pub address : before h at ≡ a

stands_before : (h : Heap) (a j k : ℕ) → object_place j h a ≡ Some k → Before h a j k
stands_before [] a j k = λ e. none_some (Before [] a j k) e
stands_before (o ∷ h) a j k =
    split (nat_eq a 0) (λ b. cond b (Some j) (cond (nat_lt a (size o)) None (object_place (j + 1) h (a - size o))) ≡ Some k → Before (o ∷ h) a j k)
    (λ t e. record { at = 0; is = let q : j ≡ k = some_is e in omega arith; within = omega arith; address = sym (eqb-true a 0 t) })
    (λ f.
    split (nat_lt a (size o)) (λ b. cond b None (object_place (j + 1) h (a - size o)) ≡ Some k → Before (o ∷ h) a j k)
    (λ t e. none_some (Before (o ∷ h) a j k) e)
    (λ g e.
    let r = stands_before h (a - size o) (j + 1) k e in
    let long = ltb-false a (size o) g in
    record { at = suc r.at; is = omega (arith, r.is); within = omega (arith, r.within); address = omega (arith, long, r.address) }))

module _ (h : Heap) (base : ℕ) (small : base < 2 ^ 32) where
  sorted : (i j : ℕ) → i ≤ j → j < length (starts_of h) → get_or (starts_of h) i 0 ≤ get_or (starts_of h) j 0
  sorted i j l w =
      let long = starts_length h 0 in
      let up = rises h i j l (omega (arith, w, long)) in
      let one = start_is h 0 i (omega (arith, l, w, long)) in
      let other = start_is h 0 j (omega (arith, w, long)) in
      omega (arith, up, one, other)

  found_at : (i : ℕ) → (i < length (starts_of h)) × (get_or (starts_of h) i 0 ≡ base) → Some i ≡ object_place 0 h base
  found_at i f =
      let long = starts_length h 0 in
      let within : i < length h = omega (arith, f.0, long) in
      let is = start_is h 0 i within in
      let address : before h i ≡ base = omega (arith, is, f.1, small) in
      sym (subst (λ (a : ℕ). object_place 0 h a ≡ Some (0 + i)) address (place_there h 0 i within) ∙ ap (λ (n : ℕ). Some n) (omega arith))

  not_there : (i : ℕ) → (i ≤ length (starts_of h)) × ((k : ℕ) → k < i → get_or (starts_of h) k 0 < base) × ((k : ℕ) → i ≤ k → k < length (starts_of h) → base < get_or (starts_of h) k 0)
      → None ≡ object_place 0 h base
  not_there i f = split_option (object_place 0 h base) (λ o. object_place 0 h base ≡ o → None ≡ o) (λ _ _. refl) (λ k _ e. absurd (never k (stands_before h base 0 k e))) refl
    where
      never : (k : ℕ) → Before h base 0 k → ⊥
      never k r =
          let long = starts_length h 0 in
          let is = start_is h 0 r.at r.within in
          split (nat_lt r.at i) (λ _. ⊥)
          (λ t. let low = f.1 r.at (ltb-true r.at i t) in omega (arith, low, is, r.address, small))
          (λ n. let high = f.2 r.at (ltb-false r.at i n) (omega (arith, r.within, long)) in omega (arith, high, is, r.address, small))

  pub found_place : (r : Result ℕ ℕ) → IsBinarySearchResult (λ y. nat_cmp y base) (starts_of h) r → MatchResult r (λ i. Some i ≡ object_place 0 h base) (λ i. None ≡ object_place 0 h base)
  found_place (Ok i) f = found_at i (searched (starts_of h) base (Ok i) f sorted)
  found_place (Err i) f = not_there i (searched (starts_of h) base (Err i) f sorted)

-- ---- addresses under changes

pub starts-append : (h : Heap) (b : ℕ) (o : Object) → starts_from b (h ++ o ∷ []) ≡ starts_from b h ++ min (b + heap_size h) (2 ^ 64 - 1) ∷ []
starts-append [] b o = ap (λ (n : ℕ). min n (2 ^ 64 - 1) ∷ []) (omega arith)
starts-append (x ∷ h) b o =
    ap (λ l. min b (2 ^ 64 - 1) ∷ l) (starts-append h (b + size x) o ∙ ap (λ (n : ℕ). starts_from (b + size x) h ++ min n (2 ^ 64 - 1) ∷ []) (plus b (size x) (heap_size h)))
  where
    plus : (a c d : ℕ) → a + c + d ≡ a + (c + d)
    plus a c d = omega arith

pub starts_of-append : (h : Heap) (o : Object) → starts_of (h ++ o ∷ []) ≡ starts_of h ++ min (heap_size h) (2 ^ 64 - 1) ∷ []
starts_of-append h o = starts-append h 0 o ∙ ap (λ (n : ℕ). starts_of h ++ min n (2 ^ 64 - 1) ∷ []) (omega arith)

starts-set_object : (h : Heap) (b a : ℕ) (o n : Object) → object_at h a ≡ Some o → size n ≡ size o → starts_from b (set_object h a n) ≡ starts_from b h
starts-set_object [] b a o n = λ e s. refl
starts-set_object (q ∷ h) b a o n =
    split (nat_eq a 0) (λ d. cond d (Some q) (cond (nat_lt a (size q)) None (object_at h (a - size q))) ≡ Some o → size n ≡ size o → starts_from b (cond d (n ∷ h) (cond (nat_lt a (size q)) (q ∷ h) (q ∷ set_object h (a - size q) n))) ≡ starts_from b (q ∷ h))
    (λ t e s. ap (λ (k : ℕ). min b (2 ^ 64 - 1) ∷ starts_from (b + k) h) (s ∙ ap size (sym (some_is e))))
    (λ f.
    split (nat_lt a (size q)) (λ d. cond d None (object_at h (a - size q)) ≡ Some o → size n ≡ size o → starts_from b (cond d (q ∷ h) (q ∷ set_object h (a - size q) n)) ≡ starts_from b (q ∷ h))
    (λ t e s. refl)
    (λ g e s. ap (λ l. min b (2 ^ 64 - 1) ∷ l) (starts-set_object h (b + size q) (a - size q) o n e s)))

pub starts_of-set_cell : (h : Heap) (a : ℕ) (x : List ℕ) (c : Cell) → starts_of (set_cell h a x c) ≡ starts_of h
starts_of-set_cell h a x c = go (object_at h a) refl
  where
    go : (o : Option Object) → object_at h a ≡ o → starts_of (set_in h a x c o) ≡ starts_of h
    go None e = refl
    go (Some o) e = starts-set_object h 0 a o (record o { cells = update o.cells x c }) e (object_size o x c)

-- the object at an address is the one at its place
object_there : (h : Heap) (i : ℕ) → i < length h → slice_get h i ≡ object_at h (before h i)
object_there [] i l = absurd (omega (arith, l))
object_there (o ∷ h) zero l = refl
object_there (o ∷ h) (suc i) l = go (size o) (before h i) (one_at_least o) (λ (a : ℕ). object_at h a) (object_there h i (omega (arith, l)))
  where
    go : (s b : ℕ) → 1 ≤ s → (f : ℕ → Option Object) → slice_get h i ≡ f b → slice_get h i ≡ cond (nat_eq (s + b) 0) (Some o) (cond (nat_lt (s + b) s) None (f (s + b - s)))
    go s b l f e =
        let zero_not : nat_eq (s + b) 0 ≡ false = some_cells (s + b) (omega (arith, l)) in
        let not_less : nat_lt (s + b) s ≡ false = behind s b in
        let left : s + b - s ≡ b = omega arith in
        rw (zero_not, not_less, left) e

pub place_object : (h : Heap) (a k : ℕ) → Some k ≡ object_place 0 h a → slice_get h k ≡ object_at h a
place_object h a k e =
    let r = stands_before h a 0 k (sym e) in
    let at : r.at ≡ k = omega (arith, r.is) in
    subst (λ (n : ℕ). slice_get h n ≡ object_at h a) at (object_there h r.at r.within ∙ ap (λ (n : ℕ). object_at h n) r.address)

pub ruleset addresses = (starts_of-append, starts_of-set_cell)
