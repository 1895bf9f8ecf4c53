-- The heap finds an object at its address, and at no other number.
use Rattle.std.proofs.Common.{◌≡◌, ℕ, zero, suc, ◌+◌, ◌-◌, ◌≤◌, false, [], ◌∷◌, Some, None, nat_eq, nat_lt, slice_get, refl, ap, ◌∙◌, cond, arith}
use Rattle.mono_list.proofs.Cases.{split, none_some}
use Rattle.cast_machine.proofs.Heap.{nat_eq-same}
use Rattle.cast_machine.specs.declared.data.Object.{Object}
use Rattle.cast_machine.specs.Addresses.{address_of}
use Rattle.cast_machine.specs.Heap.{Heap, object_at, size}

size_some : (o : Object) → 1 ≤ size o
size_some o = omega arith

not_zero : (n : ℕ) → 1 ≤ n → nat_eq n 0 ≡ false
not_zero n h = grind arith

not_below : (a b : ℕ) → b ≤ a → nat_lt a b ≡ false
not_below a b h = grind arith

at_least : (a b : ℕ) → nat_lt a b ≡ false → b ≤ a
at_least a b e = grind arith

-- behind the first object
object_behind : (o : Object) (h : Heap) (a : ℕ) → object_at (o ∷ h) (size o + a) ≡ object_at h a
object_behind o h a =
    let one = size_some o in
    ap (λ b. cond b (Some o) (cond (nat_lt (size o + a) (size o)) None (object_at h (size o + a - size o)))) (not_zero (size o + a) (omega (arith, one)))
    ∙ ap (λ b. cond b None (object_at h (size o + a - size o))) (not_below (size o + a) (size o) (omega arith))
    ∙ ap (object_at h) (omega arith)

pub object_at-address_of : (h : Heap) (i : ℕ) (o : Object) → slice_get h i ≡ Some o → object_at h (address_of h i) ≡ Some o
object_at-address_of [] i o e = none_some _ e
object_at-address_of (x ∷ h) zero o e = e
object_at-address_of (x ∷ h) (suc i) o e = object_behind x h (address_of h i) ∙ object_at-address_of h i o e

-- the address of the object that stands at a number
abbrev pub StandsAt : Heap → ℕ → Object → Type 0
StandsAt h a o = (i : ℕ) × (slice_get h i ≡ Some o) × (a ≡ address_of h i)

next_place : (x : Object) (h : Heap) (a : ℕ) (o : Object) → size x ≤ a → StandsAt h (a - size x) o → StandsAt (x ∷ h) a o
next_place x h a o le s = (suc s.0, s.1, (let e = s.2 in omega (arith, e, le)))

pub address_of-object_at : (h : Heap) (a : ℕ) (o : Object) → object_at h a ≡ Some o → StandsAt h a o
address_of-object_at [] a o = λ e. none_some _ e
address_of-object_at (x ∷ h) a o =
    split (nat_eq a 0) (λ b. nat_eq a 0 ≡ b → cond b (Some x) (cond (nat_lt a (size x)) None (object_at h (a - size x))) ≡ Some o → StandsAt (x ∷ h) a o)
    (λ _ t e. (0, e, nat_eq-same a 0 t))
    (λ _ f. split (nat_lt a (size x)) (λ b. nat_lt a (size x) ≡ b → cond b None (object_at h (a - size x)) ≡ Some o → StandsAt (x ∷ h) a o)
    (λ _ t e. none_some _ e)
    (λ _ g e. next_place x h a o (at_least a (size x) g) (address_of-object_at h (a - size x) o e))
    refl)
    refl
