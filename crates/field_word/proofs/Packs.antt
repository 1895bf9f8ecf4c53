-- A word that unpacks is its pair's.
use Rattle.std.proofs.Common.{ℕ, ◌+◌, ◌-◌, ◌/◌, ◌%◌, ◌^◌, ◌<◌, ◌≤◌, ◌≡◌, pos, negsuc, Option, Some, None}
use Rattle.std.proofs.Common.{Bool, true, false, nat_eq, nat_lt, if◌then◌else◌, refl, ap, sym, subst, arith}
use Rattle.mono_list.proofs.Cases.{none_some, some_is}
use Rattle.mono_syntax.specs.declared.value.Value.{Value}
use Rattle.mono_syntax.specs.declared.value.Value.TheVariants as value
use Rattle.mono_syntax.specs.declared.value.TypeNo.{TypeNo}
use Rattle.field_word.specs.Words.{tag, payload, most_types, FitsPayload, IsWordOf}
use Rattle.field_word.specs.computed.Unpacked.{int_in, bool_in, nil_in, text_in, object_in, function_in, value_in, with_type, unpacked}
use Rattle.field_word.proofs.WordParts.{parts_of-word}

-- a tag and a payload are a value's, which fits
record AreParts (g n : ℕ) (v : Value) : Type 0 where
  pub tag : g ≡ tag v
  pub payload : n ≡ payload v
  pub fits : FitsPayload v

-- an option that is there under a test alone
guarded : {A : Type 0} (b : Bool) (x v : A) (P : Type 0) → (if b then Some x else None) ≡ Some v → (b ≡ true → x ≡ v → P) → P
guarded true x v P e f = f refl (some_is e)
guarded false x v P e f = none_some P e

-- one of two options, by a test
tested : {A : Type 0} (b : Bool) (x y : Option A) (v : A) (P : Type 0) →
    (if b then x else y) ≡ Some v → (b ≡ true → x ≡ Some v → P) → (y ≡ Some v → P) → P
tested true x y v P e f g = f refl e
tested false x y v P e f g = g e

int_parts : (n : ℕ) (v : Value) → n < 2 ^ 48 → Some (int_in n) ≡ Some v → AreParts 1 n v
int_parts n v h e = subst (λ u. AreParts 1 n u) (some_is e) (by_sign (nat_lt n (2 ^ 47)) refl)
  where
    by_sign : (b : Bool) → nat_lt n (2 ^ 47) ≡ b → AreParts 1 n (if b then value.Int (pos n) else value.Int (negsuc (2 ^ 48 - (n + 1))))
    by_sign true t = let k : n < 2 ^ 47 = grind (arith, t) in record { tag = refl; payload = refl; fits = omega arith }
    by_sign false f = let k : 2 ^ 47 ≤ n = grind (arith, f) in record { tag = refl; payload = omega arith; fits = omega arith }

bool_parts : (n : ℕ) (v : Value) → bool_in n ≡ Some v → AreParts 2 n v
bool_parts n v e =
    tested (nat_eq n 0) _ _ v _ e
    (λ t i. subst (λ u. AreParts 2 n u) (some_is i) (record { tag = refl; payload = grind (arith, t); fits = tt }))
    (λ i. guarded (nat_eq n 1) _ v _ i (λ t j.
    subst (λ u. AreParts 2 n u) j (record { tag = refl; payload = grind (arith, t); fits = tt })))

nil_parts : (n : ℕ) (v : Value) → nil_in n ≡ Some v → AreParts 3 n v
nil_parts n v e =
    guarded (nat_eq n 0) _ v _ e (λ t i. subst (λ u. AreParts 3 n u) i (record { tag = refl; payload = grind (arith, t); fits = tt }))

text_parts : (n : ℕ) (v : Value) → text_in n ≡ Some v → AreParts 4 n v
text_parts n v e =
    guarded (nat_lt n (2 ^ 32)) _ v _ e (λ t i.
    subst (λ u. AreParts 4 n u) i (record { tag = refl; payload = refl; fits = grind (arith, t) }))

object_parts : (n : ℕ) (v : Value) → object_in n ≡ Some v → AreParts 5 n v
object_parts n v e = guarded (nat_lt n (2 ^ 42)) _ v _ e (λ t i. subst (λ u. AreParts 5 n u) i
    (let k : n < 2 ^ 42 = grind (arith, t) in record { tag = refl; payload = omega arith; fits = (omega arith, omega arith) }))

function_parts : (n : ℕ) (v : Value) → function_in n ≡ Some v → AreParts 6 n v
function_parts n v e = guarded (nat_lt n (2 ^ 24)) _ v _ e (λ t i. subst (λ u. AreParts 6 n u) i
    (let k : n < 2 ^ 24 = grind (arith, t) in record { tag = refl; payload = omega arith; fits = (omega arith, omega arith) }))

at_tag : (g k n : ℕ) (v : Value) → nat_eq g k ≡ true → AreParts k n v → AreParts g n v
at_tag g k n v t h = let e : k ≡ g = grind (arith, t) in subst (λ m. AreParts m n v) e h

value_parts : (g n : ℕ) (v : Value) → n < 2 ^ 48 → value_in g n ≡ Some v → AreParts g n v
value_parts g n v h e =
    tested (nat_eq g 1) _ _ v _ e (λ t i. at_tag g 1 n v t (int_parts n v h i)) (λ e2.
    tested (nat_eq g 2) _ _ v _ e2 (λ t i. at_tag g 2 n v t (bool_parts n v i)) (λ e3.
    tested (nat_eq g 3) _ _ v _ e3 (λ t i. at_tag g 3 n v t (nil_parts n v i)) (λ e4.
    tested (nat_eq g 4) _ _ v _ e4 (λ t i. at_tag g 4 n v t (text_parts n v i)) (λ e5.
    tested (nat_eq g 5) _ _ v _ e5 (λ t i. at_tag g 5 n v t (object_parts n v i)) (λ e6.
    tested (nat_eq g 6) _ _ v _ e6 (λ t i. at_tag g 6 n v t (function_parts n v i)) (λ e7. none_some _ e7))))))

typed_parts : (n : ℕ) (o : Option Value) (t : TypeNo) (v : Value) → with_type n o ≡ Some (t, v) → (t.0 ≡ n) × (o ≡ Some v)
typed_parts n None t v e = none_some _ e
typed_parts n (Some u) t v e = (ap (λ (q : TypeNo × Value). (q.0).0) (sym (some_is e)), ap (λ (q : TypeNo × Value). Some q.1) (some_is e))

pub word_of-unpacked : (w : ℕ) (t : TypeNo) (v : Value) → unpacked w ≡ Some (t, v) → IsWordOf t v w
word_of-unpacked w t v e = tested (nat_lt (w / 2 ^ 52) most_types) _ None (t, v) _ e below (λ i. none_some _ i)
  where
    below : nat_lt (w / 2 ^ 52) most_types ≡ true →
        with_type (w / 2 ^ 52) (value_in (w / 2 ^ 48 % 16) (w % 2 ^ 48)) ≡ Some (t, v) → IsWordOf t v w
    below b i =
        let small : w / 2 ^ 52 < most_types = grind (arith, b) in
        let typed = typed_parts (w / 2 ^ 52) (value_in (w / 2 ^ 48 % 16) (w % 2 ^ 48)) t v i in
        let parts = value_parts (w / 2 ^ 48 % 16) (w % 2 ^ 48) v (omega arith) typed.1 in
        ((subst (λ n. n < most_types) (sym typed.0) small, parts.fits), rw (typed.0, ← parts.tag, ← parts.payload) (parts_of-word w))
