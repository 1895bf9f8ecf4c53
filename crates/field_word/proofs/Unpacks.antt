-- A pair's word unpacks to the pair.
use Rattle.std.proofs.Common.{ℕ, ◌+◌, ◌-◌, ◌*◌, ◌/◌, ◌%◌, ◌^◌, ◌<◌, ◌≤◌, ◌≡◌, pos, negsuc}
use Rattle.std.proofs.Common.{true, false, Some, None, nat_lt, if◌then◌else◌, ◌∙◌, refl, ap, arith}
use Rattle.mono_syntax.specs.declared.value.Value.{Value}
use Rattle.mono_syntax.specs.declared.value.Value.TheVariants as value
use Rattle.mono_syntax.specs.declared.value.TypeNo.{TypeNo}
use Rattle.field_word.specs.Words.{tag, payload, word_of, most_types, Fits, FitsPayload}
use Rattle.field_word.specs.computed.Unpacked.{value_in, unpacked}
use Rattle.field_word.proofs.WordParts.{type_of-parts, tag_of-parts, payload_of-parts, payload_small, tag_small}

lt_true : (n m : ℕ) → n < m → nat_lt n m ≡ true
lt_true n m h = grind (arith, h)

lt_false : (n m : ℕ) → m ≤ n → nat_lt n m ≡ false
lt_false n m h = grind (arith, h)

-- the tag and the payload of a value give the value back
pub value_back : (v : Value) → FitsPayload v → value_in (tag v) (payload v) ≡ Some v
value_back (value.Int (pos n)) h =
    ap (λ b. Some (if b then value.Int (pos n) else value.Int (negsuc (2 ^ 48 - (n + 1))))) (lt_true n (2 ^ 47) (omega arith))
value_back (value.Int (negsuc n)) h =
    let m : ℕ = 2 ^ 48 - (n + 1) in
    ap (λ b. Some (if b then value.Int (pos m) else value.Int (negsuc (2 ^ 48 - (m + 1))))) (lt_false m (2 ^ 47) (omega arith))
    ∙ ap (λ k. Some (value.Int (negsuc k))) (omega arith)
value_back (value.Bool false) h = refl
value_back (value.Bool true) h = refl
value_back value.Nil h = refl
value_back (value.Text number) h = ap (λ b. if b then Some (value.Text number) else None) (lt_true number (2 ^ 32) h)
value_back (value.Obj class base) h =
    let n : ℕ = class.0 * 2 ^ 32 + base in
    ap (λ b. if b then Some (value.Obj (record { 0 = n / 2 ^ 32 }) (n % 2 ^ 32)) else None) (lt_true n (2 ^ 42) (omega (arith, h.0, h.1)))
    ∙ ap (λ k. Some (value.Obj (record { 0 = k }) (n % 2 ^ 32))) (omega (arith, h.1))
    ∙ ap (λ k. Some (value.Obj class k)) (omega (arith, h.1))
value_back (value.Fun f) h =
    let n : ℕ = (f.func).0 * 2 ^ 12 + (f.merged).0 in
    ap (λ b. if b then Some (value.Fun (record { func = record { 0 = n / 2 ^ 12 }; merged = record { 0 = n % 2 ^ 12 } })) else None)
    (lt_true n (2 ^ 24) (omega (arith, h.0, h.1)))
    ∙ ap (λ k. Some (value.Fun (record { func = record { 0 = k }; merged = record { 0 = n % 2 ^ 12 } }))) (omega (arith, h.1))
    ∙ ap (λ k. Some (value.Fun (record { func = f.func; merged = record { 0 = k } }))) (omega (arith, h.1))

pub unpacked-word_of : (t : TypeNo) (v : Value) → Fits t v → unpacked (word_of t v) ≡ Some (t, v)
unpacked-word_of t v h =
    let g = tag_small v in
    let n = payload_small v h.1 in
    rw (
      type_of-parts t.0 (tag v) (payload v) g n,
      tag_of-parts t.0 (tag v) (payload v) g n,
      payload_of-parts t.0 (tag v) (payload v) g n,
      value_back v h.1,
      lt_true t.0 most_types h.0,
    )
    refl
