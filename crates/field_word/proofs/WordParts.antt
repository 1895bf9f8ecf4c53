-- A word made of a type's number, a tag and a payload gives its parts back.
use Rattle.std.proofs.Common.{ℕ, ◌+◌, ◌*◌, ◌/◌, ◌%◌, ◌^◌, ◌<◌, ◌≡◌, true, false, pos, negsuc, arith}
use Rattle.mono_syntax.specs.declared.value.Value.{Value}
use Rattle.mono_syntax.specs.declared.value.Value.TheVariants as value
use Rattle.field_word.specs.Words.{tag, payload, FitsPayload}

pub type_of-parts : (t g n : ℕ) → g < 16 → n < 2 ^ 48 → (t * 2 ^ 52 + g * 2 ^ 48 + n) / 2 ^ 52 ≡ t
type_of-parts t g n h k = omega arith

pub tag_of-parts : (t g n : ℕ) → g < 16 → n < 2 ^ 48 → (t * 2 ^ 52 + g * 2 ^ 48 + n) / 2 ^ 48 % 16 ≡ g
tag_of-parts t g n h k = omega arith

pub payload_of-parts : (t g n : ℕ) → g < 16 → n < 2 ^ 48 → (t * 2 ^ 52 + g * 2 ^ 48 + n) % 2 ^ 48 ≡ n
payload_of-parts t g n h k = omega arith

-- and a word is made of its parts
pub parts_of-word : (w : ℕ) → w / 2 ^ 52 * 2 ^ 52 + w / 2 ^ 48 % 16 * 2 ^ 48 + w % 2 ^ 48 ≡ w
parts_of-word w = omega arith

pub payload_small : (v : Value) → FitsPayload v → payload v < 2 ^ 48
payload_small (value.Int (pos n)) h = omega arith
payload_small (value.Int (negsuc n)) h = omega arith
payload_small (value.Bool false) h = omega arith
payload_small (value.Bool true) h = omega arith
payload_small value.Nil h = omega arith
payload_small (value.Text number) h = omega arith
payload_small (value.Obj class base) h = omega (arith, h.0, h.1)
payload_small (value.Fun f) h = omega (arith, h.0, h.1)

pub tag_small : (v : Value) → tag v < 16
tag_small (value.Int n) = omega arith
tag_small (value.Bool b) = omega arith
tag_small value.Nil = omega arith
tag_small (value.Text number) = omega arith
tag_small (value.Obj class base) = omega arith
tag_small (value.Fun f) = omega arith
