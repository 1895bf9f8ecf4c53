-- The word of a type's number and a value: the number in bits 63 to 52, the tag of the value's kind in bits 51 to 48, and its
-- payload below.
use Rattle.std.specs.Prelude.{◌≡◌, ℕ, ◌+◌, ◌-◌, ◌*◌, ◌^◌, ◌<◌, ◌≤◌, Bool, true, false, ℤ, pos, negsuc}
use Rattle.mono_syntax.specs.Limits.{greatest_integer}
use Rattle.mono_syntax.specs.declared.value.TypeNo.{TypeNo}
use Rattle.mono_syntax.specs.declared.value.Value.{Value}
use Rattle.mono_syntax.specs.declared.value.Value.TheVariants as value

-- the tag of a value's kind
abbrev pub tag : Value → ℕ
tag (value.Int n) = 1
tag (value.Bool b) = 2
tag value.Nil = 3
tag (value.Text number) = 4
tag (value.Obj class base) = 5
tag (value.Fun f) = 6

-- two's complement in 48 bits; `negsuc n` is -(n + 1)
abbrev pub int_payload : ℤ → ℕ
int_payload (pos n) = n
int_payload (negsuc n) = 2 ^ 48 - (n + 1)

abbrev pub bool_payload : Bool → ℕ
bool_payload false = 0
bool_payload true = 1

-- what the word says of a value besides its kind: an object has its class in bits 41 to 32 and its base below, a function its
-- number in bits 23 to 12 and its merged type below, and all other bits are 0
abbrev pub payload : Value → ℕ
payload (value.Int n) = int_payload n
payload (value.Bool b) = bool_payload b
payload value.Nil = 0
payload (value.Text number) = number
payload (value.Obj class base) = class.0 * 2 ^ 32 + base
payload (value.Fun f) = (f.func).0 * 2 ^ 12 + (f.merged).0

-- the word of a type's number and a value
abbrev pub word_of : TypeNo → Value → ℕ
word_of t v = t.0 * 2 ^ 52 + tag v * 2 ^ 48 + payload v

-- an integer of the language, from -2^47 to 2^47 - 1
abbrev pub IsWordInteger : ℤ → Type 0
IsWordInteger (pos n) = n ≤ greatest_integer
IsWordInteger (negsuc n) = n ≤ greatest_integer

-- the parts of a value fit their bits
abbrev pub FitsPayload : Value → Type 0
FitsPayload (value.Int n) = IsWordInteger n
FitsPayload (value.Bool b) = Unit {0}
FitsPayload value.Nil = Unit {0}
FitsPayload (value.Text number) = number < 2 ^ 32
FitsPayload (value.Obj class base) = (class.0 < 2 ^ 10) × (base < 2 ^ 32)
FitsPayload (value.Fun f) = ((f.func).0 < 2 ^ 12) × ((f.merged).0 < 2 ^ 12)

-- the numbers of types are below this one: 4095 is none
abbrev pub most_types : ℕ
most_types = 4095

-- the type's number and the parts of the value fit their bits
abbrev pub Fits : TypeNo → Value → Type 0
Fits t v = (t.0 < most_types) × FitsPayload v

-- the word of a pair that fits
abbrev pub IsWordOf : TypeNo → Value → ℕ → Type 0
IsWordOf t v w = Fits t v × (word_of t v ≡ w)

-- the word of no pair
abbrev pub IsNoWord : ℕ → Type 0
IsNoWord w = (t : TypeNo) (v : Value) → IsWordOf t v w → ⊥
