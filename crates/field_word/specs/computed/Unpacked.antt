-- Computed: the pair of a word, read off its bits.
use Rattle.std.specs.Prelude.{ℕ, ◌+◌, ◌-◌, ◌/◌, ◌%◌, ◌^◌, true, false, Option, Some, None, nat_eq, nat_lt, if◌then◌else◌, pos, negsuc}
use Rattle.mono_syntax.specs.declared.value.TypeNo.{TypeNo}
use Rattle.mono_syntax.specs.declared.value.Value.{Value}
use Rattle.mono_syntax.specs.declared.value.Value.TheVariants as value
use Rattle.field_word.specs.Words.{most_types}

-- the payloads from 2^47 on are those of the negative integers
abbrev pub int_in : ℕ → Value
int_in n = if nat_lt n (2 ^ 47) then value.Int (pos n) else value.Int (negsuc (2 ^ 48 - (n + 1)))

abbrev pub bool_in : ℕ → Option Value
bool_in n = if nat_eq n 0 then Some (value.Bool false) else (if nat_eq n 1 then Some (value.Bool true) else None)

abbrev pub nil_in : ℕ → Option Value
nil_in n = if nat_eq n 0 then Some value.Nil else None

abbrev pub text_in : ℕ → Option Value
text_in n = if nat_lt n (2 ^ 32) then Some (value.Text n) else None

abbrev pub object_in : ℕ → Option Value
object_in n = if nat_lt n (2 ^ 42) then Some (value.Obj (record { 0 = n / 2 ^ 32 }) (n % 2 ^ 32)) else None

abbrev pub function_in : ℕ → Option Value
function_in n =
    if nat_lt n (2 ^ 24)
    then Some (value.Fun (record { func = record { 0 = n / 2 ^ 12 }; merged = record { 0 = n % 2 ^ 12 } }))
    else None

-- the value of a tag and a payload
abbrev pub value_in : ℕ → ℕ → Option Value
value_in g n =
    if nat_eq g 1 then Some (int_in n)
    else (if nat_eq g 2 then bool_in n
    else (if nat_eq g 3 then nil_in n
    else (if nat_eq g 4 then text_in n
    else (if nat_eq g 5 then object_in n
    else (if nat_eq g 6 then function_in n else None)))))

abbrev pub with_type : ℕ → Option Value → Option (TypeNo × Value)
with_type t None = None
with_type t (Some v) = Some (record { 0 = t }, v)

-- the type's number and the value of a word, if it has them
abbrev pub unpacked : ℕ → Option (TypeNo × Value)
unpacked w = if nat_lt (w / 2 ^ 52) most_types then with_type (w / 2 ^ 52) (value_in (w / 2 ^ 48 % 16) (w % 2 ^ 48)) else None
