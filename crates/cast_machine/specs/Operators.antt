-- The operators: what they make of two integers, and of two values.
use Rattle.std.specs.Prelude.{Bool, true, false, not, ◌&&◌, bytes_eq, nat_eq, ℤ, pos, negsuc, ◌+ℤ◌, ◌-ℤ◌, ◌*ℤ◌, neg_ℤ, int_le, int_lt, if◌then◌else◌}
use Rattle.std.specs.Int.{int_div_euclid, int_rem_euclid}
use Rattle.mono_syntax.specs.Limits.{greatest_integer}
use Rattle.mono_syntax.specs.declared.leaf.Op.{Op}
use Rattle.mono_syntax.specs.declared.leaf.Op.TheVariants as op
use Rattle.mono_syntax.specs.declared.value.Val.{Val}
use Rattle.mono_syntax.specs.declared.value.Val.TheVariants as val
use Rattle.cast_machine.specs.declared.data.Counted.{Counted}
use Rattle.cast_machine.specs.declared.data.Counted.TheVariants as count
use Rattle.cast_machine.specs.declared.data.Operated.{Operated}
use Rattle.cast_machine.specs.declared.data.Operated.TheVariants as operated

-- ---- integers

-- an integer of the language is from -2^47 to 2^47-1
abbrev pub in_range : ℤ → Bool
in_range n = int_le (negsuc greatest_integer) n && int_le n (pos greatest_integer)

-- an integer, where it is in range
abbrev pub ranged : ℤ → Counted
ranged n = if in_range n then count.Int n else count.Overflow

-- the greatest integer that is at most the quotient; the divisor isn't 0
abbrev pub floor_quotient : ℤ → ℤ → ℤ
floor_quotient a (pos b) = int_div_euclid a (pos b)
floor_quotient a (negsuc b) = int_div_euclid (neg_ℤ a) (neg_ℤ (negsuc b))

-- what is left of a, with the divisor's sign: a less b times the quotient
abbrev pub floor_rest : ℤ → ℤ → ℤ
floor_rest a (pos b) = int_rem_euclid a (pos b)
floor_rest a (negsuc b) = neg_ℤ (int_rem_euclid (neg_ℤ a) (neg_ℤ (negsuc b)))

abbrev pub is_zero : ℤ → Bool
is_zero b = int_le b (pos 0) && int_le (pos 0) b

abbrev pub divided : ℤ → ℤ → Counted
divided a b = if is_zero b then count.ZeroDivision else ranged (floor_quotient a b)

abbrev pub remaining : ℤ → ℤ → Counted
remaining a b = if is_zero b then count.ZeroDivision else ranged (floor_rest a b)

abbrev pub same_integer : ℤ → ℤ → Bool
same_integer a b = int_le a b && int_le b a

-- an operator on two integers
abbrev pub counted : Op → ℤ → ℤ → Counted
counted op.Add a b = ranged (a +ℤ b)
counted op.Sub a b = ranged (a -ℤ b)
counted op.Mul a b = ranged (a *ℤ b)
counted op.Div a b = divided a b
counted op.Mod a b = remaining a b
counted op.Lt a b = count.Truth (int_lt a b)
counted op.Le a b = count.Truth (int_le a b)
counted op.Gt a b = count.Truth (int_lt b a)
counted op.Ge a b = count.Truth (int_le b a)
counted op.Eq a b = count.Truth (same_integer a b)
counted op.Ne a b = count.Truth (not (same_integer a b))

-- ---- values

-- two values are equal where they are of one kind and are the same integer, bool, text, object or function, whatever its
-- merged type, or both None
abbrev pub same_value : Val → Val → Bool
same_value (val.Int a) (val.Int b) = same_integer a b
same_value (val.Bool true) (val.Bool b) = b
same_value (val.Bool false) (val.Bool b) = not b
same_value val.Nil val.Nil = true
same_value (val.Text a) (val.Text b) = bytes_eq a b
same_value (val.Obj c a) (val.Obj d b) = nat_eq c d && nat_eq a b
same_value (val.Fun f m) (val.Fun g n) = nat_eq f g
same_value v w = false

abbrev pub truth : Bool → Operated
truth b = operated.Gives (val.Bool b)

-- what was counted, as a value
abbrev pub valued : Counted → Operated
valued (count.Int n) = operated.Gives (val.Int n)
valued (count.Truth b) = truth b
valued count.ZeroDivision = operated.ZeroDivision
valued count.Overflow = operated.Overflow

-- an operator but == and != takes two integers
abbrev pub operate : Op → Val → Val → Operated
operate op.Eq v w = truth (same_value v w)
operate op.Ne v w = truth (not (same_value v w))
operate o (val.Int a) (val.Int b) = valued (counted o a b)
operate o v w = operated.Unfit

-- the negation of an integer
abbrev pub negated : Val → Operated
negated (val.Int a) = valued (ranged (neg_ℤ a))
negated v = operated.Unfit
