-- Operators on values by number. What they make of integers is the machine's: see its operators.
use Rattle.std.specs.Prelude.{Bool, true, false, not, ◌&&◌, nat_eq, Result, Ok, Err}
use Rattle.mono_syntax.specs.declared.leaf.Op.{Op}
use Rattle.mono_syntax.specs.declared.leaf.Op.TheVariants as op
use Rattle.mono_syntax.specs.declared.value.Value.{Value}
use Rattle.mono_syntax.specs.declared.value.Value.TheVariants as value
use Rattle.cast_machine.specs.declared.data.Counted.{Counted}
use Rattle.cast_machine.specs.declared.data.Counted.TheVariants as count
use Rattle.cast_machine.specs.Operators.{same_integer, counted}
use Rattle.step_expr.specs.declared.data.OpFault.{OpFault}
use Rattle.step_expr.specs.declared.data.OpFault.TheVariants as fault

-- two values are equal where they are of one kind and are the same integer, bool, text, object or function, whatever its merged type, or
-- both None
abbrev pub same_value : Value → Value → Bool
same_value (value.Int a) (value.Int b) = same_integer a b
same_value (value.Bool true) (value.Bool b) = b
same_value (value.Bool false) (value.Bool b) = not b
same_value value.Nil value.Nil = true
same_value (value.Text a) (value.Text b) = nat_eq a b
same_value (value.Obj c a) (value.Obj d b) = nat_eq c.0 d.0 && nat_eq a b
same_value (value.Fun f) (value.Fun g) = nat_eq f.func.0 g.func.0
same_value v w = false

-- what was counted, as a value
abbrev pub valued : Counted → Result Value OpFault
valued (count.Int n) = Ok (value.Int n)
valued (count.Truth b) = Ok (value.Bool b)
valued count.ZeroDivision = Err fault.ZeroDivision
valued count.Overflow = Err fault.Overflow

-- an operator but == and != takes two integers
abbrev pub binary_of : Op → Value → Value → Result Value OpFault
binary_of op.Eq v w = Ok (value.Bool (same_value v w))
binary_of op.Ne v w = Ok (value.Bool (not (same_value v w)))
binary_of o (value.Int a) (value.Int b) = valued (counted o a b)
binary_of o v w = Err fault.Unfit
