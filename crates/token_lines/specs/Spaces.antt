-- Where a space stands between two tokens of a line.
use Rattle.std.specs.Prelude.{Bool, true, false}
use Rattle.spelled_tokens.specs.declared.token.Mark.{Mark}
use Rattle.spelled_tokens.specs.declared.token.Mark.TheVariants as mark
use Rattle.spelled_tokens.specs.declared.token.What.{What}
use Rattle.spelled_tokens.specs.declared.token.What.TheVariants as what
use Rattle.token_lines.specs.declared.printed.Printed.{Printed}
use Rattle.token_lines.specs.declared.printed.Printed.TheVariants as printed
use Rattle.token_lines.specs.declared.printed.Shape.{Shape}
use Rattle.token_lines.specs.declared.printed.Shape.TheVariants as shape

abbrev pub mark_shape : Mark → Shape
mark_shape mark.Int = shape.Word
mark_shape mark.Bool = shape.Word
mark_shape mark.Str = shape.Word
mark_shape mark.Dyn = shape.Word
mark_shape mark.Callable = shape.Word
mark_shape mark.OpenSquare = shape.Tight
mark_shape mark.CloseSquare = shape.Tight
mark_shape mark.Equals = shape.Operator
mark_shape mark.Colon = shape.Spaced
mark_shape mark.Arrow = shape.Operator
mark_shape mark.Class = shape.Keyword
mark_shape mark.Def = shape.Keyword
mark_shape mark.Pass = shape.Word
mark_shape mark.Return = shape.Keyword
mark_shape mark.Print = shape.Word
mark_shape mark.Start = shape.Word
mark_shape mark.If = shape.Keyword
mark_shape mark.Elif = shape.Keyword
mark_shape mark.Else = shape.Word
mark_shape mark.While = shape.Keyword
mark_shape mark.Newline = shape.Tight
mark_shape mark.Indent = shape.Tight
mark_shape mark.Dedent = shape.Tight
mark_shape mark.End = shape.Tight
mark_shape mark.Unused = shape.Tight

abbrev pub what_shape : What → Shape
what_shape (what.Name x) = shape.Word
what_shape (what.Number n) = shape.Number
what_shape (what.Text t) = shape.Word
what_shape (what.Bool b) = shape.Word
what_shape what.Nil = shape.Word
what_shape what.Or = shape.Operator
what_shape what.And = shape.Operator
what_shape what.Not = shape.Keyword
what_shape (what.Operator o) = shape.Operator
what_shape what.Dot = shape.Dot
what_shape what.Open = shape.Tight
what_shape what.Close = shape.Tight
what_shape what.Comma = shape.Spaced
what_shape what.Cast = shape.Word
what_shape what.Join = shape.Word
what_shape (what.Mark m) = mark_shape m

abbrev pub shape_of : Printed → Shape
shape_of printed.Minus = shape.Tight
shape_of (printed.Plain w) = what_shape w

-- a word, a number and an operator stand off from a word or a number before them
abbrev pub stands_off : Shape → Bool
stands_off shape.Word = true
stands_off shape.Number = true
stands_off shape.Keyword = true
stands_off shape.Operator = true
stands_off _ = false

-- only an operator stands off from a bracket
abbrev pub is_operator : Shape → Bool
is_operator shape.Operator = true
is_operator _ = false

-- a space keeps a number and a dot apart, which would be a bad number together
abbrev pub behind_number : Shape → Bool
behind_number shape.Dot = true
behind_number s = stands_off s

-- whether a space stands between a token of the one shape and a token of the other
abbrev pub gap : Shape → Shape → Bool
gap shape.Edge s = false
gap shape.Word s = stands_off s
gap shape.Number s = behind_number s
gap shape.Keyword s = true
gap shape.Spaced s = true
gap shape.Operator s = true
gap shape.Dot s = is_operator s
gap shape.Tight s = is_operator s
