-- How each token is spelled.
use Rattle.std.specs.Prelude.{ℕ, Bool, true, false, ◌==◌, ◌||◌, List, [], ◌∷◌, ◌++◌, codes, decimal, if◌then◌else◌}
use Rattle.mono_syntax.specs.declared.leaf.Op.{Op}
use Rattle.mono_syntax.specs.declared.leaf.Op.TheVariants as op
use Rattle.spelled_tokens.specs.declared.token.Mark.{Mark}
use Rattle.spelled_tokens.specs.declared.token.Mark.TheVariants as mark
use Rattle.spelled_tokens.specs.declared.token.What.{What}
use Rattle.spelled_tokens.specs.declared.token.What.TheVariants as what
use Rattle.token_lines.specs.declared.printed.Printed.{Printed}
use Rattle.token_lines.specs.declared.printed.Printed.TheVariants as printed

-- the token of the grammar that a printed one is
abbrev pub what_of : Printed → What
what_of printed.Minus = what.Operator op.Sub
what_of (printed.Plain w) = w

-- a byte inside a string: a line feed, a tab, a backslash and a quote stand behind a backslash
abbrev pub quoted_byte : ℕ → List ℕ
quoted_byte b =
    if b == 10 then 92 ∷ 110 ∷ []
    else (if b == 9 then 92 ∷ 116 ∷ []
    else (if b == 92 || b == 34 then 92 ∷ b ∷ []
    else b ∷ []))

abbrev pub quoted : List ℕ → List ℕ
quoted [] = []
quoted (b ∷ bs) = quoted_byte b ++ quoted bs

abbrev pub op_text : Op → List ℕ
op_text op.Add = codes "+"
op_text op.Sub = codes "-"
op_text op.Mul = codes "*"
op_text op.Div = codes "//"
op_text op.Mod = codes "%"
op_text op.Lt = codes "<"
op_text op.Le = codes "<="
op_text op.Gt = codes ">"
op_text op.Ge = codes ">="
op_text op.Eq = codes "=="
op_text op.Ne = codes "!="

-- the layout spells nothing
abbrev pub mark_text : Mark → List ℕ
mark_text mark.Int = codes "int"
mark_text mark.Bool = codes "bool"
mark_text mark.Str = codes "str"
mark_text mark.Dyn = codes "Dyn"
mark_text mark.Callable = codes "Callable"
mark_text mark.OpenSquare = codes "["
mark_text mark.CloseSquare = codes "]"
mark_text mark.Equals = codes "="
mark_text mark.Colon = codes ":"
mark_text mark.Arrow = codes "->"
mark_text mark.Class = codes "class"
mark_text mark.Def = codes "def"
mark_text mark.Pass = codes "pass"
mark_text mark.Return = codes "return"
mark_text mark.Print = codes "print"
mark_text mark.Start = codes "start"
mark_text mark.If = codes "if"
mark_text mark.Elif = codes "elif"
mark_text mark.Else = codes "else"
mark_text mark.While = codes "while"
mark_text mark.Newline = []
mark_text mark.Indent = []
mark_text mark.Dedent = []
mark_text mark.End = []
mark_text mark.Unused = []

abbrev pub truth_text : Bool → List ℕ
truth_text true = codes "True"
truth_text false = codes "False"

-- a name is its text, a number stands in decimal, a string between two `"`
abbrev pub what_text : What → List ℕ
what_text (what.Name x) = x
what_text (what.Number n) = decimal n
what_text (what.Text t) = 34 ∷ (quoted t ++ 34 ∷ [])
what_text (what.Bool b) = truth_text b
what_text what.Nil = codes "None"
what_text what.Or = codes "or"
what_text what.And = codes "and"
what_text what.Not = codes "not"
what_text (what.Operator o) = op_text o
what_text what.Dot = codes "."
what_text what.Open = codes "("
what_text what.Close = codes ")"
what_text what.Comma = codes ","
what_text what.Cast = codes "cast"
what_text what.Join = codes "join"
what_text (what.Mark m) = mark_text m

abbrev pub text_of : Printed → List ℕ
text_of t = what_text (what_of t)

-- the spelling of what is always spelled alike
abbrev pub fixed_text : What → List ℕ
fixed_text (what.Name x) = []
fixed_text (what.Number n) = []
fixed_text (what.Text t) = []
fixed_text w = what_text w
