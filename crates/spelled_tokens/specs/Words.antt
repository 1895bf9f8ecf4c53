-- What words and operators are.
use Rattle.std.specs.Prelude.{ℕ, true, false, List, Option, Some, None, if◌then◌else◌, bytes_eq, codes}
use Rattle.mono_syntax.specs.declared.leaf.Op.{Op}
use Rattle.mono_syntax.specs.declared.leaf.Op.TheVariants as op
use Rattle.spelled_tokens.specs.declared.token.What.{What}
use Rattle.spelled_tokens.specs.declared.token.What.TheVariants as what
use Rattle.spelled_tokens.specs.declared.token.Mark.{Mark}
use Rattle.spelled_tokens.specs.declared.token.Mark.TheVariants as mark

-- a reserved word that stands in expressions
unfoldable pub expression_word : List ℕ → Option What
expression_word w =
    if bytes_eq w (codes "True") then Some (what.Bool true)
    else (if bytes_eq w (codes "False") then Some (what.Bool false)
    else (if bytes_eq w (codes "None") then Some what.Nil
    else (if bytes_eq w (codes "or") then Some what.Or
    else (if bytes_eq w (codes "and") then Some what.And
    else (if bytes_eq w (codes "not") then Some what.Not
    else (if bytes_eq w (codes "cast") then Some what.Cast
    else (if bytes_eq w (codes "join") then Some what.Join
    else None)))))))

-- a reserved word that stands in types
unfoldable pub type_word : List ℕ → Option Mark
type_word w =
    if bytes_eq w (codes "int") then Some mark.Int
    else (if bytes_eq w (codes "bool") then Some mark.Bool
    else (if bytes_eq w (codes "str") then Some mark.Str
    else (if bytes_eq w (codes "Dyn") then Some mark.Dyn
    else (if bytes_eq w (codes "Callable") then Some mark.Callable
    else None))))

-- a reserved word of statements; of the others none stands in any form
unfoldable pub statement_word : List ℕ → Mark
statement_word w =
    if bytes_eq w (codes "class") then mark.Class
    else (if bytes_eq w (codes "def") then mark.Def
    else (if bytes_eq w (codes "pass") then mark.Pass
    else (if bytes_eq w (codes "return") then mark.Return
    else (if bytes_eq w (codes "print") then mark.Print
    else (if bytes_eq w (codes "start") then mark.Start
    else (if bytes_eq w (codes "if") then mark.If
    else (if bytes_eq w (codes "elif") then mark.Elif
    else (if bytes_eq w (codes "else") then mark.Else
    else (if bytes_eq w (codes "while") then mark.While
    else mark.Unused)))))))))

abbrev pub mark_when : Option Mark → List ℕ → What
mark_when (Some m) w = what.Mark m
mark_when None w = what.Mark (statement_word w)

abbrev pub word_when : Option What → List ℕ → What
word_when (Some x) w = x
word_when None w = mark_when (type_word w) w

-- a reserved word
abbrev pub word_what : List ℕ → What
word_what w = word_when (expression_word w) w

-- an operator with two parts
unfoldable pub operator : List ℕ → Option Op
operator w =
    if bytes_eq w (codes "+") then Some op.Add
    else (if bytes_eq w (codes "-") then Some op.Sub
    else (if bytes_eq w (codes "*") then Some op.Mul
    else (if bytes_eq w (codes "//") then Some op.Div
    else (if bytes_eq w (codes "%") then Some op.Mod
    else (if bytes_eq w (codes "<") then Some op.Lt
    else (if bytes_eq w (codes "<=") then Some op.Le
    else (if bytes_eq w (codes ">") then Some op.Gt
    else (if bytes_eq w (codes ">=") then Some op.Ge
    else (if bytes_eq w (codes "==") then Some op.Eq
    else (if bytes_eq w (codes "!=") then Some op.Ne
    else None))))))))))

-- every other operator
unfoldable pub punctuation : List ℕ → What
punctuation w =
    if bytes_eq w (codes ".") then what.Dot
    else (if bytes_eq w (codes "(") then what.Open
    else (if bytes_eq w (codes ")") then what.Close
    else (if bytes_eq w (codes ",") then what.Comma
    else (if bytes_eq w (codes "[") then what.Mark mark.OpenSquare
    else (if bytes_eq w (codes "]") then what.Mark mark.CloseSquare
    else (if bytes_eq w (codes "=") then what.Mark mark.Equals
    else (if bytes_eq w (codes ":") then what.Mark mark.Colon
    else (if bytes_eq w (codes "->") then what.Mark mark.Arrow
    else what.Mark mark.Unused))))))))

abbrev pub sign_when : Option Op → List ℕ → What
sign_when (Some o) w = what.Operator o
sign_when None w = punctuation w

-- an operator
abbrev pub sign_what : List ℕ → What
sign_what w = sign_when (operator w) w
