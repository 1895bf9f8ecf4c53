-- Writing token by token: a text so far, and the shape of the last token of its line.
use Rattle.std.specs.Prelude.{ℕ, ◌*◌, List, [], ◌∷◌, ◌++◌, replicate}
use Rattle.token_lines.specs.declared.printed.Printed.{Printed}
use Rattle.token_lines.specs.declared.printed.Shape.{Shape}
use Rattle.token_lines.specs.declared.printed.Shape.TheVariants as shape
use Rattle.token_lines.specs.Tokens.{text_of}
use Rattle.token_lines.specs.Spaces.{shape_of, gap}
use Rattle.token_lines.specs.Lines.{space_if}

pub record Sheet : Type 0 where
  pub text : List ℕ
  pub before : Shape

-- the sheet at the beginning of a line in so many blocks
abbrev pub begun : Sheet → ℕ → Sheet
begun s d = record { text = s.text ++ replicate (4 * d) 32; before = shape.Edge }

-- the sheet behind the end of its line
abbrev pub ended : Sheet → Sheet
ended s = record { text = s.text ++ 10 ∷ []; before = s.before }

-- a token more, with a space before it where one stands
abbrev pub put : Sheet → Printed → Sheet
put s t = record { text = s.text ++ (space_if (gap s.before (shape_of t)) ++ text_of t); before = shape_of t }

-- some tokens more
abbrev pub written : Sheet → List Printed → Sheet
written s [] = s
written s (t ∷ ts) = written (put s t) ts
