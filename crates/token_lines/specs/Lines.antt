-- Lines of tokens: their text, and the tokens of that text with its layout.
use Rattle.std.specs.Prelude.{ℕ, ◌-◌, ◌*◌, Bool, true, false, nat_lt, List, [], ◌∷◌, ◌++◌, map, replicate, if◌then◌else◌}
use Rattle.spelled_tokens.specs.declared.token.Mark.TheVariants as mark
use Rattle.spelled_tokens.specs.declared.token.What.{What}
use Rattle.spelled_tokens.specs.declared.token.What.TheVariants as what
use Rattle.token_lines.specs.declared.printed.Printed.{Printed}
use Rattle.token_lines.specs.declared.printed.Shape.{Shape}
use Rattle.token_lines.specs.declared.printed.Shape.TheVariants as shape
use Rattle.token_lines.specs.Tokens.{what_of, text_of}
use Rattle.token_lines.specs.Spaces.{shape_of, gap}

-- a logical line: how many blocks it stands in, and its tokens
pub record Line : Type 0 where
  pub depth : ℕ
  pub tokens : List Printed

abbrev pub line : ℕ → List Printed → Line
line d ts = record { depth = d; tokens = ts }

abbrev pub space_if : Bool → List ℕ
space_if true = 32 ∷ []
space_if false = []

-- the text of tokens behind one of this shape
abbrev pub row_text : Shape → List Printed → List ℕ
row_text s [] = []
row_text s (t ∷ ts) = space_if (gap s (shape_of t)) ++ (text_of t ++ row_text (shape_of t) ts)

-- four spaces for each block, the tokens, and a line feed
abbrev pub line_text : Line → List ℕ
line_text l = replicate (4 * l.depth) 32 ++ (row_text shape.Edge l.tokens ++ 10 ∷ [])

abbrev pub lines_text : List Line → List ℕ
lines_text [] = []
lines_text (l ∷ ls) = line_text l ++ lines_text ls

-- INDENT where a line is deeper than the one before it, else a DEDENT for each block that it leaves
abbrev pub dents_between : ℕ → ℕ → List What
dents_between d e = if nat_lt d e then what.Mark mark.Indent ∷ [] else replicate (d - e) (what.Mark mark.Dedent)

-- the tokens of lines behind one at this depth, with NEWLINE, INDENT, DEDENT and END
abbrev pub whats_of_lines : ℕ → List Line → List What
whats_of_lines d [] = replicate d (what.Mark mark.Dedent) ++ what.Mark mark.End ∷ []
whats_of_lines d (l ∷ ls) = dents_between d l.depth ++ (map what_of l.tokens ++ (what.Mark mark.Newline ∷ whats_of_lines l.depth ls))
