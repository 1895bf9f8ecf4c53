-- Writing token by token gives the text of a row, and lines stand one behind the other.
use Rattle.std.specs.Prelude.{replicate}
use Rattle.std.proofs.Common.{◌≡◌, ◌∙◌, ℕ, ◌*◌, List, [], ◌∷◌, ◌++◌, sym, ap, refl, append_assoc, append-nil}
use Rattle.token_lines.specs.declared.printed.Printed.{Printed}
use Rattle.token_lines.specs.Tokens.{text_of}
use Rattle.token_lines.specs.Spaces.{shape_of, gap}
use Rattle.token_lines.specs.declared.printed.Shape.TheVariants as shape
use Rattle.token_lines.specs.Lines.{Line, line, space_if, row_text, line_text, lines_text}
use Rattle.token_lines.specs.Sheets.{Sheet, begun, ended, put, written}

-- some tokens and then others
pub written-append : (s : Sheet) (xs ys : List Printed) → written s (xs ++ ys) ≡ written (written s xs) ys
written-append s [] ys = refl
written-append s (x ∷ xs) ys = written-append (put s x) xs ys

-- what is written stands behind the text before
pub written-text : (s : Sheet) (ts : List Printed) → (written s ts).text ≡ s.text ++ row_text s.before ts
written-text s [] = sym (append-nil s.text)
written-text s (t ∷ ts) =
    written-text (put s t) ts
    ∙ (append_assoc s.text (space_if (gap s.before (shape_of t)) ++ text_of t) (row_text (shape_of t) ts)
    ∙ ap (λ l. s.text ++ l) (append_assoc (space_if (gap s.before (shape_of t))) (text_of t) (row_text (shape_of t) ts)))

-- a line from its beginning to its end
pub line_put : (s a b c : Sheet) (d : ℕ) (ts : List Printed) → a ≡ begun s d → b ≡ written a ts → c ≡ ended b → c.text ≡ s.text ++ line_text (line d ts)
line_put s a b c d ts x y z =
    ap (λ p. p.text) z
    ∙ (ap (λ p. p.text ++ 10 ∷ []) (y ∙ ap (λ p. written p ts) x)
    ∙ (ap (λ l. l ++ 10 ∷ []) (written-text (begun s d) ts)
    ∙ (append_assoc (s.text ++ replicate (4 * d) 32) (row_text shape.Edge ts) (10 ∷ [])
    ∙ append_assoc s.text (replicate (4 * d) 32) (row_text shape.Edge ts ++ 10 ∷ []))))

pub lines_text-append : (xs ys : List Line) → lines_text (xs ++ ys) ≡ lines_text xs ++ lines_text ys
lines_text-append [] ys = refl
lines_text-append (x ∷ xs) ys = ap (λ l. line_text x ++ l) (lines_text-append xs ys) ∙ sym (append_assoc (line_text x) (lines_text xs) (lines_text ys))

pub ruleset writing = (written-append, append_assoc, append-nil)
