-- The tokens of types and expressions, with no more brackets than the tree needs.
use Rattle.std.specs.Prelude.{ℕ, Bool, true, false, nat_lt, List, [], ◌∷◌, ◌++◌}
use Rattle.mono_syntax.specs.declared.leaf.Word.{Word}
use Rattle.mono_syntax.specs.Ann.{Ann, ann, Form, dyn, int, bool, str, nil, class, fun, Anns, no_anns, more_anns}
use Rattle.mono_syntax.specs.Expr as expr
use Rattle.mono_syntax.specs.Expr.{Expr, Exprs, no_exprs, more_exprs}
use Rattle.parse_expr.specs.Precedence.{op_left, op_whole, op_right}
use Rattle.spelled_tokens.specs.declared.token.Mark.{Mark}
use Rattle.spelled_tokens.specs.declared.token.Mark.TheVariants as mark
use Rattle.spelled_tokens.specs.declared.token.What.TheVariants as what
use Rattle.token_lines.specs.declared.printed.Printed.{Printed}
use Rattle.token_lines.specs.declared.printed.Printed.TheVariants.{Minus, Plain}

abbrev pub sign : Mark → Printed
sign m = Plain (what.Mark m)

abbrev pub name : Word → Printed
name w = Plain (what.Name w.text)

abbrev mutual
  pub ann_tokens : Ann → List Printed
  ann_tokens (ann p f) = form_tokens f

  pub form_tokens : Form → List Printed
  form_tokens dyn = sign mark.Dyn ∷ []
  form_tokens int = sign mark.Int ∷ []
  form_tokens bool = sign mark.Bool ∷ []
  form_tokens str = sign mark.Str ∷ []
  form_tokens nil = Plain what.Nil ∷ []
  form_tokens (class w) = name w ∷ []
  form_tokens (fun xs a) =
      sign mark.Callable ∷ sign mark.OpenSquare ∷ sign mark.OpenSquare
      ∷ (anns_tokens xs ++ (sign mark.CloseSquare ∷ Plain what.Comma ∷ (ann_tokens a ++ sign mark.CloseSquare ∷ [])))

  -- types with commas between
  pub anns_tokens : Anns → List Printed
  anns_tokens no_anns = []
  anns_tokens (more_anns a xs) = ann_tokens a ++ more_anns_tokens xs

  -- types, each behind a comma
  pub more_anns_tokens : Anns → List Printed
  more_anns_tokens no_anns = []
  more_anns_tokens (more_anns a xs) = Plain what.Comma ∷ (ann_tokens a ++ more_anns_tokens xs)

-- how tightly the outermost part of an expression binds, by the numbers of the grammar's forms
abbrev pub level_of : Expr → ℕ
level_of (expr.either a b) = 1
level_of (expr.both a b) = 2
level_of (expr.negation p a) = 3
level_of (expr.binary o p a b) = op_whole o
level_of (expr.neg p a) = 7
level_of (expr.read a w) = 8
level_of (expr.call p a es) = 8
level_of _ = 9

abbrev pub bracketed : Bool → List Printed → List Printed
bracketed true ts = Plain what.Open ∷ (ts ++ Plain what.Close ∷ [])
bracketed false ts = ts

-- an expression with these tokens, where a level is wanted: in brackets where its own is looser
abbrev pub placed : ℕ → Expr → List Printed → List Printed
placed l e ts = bracketed (nat_lt (level_of e) l) ts

abbrev mutual
  -- the tokens of an expression that stands in no brackets of its own
  pub expr_tokens : Expr → List Printed
  expr_tokens (expr.local w) = name w ∷ []
  expr_tokens (expr.number p n) = Plain (what.Number n) ∷ []
  expr_tokens (expr.text p t) = Plain (what.Text t) ∷ []
  expr_tokens (expr.truth p b) = Plain (what.Bool b) ∷ []
  expr_tokens (expr.nil p) = Plain what.Nil ∷ []
  expr_tokens (expr.neg p a) = Minus ∷ placed 7 a (expr_tokens a)
  expr_tokens (expr.negation p a) = Plain what.Not ∷ placed 3 a (expr_tokens a)
  expr_tokens (expr.binary o p a b) =
      placed (op_left o) a (expr_tokens a) ++ (Plain (what.Operator o) ∷ placed (op_right o) b (expr_tokens b))
  expr_tokens (expr.both a b) = placed 2 a (expr_tokens a) ++ (Plain what.And ∷ placed 3 b (expr_tokens b))
  expr_tokens (expr.either a b) = placed 1 a (expr_tokens a) ++ (Plain what.Or ∷ placed 2 b (expr_tokens b))
  expr_tokens (expr.read a w) = placed 8 a (expr_tokens a) ++ (Plain what.Dot ∷ name w ∷ [])
  expr_tokens (expr.call p a es) = placed 8 a (expr_tokens a) ++ (Plain what.Open ∷ (exprs_tokens es ++ Plain what.Close ∷ []))
  expr_tokens (expr.cast p t a) =
      Plain what.Cast ∷ Plain what.Open ∷ (ann_tokens t ++ (Plain what.Comma ∷ (expr_tokens a ++ Plain what.Close ∷ [])))
  expr_tokens (expr.join p w) = Plain what.Join ∷ Plain what.Open ∷ name w ∷ Plain what.Close ∷ []

  -- expressions with commas between
  pub exprs_tokens : Exprs → List Printed
  exprs_tokens no_exprs = []
  exprs_tokens (more_exprs e es) = expr_tokens e ++ more_exprs_tokens es

  -- expressions, each behind a comma
  pub more_exprs_tokens : Exprs → List Printed
  more_exprs_tokens no_exprs = []
  more_exprs_tokens (more_exprs e es) = Plain what.Comma ∷ (expr_tokens e ++ more_exprs_tokens es)
