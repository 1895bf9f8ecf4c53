-- Each part has fewer nodes than the whole.
use Rattle.std.specs.Prelude.{◌+◌, ◌≤◌, max, List, [], ◌∷◌}
use Rattle.std.proofs.Common.{arith}
use denote.Param.Weighed.{most}
use Rattle.mono_syntax.specs.declared.tree.ExprKind as rust_expr
use Rattle.mono_syntax.specs.declared.tree.ExprKind.TheVariants as expr_kind
use Rattle.mono_syntax.specs.declared.tree.Expr.TheDeep.{deep-ExprKind}
use Rattle.mono_syntax.specs.Expr.{Expr, expr_size, exprs_size}
use Rattle.mono_syntax.specs.ExprView.{expr_of, exprs}

most_le-exprs_size : (xs : List Expr) → most (λ t. expr_size t + 1) xs ≤ exprs_size (exprs xs) + 1
most_le-exprs_size [] = omega arith
most_le-exprs_size (x ∷ xs) = omega (arith, most_le-exprs_size xs)

pub deep_le-expr : (k : rust_expr.ExprKind) → max (deep-ExprKind k) 0 ≤ expr_size (expr_of k)
deep_le-expr (expr_kind.Local a) = omega arith
deep_le-expr (expr_kind.Int a b) = omega arith
deep_le-expr (expr_kind.Text a b) = omega arith
deep_le-expr (expr_kind.Bool a b) = omega arith
deep_le-expr (expr_kind.Nil a) = omega arith
deep_le-expr (expr_kind.Neg a b) = omega arith
deep_le-expr (expr_kind.Not a b) = omega arith
deep_le-expr (expr_kind.Binary a b c d) = omega arith
deep_le-expr (expr_kind.And a b) = omega arith
deep_le-expr (expr_kind.Or a b) = omega arith
deep_le-expr (expr_kind.Read a b) = omega arith
deep_le-expr (expr_kind.Call a b c) = omega (arith, most_le-exprs_size c)
deep_le-expr (expr_kind.Cast a b c) = omega arith
deep_le-expr (expr_kind.Join a b) = omega arith
