-- Each part has fewer nodes than the whole.
use Rattle.std.specs.Prelude.{◌+◌, ◌≤◌, max, List, [], ◌∷◌}
use Rattle.std.proofs.Common.{arith}
use denote.Param.Weighed.{most}
use Rattle.mono_syntax.specs.declared.cast.Arg as rust_arg
use Rattle.mono_syntax.specs.declared.cast.CastExprKind as rust_cast_expr
use Rattle.mono_syntax.specs.declared.cast.CastExprKind.TheVariants as cast_expr_kind
use Rattle.mono_syntax.specs.declared.cast.CastExpr.TheDeep.{deep-Arg, deep-CastExprKind}
use Rattle.mono_syntax.specs.CastExpr.{CastExpr, args_size, cast_expr_size, cast_exprs_size}
use Rattle.mono_syntax.specs.CastExprView.{args, cast_expr_of, cast_exprs}

most_le-cast_exprs_size : (xs : List CastExpr) → most (λ t. cast_expr_size t + 1) xs ≤ cast_exprs_size (cast_exprs xs) + 1
most_le-cast_exprs_size [] = omega arith
most_le-cast_exprs_size (x ∷ xs) = omega (arith, most_le-cast_exprs_size xs)

most_le-args_size : (xs : List rust_arg.Arg) → most deep-Arg xs ≤ args_size (args xs)
most_le-args_size [] = omega arith
most_le-args_size (x ∷ xs) = omega (arith, most_le-args_size xs)

pub deep_le-cast_expr : (k : rust_cast_expr.CastExprKind) → max (deep-CastExprKind k) 0 ≤ cast_expr_size (cast_expr_of k)
deep_le-cast_expr (cast_expr_kind.Int a) = omega arith
deep_le-cast_expr (cast_expr_kind.Text a) = omega arith
deep_le-cast_expr (cast_expr_kind.Bool a) = omega arith
deep_le-cast_expr cast_expr_kind.Nil = omega arith
deep_le-cast_expr (cast_expr_kind.Local a b) = omega arith
deep_le-cast_expr (cast_expr_kind.Function a) = omega arith
deep_le-cast_expr (cast_expr_kind.Neg a b) = omega arith
deep_le-cast_expr (cast_expr_kind.Not a) = omega arith
deep_le-cast_expr (cast_expr_kind.Binary a b c d e) = omega arith
deep_le-cast_expr (cast_expr_kind.And a b) = omega arith
deep_le-cast_expr (cast_expr_kind.Or a b) = omega arith
deep_le-cast_expr (cast_expr_kind.Read a b c) = omega arith
deep_le-cast_expr (cast_expr_kind.New a b) = omega (arith, most_le-cast_exprs_size b)
deep_le-cast_expr (cast_expr_kind.Call a b c) = omega (arith, most_le-args_size c)
deep_le-cast_expr (cast_expr_kind.Fit a b) = omega arith
deep_le-cast_expr (cast_expr_kind.Join a b) = omega arith
