-- What a contract sees, from the variant, whose parts are seen so already.
use Rattle.std.specs.Prelude.{List, [], ◌∷◌}
use Rattle.mono_syntax.specs.declared.cast.Arg as rust_arg
use Rattle.mono_syntax.specs.declared.cast.CastExprKind as rust_cast_expr
use Rattle.mono_syntax.specs.declared.cast.CastExprKind.TheVariants as cast_expr_kind
use Rattle.mono_syntax.specs.CastExpr.{Args, CastExpr, CastExprs, binary, both, call, either, fit, function, join, local, make, more_args, more_exprs, neg, negation, nil, no_args, no_exprs, number, read, text, truth}

abbrev pub cast_exprs : List CastExpr → CastExprs
cast_exprs [] = no_exprs
cast_exprs (x ∷ xs) = more_exprs x (cast_exprs xs)

abbrev pub cast_exprs_list : CastExprs → List CastExpr
cast_exprs_list no_exprs = []
cast_exprs_list (more_exprs x xs) = x ∷ cast_exprs_list xs

abbrev pub args : List rust_arg.Arg → Args
args [] = no_args
args (x ∷ xs) = more_args x.site x.value (args xs)

abbrev pub cast_expr_of : rust_cast_expr.CastExprKind → CastExpr
cast_expr_of (cast_expr_kind.Int a) = number a
cast_expr_of (cast_expr_kind.Text a) = text a
cast_expr_of (cast_expr_kind.Bool a) = truth a
cast_expr_of cast_expr_kind.Nil = nil
cast_expr_of (cast_expr_kind.Local a b) = local a b
cast_expr_of (cast_expr_kind.Function a) = function a
cast_expr_of (cast_expr_kind.Neg a b) = neg a b
cast_expr_of (cast_expr_kind.Not a) = negation a
cast_expr_of (cast_expr_kind.Binary a b c d e) = binary a b c d e
cast_expr_of (cast_expr_kind.And a b) = both a b
cast_expr_of (cast_expr_kind.Or a b) = either a b
cast_expr_of (cast_expr_kind.Read a b c) = read a b c
cast_expr_of (cast_expr_kind.New a b) = make a (cast_exprs b)
cast_expr_of (cast_expr_kind.Call a b c) = call a b (args c)
cast_expr_of (cast_expr_kind.Fit a b) = fit a b
cast_expr_of (cast_expr_kind.Join a b) = join a b
