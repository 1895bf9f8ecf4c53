-- What a contract sees, from the variant, whose parts are seen so already.
use Rattle.std.specs.Prelude.{List, [], ◌∷◌}
use Rattle.mono_syntax.specs.declared.tree.ExprKind as rust_expr
use Rattle.mono_syntax.specs.declared.tree.ExprKind.TheVariants as expr_kind
use Rattle.mono_syntax.specs.Expr.{Expr, Exprs, binary, both, call, cast, either, join, local, more_exprs, neg, negation, nil, no_exprs, number, read, text, truth}

abbrev pub exprs : List Expr → Exprs
exprs [] = no_exprs
exprs (x ∷ xs) = more_exprs x (exprs xs)

abbrev pub exprs_list : Exprs → List Expr
exprs_list no_exprs = []
exprs_list (more_exprs x xs) = x ∷ exprs_list xs

abbrev pub expr_of : rust_expr.ExprKind → Expr
expr_of (expr_kind.Local a) = local a
expr_of (expr_kind.Int a b) = number a b
expr_of (expr_kind.Text a b) = text a b
expr_of (expr_kind.Bool a b) = truth a b
expr_of (expr_kind.Nil a) = nil a
expr_of (expr_kind.Neg a b) = neg a b
expr_of (expr_kind.Not a b) = negation a b
expr_of (expr_kind.Binary a b c d) = binary a b c d
expr_of (expr_kind.And a b) = both a b
expr_of (expr_kind.Or a b) = either a b
expr_of (expr_kind.Read a b) = read a b
expr_of (expr_kind.Call a b c) = call a b (exprs c)
expr_of (expr_kind.Cast a b c) = cast a b c
expr_of (expr_kind.Join a b) = join a b
