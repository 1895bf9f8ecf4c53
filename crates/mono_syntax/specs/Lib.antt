-- Rules.

-- the limits of the language
pub mod Limits
-- Trees, as contracts see them: for each family its data, what a contract sees of a value in memory, and that the parts are smaller.

-- how the logic stores what trees have at their leaves
pub mod Leaf
-- types
pub mod Ty
pub mod TyView
pub mod TyFalls
-- annotations
pub mod Ann
pub mod AnnView
pub mod AnnFalls
-- expressions
pub mod Expr
pub mod ExprView
pub mod ExprFalls
-- statements
pub mod Stmt
pub mod StmtView
pub mod StmtFalls
-- expressions with casts
pub mod CastExpr
pub mod CastExprView
pub mod CastExprFalls
-- statements with casts
pub mod CastStmt
pub mod CastStmtView
pub mod CastStmtFalls
-- Computed: what code computes.

-- whether two types are the same, and what a hash reads of a type
pub mod computed
-- that the test is equality
pub mod TyEqLaws
