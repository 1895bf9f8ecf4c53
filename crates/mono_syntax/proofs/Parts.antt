-- A part is no larger than the parts together.
use Rattle.std.proofs.Common.{◌≡◌, ℕ, zero, suc, ◌+◌, ◌<◌, ◌≤◌, List, [], ◌∷◌, length, get_or, arith}
use Rattle.mono_syntax.specs.declared.tree.Field as rust_field
use Rattle.mono_syntax.specs.Ty.{Ty, fields_size, ty_size, tys_size}
use Rattle.mono_syntax.specs.TyView.{tys, fields}
use Rattle.mono_syntax.specs.Ann.{Ann, ann_size, anns_size}
use Rattle.mono_syntax.specs.AnnView.{anns}
use Rattle.mono_syntax.specs.Expr.{Expr, expr_size, exprs_size}
use Rattle.mono_syntax.specs.ExprView.{exprs}
use Rattle.mono_syntax.specs.declared.tree.Branch as rust_branch
use Rattle.mono_syntax.specs.Stmt.{Stmt, block_size, branches_size, stmt_size}
use Rattle.mono_syntax.specs.StmtView.{block, branches}
use Rattle.mono_syntax.specs.declared.cast.Arg as rust_arg
use Rattle.mono_syntax.specs.CastExpr.{CastExpr, args_size, cast_expr_size, cast_exprs_size}
use Rattle.mono_syntax.specs.CastExprView.{cast_exprs, args}
use Rattle.mono_syntax.specs.declared.cast.CastBranch as rust_cast_branch
use Rattle.mono_syntax.specs.CastStmt.{CastStmt, cast_block_size, cast_branches_size, cast_stmt_size}
use Rattle.mono_syntax.specs.CastStmtView.{cast_block, cast_branches}

ty_at : (xs : List Ty) (i : ℕ) (d : Ty) → i < length xs → ty_size (get_or xs i d) ≤ tys_size (tys xs)
ty_at [] i d h = absurd (omega arith)
ty_at (x ∷ xs) zero d h = omega arith
ty_at (x ∷ xs) (suc i) d h = let s : ty_size (get_or xs i d) ≤ tys_size (tys xs) = ty_at xs i d (omega arith) in omega arith

pub part_ty : (xs : List Ty) (i : ℕ) (x : Ty) → i < length xs → x ≡ get_or xs i x → ty_size x ≤ tys_size (tys xs)
part_ty xs i x h e = rw e (ty_at xs i x h)

field_at : (xs : List rust_field.Field) (i : ℕ) (d : rust_field.Field) → i < length xs → ty_size (get_or xs i d).ty + 1 ≤ fields_size (fields xs)
field_at [] i d h = absurd (omega arith)
field_at (x ∷ xs) zero d h = omega arith
field_at (x ∷ xs) (suc i) d h = let s : ty_size (get_or xs i d).ty + 1 ≤ fields_size (fields xs) = field_at xs i d (omega arith) in omega arith

pub part_field : (xs : List rust_field.Field) (i : ℕ) (x : rust_field.Field) → i < length xs → x ≡ get_or xs i x → ty_size x.ty + 1 ≤ fields_size (fields xs)
part_field xs i x h e = rw e (field_at xs i x h)

ann_at : (xs : List Ann) (i : ℕ) (d : Ann) → i < length xs → ann_size (get_or xs i d) ≤ anns_size (anns xs)
ann_at [] i d h = absurd (omega arith)
ann_at (x ∷ xs) zero d h = omega arith
ann_at (x ∷ xs) (suc i) d h = let s : ann_size (get_or xs i d) ≤ anns_size (anns xs) = ann_at xs i d (omega arith) in omega arith

pub part_ann : (xs : List Ann) (i : ℕ) (x : Ann) → i < length xs → x ≡ get_or xs i x → ann_size x ≤ anns_size (anns xs)
part_ann xs i x h e = rw e (ann_at xs i x h)

expr_at : (xs : List Expr) (i : ℕ) (d : Expr) → i < length xs → expr_size (get_or xs i d) ≤ exprs_size (exprs xs)
expr_at [] i d h = absurd (omega arith)
expr_at (x ∷ xs) zero d h = omega arith
expr_at (x ∷ xs) (suc i) d h = let s : expr_size (get_or xs i d) ≤ exprs_size (exprs xs) = expr_at xs i d (omega arith) in omega arith

pub part_expr : (xs : List Expr) (i : ℕ) (x : Expr) → i < length xs → x ≡ get_or xs i x → expr_size x ≤ exprs_size (exprs xs)
part_expr xs i x h e = rw e (expr_at xs i x h)

stmt_at : (xs : List Stmt) (i : ℕ) (d : Stmt) → i < length xs → stmt_size (get_or xs i d) ≤ block_size (block xs)
stmt_at [] i d h = absurd (omega arith)
stmt_at (x ∷ xs) zero d h = omega arith
stmt_at (x ∷ xs) (suc i) d h = let s : stmt_size (get_or xs i d) ≤ block_size (block xs) = stmt_at xs i d (omega arith) in omega arith

pub part_stmt : (xs : List Stmt) (i : ℕ) (x : Stmt) → i < length xs → x ≡ get_or xs i x → stmt_size x ≤ block_size (block xs)
part_stmt xs i x h e = rw e (stmt_at xs i x h)

branch_at : (xs : List rust_branch.Branch) (i : ℕ) (d : rust_branch.Branch) → i < length xs → block_size (block (get_or xs i d).body) + 1 ≤ branches_size (branches xs)
branch_at [] i d h = absurd (omega arith)
branch_at (x ∷ xs) zero d h = omega arith
branch_at (x ∷ xs) (suc i) d h = let s : block_size (block (get_or xs i d).body) + 1 ≤ branches_size (branches xs) = branch_at xs i d (omega arith) in omega arith

pub part_branch : (xs : List rust_branch.Branch) (i : ℕ) (x : rust_branch.Branch) → i < length xs → x ≡ get_or xs i x → block_size (block x.body) + 1 ≤ branches_size (branches xs)
part_branch xs i x h e = rw e (branch_at xs i x h)

cast_expr_at : (xs : List CastExpr) (i : ℕ) (d : CastExpr) → i < length xs → cast_expr_size (get_or xs i d) ≤ cast_exprs_size (cast_exprs xs)
cast_expr_at [] i d h = absurd (omega arith)
cast_expr_at (x ∷ xs) zero d h = omega arith
cast_expr_at (x ∷ xs) (suc i) d h = let s : cast_expr_size (get_or xs i d) ≤ cast_exprs_size (cast_exprs xs) = cast_expr_at xs i d (omega arith) in omega arith

pub part_cast_expr : (xs : List CastExpr) (i : ℕ) (x : CastExpr) → i < length xs → x ≡ get_or xs i x → cast_expr_size x ≤ cast_exprs_size (cast_exprs xs)
part_cast_expr xs i x h e = rw e (cast_expr_at xs i x h)

arg_at : (xs : List rust_arg.Arg) (i : ℕ) (d : rust_arg.Arg) → i < length xs → cast_expr_size (get_or xs i d).value + 1 ≤ args_size (args xs)
arg_at [] i d h = absurd (omega arith)
arg_at (x ∷ xs) zero d h = omega arith
arg_at (x ∷ xs) (suc i) d h = let s : cast_expr_size (get_or xs i d).value + 1 ≤ args_size (args xs) = arg_at xs i d (omega arith) in omega arith

pub part_arg : (xs : List rust_arg.Arg) (i : ℕ) (x : rust_arg.Arg) → i < length xs → x ≡ get_or xs i x → cast_expr_size x.value + 1 ≤ args_size (args xs)
part_arg xs i x h e = rw e (arg_at xs i x h)

cast_stmt_at : (xs : List CastStmt) (i : ℕ) (d : CastStmt) → i < length xs → cast_stmt_size (get_or xs i d) ≤ cast_block_size (cast_block xs)
cast_stmt_at [] i d h = absurd (omega arith)
cast_stmt_at (x ∷ xs) zero d h = omega arith
cast_stmt_at (x ∷ xs) (suc i) d h = let s : cast_stmt_size (get_or xs i d) ≤ cast_block_size (cast_block xs) = cast_stmt_at xs i d (omega arith) in omega arith

pub part_cast_stmt : (xs : List CastStmt) (i : ℕ) (x : CastStmt) → i < length xs → x ≡ get_or xs i x → cast_stmt_size x ≤ cast_block_size (cast_block xs)
part_cast_stmt xs i x h e = rw e (cast_stmt_at xs i x h)

cast_branch_at : (xs : List rust_cast_branch.CastBranch) (i : ℕ) (d : rust_cast_branch.CastBranch) → i < length xs → cast_block_size (cast_block (get_or xs i d).body) + 1 ≤ cast_branches_size (cast_branches xs)
cast_branch_at [] i d h = absurd (omega arith)
cast_branch_at (x ∷ xs) zero d h = omega arith
cast_branch_at (x ∷ xs) (suc i) d h = let s : cast_block_size (cast_block (get_or xs i d).body) + 1 ≤ cast_branches_size (cast_branches xs) = cast_branch_at xs i d (omega arith) in omega arith

pub part_cast_branch : (xs : List rust_cast_branch.CastBranch) (i : ℕ) (x : rust_cast_branch.CastBranch) → i < length xs → x ≡ get_or xs i x → cast_block_size (cast_block x.body) + 1 ≤ cast_branches_size (cast_branches xs)
part_cast_branch xs i x h e = rw e (cast_branch_at xs i x h)

pub ruleset parts = (part_ty, part_field, part_ann, part_expr, part_stmt, part_branch, part_cast_expr, part_arg, part_cast_stmt, part_cast_branch)
