-- A list and its tree tell the same.
use Rattle.std.proofs.Common.{◌≡◌, ◌∙◌, sym, ap, List, [], ◌∷◌, refl}
use Rattle.mono_syntax.specs.Ty.{Ty, Tys, no_tys, more_tys}
use Rattle.mono_syntax.specs.TyView.{tys, tys_list}
use Rattle.mono_syntax.specs.Ann.{Ann, Anns, no_anns, more_anns}
use Rattle.mono_syntax.specs.AnnView.{anns, anns_list}
use Rattle.mono_syntax.specs.Expr.{Expr, Exprs, no_exprs, more_exprs}
use Rattle.mono_syntax.specs.ExprView.{exprs, exprs_list}
use Rattle.mono_syntax.specs.Stmt.{Stmt, Block, no_stmts, more_stmts}
use Rattle.mono_syntax.specs.StmtView.{block, block_list}
use Rattle.mono_syntax.specs.CastExpr.{CastExpr, CastExprs, no_exprs, more_exprs}
use Rattle.mono_syntax.specs.CastExprView.{cast_exprs, cast_exprs_list}
use Rattle.mono_syntax.specs.CastStmt.{CastStmt, CastBlock, no_stmts, more_stmts}
use Rattle.mono_syntax.specs.CastStmtView.{cast_block, cast_block_list}

pub tys_list-tys : (xs : List Ty) → tys_list (tys xs) ≡ xs
tys_list-tys [] = refl
tys_list-tys (x ∷ xs) = ap (λ l. x ∷ l) (tys_list-tys xs)

pub tys-tys_list : (t : Tys) → tys (tys_list t) ≡ t
tys-tys_list no_tys = refl
tys-tys_list (more_tys x xs) = ap (λ l. more_tys x l) (tys-tys_list xs)

pub tys-inj : (xs ys : List Ty) → tys xs ≡ tys ys → xs ≡ ys
tys-inj xs ys e = sym (tys_list-tys xs) ∙ (ap tys_list e ∙ tys_list-tys ys)

pub anns_list-anns : (xs : List Ann) → anns_list (anns xs) ≡ xs
anns_list-anns [] = refl
anns_list-anns (x ∷ xs) = ap (λ l. x ∷ l) (anns_list-anns xs)

pub anns-anns_list : (t : Anns) → anns (anns_list t) ≡ t
anns-anns_list no_anns = refl
anns-anns_list (more_anns x xs) = ap (λ l. more_anns x l) (anns-anns_list xs)

pub anns-inj : (xs ys : List Ann) → anns xs ≡ anns ys → xs ≡ ys
anns-inj xs ys e = sym (anns_list-anns xs) ∙ (ap anns_list e ∙ anns_list-anns ys)

pub exprs_list-exprs : (xs : List Expr) → exprs_list (exprs xs) ≡ xs
exprs_list-exprs [] = refl
exprs_list-exprs (x ∷ xs) = ap (λ l. x ∷ l) (exprs_list-exprs xs)

pub exprs-exprs_list : (t : Exprs) → exprs (exprs_list t) ≡ t
exprs-exprs_list no_exprs = refl
exprs-exprs_list (more_exprs x xs) = ap (λ l. more_exprs x l) (exprs-exprs_list xs)

pub exprs-inj : (xs ys : List Expr) → exprs xs ≡ exprs ys → xs ≡ ys
exprs-inj xs ys e = sym (exprs_list-exprs xs) ∙ (ap exprs_list e ∙ exprs_list-exprs ys)

pub block_list-block : (xs : List Stmt) → block_list (block xs) ≡ xs
block_list-block [] = refl
block_list-block (x ∷ xs) = ap (λ l. x ∷ l) (block_list-block xs)

pub block-block_list : (t : Block) → block (block_list t) ≡ t
block-block_list no_stmts = refl
block-block_list (more_stmts x xs) = ap (λ l. more_stmts x l) (block-block_list xs)

pub block-inj : (xs ys : List Stmt) → block xs ≡ block ys → xs ≡ ys
block-inj xs ys e = sym (block_list-block xs) ∙ (ap block_list e ∙ block_list-block ys)

pub cast_exprs_list-cast_exprs : (xs : List CastExpr) → cast_exprs_list (cast_exprs xs) ≡ xs
cast_exprs_list-cast_exprs [] = refl
cast_exprs_list-cast_exprs (x ∷ xs) = ap (λ l. x ∷ l) (cast_exprs_list-cast_exprs xs)

pub cast_exprs-cast_exprs_list : (t : CastExprs) → cast_exprs (cast_exprs_list t) ≡ t
cast_exprs-cast_exprs_list no_exprs = refl
cast_exprs-cast_exprs_list (more_exprs x xs) = ap (λ l. more_exprs x l) (cast_exprs-cast_exprs_list xs)

pub cast_exprs-inj : (xs ys : List CastExpr) → cast_exprs xs ≡ cast_exprs ys → xs ≡ ys
cast_exprs-inj xs ys e = sym (cast_exprs_list-cast_exprs xs) ∙ (ap cast_exprs_list e ∙ cast_exprs_list-cast_exprs ys)

pub cast_block_list-cast_block : (xs : List CastStmt) → cast_block_list (cast_block xs) ≡ xs
cast_block_list-cast_block [] = refl
cast_block_list-cast_block (x ∷ xs) = ap (λ l. x ∷ l) (cast_block_list-cast_block xs)

pub cast_block-cast_block_list : (t : CastBlock) → cast_block (cast_block_list t) ≡ t
cast_block-cast_block_list no_stmts = refl
cast_block-cast_block_list (more_stmts x xs) = ap (λ l. more_stmts x l) (cast_block-cast_block_list xs)

pub cast_block-inj : (xs ys : List CastStmt) → cast_block xs ≡ cast_block ys → xs ≡ ys
cast_block-inj xs ys e = sym (cast_block_list-cast_block xs) ∙ (ap cast_block_list e ∙ cast_block_list-cast_block ys)

pub ruleset lists = (tys-tys_list, tys-inj, anns-anns_list, anns-inj, exprs-exprs_list, exprs-inj, block-block_list, block-inj, cast_exprs-cast_exprs_list, cast_exprs-inj, cast_block-cast_block_list, cast_block-inj)
