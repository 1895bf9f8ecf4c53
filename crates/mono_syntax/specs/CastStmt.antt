-- CastStmt, CastBlock, CastBranches, CastElse: trees, as contracts see them.
use Rattle.std.specs.Prelude.{◌≡◌, ℕ, ◌+◌, List, refl, Option, Some, None}
use Rattle.std.proofs.Common.{zero, suc}
use Rattle.std.specs.Coded.{Coded, code_by}
use base.Stored.{Gv, gnil, gnum, gcons}
use Rattle.mono_syntax.specs.Leaf.{gv_code, site_back, site_from, site_to, text_back, text_from, text_to}
use Rattle.mono_syntax.specs.CastExpr.{Args, CastExpr, CastExprs, args_back, args_from, args_to, cast_expr_back, cast_expr_from, cast_expr_to, cast_exprs_back, cast_exprs_from, cast_exprs_to}
use Rattle.mono_syntax.specs.Ty.{Ty, ty_back, ty_from, ty_to}

mutual
  pub data CastStmt : Type 0 where
    pass : CastStmt
    give : Option ℕ → CastExpr → CastStmt
    print : CastExprs → CastStmt
    assign : List ℕ → CastExpr → CastStmt
    write : Option ℕ → Option ℕ → Ty → CastExpr → List ℕ → CastExpr → CastStmt
    start : List ℕ → Option ℕ → CastExpr → Args → CastStmt
    plain : CastExpr → CastStmt
    if_any : CastBranches → CastElse → CastStmt
    loop : CastExpr → CastBlock → CastStmt

  pub data CastBlock : Type 0 where
    no_stmts : CastBlock
    more_stmts : CastStmt → CastBlock → CastBlock

  pub data CastBranches : Type 0 where
    no_branches : CastBranches
    more_branches : CastExpr → CastBlock → CastBranches → CastBranches

  pub data CastElse : Type 0 where
    no_else : CastElse
    otherwise : CastBlock → CastElse

-- how many nodes there are
abbrev mutual
  pub cast_stmt_size : CastStmt → ℕ
  cast_stmt_size pass = 1
  cast_stmt_size (give a b) = 1
  cast_stmt_size (print a) = 1
  cast_stmt_size (assign a b) = 1
  cast_stmt_size (write a b c d e f) = 1
  cast_stmt_size (start a b c d) = 1
  cast_stmt_size (plain a) = 1
  cast_stmt_size (if_any a b) = cast_branches_size a + cast_else_size b + 1
  cast_stmt_size (loop a b) = cast_block_size b + 1

  pub cast_block_size : CastBlock → ℕ
  cast_block_size no_stmts = 0
  cast_block_size (more_stmts a b) = cast_stmt_size a + cast_block_size b

  pub cast_branches_size : CastBranches → ℕ
  cast_branches_size no_branches = 0
  cast_branches_size (more_branches a b c) = cast_block_size b + cast_branches_size c + 1

  pub cast_else_size : CastElse → ℕ
  cast_else_size no_else = 0
  cast_else_size (otherwise a) = cast_block_size a

-- ---- how the logic stores them
abbrev mutual
  pub cast_stmt_to : CastStmt → Gv
  cast_stmt_to pass = gcons (gnum 0) gnil
  cast_stmt_to (give a b) = gcons (gnum 1) (gcons (site_to a) (cast_expr_to b))
  cast_stmt_to (print a) = gcons (gnum 2) (cast_exprs_to a)
  cast_stmt_to (assign a b) = gcons (gnum 3) (gcons (text_to a) (cast_expr_to b))
  cast_stmt_to (write a b c d e f) = gcons (gnum 4) (gcons (site_to a) (gcons (site_to b) (gcons (ty_to c) (gcons (cast_expr_to d) (gcons (text_to e) (cast_expr_to f))))))
  cast_stmt_to (start a b c d) = gcons (gnum 5) (gcons (text_to a) (gcons (site_to b) (gcons (cast_expr_to c) (args_to d))))
  cast_stmt_to (plain a) = gcons (gnum 6) (cast_expr_to a)
  cast_stmt_to (if_any a b) = gcons (gnum 7) (gcons (cast_branches_to a) (cast_else_to b))
  cast_stmt_to (loop a b) = gcons (gnum 8) (gcons (cast_expr_to a) (cast_block_to b))

  pub cast_block_to : CastBlock → Gv
  cast_block_to no_stmts = gcons (gnum 0) gnil
  cast_block_to (more_stmts a b) = gcons (gnum 1) (gcons (cast_stmt_to a) (cast_block_to b))

  pub cast_branches_to : CastBranches → Gv
  cast_branches_to no_branches = gcons (gnum 0) gnil
  cast_branches_to (more_branches a b c) = gcons (gnum 1) (gcons (cast_expr_to a) (gcons (cast_block_to b) (cast_branches_to c)))

  pub cast_else_to : CastElse → Gv
  cast_else_to no_else = gcons (gnum 0) gnil
  cast_else_to (otherwise a) = gcons (gnum 1) (cast_block_to a)

abbrev mutual
  pub cast_stmt_from : Gv → CastStmt
  cast_stmt_from (gcons (gnum zero) g) = pass
  cast_stmt_from (gcons (gnum (suc zero)) (gcons a b)) = give (site_from a) (cast_expr_from b)
  cast_stmt_from (gcons (gnum (suc (suc zero))) a) = print (cast_exprs_from a)
  cast_stmt_from (gcons (gnum (suc (suc (suc zero)))) (gcons a b)) = assign (text_from a) (cast_expr_from b)
  cast_stmt_from (gcons (gnum (suc (suc (suc (suc zero))))) (gcons a (gcons b (gcons c (gcons d (gcons e f)))))) = write (site_from a) (site_from b) (ty_from c) (cast_expr_from d) (text_from e) (cast_expr_from f)
  cast_stmt_from (gcons (gnum (suc (suc (suc (suc (suc zero)))))) (gcons a (gcons b (gcons c d)))) = start (text_from a) (site_from b) (cast_expr_from c) (args_from d)
  cast_stmt_from (gcons (gnum (suc (suc (suc (suc (suc (suc zero))))))) a) = plain (cast_expr_from a)
  cast_stmt_from (gcons (gnum (suc (suc (suc (suc (suc (suc (suc zero)))))))) (gcons a b)) = if_any (cast_branches_from a) (cast_else_from b)
  cast_stmt_from (gcons (gnum (suc (suc (suc (suc (suc (suc (suc (suc zero))))))))) (gcons a b)) = loop (cast_expr_from a) (cast_block_from b)
  cast_stmt_from _ = pass

  pub cast_block_from : Gv → CastBlock
  cast_block_from (gcons (gnum zero) g) = no_stmts
  cast_block_from (gcons (gnum (suc zero)) (gcons a b)) = more_stmts (cast_stmt_from a) (cast_block_from b)
  cast_block_from _ = no_stmts

  pub cast_branches_from : Gv → CastBranches
  cast_branches_from (gcons (gnum zero) g) = no_branches
  cast_branches_from (gcons (gnum (suc zero)) (gcons a (gcons b c))) = more_branches (cast_expr_from a) (cast_block_from b) (cast_branches_from c)
  cast_branches_from _ = no_branches

  pub cast_else_from : Gv → CastElse
  cast_else_from (gcons (gnum zero) g) = no_else
  cast_else_from (gcons (gnum (suc zero)) a) = otherwise (cast_block_from a)
  cast_else_from _ = no_else

mutual
  pub cast_stmt_back : (x : CastStmt) → cast_stmt_from (cast_stmt_to x) ≡ x
  cast_stmt_back pass = refl
  cast_stmt_back (give a b) = λ i. give (site_back a i) (cast_expr_back b i)
  cast_stmt_back (print a) = λ i. print (cast_exprs_back a i)
  cast_stmt_back (assign a b) = λ i. assign (text_back a i) (cast_expr_back b i)
  cast_stmt_back (write a b c d e f) = λ i. write (site_back a i) (site_back b i) (ty_back c i) (cast_expr_back d i) (text_back e i) (cast_expr_back f i)
  cast_stmt_back (start a b c d) = λ i. start (text_back a i) (site_back b i) (cast_expr_back c i) (args_back d i)
  cast_stmt_back (plain a) = λ i. plain (cast_expr_back a i)
  cast_stmt_back (if_any a b) = λ i. if_any (cast_branches_back a i) (cast_else_back b i)
  cast_stmt_back (loop a b) = λ i. loop (cast_expr_back a i) (cast_block_back b i)

  pub cast_block_back : (x : CastBlock) → cast_block_from (cast_block_to x) ≡ x
  cast_block_back no_stmts = refl
  cast_block_back (more_stmts a b) = λ i. more_stmts (cast_stmt_back a i) (cast_block_back b i)

  pub cast_branches_back : (x : CastBranches) → cast_branches_from (cast_branches_to x) ≡ x
  cast_branches_back no_branches = refl
  cast_branches_back (more_branches a b c) = λ i. more_branches (cast_expr_back a i) (cast_block_back b i) (cast_branches_back c i)

  pub cast_else_back : (x : CastElse) → cast_else_from (cast_else_to x) ≡ x
  cast_else_back no_else = refl
  cast_else_back (otherwise a) = λ i. otherwise (cast_block_back a i)

abbrev pub cast_stmt_code : Coded CastStmt
cast_stmt_code = code_by Gv gv_code cast_stmt_to cast_stmt_from cast_stmt_back

abbrev pub cast_stmt_option_to : Option CastStmt → Gv
cast_stmt_option_to None = gnil
cast_stmt_option_to (Some a) = gcons gnil (cast_stmt_to a)

abbrev pub cast_stmt_option_from : Gv → Option CastStmt
cast_stmt_option_from (gcons gnil a) = Some (cast_stmt_from a)
cast_stmt_option_from _ = None

pub cast_stmt_option_back : (x : Option CastStmt) → cast_stmt_option_from (cast_stmt_option_to x) ≡ x
cast_stmt_option_back None = refl
cast_stmt_option_back (Some a) = λ i. Some (cast_stmt_back a i)
