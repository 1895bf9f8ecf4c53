-- Stmt, Block, Branches, Else: trees, as contracts see them.
use Rattle.std.specs.Prelude.{◌≡◌, ℕ, ◌+◌, refl, Option, Some, None}
use Rattle.std.proofs.Common.{zero, suc}
use Rattle.std.specs.Coded.{Coded, code_by}
use base.Stored.{Gv, gnil, gnum, gcons}
use Rattle.mono_syntax.specs.declared.leaf.Place.{Place}
use Rattle.mono_syntax.specs.declared.leaf.Word.{Word}
use Rattle.mono_syntax.specs.Leaf.{gv_code, place_from, place_to, word_back, word_from, word_to}
use Rattle.mono_syntax.specs.Ann.{Ann, ann_option_back, ann_option_from, ann_option_to}
use Rattle.mono_syntax.specs.Expr.{Expr, Exprs, expr_back, expr_from, expr_option_back, expr_option_from, expr_option_to, expr_to, exprs_back, exprs_from, exprs_to}

mutual
  pub data Stmt : Type 0 where
    pass : Stmt
    give : Place → Option Expr → Stmt
    print : Place → Exprs → Stmt
    assign : Word → Option Ann → Expr → Stmt
    write : Expr → Word → Expr → Stmt
    start : Word → Place → Expr → Exprs → Stmt
    plain : Expr → Stmt
    if_any : Branches → Else → Stmt
    loop : Expr → Block → Stmt

  pub data Block : Type 0 where
    no_stmts : Block
    more_stmts : Stmt → Block → Block

  pub data Branches : Type 0 where
    no_branches : Branches
    more_branches : Expr → Block → Branches → Branches

  pub data Else : Type 0 where
    no_else : Else
    otherwise : Block → Else

-- how many nodes there are
abbrev mutual
  pub stmt_size : Stmt → ℕ
  stmt_size pass = 1
  stmt_size (give a b) = 1
  stmt_size (print a b) = 1
  stmt_size (assign a b c) = 1
  stmt_size (write a b c) = 1
  stmt_size (start a b c d) = 1
  stmt_size (plain a) = 1
  stmt_size (if_any a b) = branches_size a + else_size b + 1
  stmt_size (loop a b) = block_size b + 1

  pub block_size : Block → ℕ
  block_size no_stmts = 0
  block_size (more_stmts a b) = stmt_size a + block_size b

  pub branches_size : Branches → ℕ
  branches_size no_branches = 0
  branches_size (more_branches a b c) = block_size b + branches_size c + 1

  pub else_size : Else → ℕ
  else_size no_else = 0
  else_size (otherwise a) = block_size a

-- ---- how the logic stores them
abbrev mutual
  pub stmt_to : Stmt → Gv
  stmt_to pass = gcons (gnum 0) gnil
  stmt_to (give a b) = gcons (gnum 1) (gcons (place_to a) (expr_option_to b))
  stmt_to (print a b) = gcons (gnum 2) (gcons (place_to a) (exprs_to b))
  stmt_to (assign a b c) = gcons (gnum 3) (gcons (word_to a) (gcons (ann_option_to b) (expr_to c)))
  stmt_to (write a b c) = gcons (gnum 4) (gcons (expr_to a) (gcons (word_to b) (expr_to c)))
  stmt_to (start a b c d) = gcons (gnum 5) (gcons (word_to a) (gcons (place_to b) (gcons (expr_to c) (exprs_to d))))
  stmt_to (plain a) = gcons (gnum 6) (expr_to a)
  stmt_to (if_any a b) = gcons (gnum 7) (gcons (branches_to a) (else_to b))
  stmt_to (loop a b) = gcons (gnum 8) (gcons (expr_to a) (block_to b))

  pub block_to : Block → Gv
  block_to no_stmts = gcons (gnum 0) gnil
  block_to (more_stmts a b) = gcons (gnum 1) (gcons (stmt_to a) (block_to b))

  pub branches_to : Branches → Gv
  branches_to no_branches = gcons (gnum 0) gnil
  branches_to (more_branches a b c) = gcons (gnum 1) (gcons (expr_to a) (gcons (block_to b) (branches_to c)))

  pub else_to : Else → Gv
  else_to no_else = gcons (gnum 0) gnil
  else_to (otherwise a) = gcons (gnum 1) (block_to a)

abbrev mutual
  pub stmt_from : Gv → Stmt
  stmt_from (gcons (gnum zero) g) = pass
  stmt_from (gcons (gnum (suc zero)) (gcons a b)) = give (place_from a) (expr_option_from b)
  stmt_from (gcons (gnum (suc (suc zero))) (gcons a b)) = print (place_from a) (exprs_from b)
  stmt_from (gcons (gnum (suc (suc (suc zero)))) (gcons a (gcons b c))) = assign (word_from a) (ann_option_from b) (expr_from c)
  stmt_from (gcons (gnum (suc (suc (suc (suc zero))))) (gcons a (gcons b c))) = write (expr_from a) (word_from b) (expr_from c)
  stmt_from (gcons (gnum (suc (suc (suc (suc (suc zero)))))) (gcons a (gcons b (gcons c d)))) = start (word_from a) (place_from b) (expr_from c) (exprs_from d)
  stmt_from (gcons (gnum (suc (suc (suc (suc (suc (suc zero))))))) a) = plain (expr_from a)
  stmt_from (gcons (gnum (suc (suc (suc (suc (suc (suc (suc zero)))))))) (gcons a b)) = if_any (branches_from a) (else_from b)
  stmt_from (gcons (gnum (suc (suc (suc (suc (suc (suc (suc (suc zero))))))))) (gcons a b)) = loop (expr_from a) (block_from b)
  stmt_from _ = pass

  pub block_from : Gv → Block
  block_from (gcons (gnum zero) g) = no_stmts
  block_from (gcons (gnum (suc zero)) (gcons a b)) = more_stmts (stmt_from a) (block_from b)
  block_from _ = no_stmts

  pub branches_from : Gv → Branches
  branches_from (gcons (gnum zero) g) = no_branches
  branches_from (gcons (gnum (suc zero)) (gcons a (gcons b c))) = more_branches (expr_from a) (block_from b) (branches_from c)
  branches_from _ = no_branches

  pub else_from : Gv → Else
  else_from (gcons (gnum zero) g) = no_else
  else_from (gcons (gnum (suc zero)) a) = otherwise (block_from a)
  else_from _ = no_else

mutual
  pub stmt_back : (x : Stmt) → stmt_from (stmt_to x) ≡ x
  stmt_back pass = refl
  stmt_back (give a b) = λ i. give a (expr_option_back b i)
  stmt_back (print a b) = λ i. print a (exprs_back b i)
  stmt_back (assign a b c) = λ i. assign (word_back a i) (ann_option_back b i) (expr_back c i)
  stmt_back (write a b c) = λ i. write (expr_back a i) (word_back b i) (expr_back c i)
  stmt_back (start a b c d) = λ i. start (word_back a i) b (expr_back c i) (exprs_back d i)
  stmt_back (plain a) = λ i. plain (expr_back a i)
  stmt_back (if_any a b) = λ i. if_any (branches_back a i) (else_back b i)
  stmt_back (loop a b) = λ i. loop (expr_back a i) (block_back b i)

  pub block_back : (x : Block) → block_from (block_to x) ≡ x
  block_back no_stmts = refl
  block_back (more_stmts a b) = λ i. more_stmts (stmt_back a i) (block_back b i)

  pub branches_back : (x : Branches) → branches_from (branches_to x) ≡ x
  branches_back no_branches = refl
  branches_back (more_branches a b c) = λ i. more_branches (expr_back a i) (block_back b i) (branches_back c i)

  pub else_back : (x : Else) → else_from (else_to x) ≡ x
  else_back no_else = refl
  else_back (otherwise a) = λ i. otherwise (block_back a i)

abbrev pub stmt_code : Coded Stmt
stmt_code = code_by Gv gv_code stmt_to stmt_from stmt_back

abbrev pub stmt_option_to : Option Stmt → Gv
stmt_option_to None = gnil
stmt_option_to (Some a) = gcons gnil (stmt_to a)

abbrev pub stmt_option_from : Gv → Option Stmt
stmt_option_from (gcons gnil a) = Some (stmt_from a)
stmt_option_from _ = None

pub stmt_option_back : (x : Option Stmt) → stmt_option_from (stmt_option_to x) ≡ x
stmt_option_back None = refl
stmt_option_back (Some a) = λ i. Some (stmt_back a i)
