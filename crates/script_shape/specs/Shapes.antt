-- The shape of the trees that the grammar gives: each integer literal fits, each `if` has a branch, and a return stands in a function alone.
use Rattle.std.specs.Prelude.{◌≡◌, ◌≤◌, Bool, true, false, List, [], ◌∷◌, Some, None}
use Rattle.mono_syntax.specs.Limits.{greatest_integer}
use Rattle.mono_syntax.specs.declared.tree.Item.{Item}
use Rattle.mono_syntax.specs.declared.tree.Item.TheVariants as item
use Rattle.mono_syntax.specs.declared.tree.Script.{Script}
use Rattle.mono_syntax.specs.Expr.{Expr, local, number, text, truth, nil, neg, negation, binary, both, either, read, call, cast, join, Exprs, no_exprs, more_exprs}
use Rattle.mono_syntax.specs.Stmt.{Stmt, pass, give, print, assign, write, start, plain, if_any, loop, Block, no_stmts, more_stmts, Branches, no_branches, more_branches, Else, no_else, otherwise}
use Rattle.mono_syntax.specs.StmtView.{block}

abbrev mutual
  pub IsShapedExpr : Expr → Type 0
  IsShapedExpr (local w) = Unit {0}
  IsShapedExpr (number p n) = n ≤ greatest_integer
  IsShapedExpr (text p t) = Unit {0}
  IsShapedExpr (truth p b) = Unit {0}
  IsShapedExpr (nil p) = Unit {0}
  IsShapedExpr (neg p a) = IsShapedExpr a
  IsShapedExpr (negation p a) = IsShapedExpr a
  IsShapedExpr (binary o p a b) = IsShapedExpr a × IsShapedExpr b
  IsShapedExpr (both a b) = IsShapedExpr a × IsShapedExpr b
  IsShapedExpr (either a b) = IsShapedExpr a × IsShapedExpr b
  IsShapedExpr (read a w) = IsShapedExpr a
  IsShapedExpr (call p a es) = IsShapedExpr a × AreShapedExprs es
  IsShapedExpr (cast p t a) = IsShapedExpr a
  IsShapedExpr (join p w) = Unit {0}

  pub AreShapedExprs : Exprs → Type 0
  AreShapedExprs no_exprs = Unit {0}
  AreShapedExprs (more_exprs e es) = IsShapedExpr e × AreShapedExprs es

-- an `if` has a branch
abbrev pub IsBranched : Branches → Type 0
IsBranched no_branches = ⊥
IsBranched (more_branches e body bs) = Unit {0}

-- whether statements stand in a function is said first
abbrev mutual
  pub IsShapedStmt : Bool → Stmt → Type 0
  IsShapedStmt inside pass = Unit {0}
  IsShapedStmt inside (give p None) = inside ≡ true
  IsShapedStmt inside (give p (Some e)) = (inside ≡ true) × IsShapedExpr e
  IsShapedStmt inside (print p es) = AreShapedExprs es
  IsShapedStmt inside (assign w a e) = IsShapedExpr e
  IsShapedStmt inside (write o w e) = IsShapedExpr o × IsShapedExpr e
  IsShapedStmt inside (start w p f es) = IsShapedExpr f × AreShapedExprs es
  IsShapedStmt inside (plain e) = IsShapedExpr e
  IsShapedStmt inside (if_any bs last) = IsBranched bs × AreShapedBranches inside bs × IsShapedElse inside last
  IsShapedStmt inside (loop e body) = IsShapedExpr e × IsShapedBlock inside body

  pub IsShapedBlock : Bool → Block → Type 0
  IsShapedBlock inside no_stmts = Unit {0}
  IsShapedBlock inside (more_stmts s ss) = IsShapedStmt inside s × IsShapedBlock inside ss

  pub AreShapedBranches : Bool → Branches → Type 0
  AreShapedBranches inside no_branches = Unit {0}
  AreShapedBranches inside (more_branches e body bs) = IsShapedExpr e × IsShapedBlock inside body × AreShapedBranches inside bs

  pub IsShapedElse : Bool → Else → Type 0
  IsShapedElse inside no_else = Unit {0}
  IsShapedElse inside (otherwise body) = IsShapedBlock inside body

-- classes have no expressions
abbrev pub AreShapedItems : List Item → Type 0
AreShapedItems [] = Unit {0}
AreShapedItems (item.Class d ∷ is) = AreShapedItems is
AreShapedItems (item.Def d ∷ is) = IsShapedBlock true (block d.body) × AreShapedItems is
AreShapedItems (item.Stmt s ∷ is) = IsShapedStmt false s × AreShapedItems is

abbrev pub IsShaped : Script → Type 0
IsShaped s = AreShapedItems s.items
