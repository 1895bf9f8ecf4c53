-- The grammar of statements: one case for each form. `inside` says whether a statement stands in a function, and the number how many blocks are round it.
use Rattle.std.specs.Prelude.{◌≡◌, ℕ, suc, ◌<◌, ◌≤◌, Bool, true, List, [], ◌∷◌, ◌++◌, Some, None}
use Rattle.mono_syntax.specs.Limits.{greatest_weight, most_blocks}
use Rattle.mono_syntax.specs.declared.leaf.Place.{Place}
use Rattle.mono_syntax.specs.declared.tree.Branch.{Branch}
use Rattle.mono_syntax.specs.Ann.{Ann}
use Rattle.mono_syntax.specs.Expr.{Expr}
use Rattle.mono_syntax.specs.ExprView.{exprs}
use Rattle.mono_syntax.specs.Stmt as stmt
use Rattle.mono_syntax.specs.StmtView.{block, branches}
use Rattle.parse_expr.specs.Grammar.{Derives, DerivesArgs, postfix, IsExpr}
use Rattle.parse_expr.specs.Types.{IsType, word}
use Rattle.spelled_tokens.specs.declared.token.Mark.TheVariants as mark
use Rattle.spelled_tokens.specs.declared.token.Spelled.{Spelled}
use Rattle.spelled_tokens.specs.declared.token.What.TheVariants as what
use Rattle.spelled_tokens.specs.SpelledTokens.{tok, sign}

abbrev pub branch : Expr → List stmt.Stmt → Branch
branch e ss = record { condition = e; body = ss }

mutual
  -- these tokens are a statement, NEWLINE and the blocks of its own with it
  pub data DerivesStmt (inside : Bool) : ℕ → List Spelled → stmt.Stmt → Type 0 where
    pass : (d : ℕ) (p q : Place) → DerivesStmt inside d (sign mark.Pass p ∷ sign mark.Newline q ∷ []) stmt.pass
    give_none : (d : ℕ) (p q : Place) → inside ≡ true → DerivesStmt inside d (sign mark.Return p ∷ sign mark.Newline q ∷ []) (stmt.give p None)
    give : (d : ℕ) (p q : Place) (ts : List Spelled) (e : Expr) → inside ≡ true → IsExpr greatest_weight ts e
        → DerivesStmt inside d (sign mark.Return p ∷ (ts ++ (sign mark.Newline q ∷ []))) (stmt.give p (Some e))
    print : (d : ℕ) (p q r s : Place) (ts : List Spelled) (w : ℕ) (es : List Expr) → DerivesArgs ts w es → w ≤ greatest_weight
        → DerivesStmt inside d (sign mark.Print p ∷ tok what.Open q ∷ (ts ++ (tok what.Close r ∷ sign mark.Newline s ∷ []))) (stmt.print q (exprs es))
    assign : (d : ℕ) (p q r : Place) (x : List ℕ) (ts : List Spelled) (e : Expr) → IsExpr greatest_weight ts e
        → DerivesStmt inside d (tok (what.Name x) p ∷ sign mark.Equals q ∷ (ts ++ (sign mark.Newline r ∷ []))) (stmt.assign (word x p) None e)
    declare : (d : ℕ) (p q r s : Place) (x : List ℕ) (us : List Spelled) (a : Ann) (ts : List Spelled) (e : Expr) → IsType greatest_weight us a → IsExpr greatest_weight ts e
        → DerivesStmt inside d (tok (what.Name x) p ∷ sign mark.Colon q ∷ (us ++ (sign mark.Equals r ∷ (ts ++ (sign mark.Newline s ∷ []))))) (stmt.assign (word x p) (Some a) e)
    -- the receiver is an expression by itself, and the target is none
    write : (d : ℕ) (p q r s : Place) (x : List ℕ) (us : List Spelled) (w : ℕ) (o : Expr) (ts : List Spelled) (e : Expr)
        → Derives postfix us w o → w ≤ greatest_weight → IsExpr greatest_weight ts e
        → DerivesStmt inside d (us ++ (tok what.Dot p ∷ tok (what.Name x) q ∷ sign mark.Equals r ∷ (ts ++ (sign mark.Newline s ∷ [])))) (stmt.write o (word x q) e)
    -- the callee stands first in the brackets, and then the arguments
    start : (d : ℕ) (p q r s t u : Place) (x : List ℕ) (ts : List Spelled) (w : ℕ) (e : Expr) (es : List Expr) → DerivesArgs ts w (e ∷ es) → w ≤ greatest_weight
        → DerivesStmt inside d (tok (what.Name x) p ∷ sign mark.Equals q ∷ sign mark.Start r ∷ tok what.Open s ∷ (ts ++ (tok what.Close t ∷ sign mark.Newline u ∷ [])))
        (stmt.start (word x p) s e (exprs es))
    plain : (d : ℕ) (q : Place) (ts : List Spelled) (e : Expr) → IsExpr greatest_weight ts e → DerivesStmt inside d (ts ++ (sign mark.Newline q ∷ [])) (stmt.plain e)
    if_any : (d : ℕ) (p q : Place) (ts : List Spelled) (e : Expr) (us : List Spelled) (ss : List stmt.Stmt) (vs : List Spelled) (bs : List Branch) (el : stmt.Else)
        → d < most_blocks → IsExpr greatest_weight ts e → DerivesBlock inside (suc d) us ss → DerivesTail inside d vs bs el
        → DerivesStmt inside d (sign mark.If p ∷ (ts ++ (sign mark.Colon q ∷ (us ++ vs)))) (stmt.if_any (branches (branch e ss ∷ bs)) el)
    while : (d : ℕ) (p q : Place) (ts : List Spelled) (e : Expr) (us : List Spelled) (ss : List stmt.Stmt)
        → d < most_blocks → IsExpr greatest_weight ts e → DerivesBlock inside (suc d) us ss
        → DerivesStmt inside d (sign mark.While p ∷ (ts ++ (sign mark.Colon q ∷ us))) (stmt.loop e (block ss))

  -- what may stand behind the first block of an `if`: any number of `elif`, and an `else` or none
  pub data DerivesTail (inside : Bool) : ℕ → List Spelled → List Branch → stmt.Else → Type 0 where
    no_else : (d : ℕ) → DerivesTail inside d [] [] stmt.no_else
    elif : (d : ℕ) (p q : Place) (ts : List Spelled) (e : Expr) (us : List Spelled) (ss : List stmt.Stmt) (vs : List Spelled) (bs : List Branch) (el : stmt.Else)
        → IsExpr greatest_weight ts e → DerivesBlock inside (suc d) us ss → DerivesTail inside d vs bs el
        → DerivesTail inside d (sign mark.Elif p ∷ (ts ++ (sign mark.Colon q ∷ (us ++ vs)))) (branch e ss ∷ bs) el
    otherwise : (d : ℕ) (p q : Place) (us : List Spelled) (ss : List stmt.Stmt) → DerivesBlock inside (suc d) us ss
        → DerivesTail inside d (sign mark.Else p ∷ sign mark.Colon q ∷ us) [] (stmt.otherwise (block ss))

  -- a block, from its NEWLINE to its DEDENT, of statements that lie in so many blocks
  pub data DerivesBlock (inside : Bool) : ℕ → List Spelled → List stmt.Stmt → Type 0 where
    indented : (d : ℕ) (p q r : Place) (us : List Spelled) (ss : List stmt.Stmt) → DerivesStmts inside d us ss
        → DerivesBlock inside d (sign mark.Newline p ∷ sign mark.Indent q ∷ (us ++ (sign mark.Dedent r ∷ []))) ss

  -- one or more statements
  pub data DerivesStmts (inside : Bool) : ℕ → List Spelled → List stmt.Stmt → Type 0 where
    one_stmt : (d : ℕ) (ts : List Spelled) (s : stmt.Stmt) → DerivesStmt inside d ts s → DerivesStmts inside d ts (s ∷ [])
    more_stmts : (d : ℕ) (ts us : List Spelled) (s : stmt.Stmt) (ss : List stmt.Stmt) → DerivesStmt inside d ts s → DerivesStmts inside d us ss
        → DerivesStmts inside d (ts ++ us) (s ∷ ss)
