-- What holds of the annotations among the parts of a construct, where the names in it are right.
use Rattle.std.proofs.Common.{List, [], ◌∷◌, ◌++◌}
use Rattle.std.specs.Prelude.{Option, Some, None}
use Rattle.mono_syntax.specs.declared.tree.ClassDef.{ClassDef}
use Rattle.mono_syntax.specs.declared.leaf.Word.{Word}
use Rattle.mono_syntax.specs.Ann.{Ann}
use Rattle.mono_syntax.specs.Expr.{Expr, Exprs, local, number, text, truth, nil, neg, negation, binary, both, either, read, call, cast, join, no_exprs, more_exprs}
use Rattle.mono_syntax.specs.Stmt.{Stmt, pass, give, print, assign, write, start, plain, if_any, loop, Block, no_stmts, more_stmts, Branches, no_branches, more_branches, Else, no_else, otherwise}
use Rattle.mono_syntax.specs.StmtView.{block}
use Rattle.script_rules.specs.declared.occurrence.Occurrence.{Occurrence}
use Rattle.script_rules.specs.declared.occurrence.Role.{Role}
use Rattle.script_rules.specs.declared.occurrence.Role.TheVariants as role
use Rattle.script_rules.specs.Occurrences.{at, in_ann, in_any_expr, in_expr, in_exprs, in_target, in_stmt, in_block, in_branches, in_else}
use Rattle.script_rules.specs.SourceParts.{Part, annotation, arguments, any_ann, any_expr, expr_parts, exprs_parts, stmt_parts, block_parts, branch_parts, else_parts, body_parts}
use Rattle.written_types.proofs.NamesRight.{IsClassNamed, AllNamed, named_left, named_right}

-- this holds of the annotations among these parts
abbrev pub AllHold : (Ann → Type 0) → List Part → Type 0
AllHold Of [] = Unit {0}
AllHold Of (annotation a ∷ ps) = Of a × AllHold Of ps
AllHold Of (arguments c ∷ ps) = AllHold Of ps

hold_both : (Of : Ann → Type 0) (ps qs : List Part) → AllHold Of ps → AllHold Of qs → AllHold Of (ps ++ qs)
hold_both Of [] qs h k = k
hold_both Of (annotation a ∷ ps) qs h k = (h.0, hold_both Of ps qs h.1 k)
hold_both Of (arguments c ∷ ps) qs h k = hold_both Of ps qs h k

module _ (cs : List ClassDef) (Of : Ann → Type 0) (holds : (a : Ann) → AllNamed (IsClassNamed cs) (in_ann a) → Of a) where
  abbrev Named : List Occurrence → Type 0
  Named os = AllNamed (IsClassNamed cs) os

  -- of the annotations of two constructs, one behind the other
  both_hold : (os bs : List Occurrence) (ps qs : List Part) → (Named os → AllHold Of ps) → (Named bs → AllHold Of qs)
      → Named (os ++ bs) → AllHold Of (ps ++ qs)
  both_hold os bs ps qs f g h = hold_both Of ps qs (f (named_left (IsClassNamed cs) os bs h)) (g (named_right (IsClassNamed cs) os bs h))

  mutual
    expr_holds : (r : Role) (e : Expr) → Named (in_expr r e) → AllHold Of (expr_parts e)
    expr_holds r (local w) h = tt
    expr_holds r (number p n) h = tt
    expr_holds r (text p t) h = tt
    expr_holds r (truth p b) h = tt
    expr_holds r (nil p) h = tt
    expr_holds r (neg p e) h = expr_holds role.Read e h
    expr_holds r (negation p e) h = expr_holds role.Read e h
    expr_holds r (binary o p a b) h =
        both_hold (in_expr role.Read a) (in_expr role.Read b) (expr_parts a) (expr_parts b)
        (λ k. expr_holds role.Read a k) (λ k. expr_holds role.Read b k) h
    expr_holds r (both a b) h =
        both_hold (in_expr role.Read a) (in_expr role.Read b) (expr_parts a) (expr_parts b)
        (λ k. expr_holds role.Read a k) (λ k. expr_holds role.Read b k) h
    expr_holds r (either a b) h =
        both_hold (in_expr role.Read a) (in_expr role.Read b) (expr_parts a) (expr_parts b)
        (λ k. expr_holds role.Read a k) (λ k. expr_holds role.Read b k) h
    expr_holds r (read e w) h = expr_holds role.Read e h
    expr_holds r (call p f es) h =
        both_hold (in_expr role.Called f) (in_exprs es) (expr_parts f) (exprs_parts es)
        (λ k. expr_holds role.Called f k) (λ k. exprs_hold es k) h
    expr_holds r (cast p a e) h =
        both_hold (in_ann a) (in_expr role.Read e) (annotation a ∷ []) (expr_parts e)
        (λ k. (holds a k, tt)) (λ k. expr_holds role.Read e k) h
    expr_holds r (join p w) h = tt

    exprs_hold : (es : Exprs) → Named (in_exprs es) → AllHold Of (exprs_parts es)
    exprs_hold no_exprs h = tt
    exprs_hold (more_exprs e es) h =
        both_hold (in_expr role.Read e) (in_exprs es) (expr_parts e) (exprs_parts es)
        (λ k. expr_holds role.Read e k) (λ k. exprs_hold es k) h

  any_expr_holds : (e : Option Expr) → Named (in_any_expr e) → AllHold Of (any_expr e)
  any_expr_holds None h = tt
  any_expr_holds (Some e) h = expr_holds role.Read e h

  target_holds : (w : Word) (a : Option Ann) → Named (in_target w a) → AllHold Of (any_ann a)
  target_holds w None h = tt
  target_holds w (Some a) h = (holds a h.1, tt)

  call_holds : (r : Role) (f : Expr) (es : Exprs) → Named (in_expr r f ++ in_exprs es) → AllHold Of (expr_parts f ++ exprs_parts es)
  call_holds r f es h = both_hold (in_expr r f) (in_exprs es) (expr_parts f) (exprs_parts es) (expr_holds r f) (exprs_hold es) h

  mutual
    pub stmt_holds : (s : Stmt) → Named (in_stmt s) → AllHold Of (stmt_parts s)
    stmt_holds pass h = tt
    stmt_holds (give p e) h = any_expr_holds e h
    stmt_holds (print p es) h = exprs_hold es h
    stmt_holds (assign w a e) h =
        both_hold (in_target w a) (in_expr role.Read e) (any_ann a) (expr_parts e) (target_holds w a) (expr_holds role.Read e) h
    stmt_holds (write o w e) h =
        both_hold (in_expr role.Read o) (in_expr role.Read e) (expr_parts o) (expr_parts e)
        (expr_holds role.Read o) (expr_holds role.Read e) h
    stmt_holds (start w p f es) h =
        call_holds role.Read f es (named_left (IsClassNamed cs) (in_expr role.Read f ++ in_exprs es) (at role.Ended w ∷ []) h.1)
    stmt_holds (plain e) h = expr_holds role.Read e h
    stmt_holds (if_any bs last) h =
        both_hold (in_branches bs) (in_else last) (branch_parts bs) (else_parts last) (λ k. branches_hold bs k) (λ k. else_holds last k) h
    stmt_holds (loop e b) h =
        both_hold (in_expr role.Read e) (in_block b) (expr_parts e) (block_parts b)
        (expr_holds role.Read e) (λ k. block_holds b k) h

    block_holds : (b : Block) → Named (in_block b) → AllHold Of (block_parts b)
    block_holds no_stmts h = tt
    block_holds (more_stmts s b) h =
        both_hold (in_stmt s) (in_block b) (stmt_parts s) (block_parts b) (λ k. stmt_holds s k) (λ k. block_holds b k) h

    branches_hold : (bs : Branches) → Named (in_branches bs) → AllHold Of (branch_parts bs)
    branches_hold no_branches h = tt
    branches_hold (more_branches e b bs) h =
        let es = in_expr role.Read e in
        both_hold (es ++ in_block b) (in_branches bs) (expr_parts e ++ block_parts b) (branch_parts bs)
        (λ k. both_hold es (in_block b) (expr_parts e) (block_parts b) (expr_holds role.Read e) (λ l. block_holds b l) k)
        (λ k. branches_hold bs k) h

    else_holds : (l : Else) → Named (in_else l) → AllHold Of (else_parts l)
    else_holds no_else h = tt
    else_holds (otherwise b) h = block_holds b h

  pub body_holds : (ss : List Stmt) → Named (in_block (block ss)) → AllHold Of (body_parts ss)
  body_holds [] h = tt
  body_holds (s ∷ ss) h = both_hold (in_stmt s) (in_block (block ss)) (stmt_parts s) (body_parts ss) (stmt_holds s) (body_holds ss) h
