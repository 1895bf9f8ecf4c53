-- Tokens of a printed statement have its tree by the grammar, but for places.
use Rattle.std.proofs.Common.{◌≡◌, ℕ, ◌≤◌, Bool, true, List, [], ◌∷◌, ◌++◌, Some, None, refl, sym, ◌∙◌, ap, subst}
use Rattle.std.specs.Prelude.{map}
use Rattle.std.proofs.lemmas.List.{append-nil}
use Rattle.mono_syntax.specs.declared.leaf.Place.{Place}
use Rattle.mono_syntax.specs.declared.tree.Branch.{Branch}
use Rattle.mono_syntax.specs.Ann.{Ann}
use Rattle.mono_syntax.specs.Expr.{Expr, more_exprs}
use Rattle.mono_syntax.specs.ExprView.{exprs}
use Rattle.mono_syntax.specs.Stmt as stmt
use Rattle.mono_syntax.specs.Stmt.{Stmt, Else, more_branches}
use Rattle.mono_syntax.specs.StmtView.{block, branches}
use Rattle.spelled_tokens.specs.declared.token.Mark.{Mark}
use Rattle.spelled_tokens.specs.declared.token.Mark.TheVariants as mark
use Rattle.spelled_tokens.specs.declared.token.Spelled.{Spelled}
use Rattle.spelled_tokens.specs.declared.token.What.{What}
use Rattle.spelled_tokens.specs.declared.token.What.TheVariants as what
use Rattle.spelled_tokens.specs.SpelledTokens.{tok, sign}
use Rattle.token_lines.specs.Back.{whats}
use Rattle.token_lines.specs.Tokens.{what_of}
use Rattle.parse_expr.specs.Grammar.{Derives, DerivesArgs, postfix, IsExpr}
use Rattle.parse_expr.specs.Types.{IsType, word}
use Rattle.parse_script.specs.Statements as st
use Rattle.mono_syntax.specs.Limits.{greatest_weight, most_blocks}
use Rattle.parse_script.specs.Statements.{branch, DerivesStmt, DerivesTail, DerivesBlock, DerivesStmts}
use Rattle.tree_print.specs.Brackets.{ann_tokens, expr_tokens, exprs_tokens, placed}
use Rattle.tree_print.specs.Placeless.{nowhere, bare_expr, bare_exprs, bare_stmt, bare_stmts, bare_branches, bare_else}
use Rattle.tree_print.proofs.Splits.{split_whats, first_what, no_whats}
use Rattle.tree_print.proofs.TypesBack.{type_back}
use Rattle.tree_print.proofs.ExprsBack.{expr_back, postfix_back, args_back}
use Rattle.tree_print.proofs.Nested.{newline, inner_whats, head_whats, stmt_whats, block_whats, branches_whats, else_whats}
use Rattle.tree_print.proofs.Pieces.{part, only, behind, further, lighter, head_assoc, same_block}

-- these tokens are a statement that is this one but for places; likewise what follows a first branch, a block, and statements
abbrev pub StmtBack : Bool → ℕ → List Spelled → Stmt → Type 0
StmtBack i d us s = (t : Stmt) × DerivesStmt i d us t × (bare_stmt t ≡ bare_stmt s)

abbrev pub TailBack : Bool → ℕ → List Spelled → List Branch → Else → Type 0
TailBack i d us bs el =
    (cs : List Branch) × (fl : Else) × DerivesTail i d us cs fl × (bare_branches (branches cs) ≡ bare_branches (branches bs)) × (bare_else fl ≡ bare_else el)

abbrev pub BlockBack : Bool → ℕ → List Spelled → List Stmt → Type 0
BlockBack i d us ss = (rs : List Stmt) × DerivesBlock i d us rs × (bare_stmts rs ≡ bare_stmts ss)

abbrev pub StmtsBack : Bool → ℕ → List Spelled → List Stmt → Type 0
StmtsBack i d us ss = (rs : List Stmt) × DerivesStmts i d us rs × (bare_stmts rs ≡ bare_stmts ss)

-- ---- statements without blocks

pass_back : (i : Bool) (d : ℕ) (us : List Spelled) → whats us ≡ stmt_whats stmt.pass → StmtBack i d us stmt.pass
pass_back i d us e =
    let a = first_what us (what.Mark mark.Pass) (newline ∷ []) e in
    let b = only a.1 newline a.3 in
    (stmt.pass, subst (λ (l : List Spelled). DerivesStmt i d l stmt.pass) (sym (behind a.2 b.1)) (st.pass d a.0 b.0), refl)

bare_give_back : (i : Bool) (d : ℕ) (p : Place) (us : List Spelled) → i ≡ true → whats us ≡ stmt_whats (stmt.give p None) → StmtBack i d us (stmt.give p None)
bare_give_back i d p us h e =
    let a = first_what us (what.Mark mark.Return) (newline ∷ []) e in
    let b = only a.1 newline a.3 in
    (stmt.give a.0 None, subst (λ (l : List Spelled). DerivesStmt i d l (stmt.give a.0 None)) (sym (behind a.2 b.1)) (st.give_none d a.0 b.0 h), refl)

give_back : (i : Bool) (d : ℕ) (p : Place) (ts : List Spelled) (x : Expr) (us : List Spelled) → i ≡ true → IsExpr greatest_weight ts x
    → whats us ≡ stmt_whats (stmt.give p (Some x)) → StmtBack i d us (stmt.give p (Some x))
give_back i d p ts x us h k e =
    let xs : List What = map what_of (expr_tokens x) in
    let a = first_what us (what.Mark mark.Return) (xs ++ newline ∷ []) e in
    let b = part a.1 xs newline [] a.3 in
    let f = expr_back greatest_weight ts x k b.front b.fronts in (
      stmt.give a.0 (Some f.0),
      subst (λ (l : List Spelled). DerivesStmt i d l (stmt.give a.0 (Some f.0))) (sym (behind a.2 (further b.front (tok newline b.place) b.is (no_whats b.back b.backs))))
          (st.give d a.0 b.place b.front f.0 h f.1),
      ap (λ (y : Expr). stmt.give nowhere (Some y)) f.2,
    )

print_back : (i : Bool) (d : ℕ) (p : Place) (ts : List Spelled) (w : ℕ) (es : List Expr) (us : List Spelled) → DerivesArgs ts w es → w ≤ greatest_weight
    → whats us ≡ stmt_whats (stmt.print p (exprs es)) → StmtBack i d us (stmt.print p (exprs es))
print_back i d p ts w es us k h e =
    let xs : List What = map what_of (exprs_tokens (exprs es)) in
    let a = first_what us (what.Mark mark.Print) (what.Open ∷ (xs ++ (what.Close ∷ newline ∷ []))) e in
    let b = first_what a.1 what.Open (xs ++ (what.Close ∷ newline ∷ [])) a.3 in
    let c = part b.1 xs what.Close (newline ∷ []) b.3 in
    let n = only c.back newline c.backs in
    let f = args_back ts w es k c.front c.fronts in (
      stmt.print b.0 (exprs f.0),
      subst (λ (l : List Spelled). DerivesStmt i d l (stmt.print b.0 (exprs f.0))) (sym (behind a.2 (behind b.2 (further c.front (tok what.Close c.place) c.is n.1))))
          (st.print d a.0 b.0 c.place n.0 c.front f.1 f.0 f.2 (lighter f.1 w greatest_weight f.3 h)),
      ap (λ y. stmt.print nowhere y) f.4,
    )

assign_back : (i : Bool) (d : ℕ) (p : Place) (x : List ℕ) (ts : List Spelled) (y : Expr) (us : List Spelled) → IsExpr greatest_weight ts y
    → whats us ≡ stmt_whats (stmt.assign (word x p) None y) → StmtBack i d us (stmt.assign (word x p) None y)
assign_back i d p x ts y us k e =
    let ys : List What = map what_of (expr_tokens y) in
    let a = first_what us (what.Name x) (what.Mark mark.Equals ∷ (ys ++ newline ∷ [])) e in
    let b = first_what a.1 (what.Mark mark.Equals) (ys ++ newline ∷ []) a.3 in
    let c = part b.1 ys newline [] b.3 in
    let f = expr_back greatest_weight ts y k c.front c.fronts in (
      stmt.assign (word x a.0) None f.0,
      subst (λ (l : List Spelled). DerivesStmt i d l (stmt.assign (word x a.0) None f.0))
          (sym (behind a.2 (behind b.2 (further c.front (tok newline c.place) c.is (no_whats c.back c.backs)))))
          (st.assign d a.0 b.0 c.place x c.front f.0 f.1),
      ap (λ (z : Expr). stmt.assign (word x nowhere) None z) f.2,
    )

declare_back : (i : Bool) (d : ℕ) (p : Place) (x : List ℕ) (vs : List Spelled) (t : Ann) (ts : List Spelled) (y : Expr) (us : List Spelled) → IsType greatest_weight vs t
    → IsExpr greatest_weight ts y → whats us ≡ stmt_whats (stmt.assign (word x p) (Some t) y) → StmtBack i d us (stmt.assign (word x p) (Some t) y)
declare_back i d p x vs t ts y us h k e =
    let xs : List What = map what_of (ann_tokens t) in
    let ys : List What = map what_of (expr_tokens y) in
    let a = first_what us (what.Name x) (what.Mark mark.Colon ∷ (xs ++ (what.Mark mark.Equals ∷ (ys ++ newline ∷ [])))) e in
    let b = first_what a.1 (what.Mark mark.Colon) (xs ++ (what.Mark mark.Equals ∷ (ys ++ newline ∷ []))) a.3 in
    let c = part b.1 xs (what.Mark mark.Equals) (ys ++ newline ∷ []) b.3 in
    let n = part c.back ys newline [] c.backs in
    let g = type_back greatest_weight vs t h c.front c.fronts in
    let f = expr_back greatest_weight ts y k n.front n.fronts in (
      stmt.assign (word x a.0) (Some g.0) f.0,
      subst (λ (l : List Spelled). DerivesStmt i d l (stmt.assign (word x a.0) (Some g.0) f.0))
          (sym (behind a.2 (behind b.2 (further c.front (sign mark.Equals c.place) c.is (further n.front (tok newline n.place) n.is (no_whats n.back n.backs))))))
          (st.declare d a.0 b.0 c.place n.place x c.front g.0 n.front f.0 g.1 f.1),
      λ j. stmt.assign (word x nowhere) (Some (g.2 j)) (f.2 j),
    )

write_back : (i : Bool) (d : ℕ) (p : Place) (x : List ℕ) (vs : List Spelled) (w : ℕ) (o : Expr) (ts : List Spelled) (y : Expr) (us : List Spelled)
    → Derives postfix vs w o → w ≤ greatest_weight → IsExpr greatest_weight ts y → whats us ≡ stmt_whats (stmt.write o (word x p) y) → StmtBack i d us (stmt.write o (word x p) y)
write_back i d p x vs w o ts y us h k l e =
    let xs : List What = map what_of (placed 8 o (expr_tokens o)) in
    let ys : List What = map what_of (expr_tokens y) in
    let a = part us xs what.Dot (what.Name x ∷ what.Mark mark.Equals ∷ (ys ++ newline ∷ [])) e in
    let b = first_what a.back (what.Name x) (what.Mark mark.Equals ∷ (ys ++ newline ∷ [])) a.backs in
    let c = first_what b.1 (what.Mark mark.Equals) (ys ++ newline ∷ []) b.3 in
    let n = part c.1 ys newline [] c.3 in
    let g = postfix_back vs w o h a.front a.fronts in
    let f = expr_back greatest_weight ts y l n.front n.fronts in (
      stmt.write g.0 (word x b.0) f.0,
      subst (λ (l : List Spelled). DerivesStmt i d l (stmt.write g.0 (word x b.0) f.0))
          (sym (further a.front (tok what.Dot a.place) a.is (behind b.2 (behind c.2 (further n.front (tok newline n.place) n.is (no_whats n.back n.backs))))))
          (st.write d a.place b.0 c.0 n.place x a.front g.1 g.0 n.front f.0 g.2 (lighter g.1 w greatest_weight g.3 k) f.1),
      λ j. stmt.write (g.4 j) (word x nowhere) (f.2 j),
    )

-- the arguments of `start`: there is a first one
start_args : (i : Bool) (d : ℕ) (a b c s : Place) (n m : Place) (x : List ℕ) (ts : List Spelled) (v : ℕ) (fs : List Expr) (y : Expr) (es : List Expr) (us : List Spelled)
    → DerivesArgs ts v fs → v ≤ greatest_weight → bare_exprs (exprs fs) ≡ more_exprs (bare_expr y) (bare_exprs (exprs es))
    → us ≡ tok (what.Name x) a ∷ sign mark.Equals b ∷ sign mark.Start c ∷ tok what.Open s ∷ (ts ++ (tok what.Close n ∷ sign mark.Newline m ∷ []))
    → (p q : Place) → StmtBack i d us (stmt.start (word x p) q y (exprs es))
start_args i d a b c s n m x ts v [] y es us k h e u p q = absurd cc
start_args i d a b c s n m x ts v (f ∷ fs) y es us k h e u p q =
    let first : bare_expr f ≡ bare_expr y = cc in
    let others : bare_exprs (exprs fs) ≡ bare_exprs (exprs es) = cc in (
      stmt.start (word x a) s f (exprs fs),
      subst (λ (l : List Spelled). DerivesStmt i d l (stmt.start (word x a) s f (exprs fs))) (sym u) (st.start d a b c s n m x ts v f fs k h),
      λ j. stmt.start (word x nowhere) nowhere (first j) (others j),
    )

start_back : (i : Bool) (d : ℕ) (p q : Place) (x : List ℕ) (ts : List Spelled) (w : ℕ) (y : Expr) (es : List Expr) (us : List Spelled) → DerivesArgs ts w (y ∷ es)
    → w ≤ greatest_weight → whats us ≡ stmt_whats (stmt.start (word x p) q y (exprs es)) → StmtBack i d us (stmt.start (word x p) q y (exprs es))
start_back i d p q x ts w y es us k h e =
    let xs : List What = map what_of (exprs_tokens (exprs (y ∷ es))) in
    let a = first_what us (what.Name x) (what.Mark mark.Equals ∷ what.Mark mark.Start ∷ what.Open ∷ (xs ++ (what.Close ∷ newline ∷ []))) e in
    let b = first_what a.1 (what.Mark mark.Equals) (what.Mark mark.Start ∷ what.Open ∷ (xs ++ (what.Close ∷ newline ∷ []))) a.3 in
    let c = first_what b.1 (what.Mark mark.Start) (what.Open ∷ (xs ++ (what.Close ∷ newline ∷ []))) b.3 in
    let s = first_what c.1 what.Open (xs ++ (what.Close ∷ newline ∷ [])) c.3 in
    let n = part s.1 xs what.Close (newline ∷ []) s.3 in
    let m = only n.back newline n.backs in
    let f = args_back ts w (y ∷ es) k n.front n.fronts in
    start_args i d a.0 b.0 c.0 s.0 n.place m.0 x n.front f.1 f.0 y es us f.2 (lighter f.1 w greatest_weight f.3 h) f.4
    (behind a.2 (behind b.2 (behind c.2 (behind s.2 (further n.front (tok what.Close n.place) n.is m.1))))) p q

plain_back : (i : Bool) (d : ℕ) (ts : List Spelled) (y : Expr) (us : List Spelled) → IsExpr greatest_weight ts y → whats us ≡ stmt_whats (stmt.plain y) → StmtBack i d us (stmt.plain y)
plain_back i d ts y us k e =
    let n = part us (map what_of (expr_tokens y)) newline [] e in
    let f = expr_back greatest_weight ts y k n.front n.fronts in (
      stmt.plain f.0,
      subst (λ (l : List Spelled). DerivesStmt i d l (stmt.plain f.0)) (sym (further n.front (tok newline n.place) n.is (no_whats n.back n.backs)))
          (st.plain d n.place n.front f.0 f.1),
      ap (λ (z : Expr). stmt.plain z) f.2,
    )

-- ---- statements with blocks

-- a word, a condition and a colon
record HeadBack (m : Mark) (x : Expr) (us : List Spelled) (ws : List What) : Type 0 where
  pub place : Place
  pub tokens : List Spelled
  pub condition : Expr
  pub colon : Place
  pub back : List Spelled
  pub is : us ≡ sign m place ∷ (tokens ++ (sign mark.Colon colon ∷ back))
  pub derives : IsExpr greatest_weight tokens condition
  pub same : bare_expr condition ≡ bare_expr x
  pub backs : whats back ≡ ws

head_back : (m : Mark) (ts : List Spelled) (x : Expr) (us : List Spelled) (ws : List What) → IsExpr greatest_weight ts x → whats us ≡ head_whats m x ws → HeadBack m x us ws
head_back m ts x us ws k e =
    let xs : List What = map what_of (expr_tokens x) in
    let a = first_what us (what.Mark m) (xs ++ (what.Mark mark.Colon ∷ ws)) e in
    let b = part a.1 xs (what.Mark mark.Colon) ws a.3 in
    let f = expr_back greatest_weight ts x k b.front b.fronts in
    record {
      place = a.0;
      tokens = b.front;
      condition = f.0;
      colon = b.place;
      back = b.back;
      is = behind a.2 b.is;
      derives = f.1;
      same = f.2;
      backs = b.backs;
    }

-- NEWLINE, INDENT and DEDENT round statements
pub record InnerBack (us : List Spelled) (ws : List What) : Type 0 where
  pub newline : Place
  pub indent : Place
  pub dedent : Place
  pub tokens : List Spelled
  pub is : us ≡ sign mark.Newline newline ∷ sign mark.Indent indent ∷ (tokens ++ (sign mark.Dedent dedent ∷ []))
  pub are : whats tokens ≡ ws

pub inner_back : (us : List Spelled) (ws : List What) → whats us ≡ inner_whats ws → InnerBack us ws
inner_back us ws e =
    let a = first_what us newline (what.Mark mark.Indent ∷ (ws ++ what.Mark mark.Dedent ∷ [])) e in
    let b = first_what a.1 (what.Mark mark.Indent) (ws ++ what.Mark mark.Dedent ∷ []) a.3 in
    let c = part b.1 ws (what.Mark mark.Dedent) [] b.3 in
    record {
      newline = a.0;
      indent = b.0;
      dedent = c.place;
      tokens = c.front;
      is = behind a.2 (behind b.2 (further c.front (sign mark.Dedent c.place) c.is (no_whats c.back c.backs)));
      are = c.fronts;
    }

mutual
  -- a statement's tokens, read again
  pub stmt_back : {i : Bool} {d : ℕ} {ts : List Spelled} {s : Stmt} → DerivesStmt i d ts s → (us : List Spelled) → whats us ≡ stmt_whats s → StmtBack i d us s
  stmt_back {i = i} (st.pass d p q) us e = pass_back i d us e
  stmt_back {i = i} (st.give_none d p q h) us e = bare_give_back i d p us h e
  stmt_back {i = i} (st.give d p q ts x h k) us e = give_back i d p ts x us h k e
  stmt_back {i = i} (st.print d p q r s ts w es k h) us e = print_back i d q ts w es us k h e
  stmt_back {i = i} (st.assign d p q r x ts y k) us e = assign_back i d p x ts y us k e
  stmt_back {i = i} (st.declare d p q r s x vs a ts y h k) us e = declare_back i d p x vs a ts y us h k e
  stmt_back {i = i} (st.write d p q r s x vs w o ts y h k l) us e = write_back i d q x vs w o ts y us h k l e
  stmt_back {i = i} (st.start d p q r s t u x ts w y es k h) us e = start_back i d p s x ts w y es us k h e
  stmt_back {i = i} (st.plain d q ts y k) us e = plain_back i d ts y us k e
  stmt_back {i = i} (st.if_any d p q ts x vs ss rs bs el l k b t) us e =
      let ws : List What = inner_whats (block_whats (block ss)) in
      let ms : List What = branches_whats mark.Elif (branches bs) ++ else_whats el in
      let h = head_back mark.If ts x us (ws ++ ms) k (e ∙ head_assoc mark.If x ws (branches_whats mark.Elif (branches bs)) (else_whats el)) in
      let c = split_whats h.back ws ms h.backs in
      let body = block_back b c.0 c.3 in
      let tail = tail_back t c.1 c.4 in (
        stmt.if_any (branches (branch h.condition body.0 ∷ tail.0)) tail.1,
        subst (λ (l : List Spelled). DerivesStmt i d l (stmt.if_any (branches (branch h.condition body.0 ∷ tail.0)) tail.1))
            (sym (behind h.is (ap (λ (l : List Spelled). h.tokens ++ (sign mark.Colon h.colon ∷ l)) c.2)))
            (st.if_any d h.place h.colon h.tokens h.condition c.0 body.0 c.1 tail.0 tail.1 l h.derives body.1 tail.2),
        λ j. stmt.if_any (more_branches (h.same j) (same_block body.0 ss body.2 j) (tail.3 j)) (tail.4 j),
      )
  stmt_back {i = i} (st.while d p q ts x vs ss l k b) us e =
      let h = head_back mark.While ts x us (inner_whats (block_whats (block ss))) k e in
      let body = block_back b h.back h.backs in (
        stmt.loop h.condition (block body.0),
        subst (λ (l : List Spelled). DerivesStmt i d l (stmt.loop h.condition (block body.0))) (sym h.is)
            (st.while d h.place h.colon h.tokens h.condition h.back body.0 l h.derives body.1),
        λ j. stmt.loop (h.same j) (same_block body.0 ss body.2 j),
      )

  pub tail_back : {i : Bool} {d : ℕ} {ts : List Spelled} {bs : List Branch} {el : Else} → DerivesTail i d ts bs el → (us : List Spelled)
      → whats us ≡ branches_whats mark.Elif (branches bs) ++ else_whats el → TailBack i d us bs el
  tail_back {i = i} (st.no_else d) us e =
      ([], stmt.no_else, subst (λ (l : List Spelled). DerivesTail i d l [] stmt.no_else) (sym (no_whats us e)) (st.no_else d), refl, refl)
  tail_back {i = i} (st.elif d p q ts x vs ss rs bs el k b t) us e =
      let ws : List What = inner_whats (block_whats (block ss)) in
      let ms : List What = branches_whats mark.Elif (branches bs) ++ else_whats el in
      let h = head_back mark.Elif ts x us (ws ++ ms) k (e ∙ head_assoc mark.Elif x ws (branches_whats mark.Elif (branches bs)) (else_whats el)) in
      let c = split_whats h.back ws ms h.backs in
      let body = block_back b c.0 c.3 in
      let tail = tail_back t c.1 c.4 in (
        branch h.condition body.0 ∷ tail.0,
        tail.1,
        subst (λ (l : List Spelled). DerivesTail i d l (branch h.condition body.0 ∷ tail.0) tail.1)
            (sym (behind h.is (ap (λ (l : List Spelled). h.tokens ++ (sign mark.Colon h.colon ∷ l)) c.2)))
            (st.elif d h.place h.colon h.tokens h.condition c.0 body.0 c.1 tail.0 tail.1 h.derives body.1 tail.2),
        (λ j. more_branches (h.same j) (same_block body.0 ss body.2 j) (tail.3 j)),
        tail.4,
      )
  tail_back {i = i} (st.otherwise d p q vs ss b) us e =
      let ws : List What = inner_whats (block_whats (block ss)) in
      let h = first_what us (what.Mark mark.Else) (what.Mark mark.Colon ∷ ws) e in
      let c = first_what h.1 (what.Mark mark.Colon) ws h.3 in
      let body = block_back b c.1 c.3 in (
        [],
        stmt.otherwise (block body.0),
        subst (λ (l : List Spelled). DerivesTail i d l [] (stmt.otherwise (block body.0))) (sym (behind h.2 c.2)) (st.otherwise d h.0 c.0 c.1 body.0 body.1),
        refl,
        (λ j. stmt.otherwise (same_block body.0 ss body.2 j)),
      )

  pub block_back : {i : Bool} {d : ℕ} {ts : List Spelled} {ss : List Stmt} → DerivesBlock i d ts ss → (us : List Spelled)
      → whats us ≡ inner_whats (block_whats (block ss)) → BlockBack i d us ss
  block_back {i = i} (st.indented d p q r vs ss k) us e =
      let c = inner_back us (block_whats (block ss)) e in
      let body = stmts_back k c.tokens c.are in
      (body.0, subst (λ (l : List Spelled). DerivesBlock i d l body.0) (sym c.is) (st.indented d c.newline c.indent c.dedent c.tokens body.0 body.1), body.2)

  pub stmts_back : {i : Bool} {d : ℕ} {ts : List Spelled} {ss : List Stmt} → DerivesStmts i d ts ss → (us : List Spelled)
      → whats us ≡ block_whats (block ss) → StmtsBack i d us ss
  stmts_back {i = i} (st.one_stmt d ts s k) us e =
      let f = stmt_back k us (e ∙ append-nil (stmt_whats s)) in
      (f.0 ∷ [], st.one_stmt d us f.0 f.1, ap (λ (x : Stmt). x ∷ []) f.2)
  stmts_back {i = i} (st.more_stmts d ts vs s ss k l) us e =
      let c = split_whats us (stmt_whats s) (block_whats (block ss)) e in
      let f = stmt_back k c.0 c.3 in
      let g = stmts_back l c.1 c.4 in
      (f.0 ∷ g.0, subst (λ (l : List Spelled). DerivesStmts i d l (f.0 ∷ g.0)) (sym c.2) (st.more_stmts d c.0 c.1 f.0 g.0 f.1 g.1), λ j. f.2 j ∷ g.2 j)
