-- Each tree that the grammar gives is well shaped.
use Rattle.std.proofs.Common.{◌≡◌, ℕ, ◌≤◌, Bool, true, false, List, [], ◌∷◌, ◌++◌, ◌&&◌, nat_le, cond, Option, Some, None, refl, if◌then◌else◌}
use Rattle.std.specs.Prelude.{IfSome, bytes_eq, chars, codes}
use Rattle.std.proofs.lemmas.Bool.{and_parts, leb-true}
use Rattle.mono_list.proofs.Cases.{split, some_is, none_some}
use Rattle.mono_syntax.specs.declared.leaf.Op.{Op}
use Rattle.mono_syntax.specs.declared.tree.Branch.{Branch}
use Rattle.mono_syntax.specs.declared.tree.FuncDef.{FuncDef}
use Rattle.mono_syntax.specs.declared.tree.Item.{Item}
use Rattle.mono_syntax.specs.declared.tree.Script.{Script}
use Rattle.mono_syntax.specs.Expr as expr
use Rattle.mono_syntax.specs.ExprView.{exprs}
use Rattle.mono_syntax.specs.Stmt as stmt
use Rattle.mono_syntax.specs.StmtView.{block, branches}
use Rattle.py_chars.specs.Spellings.{number_of, bad_escape, is_numeral, digits_value}
use Rattle.py_lexer.specs.declared.token.Token.{Token}
use Rattle.py_lexer.specs.declared.token.TokenKind.{TokenKind}
use Rattle.py_lexer.specs.declared.token.TokenKind.TheVariants as kind
use Rattle.spelled_tokens.specs.declared.token.Mark.{Mark}
use Rattle.spelled_tokens.specs.declared.token.Mark.TheVariants as mark
use Rattle.spelled_tokens.specs.declared.token.Spelled.{Spelled}
use Rattle.spelled_tokens.specs.declared.token.What.{What}
use Rattle.spelled_tokens.specs.declared.token.What.TheVariants as what
use Rattle.spelled_tokens.specs.Spelling.{spelling, inside}
use Rattle.spelled_tokens.specs.SpelledTokens.{all_spelled, number_when, text_when, what_when}
use Rattle.spelled_tokens.specs.Words.{expression_word, type_word, mark_when, word_when, operator, punctuation, sign_when}
use Rattle.parse_expr.specs.Grammar as g
use Rattle.parse_expr.specs.Grammar.{Form, Derives, DerivesArgs, IsExpr}
use Rattle.parse_script.specs.Definitions as ds
use Rattle.parse_script.specs.Definitions.{DerivesDef}
use Rattle.parse_script.specs.Script as sc
use Rattle.parse_script.specs.Script.{DerivesItems, DerivesScript}
use Rattle.script_shape.specs.Shapes.{IsShapedExpr, AreShapedExprs, IsShapedStmt, IsShapedBlock, AreShapedBranches, IsShapedElse, AreShapedItems, IsShaped}
use Rattle.parse_script.specs.Statements as st
use Rattle.mono_syntax.specs.Limits.{greatest_integer, greatest_weight}
use Rattle.parse_script.specs.Statements.{DerivesStmt, DerivesTail, DerivesBlock, DerivesStmts}

-- ---- all number tokens fit

abbrev Fits : What → Type 0
Fits (what.Number n) = n ≤ greatest_integer
Fits _ = Unit {0}

abbrev AllFit : List Spelled → Type 0
AllFit [] = Unit {0}
AllFit (t ∷ ts) = Fits t.what × AllFit ts

front : (xs ys : List Spelled) → AllFit (xs ++ ys) → AllFit xs
front [] ys h = tt
front (x ∷ xs) ys h = (h.0, front xs ys h.1)

back : (xs ys : List Spelled) → AllFit (xs ++ ys) → AllFit ys
back [] ys h = h
back (x ∷ xs) ys h = back xs ys h.1

number_small : (cs : List ℕ) (n : ℕ) → number_of cs ≡ Some n → n ≤ greatest_integer
unfolding number_of
number_small cs n e =
    split (is_numeral cs && nat_le (digits_value cs) greatest_integer) (λ b. cond {A = Option ℕ} b (Some (digits_value cs)) None ≡ Some n → n ≤ greatest_integer)
    (λ t k. rw (← some_is k) (leb-true (digits_value cs) greatest_integer (and_parts (is_numeral cs) (nat_le (digits_value cs) greatest_integer) t).1))
    (λ _ k. none_some (n ≤ greatest_integer) k) e

number_fits : (cs : List ℕ) (o : Option ℕ) → number_of cs ≡ o → Fits (number_when o)
number_fits cs None e = tt
number_fits cs (Some n) e = number_small cs n e

text_fits : (w : List ℕ) (o : Option ℕ) → Fits (text_when w o)
text_fits w None = tt
text_fits w (Some n) = tt

-- the same, in a form that shows what fits
record Fit (x : What) : Type 0 where
  pub fits : Fits x

record AnyFit (o : Option What) : Type 0 where
  pub fits : IfSome o Fits

-- one of two fits where both fit
one_fits : (b : Bool) (x y : What) → Fits x → Fit y → Fit (if b then x else y)
one_fits true x y h k = record { fits = h }
one_fits false x y h k = k

any_fits : (b : Bool) (x : What) (o : Option What) → Fits x → AnyFit o → AnyFit (if b then Some x else o)
any_fits true x o h k = record { fits = h }
any_fits false x o h k = k

punctuation_fits : (w : List ℕ) → Fit (punctuation w)
unfolding punctuation
punctuation_fits w =
    one_fits (bytes_eq w (codes ".")) what.Dot _ tt
    (one_fits (bytes_eq w (codes "(")) what.Open _ tt
    (one_fits (bytes_eq w (codes ")")) what.Close _ tt
    (one_fits (bytes_eq w (codes ",")) what.Comma _ tt
    (one_fits (bytes_eq w (codes "[")) (what.Mark mark.OpenSquare) _ tt
    (one_fits (bytes_eq w (codes "]")) (what.Mark mark.CloseSquare) _ tt
    (one_fits (bytes_eq w (codes "=")) (what.Mark mark.Equals) _ tt
    (one_fits (bytes_eq w (codes ":")) (what.Mark mark.Colon) _ tt
    (one_fits (bytes_eq w (codes "->")) (what.Mark mark.Arrow) _ tt (record { fits = tt })))))))))

sign_fits : (o : Option Op) (w : List ℕ) → Fits (sign_when o w)
sign_fits (Some o) w = tt
sign_fits None w = (punctuation_fits w).fits

expression_fits : (w : List ℕ) → AnyFit (expression_word w)
unfolding expression_word
expression_fits w =
    any_fits (bytes_eq w (codes "True")) (what.Bool true) _ tt
    (any_fits (bytes_eq w (codes "False")) (what.Bool false) _ tt
    (any_fits (bytes_eq w (codes "None")) what.Nil _ tt
    (any_fits (bytes_eq w (codes "or")) what.Or _ tt
    (any_fits (bytes_eq w (codes "and")) what.And _ tt
    (any_fits (bytes_eq w (codes "not")) what.Not _ tt
    (any_fits (bytes_eq w (codes "cast")) what.Cast _ tt
    (any_fits (bytes_eq w (codes "join")) what.Join _ tt (record { fits = tt }))))))))

mark_fits : (o : Option Mark) (w : List ℕ) → Fits (mark_when o w)
mark_fits (Some m) w = tt
mark_fits None w = tt

word_fits : (o : Option What) (w : List ℕ) → IfSome o Fits → Fits (word_when o w)
word_fits (Some x) w h = h
word_fits None w h = mark_fits (type_word w) w

what_fits : (k : TokenKind) (w v : Option (List ℕ)) → Fits (what_when k w v)
what_fits kind.Name None v = tt
what_fits kind.Name (Some w) v = tt
what_fits kind.Reserved None v = tt
what_fits kind.Reserved (Some w) v = word_fits (expression_word w) w (expression_fits w).fits
what_fits kind.Number None v = tt
what_fits kind.Number (Some w) v = number_fits (chars w) (number_of (chars w)) refl
what_fits kind.Str w None = tt
what_fits kind.Str w (Some v) = text_fits v (bad_escape (chars v))
what_fits kind.Sign None v = tt
what_fits kind.Sign (Some w) v = sign_fits (operator w) w
what_fits kind.Newline w v = tt
what_fits kind.Indent w v = tt
what_fits kind.Dedent w v = tt
what_fits kind.End w v = tt

all_fit : (text : List ℕ) (tokens : List Token) → AllFit (all_spelled text tokens)
all_fit text [] = tt
all_fit text (t ∷ ts) = (what_fits t.what (spelling text t) (inside text t), all_fit text ts)

-- ---- expressions

mutual
  expr_shaped : {L : Form} {ts : List Spelled} {w : ℕ} {e : expr.Expr} → Derives L ts w e → AllFit ts → IsShapedExpr e
  expr_shaped (g.whole_and ts w e d) h = expr_shaped d h
  expr_shaped (g.or p ts us w v a b d k) h = (expr_shaped d (front ts _ h), expr_shaped k (back ts _ h).1)
  expr_shaped (g.and_not ts w e d) h = expr_shaped d h
  expr_shaped (g.and p ts us w v a b d k) h = (expr_shaped d (front ts _ h), expr_shaped k (back ts _ h).1)
  expr_shaped (g.not_comparison ts w e d) h = expr_shaped d h
  expr_shaped (g.not p ts w e d) h = expr_shaped d h.1
  expr_shaped (g.comparison_sum ts w e d) h = expr_shaped d h
  expr_shaped (g.compare o p ts us w v a b q d k) h = (expr_shaped d (front ts _ h), expr_shaped k (back ts _ h).1)
  expr_shaped (g.sum_term ts w e d) h = expr_shaped d h
  expr_shaped (g.add o p ts us w v a b q d k) h = (expr_shaped d (front ts _ h), expr_shaped k (back ts _ h).1)
  expr_shaped (g.term_factor ts w e d) h = expr_shaped d h
  expr_shaped (g.multiply o p ts us w v a b q d k) h = (expr_shaped d (front ts _ h), expr_shaped k (back ts _ h).1)
  expr_shaped (g.factor_postfix ts w e d) h = expr_shaped d h
  expr_shaped (g.negate p ts w e d) h = expr_shaped d h.1
  expr_shaped (g.postfix_atom ts w e d) h = expr_shaped d h
  expr_shaped (g.attribute p q x ts w e d) h = expr_shaped d (front ts _ h)
  expr_shaped (g.call p q ts us w v e es d k) h = (expr_shaped d (front ts _ h), args_shaped k (front us _ (back ts _ h).1))
  expr_shaped (g.name p x) h = tt
  expr_shaped (g.number p n) h = h.0
  expr_shaped (g.text p t) h = tt
  expr_shaped (g.truth p b) h = tt
  expr_shaped (g.none p) h = tt
  expr_shaped (g.bracket p q ts w e d) h = expr_shaped d (front ts _ h.1)
  expr_shaped (g.cast p q r s ts us v w a e k d) h = expr_shaped d (front us _ (back ts _ h.1.1).1)
  expr_shaped (g.join p q r s x) h = tt

  args_shaped : {ts : List Spelled} {w : ℕ} {es : List expr.Expr} → DerivesArgs ts w es → AllFit ts → AreShapedExprs (exprs es)
  args_shaped g.no_args h = tt
  args_shaped (g.last_arg ts w e d) h = (expr_shaped d h, tt)
  args_shaped (g.more_args p ts us w v e es d k) h = (expr_shaped d (front ts _ h), args_shaped k (back ts _ h).1)

whole_shaped : (room : ℕ) (ts : List Spelled) (e : expr.Expr) → IsExpr room ts e → AllFit ts → IsShapedExpr e
whole_shaped room ts e d h = expr_shaped d.1 h

-- ---- statements

mutual
  stmt_shaped : {i : Bool} {d : ℕ} {ts : List Spelled} {s : stmt.Stmt} → DerivesStmt i d ts s → AllFit ts → IsShapedStmt i s
  stmt_shaped (st.pass d p q) h = tt
  stmt_shaped (st.give_none d p q i) h = i
  stmt_shaped (st.give d p q ts e i k) h = (i, whole_shaped greatest_weight ts e k (front ts _ h.1))
  stmt_shaped (st.print d p q r s ts w es k l) h = args_shaped k (front ts _ h.1.1)
  stmt_shaped (st.assign d p q r x ts e k) h = whole_shaped greatest_weight ts e k (front ts _ h.1.1)
  stmt_shaped (st.declare d p q r s x us a ts e t k) h = whole_shaped greatest_weight ts e k (front ts _ (back us _ h.1.1).1)
  stmt_shaped (st.write d p q r s x us w o ts e k l m) h = (expr_shaped k (front us _ h), whole_shaped greatest_weight ts e m (front ts _ (back us _ h).1.1.1))
  stmt_shaped (st.start d p q r s t u x ts w e es k l) h = args_shaped k (front ts _ h.1.1.1.1)
  stmt_shaped (st.plain d q ts e k) h = whole_shaped greatest_weight ts e k (front ts _ h)
  stmt_shaped (st.if_any d p q ts e us ss vs bs el l k b t) h =
      let rest = (back ts _ h.1).1 in
      let tail = tail_shaped t (back us vs rest) in
      (tt, (whole_shaped greatest_weight ts e k (front ts _ h.1), block_shaped b (front us vs rest), tail.0), tail.1)
  stmt_shaped (st.while d p q ts e us ss l k b) h = (whole_shaped greatest_weight ts e k (front ts _ h.1), block_shaped b (back ts _ h.1).1)

  tail_shaped : {i : Bool} {d : ℕ} {ts : List Spelled} {bs : List Branch} {el : stmt.Else} → DerivesTail i d ts bs el → AllFit ts
      → AreShapedBranches i (branches bs) × IsShapedElse i el
  tail_shaped (st.no_else d) h = (tt, tt)
  tail_shaped (st.elif d p q ts e us ss vs bs el k b t) h =
      let rest = (back ts _ h.1).1 in
      let tail = tail_shaped t (back us vs rest) in
      ((whole_shaped greatest_weight ts e k (front ts _ h.1), block_shaped b (front us vs rest), tail.0), tail.1)
  tail_shaped (st.otherwise d p q us ss b) h = (tt, block_shaped b h.1.1)

  block_shaped : {i : Bool} {d : ℕ} {ts : List Spelled} {ss : List stmt.Stmt} → DerivesBlock i d ts ss → AllFit ts → IsShapedBlock i (block ss)
  block_shaped (st.indented d p q r us ss k) h = stmts_shaped k (front us _ h.1.1)

  stmts_shaped : {i : Bool} {d : ℕ} {ts : List Spelled} {ss : List stmt.Stmt} → DerivesStmts i d ts ss → AllFit ts → IsShapedBlock i (block ss)
  stmts_shaped (st.one_stmt d ts s k) h = (stmt_shaped k h, tt)
  stmts_shaped (st.more_stmts d ts us s ss k l) h = (stmt_shaped k (front ts us h), stmts_shaped l (back ts us h))

-- ---- scripts

def_shaped : {ts : List Spelled} {f : FuncDef} → DerivesDef ts f → AllFit ts → IsShapedBlock true (block f.body)
def_shaped (ds.def p q r s t x us xs rs a bs ss k l b) h = block_shaped b (back rs _ (back us _ h.1.1.1).1).1

items_shaped : {ts : List Spelled} {is : List Item} → DerivesItems ts is → AllFit ts → AreShapedItems is
items_shaped sc.no_items h = tt
items_shaped (sc.more_items ts us i is (sc.class ws c d) k) h = items_shaped k (back ts us h)
items_shaped (sc.more_items ts us i is (sc.def ws f d) k) h = (def_shaped d (front ts us h), items_shaped k (back ts us h))
items_shaped (sc.more_items ts us i is (sc.statement ws s d) k) h = (stmt_shaped d (front ts us h), items_shaped k (back ts us h))

whole_fits : (ts : List Spelled) (s : Script) → sc.DerivesWhole ts s → AllFit ts → IsShaped s
whole_fits ts s (sc.script p us is d) h = items_shaped d (front us _ h)

pub trees_are_shaped : (text : List ℕ) (tokens : List Token) (s : Script) → DerivesScript text tokens s → IsShaped s
trees_are_shaped text tokens s d = whole_fits (all_spelled text tokens) s d (all_fit text tokens)
