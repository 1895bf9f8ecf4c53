-- The tokens of each type and expression that the grammar gives for sound tokens are a row that can be written.
use Rattle.std.proofs.Common.{ℕ, Bool, true, false, nat_lt, List, [], ◌∷◌, ◌++◌, refl}
use Rattle.mono_syntax.specs.declared.leaf.Op.{Op}
use Rattle.mono_syntax.specs.Ann.{Ann}
use Rattle.mono_syntax.specs.AnnView.{anns}
use Rattle.mono_syntax.specs.Expr as expr
use Rattle.mono_syntax.specs.ExprView.{exprs}
use Rattle.spelled_tokens.specs.declared.token.Spelled.{Spelled}
use Rattle.spelled_tokens.specs.declared.token.What.TheVariants as what
use Rattle.token_lines.specs.declared.printed.Printed.{Printed}
use Rattle.token_lines.specs.declared.printed.Printed.TheVariants.{Plain}
use Rattle.parse_expr.specs.Grammar as g
use Rattle.parse_expr.specs.Grammar.{Form, Derives, DerivesArgs, IsExpr}
use Rattle.parse_expr.specs.Types as ty
use Rattle.parse_expr.specs.Types.{DerivesType, DerivesTypes, DerivesTypeRow, IsType}
use Rattle.parse_expr.specs.Precedence.{op_left, op_right}
use Rattle.tree_print.specs.Brackets.{level_of, ann_tokens, anns_tokens, more_anns_tokens, bracketed, placed, expr_tokens, exprs_tokens, more_exprs_tokens}
use Rattle.tree_print.proofs.Rows.{AreSound, front, back, IsRow, row_end, row_word, row_open, row_close, row_open_square, row_close_square, row_together, IsSome, some_word, some_before}

-- ---- types

mutual
  pub ann_row : {ts : List Spelled} {w : ℕ} {a : Ann} → DerivesType ts w a → AreSound ts → IsRow 0 (ann_tokens a)
  ann_row (ty.dyn_type p) h = row_word tt (λ n. refl) row_end
  ann_row (ty.int_type p) h = row_word tt (λ n. refl) row_end
  ann_row (ty.bool_type p) h = row_word tt (λ n. refl) row_end
  ann_row (ty.str_type p) h = row_word tt (λ n. refl) row_end
  ann_row (ty.nil_type p) h = row_word tt (λ n. refl) row_end
  ann_row (ty.class_type p x) h = row_word h.0 (λ n. refl) row_end
  ann_row (ty.callable p q r s t u ts us v w xs a d k) h =
      row_word tt (λ n. refl) (row_open_square (row_open_square (row_together (anns_row d (front ts _ h.1.1.1))
      (row_close_square (row_word tt (λ n. refl) (row_together (ann_row k (front us _ (back ts _ h.1.1.1).1.1)) (row_close_square row_end)))))))

  anns_row : {ts : List Spelled} {w : ℕ} {xs : List Ann} → DerivesTypes ts w xs → AreSound ts → IsRow 0 (anns_tokens (anns xs))
  anns_row ty.no_types h = row_end
  anns_row (ty.some_types ts w xs d) h = (some_anns_row d h).0

  -- with no comma before them, and with one
  some_anns_row : {ts : List Spelled} {w : ℕ} {xs : List Ann} → DerivesTypeRow ts w xs → AreSound ts
      → IsRow 0 (anns_tokens (anns xs)) × IsRow 0 (more_anns_tokens (anns xs))
  some_anns_row (ty.one_type ts w a d) h =
      let one = row_together (ann_row d h) row_end in
      (one, row_word tt (λ n. refl) one)
  some_anns_row (ty.more_types p ts us v w a xs d k) h =
      let all = row_together (ann_row d (front ts _ h)) (some_anns_row k (back ts _ h).1).1 in
      (all, row_word tt (λ n. refl) all)

pub type_row : (room : ℕ) (ts : List Spelled) (a : Ann) → IsType room ts a → AreSound ts → IsRow 0 (ann_tokens a)
type_row room ts a d h = ann_row d.1 h

-- ---- expressions

bracketed_row : (b : Bool) (ts : List Printed) → IsRow 0 ts → IsRow 0 (bracketed b ts)
bracketed_row true ts h = row_open (row_together h (row_close row_end))
bracketed_row false ts h = h

-- brackets round a row close again
pub placed_row : (l : ℕ) (e : expr.Expr) (ts : List Printed) → IsRow 0 ts → IsRow 0 (placed l e ts)
placed_row l e ts h = bracketed_row (nat_lt (level_of e) l) ts h

-- two parts with one token between
two_parts : (l m : ℕ) (a b : expr.Expr) (t : Printed) → IsRow 0 (expr_tokens a) → IsRow 0 (t ∷ []) → IsRow 0 (expr_tokens b)
    → IsRow 0 (placed l a (expr_tokens a) ++ (t ∷ placed m b (expr_tokens b)))
two_parts l m a b t h k j = row_together (placed_row l a _ h) (row_together k (placed_row m b _ j))

sign_row : (o : Op) → IsRow 0 (Plain (what.Operator o) ∷ [])
sign_row o = row_word tt (λ n. refl) row_end

mutual
  pub expr_row : {L : Form} {ts : List Spelled} {w : ℕ} {e : expr.Expr} → Derives L ts w e → AreSound ts → IsRow 0 (expr_tokens e)
  expr_row (g.whole_and ts w e d) h = expr_row d h
  expr_row (g.or p ts us w v a b d k) h =
      two_parts 1 2 a b (Plain what.Or) (expr_row d (front ts _ h)) (row_word tt (λ n. refl) row_end) (expr_row k (back ts _ h).1)
  expr_row (g.and_not ts w e d) h = expr_row d h
  expr_row (g.and p ts us w v a b d k) h =
      two_parts 2 3 a b (Plain what.And) (expr_row d (front ts _ h)) (row_word tt (λ n. refl) row_end) (expr_row k (back ts _ h).1)
  expr_row (g.not_comparison ts w e d) h = expr_row d h
  expr_row (g.not p ts w e d) h = row_word tt (λ n. refl) (placed_row 3 e _ (expr_row d h.1))
  expr_row (g.comparison_sum ts w e d) h = expr_row d h
  expr_row (g.compare o p ts us w v a b q d k) h =
      two_parts (op_left o) (op_right o) a b (Plain (what.Operator o)) (expr_row d (front ts _ h)) (sign_row o) (expr_row k (back ts _ h).1)
  expr_row (g.sum_term ts w e d) h = expr_row d h
  expr_row (g.add o p ts us w v a b q d k) h =
      two_parts (op_left o) (op_right o) a b (Plain (what.Operator o)) (expr_row d (front ts _ h)) (sign_row o) (expr_row k (back ts _ h).1)
  expr_row (g.term_factor ts w e d) h = expr_row d h
  expr_row (g.multiply o p ts us w v a b q d k) h =
      two_parts (op_left o) (op_right o) a b (Plain (what.Operator o)) (expr_row d (front ts _ h)) (sign_row o) (expr_row k (back ts _ h).1)
  expr_row (g.factor_postfix ts w e d) h = expr_row d h
  expr_row (g.negate p ts w e d) h = row_word tt (λ n. refl) (placed_row 7 e _ (expr_row d h.1))
  expr_row (g.postfix_atom ts w e d) h = expr_row d h
  expr_row (g.attribute p q x ts w e d) h =
      row_together (placed_row 8 e _ (expr_row d (front ts _ h))) (row_word tt (λ n. refl) (row_word (back ts _ h).1.0 (λ n. refl) row_end))
  expr_row (g.call p q ts us w v e es d k) h =
      row_together (placed_row 8 e _ (expr_row d (front ts _ h))) (row_open (row_together (args_row k (front us _ (back ts _ h).1)).0 (row_close row_end)))
  expr_row (g.name p x) h = row_word h.0 (λ n. refl) row_end
  expr_row (g.number p n) h = row_word h.0 (λ n. refl) row_end
  expr_row (g.text p t) h = row_word h.0 (λ n. refl) row_end
  expr_row (g.truth p b) h = row_word tt (λ n. refl) row_end
  expr_row (g.none p) h = row_word tt (λ n. refl) row_end
  expr_row (g.bracket p q ts w e d) h = expr_row d (front ts _ h.1)
  expr_row (g.cast p q r s ts us v w a e k d) h =
      row_word tt (λ n. refl) (row_open (row_together (ann_row k (front ts _ h.1.1))
      (row_word tt (λ n. refl) (row_together (expr_row d (front us _ (back ts _ h.1.1).1)) (row_close row_end)))))
  expr_row (g.join p q r s x) h = row_word tt (λ n. refl) (row_open (row_word h.1.1.0 (λ n. refl) (row_close row_end)))

  -- with no comma before them, and with one
  pub args_row : {ts : List Spelled} {w : ℕ} {es : List expr.Expr} → DerivesArgs ts w es → AreSound ts
      → IsRow 0 (exprs_tokens (exprs es)) × IsRow 0 (more_exprs_tokens (exprs es))
  args_row g.no_args h = (row_end, row_end)
  args_row (g.last_arg ts w e d) h =
      let one = row_together (expr_row d h) row_end in
      (one, row_word tt (λ n. refl) one)
  args_row (g.more_args p ts us w v e es d k) h =
      let all = row_together (expr_row d (front ts _ h)) (args_row k (back ts _ h).1).1 in
      (all, row_word tt (λ n. refl) all)

pub whole_row : (room : ℕ) (ts : List Spelled) (e : expr.Expr) → IsExpr room ts e → AreSound ts → IsRow 0 (expr_tokens e)
whole_row room ts e d h = expr_row d.1 h

-- each expression has a token
pub expr_some : (e : expr.Expr) → IsSome (expr_tokens e)
expr_some (expr.local w) = some_word
expr_some (expr.number p n) = some_word
expr_some (expr.text p t) = some_word
expr_some (expr.truth p b) = some_word
expr_some (expr.nil p) = some_word
expr_some (expr.neg p a) = some_word
expr_some (expr.negation p a) = some_word
expr_some (expr.binary o p a b) = some_before (placed (op_left o) a (expr_tokens a)) _ _
expr_some (expr.both a b) = some_before (placed 2 a (expr_tokens a)) _ _
expr_some (expr.either a b) = some_before (placed 1 a (expr_tokens a)) _ _
expr_some (expr.read a w) = some_before (placed 8 a (expr_tokens a)) _ _
expr_some (expr.call p a es) = some_before (placed 8 a (expr_tokens a)) _ _
expr_some (expr.cast p t a) = some_word
expr_some (expr.join p w) = some_word
