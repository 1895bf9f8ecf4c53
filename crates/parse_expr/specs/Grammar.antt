-- The grammar of expressions: one case for each form, with its weight.
use Rattle.std.specs.Prelude.{◌≡◌, ℕ, suc, ◌≤◌, max, Bool, List, [], ◌∷◌, ◌++◌}
use Rattle.mono_syntax.specs.declared.leaf.Op.{Op}
use Rattle.mono_syntax.specs.declared.leaf.Op.TheVariants as op
use Rattle.mono_syntax.specs.declared.leaf.Place.{Place}
use Rattle.mono_syntax.specs.Ann.{Ann}
use Rattle.mono_syntax.specs.Expr as expr
use Rattle.mono_syntax.specs.ExprView.{exprs}
use Rattle.spelled_tokens.specs.declared.token.Spelled.{Spelled}
use Rattle.spelled_tokens.specs.declared.token.What.TheVariants as what
use Rattle.spelled_tokens.specs.SpelledTokens.{tok}
use Rattle.parse_expr.specs.Types.{DerivesType, word}

-- the operators with two parts: comparisons, then those that bind tighter
pub data Group : Type 0 where
  comparing : Group
  adding : Group
  multiplying : Group

abbrev pub group : Op → Group
group op.Add = adding
group op.Sub = adding
group op.Mul = multiplying
group op.Div = multiplying
group op.Mod = multiplying
group op.Lt = comparing
group op.Le = comparing
group op.Gt = comparing
group op.Ge = comparing
group op.Eq = comparing
group op.Ne = comparing

-- the forms of expressions, from the loosest to the tightest
pub data Form : Type 0 where
  whole : Form
  and_expr : Form
  not_expr : Form
  comparison : Form
  sum : Form
  term : Form
  factor : Form
  postfix : Form
  atom : Form

mutual
  -- these tokens are of that form, with this weight and tree. A name, a literal and a join weigh 1; a bracketed expression, a prefix operator and an attribute
  -- weigh one more than their part; an operator with two parts, a call and a cast one more than the heaviest of their parts. Brackets leave no node
  pub data Derives : Form → List Spelled → ℕ → expr.Expr → Type 0 where
    whole_and : (ts : List Spelled) (w : ℕ) (e : expr.Expr) → Derives and_expr ts w e → Derives whole ts w e
    or : (p : Place) (ts us : List Spelled) (w v : ℕ) (a b : expr.Expr) → Derives whole ts w a → Derives and_expr us v b
        → Derives whole (ts ++ (tok what.Or p ∷ us)) (suc (max w v)) (expr.either a b)
    and_not : (ts : List Spelled) (w : ℕ) (e : expr.Expr) → Derives not_expr ts w e → Derives and_expr ts w e
    and : (p : Place) (ts us : List Spelled) (w v : ℕ) (a b : expr.Expr) → Derives and_expr ts w a → Derives not_expr us v b
        → Derives and_expr (ts ++ (tok what.And p ∷ us)) (suc (max w v)) (expr.both a b)
    not_comparison : (ts : List Spelled) (w : ℕ) (e : expr.Expr) → Derives comparison ts w e → Derives not_expr ts w e
    not : (p : Place) (ts : List Spelled) (w : ℕ) (e : expr.Expr) → Derives not_expr ts w e
        → Derives not_expr (tok what.Not p ∷ ts) (suc w) (expr.negation p e)
    comparison_sum : (ts : List Spelled) (w : ℕ) (e : expr.Expr) → Derives sum ts w e → Derives comparison ts w e
    compare : (o : Op) (p : Place) (ts us : List Spelled) (w v : ℕ) (a b : expr.Expr) → group o ≡ comparing → Derives sum ts w a → Derives sum us v b
        → Derives comparison (ts ++ (tok (what.Operator o) p ∷ us)) (suc (max w v)) (expr.binary o p a b)
    sum_term : (ts : List Spelled) (w : ℕ) (e : expr.Expr) → Derives term ts w e → Derives sum ts w e
    add : (o : Op) (p : Place) (ts us : List Spelled) (w v : ℕ) (a b : expr.Expr) → group o ≡ adding → Derives sum ts w a → Derives term us v b
        → Derives sum (ts ++ (tok (what.Operator o) p ∷ us)) (suc (max w v)) (expr.binary o p a b)
    term_factor : (ts : List Spelled) (w : ℕ) (e : expr.Expr) → Derives factor ts w e → Derives term ts w e
    multiply : (o : Op) (p : Place) (ts us : List Spelled) (w v : ℕ) (a b : expr.Expr) → group o ≡ multiplying → Derives term ts w a → Derives factor us v b
        → Derives term (ts ++ (tok (what.Operator o) p ∷ us)) (suc (max w v)) (expr.binary o p a b)
    factor_postfix : (ts : List Spelled) (w : ℕ) (e : expr.Expr) → Derives postfix ts w e → Derives factor ts w e
    negate : (p : Place) (ts : List Spelled) (w : ℕ) (e : expr.Expr) → Derives factor ts w e
        → Derives factor (tok (what.Operator op.Sub) p ∷ ts) (suc w) (expr.neg p e)
    postfix_atom : (ts : List Spelled) (w : ℕ) (e : expr.Expr) → Derives atom ts w e → Derives postfix ts w e
    attribute : (p q : Place) (x : List ℕ) (ts : List Spelled) (w : ℕ) (e : expr.Expr) → Derives postfix ts w e
        → Derives postfix (ts ++ (tok what.Dot p ∷ tok (what.Name x) q ∷ [])) (suc w) (expr.read e (word x q))
    call : (p q : Place) (ts us : List Spelled) (w v : ℕ) (e : expr.Expr) (es : List expr.Expr) → Derives postfix ts w e → DerivesArgs us v es
        → Derives postfix (ts ++ (tok what.Open p ∷ (us ++ (tok what.Close q ∷ [])))) (suc (max w v)) (expr.call p e (exprs es))
    name : (p : Place) (x : List ℕ) → Derives atom (tok (what.Name x) p ∷ []) 1 (expr.local (word x p))
    number : (p : Place) (n : ℕ) → Derives atom (tok (what.Number n) p ∷ []) 1 (expr.number p n)
    text : (p : Place) (t : List ℕ) → Derives atom (tok (what.Text t) p ∷ []) 1 (expr.text p t)
    truth : (p : Place) (b : Bool) → Derives atom (tok (what.Bool b) p ∷ []) 1 (expr.truth p b)
    none : (p : Place) → Derives atom (tok what.Nil p ∷ []) 1 (expr.nil p)
    bracket : (p q : Place) (ts : List Spelled) (w : ℕ) (e : expr.Expr) → Derives whole ts w e
        → Derives atom (tok what.Open p ∷ (ts ++ (tok what.Close q ∷ []))) (suc w) e
    -- `cast ( type , expression )`
    cast : (p q r s : Place) (ts us : List Spelled) (v w : ℕ) (a : Ann) (e : expr.Expr) → DerivesType ts v a → Derives whole us w e
        → Derives atom (tok what.Cast p ∷ tok what.Open q ∷ (ts ++ (tok what.Comma r ∷ (us ++ (tok what.Close s ∷ []))))) (suc (max v w)) (expr.cast p a e)
    -- `join ( NAME )`
    join : (p q r s : Place) (x : List ℕ)
        → Derives atom (tok what.Join p ∷ tok what.Open q ∷ tok (what.Name x) r ∷ tok what.Close s ∷ []) 1 (expr.join p (word x r))

  -- any number of expressions with commas between, and maybe one behind the last; with the greatest weight among them
  pub data DerivesArgs : List Spelled → ℕ → List expr.Expr → Type 0 where
    no_args : DerivesArgs [] 0 []
    last_arg : (ts : List Spelled) (w : ℕ) (e : expr.Expr) → Derives whole ts w e → DerivesArgs ts w (e ∷ [])
    more_args : (p : Place) (ts us : List Spelled) (w v : ℕ) (e : expr.Expr) (es : List expr.Expr) → Derives whole ts w e → DerivesArgs us v es
        → DerivesArgs (ts ++ (tok what.Comma p ∷ us)) (max w v) (e ∷ es)

-- tokens are at most one expression, of whatever weight
abbrev pub OneExpression : Type 0
OneExpression = (ts : List Spelled) (v w : ℕ) (a b : expr.Expr) → Derives whole ts v a → Derives whole ts w b → a ≡ b

-- an expression of a weight that fits in the room
abbrev pub IsExpr : ℕ → List Spelled → expr.Expr → Type 0
IsExpr room ts e = (w : ℕ) × Derives whole ts w e × (w ≤ room)
