-- The weight of an expression's tokens with minimal brackets: no derivation of the expression weighs less.
use Rattle.std.proofs.Common.{ℕ, suc, ◌<◌, ◌≤◌, ◌≡◌, max, Bool, true, false, nat_lt, List, arith, refl, ap, sym, subst}
use Rattle.std.proofs.Math.Nat.{le-max_left, le-max_right, max-le}
use Rattle.std.proofs.lemmas.Bool.{lt-ltb, ltb-true, le-ltb}
use Rattle.mono_syntax.specs.declared.leaf.Op.{Op}
use Rattle.mono_syntax.specs.declared.leaf.Place.{Place}
use Rattle.mono_syntax.specs.Ann.{Ann}
use Rattle.mono_syntax.specs.Expr as tree
use Rattle.mono_syntax.specs.Expr.{Expr, Exprs, no_exprs, more_exprs}
use Rattle.mono_syntax.specs.ExprView.{exprs}
use Rattle.spelled_tokens.specs.declared.token.Spelled.{Spelled}
use Rattle.parse_expr.specs.Types.{DerivesType}
use Rattle.parse_expr.specs.Grammar as g
use Rattle.parse_expr.specs.Grammar.{Form, Derives, DerivesArgs, Group, comparing, adding, multiplying, group}
use Rattle.parse_expr.specs.Precedence.{level_of_form, group_left, group_whole, group_right, op_left, op_whole, op_right}
use Rattle.tree_print.specs.Brackets.{level_of}
use Rattle.tree_print.proofs.TypesBack.{type_weight, type_weighs}

-- one more in brackets
abbrev pub bumped : Bool → ℕ → ℕ
bumped true w = suc w
bumped false w = w

-- where a level is wanted
abbrev pub lifted : ℕ → Expr → ℕ → ℕ
lifted l e w = bumped (nat_lt (level_of e) l) w

abbrev mutual
  pub weight : Expr → ℕ
  weight (tree.neg p a) = suc (lifted 7 a (weight a))
  weight (tree.negation p a) = suc (lifted 3 a (weight a))
  weight (tree.binary o p a b) = suc (max (lifted (op_left o) a (weight a)) (lifted (op_right o) b (weight b)))
  weight (tree.both a b) = suc (max (lifted 2 a (weight a)) (lifted 3 b (weight b)))
  weight (tree.either a b) = suc (max (lifted 1 a (weight a)) (lifted 2 b (weight b)))
  weight (tree.read a w) = suc (lifted 8 a (weight a))
  weight (tree.call p a es) = suc (max (lifted 8 a (weight a)) (exprs_weight es))
  weight (tree.cast p t a) = suc (max (type_weight t) (weight a))
  weight _ = 1

  -- the greatest weight among them
  pub exprs_weight : Exprs → ℕ
  exprs_weight no_exprs = 0
  exprs_weight (more_exprs e es) = max (weight e) (exprs_weight es)

abbrev pub weight_at : ℕ → Expr → ℕ
weight_at l e = lifted l e (weight e)

-- ---- levels

bumped_least : (b : Bool) (w : ℕ) → w ≤ bumped b w
bumped_least true w = omega arith
bumped_least false w = omega arith

bumped_most : (b : Bool) (w : ℕ) → bumped b w ≤ suc w
bumped_most true w = omega arith
bumped_most false w = omega arith

-- with more brackets there is no less weight
bumped_grows : (b c : Bool) (w : ℕ) → (b ≡ true → c ≡ true) → bumped b w ≤ bumped c w
bumped_grows true true w f = omega arith
bumped_grows true false w f = absurd (let h : false ≡ true = f refl in cc)
bumped_grows false c w f = bumped_least c w

looser : (n l m w : ℕ) → l ≤ m → bumped (nat_lt n l) w ≤ bumped (nat_lt n m) w
looser n l m w h = bumped_grows _ _ w (λ q. let k : n < l = ltb-true n l q in lt-ltb n m (omega arith))

at_own : (n l w : ℕ) → l ≤ n → bumped (nat_lt n l) w ≡ w
at_own n l w h = rw (le-ltb n l h) refl

down_to : (l m : ℕ) (e : Expr) (w : ℕ) → l ≤ m → weight_at m e ≤ w → weight_at l e ≤ w
down_to l m e w h k = let j = looser (level_of e) l m (weight e) h in omega arith

max_two : (a b v w : ℕ) → a ≤ v → b ≤ w → suc (max a b) ≤ suc (max v w)
max_two a b v w h k =
    let x = le-max_left v w in
    let y = le-max_right v w in
    let m : max a b ≤ max v w = max-le (omega arith) (omega arith) in
    omega arith

max_both : (a b v w : ℕ) → a ≤ v → b ≤ w → max a b ≤ max v w
max_both a b v w h k =
    let x = le-max_left v w in
    let y = le-max_right v w in
    max-le (omega arith) (omega arith)

binary_light : (o : Op) (p : Place) (a b : Expr) (v w m l r : ℕ) → op_whole o ≡ m → op_left o ≡ l → op_right o ≡ r → weight_at l a ≤ v → weight_at r b ≤ w
    → weight_at m (tree.binary o p a b) ≤ suc (max v w)
binary_light o p a b v w m l r x y z h k =
    let h2 : weight_at (op_left o) a ≤ v = subst (λ n. weight_at n a ≤ v) (sym y) h in
    let k2 : weight_at (op_right o) b ≤ w = subst (λ n. weight_at n b ≤ w) (sym z) k in
    let j : weight_at m (tree.binary o p a b) ≡ weight (tree.binary o p a b) = at_own (op_whole o) m _ (omega arith) in
    let i = max_two _ _ v w h2 k2 in
    omega arith

-- an operator's parts and whole are as light as its group says
group_light : (o : Op) (c : Group) (p : Place) (a b : Expr) (v w : ℕ) → group o ≡ c → weight_at (group_left c) a ≤ v → weight_at (group_right c) b ≤ w
    → weight_at (group_whole c) (tree.binary o p a b) ≤ suc (max v w)
group_light o c p a b v w q h k =
    binary_light o p a b v w (group_whole c) (group_left c) (group_right c) (ap group_whole q) (ap group_left q) (ap group_right q) h k

-- ---- minimal brackets weigh no more than those that are there

bracket_light : (e : Expr) (w : ℕ) → weight_at 1 e ≤ w → weight_at 9 e ≤ suc w
bracket_light e w h =
    let k = bumped_least (nat_lt (level_of e) 1) (weight e) in
    let j = bumped_most (nat_lt (level_of e) 9) (weight e) in
    omega arith

pub bare_light : (e : Expr) (w : ℕ) → weight_at 1 e ≤ w → weight e ≤ w
bare_light e w h = let k = bumped_least (nat_lt (level_of e) 1) (weight e) in omega arith

type_light : {ts : List Spelled} {w : ℕ} {a : Ann} → DerivesType ts w a → type_weight a ≤ w
type_light d = let h = type_weighs d in omega arith

mutual
  pub no_heavier : {L : Form} {ts : List Spelled} {w : ℕ} {e : Expr} → Derives L ts w e → weight_at (level_of_form L) e ≤ w
  no_heavier (g.whole_and ts w e d) = down_to 1 2 e w (omega arith) (no_heavier d)
  no_heavier (g.or p ts us w v a b d f) = max_two _ _ w v (no_heavier d) (no_heavier f)
  no_heavier (g.and_not ts w e d) = down_to 2 3 e w (omega arith) (no_heavier d)
  no_heavier (g.and p ts us w v a b d f) = max_two _ _ w v (no_heavier d) (no_heavier f)
  no_heavier (g.not_comparison ts w e d) = down_to 3 4 e w (omega arith) (no_heavier d)
  no_heavier (g.not p ts w e d) = let h = no_heavier d in omega arith
  no_heavier (g.comparison_sum ts w e d) = down_to 4 5 e w (omega arith) (no_heavier d)
  no_heavier (g.compare o p ts us w v a b q d f) = group_light o comparing p a b w v q (no_heavier d) (no_heavier f)
  no_heavier (g.sum_term ts w e d) = down_to 5 6 e w (omega arith) (no_heavier d)
  no_heavier (g.add o p ts us w v a b q d f) = group_light o adding p a b w v q (no_heavier d) (no_heavier f)
  no_heavier (g.term_factor ts w e d) = down_to 6 7 e w (omega arith) (no_heavier d)
  no_heavier (g.multiply o p ts us w v a b q d f) = group_light o multiplying p a b w v q (no_heavier d) (no_heavier f)
  no_heavier (g.factor_postfix ts w e d) = down_to 7 8 e w (omega arith) (no_heavier d)
  no_heavier (g.negate p ts w e d) = let h = no_heavier d in omega arith
  no_heavier (g.postfix_atom ts w e d) = down_to 8 9 e w (omega arith) (no_heavier d)
  no_heavier (g.attribute p q x ts w e d) = let h = no_heavier d in omega arith
  no_heavier (g.call p q ts us w v e es d a) = max_two _ _ w v (no_heavier d) (args_no_heavier a)
  no_heavier (g.name p x) = omega arith
  no_heavier (g.number p n) = omega arith
  no_heavier (g.text p t) = omega arith
  no_heavier (g.truth p b) = omega arith
  no_heavier (g.none p) = omega arith
  no_heavier (g.bracket p q ts w e d) = bracket_light e w (no_heavier d)
  no_heavier (g.cast p q r s ts us v w a e d f) = max_two _ _ v w (type_light d) (bare_light e w (no_heavier f))
  no_heavier (g.join p q r s x) = omega arith

  pub args_no_heavier : {ts : List Spelled} {w : ℕ} {es : List Expr} → DerivesArgs ts w es → exprs_weight (exprs es) ≤ w
  args_no_heavier g.no_args = omega arith
  args_no_heavier (g.last_arg ts w e d) = let h = bare_light e w (no_heavier d) in max-le h (omega arith)
  args_no_heavier (g.more_args p ts us w v e es d a) = max_both _ _ w v (bare_light e w (no_heavier d)) (args_no_heavier a)
