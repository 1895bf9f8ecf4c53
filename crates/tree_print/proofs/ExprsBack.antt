-- The tokens of an expression are read as that expression, but for places.
use Rattle.std.proofs.Common.{ℕ, suc, ◌≤◌, ◌≡◌, max, Bool, true, false, nat_lt, List, [], ◌∷◌, ◌++◌, map, arith, refl, sym, subst}
use Rattle.std.proofs.Math.Nat.{max-zero}
use Rattle.std.proofs.lemmas.Bool.{ltb-false}
use Rattle.std.proofs.lemmas.List.{append-nil}
use Rattle.mono_syntax.specs.declared.leaf.Op.{Op}
use Rattle.mono_syntax.specs.declared.leaf.Op.TheVariants as op
use Rattle.mono_syntax.specs.declared.leaf.Place.{Place}
use Rattle.mono_syntax.specs.declared.leaf.Word.{Word}
use Rattle.mono_syntax.specs.Ann.{Ann}
use Rattle.mono_syntax.specs.Expr as tree
use Rattle.mono_syntax.specs.Expr.{Expr, Exprs, no_exprs, more_exprs}
use Rattle.mono_syntax.specs.ExprView.{exprs}
use Rattle.spelled_tokens.specs.declared.token.Spelled.{Spelled}
use Rattle.spelled_tokens.specs.declared.token.What.TheVariants as what
use Rattle.spelled_tokens.specs.SpelledTokens.{tok}
use Rattle.parse_expr.specs.Types.{word}
use Rattle.parse_expr.specs.Grammar as g
use Rattle.parse_expr.specs.Grammar.{Form, Derives, DerivesArgs, IsExpr}
use Rattle.parse_expr.proofs.Levels.{form, down}
use Rattle.token_lines.specs.declared.printed.Printed.{Printed}
use Rattle.token_lines.specs.declared.printed.Printed.TheVariants.{Plain}
use Rattle.token_lines.specs.Tokens.{what_of}
use Rattle.token_lines.specs.Back.{whats}
use Rattle.tree_print.specs.Brackets as b
use Rattle.parse_expr.specs.Precedence.{op_left, op_whole, op_right}
use Rattle.tree_print.specs.Brackets.{level_of, bracketed, placed, ann_tokens, expr_tokens, exprs_tokens, more_exprs_tokens}
use Rattle.tree_print.specs.Placeless.{nowhere, bare_word, bare_expr, bare_exprs}
use Rattle.tree_print.proofs.Splits.{Reads, stop, next, reads, Cut, parts, cut, Mid, sides, mid}
use Rattle.tree_print.proofs.TypesBack.{type_weight, TypeFound, ann_back}
use Rattle.tree_print.proofs.Weights.{bumped, weight, exprs_weight, weight_at, bare_light, no_heavier, args_no_heavier}

-- an expression of this form with these tokens, the same but for places
pub record Found (L : Form) (us : List Spelled) (w : ℕ) (e : Expr) : Type 0 where
  pub tree : Expr
  pub derives : Derives L us w tree
  pub same : bare_expr tree ≡ bare_expr e

-- each list of spelled tokens that has these is this expression, of the form of the level; every expression is of level 0
abbrev pub Back : ℕ → List Printed → ℕ → Expr → Type 0
Back l ts w e = (us : List Spelled) → Reads ts us → Found (form l) us w e

pub record ArgsFound (us : List Spelled) (w : ℕ) (es : Exprs) : Type 0 where
  pub trees : List Expr
  pub derives : DerivesArgs us w trees
  pub same : bare_exprs (exprs trees) ≡ bare_exprs es

-- nothing, or a comma and arguments
data Tail : List Spelled → ℕ → List Expr → Type 0 where
  end : Tail [] 0 []
  behind : (p : Place) (us : List Spelled) (w : ℕ) (es : List Expr) → DerivesArgs us w es → Tail (tok what.Comma p ∷ us) w es

record TailFound (us : List Spelled) (w : ℕ) (es : Exprs) : Type 0 where
  pub trees : List Expr
  pub tail : Tail us w trees
  pub same : bare_exprs (exprs trees) ≡ bare_exprs es

args_with : {ts us : List Spelled} {v w : ℕ} {e : Expr} {es : List Expr} → Derives g.whole ts v e → Tail us w es → DerivesArgs (ts ++ us) (max v w) (e ∷ es)
args_with {ts = ts} {v = v} {e = e} d end =
    subst (λ z. DerivesArgs z (max v 0) (e ∷ [])) (sym (append-nil ts)) (subst (λ n. DerivesArgs ts n (e ∷ [])) (sym (max-zero v)) (g.last_arg ts v e d))
args_with d (behind p us w es a) = g.more_args p _ us _ w _ es d a

-- ---- brackets

in_brackets : (p : Place) (ts : List Printed) (l w : ℕ) (e : Expr) (us : List Spelled) → l ≤ 9 → Back 0 ts w e → Mid ts (Plain what.Close) [] us
    → Found (form l) (tok what.Open p ∷ us) (suc w) e
in_brackets p ts l w e us h f (sides q ls rs x stop) =
    let c = f ls x in
    record { tree = c.tree; derives = down 9 l (omega arith) _ _ _ (g.bracket p q ls w c.tree c.derives); same = c.same }

loosened : (m n : ℕ) {us : List Spelled} {w : ℕ} {e : Expr} → n ≤ m → Found (form m) us w e → Found (form n) us w e
loosened m n h c = record { tree = c.tree; derives = down m n (omega arith) _ _ _ c.derives; same = c.same }

bracketed_back : (q : Bool) (l n : ℕ) (e : Expr) (ts : List Printed) → l ≤ 9 → (q ≡ false → l ≤ n) → Back n ts (weight e) e → Back l (bracketed q ts) (bumped q (weight e)) e
bracketed_back false l n e ts h k f us r = loosened n l (k refl) (f us r)
bracketed_back true l n e ts h k f us (next m p ms vs r) = in_brackets p ts l (weight e) e vs h (λ vs x. loosened n 0 (omega arith) (f vs x)) (mid ts (Plain what.Close) [] vs r)

-- an expression where a level is wanted
placed_back : (l : ℕ) (e : Expr) → l ≤ 9 → Back (level_of e) (expr_tokens e) (weight e) e → Back l (placed l e (expr_tokens e)) (weight_at l e) e
placed_back l e h f = bracketed_back (nat_lt (level_of e) l) l (level_of e) e (expr_tokens e) h (λ q. ltb-false (level_of e) l q) f

-- ---- each form from its parts

binary_derives : (o : Op) (p : Place) (ts us : List Spelled) (w v : ℕ) (a b : Expr) → Derives (form (op_left o)) ts w a
    → Derives (form (op_right o)) us v b → Derives (form (op_whole o)) (ts ++ (tok (what.Operator o) p ∷ us)) (suc (max w v)) (tree.binary o p a b)
binary_derives op.Add p ts us w v a b d f = g.add op.Add p ts us w v a b refl d f
binary_derives op.Sub p ts us w v a b d f = g.add op.Sub p ts us w v a b refl d f
binary_derives op.Mul p ts us w v a b d f = g.multiply op.Mul p ts us w v a b refl d f
binary_derives op.Div p ts us w v a b d f = g.multiply op.Div p ts us w v a b refl d f
binary_derives op.Mod p ts us w v a b d f = g.multiply op.Mod p ts us w v a b refl d f
binary_derives op.Lt p ts us w v a b d f = g.compare op.Lt p ts us w v a b refl d f
binary_derives op.Le p ts us w v a b d f = g.compare op.Le p ts us w v a b refl d f
binary_derives op.Gt p ts us w v a b d f = g.compare op.Gt p ts us w v a b refl d f
binary_derives op.Ge p ts us w v a b d f = g.compare op.Ge p ts us w v a b refl d f
binary_derives op.Eq p ts us w v a b d f = g.compare op.Eq p ts us w v a b refl d f
binary_derives op.Ne p ts us w v a b d f = g.compare op.Ne p ts us w v a b refl d f

left_small : (o : Op) → op_left o ≤ 9
left_small op.Add = omega arith
left_small op.Sub = omega arith
left_small op.Mul = omega arith
left_small op.Div = omega arith
left_small op.Mod = omega arith
left_small op.Lt = omega arith
left_small op.Le = omega arith
left_small op.Gt = omega arith
left_small op.Ge = omega arith
left_small op.Eq = omega arith
left_small op.Ne = omega arith

right_small : (o : Op) → op_right o ≤ 9
right_small op.Add = omega arith
right_small op.Sub = omega arith
right_small op.Mul = omega arith
right_small op.Div = omega arith
right_small op.Mod = omega arith
right_small op.Lt = omega arith
right_small op.Le = omega arith
right_small op.Gt = omega arith
right_small op.Ge = omega arith
right_small op.Eq = omega arith
right_small op.Ne = omega arith

binary_back : (o : Op) (q : Place) (a b : Expr) (xs ys : List Printed) (w v : ℕ) (us : List Spelled) → Back (op_left o) xs w a → Back (op_right o) ys v b
    → Mid xs (Plain (what.Operator o)) ys us → Found (form (op_whole o)) us (suc (max w v)) (tree.binary o q a b)
binary_back o q a b xs ys w v us f h (sides p ls rs x y) =
    let c = f ls x in
    let d = h rs y in
    record {
      tree = tree.binary o p c.tree d.tree;
      derives = binary_derives o p ls rs w v c.tree d.tree c.derives d.derives;
      same = λ i. tree.binary o nowhere (c.same i) (d.same i);
    }

both_back : (a b : Expr) (xs ys : List Printed) (w v : ℕ) (us : List Spelled) → Back 2 xs w a → Back 3 ys v b → Mid xs (Plain what.And) ys us
    → Found g.and_expr us (suc (max w v)) (tree.both a b)
both_back a b xs ys w v us f h (sides p ls rs x y) =
    let c = f ls x in
    let d = h rs y in
    record { tree = tree.both c.tree d.tree; derives = g.and p ls rs w v c.tree d.tree c.derives d.derives; same = λ i. tree.both (c.same i) (d.same i) }

either_back : (a b : Expr) (xs ys : List Printed) (w v : ℕ) (us : List Spelled) → Back 1 xs w a → Back 2 ys v b → Mid xs (Plain what.Or) ys us
    → Found g.whole us (suc (max w v)) (tree.either a b)
either_back a b xs ys w v us f h (sides p ls rs x y) =
    let c = f ls x in
    let d = h rs y in
    record { tree = tree.either c.tree d.tree; derives = g.or p ls rs w v c.tree d.tree c.derives d.derives; same = λ i. tree.either (c.same i) (d.same i) }

neg_back : (p q : Place) (a : Expr) (w : ℕ) (us : List Spelled) → Found g.factor us w a → Found g.factor (tok (what.Operator op.Sub) p ∷ us) (suc w) (tree.neg q a)
neg_back p q a w us c = record { tree = tree.neg p c.tree; derives = g.negate p us w c.tree c.derives; same = λ i. tree.neg nowhere (c.same i) }

negation_back : (p q : Place) (a : Expr) (w : ℕ) (us : List Spelled) → Found g.not_expr us w a → Found g.not_expr (tok what.Not p ∷ us) (suc w) (tree.negation q a)
negation_back p q a w us c = record { tree = tree.negation p c.tree; derives = g.not p us w c.tree c.derives; same = λ i. tree.negation nowhere (c.same i) }

read_back : (a : Expr) (n : Word) (xs : List Printed) (w : ℕ) (us : List Spelled) → Back 8 xs w a → Mid xs (Plain what.Dot) (b.name n ∷ []) us
    → Found g.postfix us (suc w) (tree.read a n)
read_back a n xs w us f (sides p ls rs x (next m q ms vs stop)) =
    let c = f ls x in
    record {
      tree = tree.read c.tree (word n.text q);
      derives = g.attribute p q n.text ls w c.tree c.derives;
      same = λ i. tree.read (c.same i) (bare_word n);
    }

-- a call whose function was read
arguments_back : (o p : Place) (a : Expr) (es : Exprs) (ls us : List Spelled) (w : ℕ) → Found g.postfix ls w a
    → ((vs : List Spelled) → Reads (exprs_tokens es) vs → ArgsFound vs (exprs_weight es) es) → Mid (exprs_tokens es) (Plain what.Close) [] us
    → Found g.postfix (ls ++ (tok what.Open p ∷ us)) (suc (max w (exprs_weight es))) (tree.call o a es)
arguments_back o p a es ls us w c f (sides q vs ws x stop) =
    let d = f vs x in
    record {
      tree = tree.call p c.tree (exprs d.trees);
      derives = g.call p q ls vs w _ c.tree d.trees c.derives d.derives;
      same = λ i. tree.call nowhere (c.same i) (d.same i);
    }

call_back : (o : Place) (a : Expr) (es : Exprs) (xs : List Printed) (w : ℕ) (us : List Spelled) → Back 8 xs w a
    → ((vs : List Spelled) → Reads (exprs_tokens es) vs → ArgsFound vs (exprs_weight es) es) → Mid xs (Plain what.Open) (exprs_tokens es ++ Plain what.Close ∷ []) us
    → Found g.postfix us (suc (max w (exprs_weight es))) (tree.call o a es)
call_back o a es xs w us f h (sides p ls rs x y) = arguments_back o p a es ls rs w (f ls x) h (mid (exprs_tokens es) (Plain what.Close) [] rs y)

-- a cast whose type was read
value_back : (o p q r : Place) (t : Ann) (a : Expr) (ls us : List Spelled) (v w : ℕ) → TypeFound ls v t → Back 0 (expr_tokens a) w a
    → Mid (expr_tokens a) (Plain what.Close) [] us
    → Found g.atom (tok what.Cast p ∷ tok what.Open q ∷ (ls ++ (tok what.Comma r ∷ us))) (suc (max v w)) (tree.cast o t a)
value_back o p q r t a ls us v w c f (sides s vs ws x stop) =
    let d = f vs x in
    record {
      tree = tree.cast p c.tree d.tree;
      derives = g.cast p q r s ls vs v w c.tree d.tree c.derives d.derives;
      same = λ i. tree.cast nowhere (c.same i) (d.same i);
    }

cast_back : (o p q : Place) (t : Ann) (a : Expr) (w : ℕ) (us : List Spelled) → Back 0 (expr_tokens a) w a
    → Mid (ann_tokens t) (Plain what.Comma) (expr_tokens a ++ Plain what.Close ∷ []) us
    → Found g.atom (tok what.Cast p ∷ tok what.Open q ∷ us) (suc (max (type_weight t) w)) (tree.cast o t a)
cast_back o p q t a w us f (sides r ls rs x y) = value_back o p q r t a ls rs (type_weight t) w (ann_back t ls x) f (mid (expr_tokens a) (Plain what.Close) [] rs y)

first_back : (e : Expr) (es : Exprs) (us : List Spelled) → Back 0 (expr_tokens e) (weight e) e
    → ((vs : List Spelled) → Reads (more_exprs_tokens es) vs → TailFound vs (exprs_weight es) es) → Cut (expr_tokens e) (more_exprs_tokens es) us
    → ArgsFound us (max (weight e) (exprs_weight es)) (more_exprs e es)
first_back e es us f h (parts ls rs x y) =
    let c = f ls x in
    let d = h rs y in
    record { trees = c.tree ∷ d.trees; derives = args_with c.derives d.tail; same = λ i. more_exprs (c.same i) (d.same i) }

tail_back : (p : Place) (e : Expr) (es : Exprs) (us : List Spelled) → ArgsFound us (exprs_weight (more_exprs e es)) (more_exprs e es)
    → TailFound (tok what.Comma p ∷ us) (exprs_weight (more_exprs e es)) (more_exprs e es)
tail_back p e es us c = record { trees = c.trees; tail = behind p us _ c.trees c.derives; same = c.same }

-- ---- by the tree

anywhere : (e : Expr) → Back (level_of e) (expr_tokens e) (weight e) e → Back 0 (expr_tokens e) (weight e) e
anywhere e f us r = loosened (level_of e) 0 (omega arith) (f us r)

mutual
  pub own_back : (e : Expr) → Back (level_of e) (expr_tokens e) (weight e) e
  own_back (tree.local n) us (next m p ms vs stop) = record { tree = tree.local (word n.text p); derives = g.name p n.text; same = refl }
  own_back (tree.number o n) us (next m p ms vs stop) = record { tree = tree.number p n; derives = g.number p n; same = refl }
  own_back (tree.text o t) us (next m p ms vs stop) = record { tree = tree.text p t; derives = g.text p t; same = refl }
  own_back (tree.truth o b) us (next m p ms vs stop) = record { tree = tree.truth p b; derives = g.truth p b; same = refl }
  own_back (tree.nil o) us (next m p ms vs stop) = record { tree = tree.nil p; derives = g.none p; same = refl }
  own_back (tree.neg o a) us (next m p ms vs r) = neg_back p o a _ vs (placed_back 7 a (omega arith) (own_back a) vs r)
  own_back (tree.negation o a) us (next m p ms vs r) = negation_back p o a _ vs (placed_back 3 a (omega arith) (own_back a) vs r)
  own_back (tree.binary o p a b) us r =
      binary_back o p a b _ _ _ _ us (placed_back (op_left o) a (left_small o) (own_back a)) (placed_back (op_right o) b (right_small o) (own_back b))
      (mid (placed (op_left o) a (expr_tokens a)) (Plain (what.Operator o)) (placed (op_right o) b (expr_tokens b)) us r)
  own_back (tree.both a b) us r =
      both_back a b _ _ _ _ us (placed_back 2 a (omega arith) (own_back a)) (placed_back 3 b (omega arith) (own_back b))
      (mid (placed 2 a (expr_tokens a)) (Plain what.And) (placed 3 b (expr_tokens b)) us r)
  own_back (tree.either a b) us r =
      either_back a b _ _ _ _ us (placed_back 1 a (omega arith) (own_back a)) (placed_back 2 b (omega arith) (own_back b))
      (mid (placed 1 a (expr_tokens a)) (Plain what.Or) (placed 2 b (expr_tokens b)) us r)
  own_back (tree.read a n) us r =
      read_back a n _ _ us (placed_back 8 a (omega arith) (own_back a)) (mid (placed 8 a (expr_tokens a)) (Plain what.Dot) (b.name n ∷ []) us r)
  own_back (tree.call o a es) us r =
      call_back o a es _ _ us (placed_back 8 a (omega arith) (own_back a)) (all_back es)
      (mid (placed 8 a (expr_tokens a)) (Plain what.Open) (exprs_tokens es ++ Plain what.Close ∷ []) us r)
  own_back (tree.cast o t a) us (next m p ms vs (next n q ns ws r)) =
      cast_back o p q t a _ ws (anywhere a (own_back a)) (mid (ann_tokens t) (Plain what.Comma) (expr_tokens a ++ Plain what.Close ∷ []) ws r)
  own_back (tree.join o n) us (next m p ms vs (next i q is ws (next j r js xs (next k s ks ys stop)))) =
      record { tree = tree.join p (word n.text r); derives = g.join p q r s n.text; same = refl }

  pub all_back : (es : Exprs) (us : List Spelled) → Reads (exprs_tokens es) us → ArgsFound us (exprs_weight es) es
  all_back no_exprs us stop = record { trees = []; derives = g.no_args; same = refl }
  all_back (more_exprs e es) us r = first_back e es us (anywhere e (own_back e)) (more_back es) (cut (expr_tokens e) (more_exprs_tokens es) us r)

  more_back : (es : Exprs) (us : List Spelled) → Reads (more_exprs_tokens es) us → TailFound us (exprs_weight es) es
  more_back no_exprs us stop = record { trees = []; tail = end; same = refl }
  more_back (more_exprs e es) us (next m p ms vs r) =
      tail_back p e es vs (first_back e es vs (anywhere e (own_back e)) (more_back es) (cut (expr_tokens e) (more_exprs_tokens es) vs r))

-- ---- by the whats

-- each list of spelled tokens with the printed whats is the same expression but for places
pub expr_back : (room : ℕ) (ts : List Spelled) (e : Expr) → IsExpr room ts e → (us : List Spelled) → whats us ≡ map what_of (expr_tokens e)
    → (f : Expr) × IsExpr room us f × (bare_expr f ≡ bare_expr e)
expr_back room ts e (w, d, h) us q =
    let c = anywhere e (own_back e) us (reads (expr_tokens e) us q) in
    let k : weight e ≤ w = bare_light e w (no_heavier d) in
    (c.tree, (weight e, c.derives, omega arith), c.same)

-- likewise where attributes and calls stand
pub postfix_back : (ts : List Spelled) (w : ℕ) (e : Expr) → Derives g.postfix ts w e → (us : List Spelled) → whats us ≡ map what_of (placed 8 e (expr_tokens e))
    → (f : Expr) × (v : ℕ) × Derives g.postfix us v f × (v ≤ w) × (bare_expr f ≡ bare_expr e)
postfix_back ts w e d us q =
    let c = placed_back 8 e (omega arith) (own_back e) us (reads (placed 8 e (expr_tokens e)) us q) in
    (c.tree, weight_at 8 e, c.derives, no_heavier d, c.same)

-- likewise for arguments
pub args_back : (ts : List Spelled) (w : ℕ) (es : List Expr) → DerivesArgs ts w es → (us : List Spelled) → whats us ≡ map what_of (exprs_tokens (exprs es))
    → (fs : List Expr) × (v : ℕ) × DerivesArgs us v fs × (v ≤ w) × (bare_exprs (exprs fs) ≡ bare_exprs (exprs es))
args_back ts w es d us q =
    let c = all_back (exprs es) us (reads (exprs_tokens (exprs es)) us q) in
    (c.trees, exprs_weight (exprs es), c.derives, args_no_heavier d, c.same)
