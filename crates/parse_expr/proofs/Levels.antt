-- The forms by number: 1 expr, 2 and, 3 not, 4 comparison, 5 sum, 6 term, 7 factor, 8 postfix, and the atom from 9 on.
use Rattle.std.proofs.Common.{ℕ, zero, suc, ◌+◌, ◌-◌, ◌≤◌, ◌≡◌, max, List, [], ◌∷◌, ◌++◌, arith, refl, subst}
use Rattle.spelled_tokens.specs.declared.token.Spelled.{Spelled}
use Rattle.spelled_tokens.specs.declared.token.What.{What}
use Rattle.spelled_tokens.specs.declared.token.What.TheVariants as what
use Rattle.mono_syntax.specs.declared.leaf.Op.{Op}
use Rattle.mono_syntax.specs.Expr as tree
use Rattle.mono_syntax.specs.Expr.{Expr}
use Rattle.spelled_tokens.specs.SpelledTokens.{tok}
use Rattle.mono_syntax.specs.declared.leaf.Place.{Place}
use Rattle.parse_expr.specs.declared.machine.Link.{Link}
use Rattle.parse_expr.specs.declared.machine.Link.TheVariants as link
use Rattle.parse_expr.specs.declared.machine.Frame.{Frame}
use Rattle.parse_expr.specs.declared.machine.Frame.TheVariants as frame
use Rattle.parse_expr.specs.Grammar as g
use Rattle.parse_expr.specs.Grammar.{Form, Derives, DerivesArgs, Group, comparing, adding, multiplying, group}
use Rattle.parse_expr.specs.Precedence.{group_left, group_whole, group_right}
use Rattle.parse_expr.specs.computed.Reading.{link_left, link_whole, link_right, link_tree, hole_of, hole}

abbrev pub form : ℕ → Form
form zero = g.whole
form (suc zero) = g.whole
form (suc (suc zero)) = g.and_expr
form (suc (suc (suc zero))) = g.not_expr
form (suc (suc (suc (suc zero)))) = g.comparison
form (suc (suc (suc (suc (suc zero))))) = g.sum
form (suc (suc (suc (suc (suc (suc zero)))))) = g.term
form (suc (suc (suc (suc (suc (suc (suc zero))))))) = g.factor
form (suc (suc (suc (suc (suc (suc (suc (suc zero)))))))) = g.postfix
form (suc (suc (suc (suc (suc (suc (suc (suc (suc n))))))))) = g.atom

one_down : (n : ℕ) (ts : List Spelled) (w : ℕ) (e : Expr) → Derives (form (suc n)) ts w e → Derives (form n) ts w e
one_down zero ts w e d = d
one_down (suc zero) ts w e d = g.whole_and ts w e d
one_down (suc (suc zero)) ts w e d = g.and_not ts w e d
one_down (suc (suc (suc zero))) ts w e d = g.not_comparison ts w e d
one_down (suc (suc (suc (suc zero)))) ts w e d = g.comparison_sum ts w e d
one_down (suc (suc (suc (suc (suc zero))))) ts w e d = g.sum_term ts w e d
one_down (suc (suc (suc (suc (suc (suc zero)))))) ts w e d = g.term_factor ts w e d
one_down (suc (suc (suc (suc (suc (suc (suc zero))))))) ts w e d = g.factor_postfix ts w e d
one_down (suc (suc (suc (suc (suc (suc (suc (suc zero)))))))) ts w e d = g.postfix_atom ts w e d
one_down (suc (suc (suc (suc (suc (suc (suc (suc (suc n))))))))) ts w e d = d

down_by : (d n : ℕ) (ts : List Spelled) (w : ℕ) (e : Expr) → Derives (form (d + n)) ts w e → Derives (form n) ts w e
down_by zero n ts w e x = let q : zero + n ≡ n = omega arith in subst (λ m. Derives (form m) ts w e) q x
down_by (suc d) n ts w e x = let q : suc d + n ≡ suc (d + n) = omega arith in down_by d n ts w e (one_down (d + n) ts w e (subst (λ m. Derives (form m) ts w e) q x))

-- what is of a form is of each looser one
pub down : (m n : ℕ) → n ≤ m → (ts : List Spelled) (w : ℕ) (e : Expr) → Derives (form m) ts w e → Derives (form n) ts w e
down m n h ts w e x = let q : m ≡ m - n + n = omega arith in down_by (m - n) n ts w e (subst (λ m. Derives (form m) ts w e) q x)

pub heavy : {L : Form} {ts : List Spelled} {w : ℕ} {e : Expr} → Derives L ts w e → 1 ≤ w
heavy (g.whole_and ts w e d) = heavy d
heavy (g.or p ts us w v a b d f) = omega arith
heavy (g.and_not ts w e d) = heavy d
heavy (g.and p ts us w v a b d f) = omega arith
heavy (g.not_comparison ts w e d) = heavy d
heavy (g.not p ts w e d) = omega arith
heavy (g.comparison_sum ts w e d) = heavy d
heavy (g.compare o p ts us w v a b q d f) = omega arith
heavy (g.sum_term ts w e d) = heavy d
heavy (g.add o p ts us w v a b q d f) = omega arith
heavy (g.term_factor ts w e d) = heavy d
heavy (g.multiply o p ts us w v a b q d f) = omega arith
heavy (g.factor_postfix ts w e d) = heavy d
heavy (g.negate p ts w e d) = omega arith
heavy (g.postfix_atom ts w e d) = heavy d
heavy (g.attribute p q x ts w e d) = omega arith
heavy (g.call p q ts us w v e es d a) = omega arith
heavy (g.name p x) = omega arith
heavy (g.number p n) = omega arith
heavy (g.text p t) = omega arith
heavy (g.truth p b) = omega arith
heavy (g.none p) = omega arith
heavy (g.bracket p q ts w e d) = omega arith
heavy (g.cast p q r s ts us v w a e d f) = omega arith
heavy (g.join p q r s x) = omega arith

-- the token of an operator
abbrev pub link_what : Link → What
link_what link.Or = what.Or
link_what link.And = what.And
link_what (link.Operator o) = what.Operator o

group_derives : (o : Op) (c : Group) → group o ≡ c → (p : Place) (ts us : List Spelled) (v w : ℕ) (a b : Expr) → Derives (form (group_left c)) ts v a → Derives (form (group_right c)) us w b
    → Derives (form (group_whole c)) (ts ++ (tok (what.Operator o) p ∷ us)) (suc (max v w)) (tree.binary o p a b)
group_derives o comparing q p ts us v w a b d f = g.compare o p ts us v w a b q d f
group_derives o adding q p ts us v w a b d f = g.add o p ts us v w a b q d f
group_derives o multiplying q p ts us v w a b d f = g.multiply o p ts us v w a b q d f

pub link_derives : (l : Link) (p : Place) (ts us : List Spelled) (v w : ℕ) (a b : Expr) → Derives (form (link_left l)) ts v a → Derives (form (link_right l)) us w b
    → Derives (form (link_whole l)) (ts ++ (tok (link_what l) p ∷ us)) (suc (max v w)) (link_tree l p a b)
link_derives link.Or p ts us v w a b d f = g.or p ts us v w a b d f
link_derives link.And p ts us v w a b d f = g.and p ts us v w a b d f
link_derives (link.Operator o) p ts us v w a b d f = group_derives o (group o) refl p ts us v w a b d f

group_right_small : (c : Group) → group_right c ≤ 7
group_right_small comparing = omega arith
group_right_small adding = omega arith
group_right_small multiplying = omega arith

hole_of_small : (f : Frame) → hole_of f ≤ 7
hole_of_small (frame.Binary link.Or p a v) = omega arith
hole_of_small (frame.Binary link.And p a v) = omega arith
hole_of_small (frame.Binary (link.Operator o) p a v) = group_right_small (group o)
hole_of_small (frame.Not p) = omega arith
hole_of_small (frame.Neg p) = omega arith
hole_of_small frame.Bracket = omega arith
hole_of_small (frame.Call p c v es) = omega arith
hole_of_small (frame.Cast p a v) = omega arith

pub hole_small : (k : List Frame) → hole k ≤ 7
hole_small [] = omega arith
hole_small (f ∷ k) = hole_of_small f
