-- Tokens have at most one tree, and a stretch that is a tree is read with it.
use Rattle.std.proofs.Common.{ℕ, ◌+◌, ◌≡◌, max, List, take, drop, Result, Ok, Err, IfOk, IfErr, MatchResult, arith, refl, ap, sym, ◌∙◌, subst}
use Rattle.std.proofs.Math.Nat.{le-max_left, le-max_right}
use Rattle.mono_syntax.specs.Ann.{Ann}
use Rattle.mono_syntax.specs.Expr.{Expr}
use Rattle.mono_syntax.specs.declared.refusal.LoadFault.{LoadFault}
use Rattle.mono_syntax.specs.declared.refusal.LoadFault.TheVariants.{Refused, Memory}
use Rattle.py_lexer.specs.declared.token.Token.{Token}
use Rattle.spelled_tokens.specs.declared.token.Spelled.{Spelled}
use Rattle.spelled_tokens.specs.SpelledTokens.{all_spelled}
use Rattle.parse_expr.specs.Types.{IsType, OneType}
use Rattle.parse_expr.specs.Grammar.{IsExpr, OneExpression}
use Rattle.parse_expr.specs.Stretches.{IsStretch, IsRead, IsReadFault}
use Rattle.parse_expr.specs.computed.TypeReading.{type_step}
use Rattle.parse_expr.specs.computed.Reading.{step, finish}
use Rattle.parse_expr.proofs.Goes.{one}
use Rattle.parse_expr.proofs.TypeRuns.{type_start}
use Rattle.parse_expr.proofs.ExprRuns.{start}
use Rattle.parse_expr.proofs.Loops.{type_ended, reads_types, reads_exprs}

pub one_in_room : (r : ℕ) (ts : List Spelled) (a b : Expr) → IsExpr r ts a → IsExpr r ts b → a ≡ b
one_in_room r = one (step r) finish start (IsExpr r) (reads_exprs r).complete

pub one_type_in_room : (r : ℕ) (ts : List Spelled) (a b : Ann) → IsType r ts a → IsType r ts b → a ≡ b
one_type_in_room r = one (type_step r) type_ended type_start (IsType r) (reads_types r).complete

pub one_expression : OneExpression
one_expression ts v w a b d e = one_in_room (max v w) ts a b (v, d, le-max_left v w) (w, e, le-max_right v w)

pub one_type : OneType
one_type ts v w a b d e = one_type_in_room (max v w) ts a b (v, d, le-max_left v w) (w, e, le-max_right v w)

module _ {A : Type 0} (Is : List Spelled → A → Type 0) (only : (ts : List Spelled) (a b : A) → Is ts a → Is ts b → a ≡ b) where
  -- a stretch has one length
  same_length : (tokens : List Spelled) (n m : ℕ) → IsStretch Is tokens n → IsStretch Is tokens m → n ≡ m
  same_length tokens n m x y = omega (arith, x.longest m y.within y.begins, y.longest n x.within x.begins)

  pub complete_answer : (text : List ℕ) (ts : List Token) (from : ℕ) (r : Result (A × ℕ) LoadFault) → IfOk r (λ p. IsRead Is text ts from p.0 p.1)
      → IfErr r (IsReadFault Is text ts from) → (a : A) (end : ℕ) → IsRead Is text ts from a end
      → MatchResult r (λ p. (p.0 ≡ a) × (p.1 ≡ end)) (λ fault. fault ≡ Memory)
  complete_answer text ts from (Ok p) h k a end d =
      let n = same_length (drop from (all_spelled text ts)) h.long d.long h.stretch d.stretch in
      let tree = subst (λ m. Is (take m (drop from (all_spelled text ts))) p.0) n h.tree in (
        only (take d.long (drop from (all_spelled text ts))) p.0 a tree d.tree,
        h.ends ∙ ap (λ m. from + m) n ∙ sym d.ends,
      )
  complete_answer text ts from (Err Memory) h k a end d = refl
  complete_answer text ts from (Err (Refused q)) h k a end d =
      let n = same_length (drop from (all_spelled text ts)) d.long k.long d.stretch k.stretch in
      absurd (k.no_tree a (subst (λ m. Is (take m (drop from (all_spelled text ts))) a) n d.tree))
