-- What the code rests on besides.
use Rattle.std.proofs.Common.{ℕ, ◌≤◌, ◌≡◌, cond, List, [], ◌∷◌, Option, Some, None, nat_le, arith, refl, ap, sym, ◌∙◌}
use Rattle.std.proofs.lemmas.Bool.{leb-true}
use Rattle.mono_syntax.specs.Expr.{Expr}
use Rattle.parse_expr.specs.declared.machine.Frame.{Frame}
use Rattle.parse_expr.specs.declared.machine.Held.{Held}
use Rattle.parse_expr.specs.declared.machine.Mode.TheVariants as mode
use Rattle.parse_expr.specs.computed.Reading.{link_left, level, join, weigh, held, settle, cast_comma, cast_type, is_comma, cast_closed, cast_next, next_of, finish}
use Rattle.parse_expr.proofs.Steps.{split, left_some}
use Rattle.parse_expr.specs.declared.machine.Link.{Link}
use Rattle.mono_syntax.specs.declared.leaf.Place.{Place}
use Rattle.spelled_tokens.specs.declared.token.What.{What}
use Rattle.spelled_tokens.specs.declared.token.What.TheVariants as what
use Rattle.parse_expr.specs.declared.machine.TypeMode.{TypeMode}
use Rattle.parse_expr.specs.declared.machine.Weighed.{Weighed}
use Rattle.parse_expr.specs.computed.TypeReading.{type_next}
use Rattle.parse_expr.proofs.Reach.{finish_closes}

-- what a token closes would be closed at the end too
pub finish_settled : (l : ℕ) (k : List Frame) (e : Expr) (w : ℕ) → 1 ≤ l → finish (mode.Have (settle l k e w)) ≡ finish (mode.Have (held k e w))
finish_settled l [] e w h = refl
finish_settled l (f ∷ k) e w h =
    split (nat_le l (level f)) (λ b. finish (mode.Have (cond b (settle l k (join f e) (weigh f w)) (held (f ∷ k) e w))) ≡ finish (mode.Have (held (f ∷ k) e w)))
    (λ y. let y : l ≤ level f = leb-true l (level f) y in finish_settled l k (join f e) (weigh f w) h ∙ sym (finish_closes f k e w (omega arith)))
    (λ _. refl)

pub finish_linked : (l : Link) (h : Held) → finish (mode.Have h) ≡ finish (mode.Have (settle (link_left l) h.stack h.tree h.weight))
finish_linked l h = sym (finish_settled (link_left l) h.stack h.tree h.weight (left_some l))

comma_closes : (p : Place) (k : List Frame) (o : Option Weighed) (w : What) → cast_closed p k o (is_comma w) ≡ cast_comma p k o w
comma_closes p k (Some a) what.Comma = refl
comma_closes p k (Some a) w = refl
comma_closes p k None w = refl

-- what a token does to the type of a cast, by what it does to the type
pub cast_stepped : (p : Place) (k : List Frame) (w : What) (o : Option TypeMode) (f : Option Weighed) → cast_next p k (is_comma w) (type_next o f) ≡ next_of (cast_type p k f w o) None
cast_stepped p k w (Some m) f = refl
cast_stepped p k w None f = ap (λ z. next_of z None) (comma_closes p k f w)
