-- The two machines read the grammar: what is derived is read, what is read is derived, and each run can be completed.
use Rattle.std.proofs.Common.{ℕ, zero, suc, ◌≤◌, ◌≡◌, max, List, [], ◌∷◌, ◌++◌, Some, arith, refl, ap, sym, ◌∙◌, subst}
use Rattle.mono_syntax.specs.Limits.{greatest_weight}
use Rattle.std.proofs.Math.Nat.{le-max_left, le-max_right}
use Rattle.mono_syntax.specs.Ann.{Ann}
use Rattle.mono_syntax.specs.Expr.{Expr}
use Rattle.spelled_tokens.specs.declared.token.Spelled.{Spelled}
use Rattle.parse_expr.specs.declared.machine.TypeMode.{TypeMode}
use Rattle.parse_expr.specs.declared.machine.TypeMode.TheVariants as type_mode
use Rattle.parse_expr.specs.declared.machine.Mode.{Mode}
use Rattle.parse_expr.specs.declared.machine.Mode.TheVariants as mode
use Rattle.parse_expr.specs.Types.{DerivesType, IsType}
use Rattle.parse_expr.specs.Grammar as g
use Rattle.parse_expr.specs.Grammar.{Form, Derives, IsExpr}
use Rattle.parse_expr.specs.computed.TypeReading.{type_step, type_finish, type_tree, IsLightType}
use Rattle.parse_expr.specs.computed.Reading.{held, begin, inner_room, step, finish, IsLight, IsLightMode}
use Rattle.parse_expr.specs.computed.Reading as reading
use Rattle.parse_expr.specs.computed.Goes.{Goes}
use Rattle.parse_expr.proofs.Goes.{one, remains, goes_nil, none_some}
use Rattle.parse_expr.proofs.TypeSound.{type_start_sound, type_goes_sound, type_viable}
use Rattle.parse_expr.proofs.TypeReach.{type_reach}
use Rattle.parse_expr.proofs.Steps.{finish_sound, viable, sound_start, goes_sound}
use Rattle.parse_expr.proofs.Reach.{reach, exactly, settled}
use Rattle.parse_expr.proofs.TypeRuns.{type_start, types_at_zero, type_finish_is, type_complete, type_sound_light}
use Rattle.parse_expr.proofs.ExprRuns.{start, have_postfix, exprs_at_zero, sound_light}

-- ---- types

-- a type is read to its end
pub type_goes : (r : ℕ) (ts : List Spelled) (a : Ann) → IsType r ts a → (w : ℕ) × Goes (type_step r) (type_mode.Want []) ts (type_mode.Have [] a w)
type_goes r ts a x = (x.0, type_reach r x.1 [] (omega (arith, x.2)))

-- what is read is a type
pub type_sound : (r : ℕ) (ts : List Spelled) (a : Ann) (w : ℕ) → Goes (type_step r) (type_mode.Want []) ts (type_mode.Have [] a w) → IsType r ts a
type_sound r ts a w x = type_finish_is r ts (type_mode.Have [] a w) (record { ann = a; weight = w }) x refl

-- each run can go on to a type
pub type_alive : (r : ℕ) → 1 ≤ r → (ts : List Spelled) (m : TypeMode) → Goes (type_step r) (type_mode.Want []) ts m
    → (more : List Spelled) × (a : Ann) × (w : ℕ) × Goes (type_step r) m more (type_mode.Have [] a w)
type_alive r h ts m x =
    let c = type_viable (type_goes_sound (type_start_sound r h) x) in
    let l = c.light in
    let a = type_reach r c.derives [] (omega arith) in
    (c.more, c.ann, c.weight, remains (type_step r) ts c.more type_start m _ x a)

-- the weights in the states of a run are small
pub type_light : (r : ℕ) (ts : List Spelled) (m : TypeMode) → r ≤ greatest_weight → Goes (type_step r) (type_mode.Want []) ts m → IsLightType m
type_light zero ts m h a = subst IsLightType (sym (types_at_zero ts m a).1) tt
type_light (suc r) ts m h a = type_sound_light h (type_goes_sound (type_start_sound (suc r) (omega arith)) a)

-- tokens are at most one type
pub one_type : (ts : List Spelled) (v w : ℕ) (a b : Ann) → DerivesType ts v a → DerivesType ts w b → a ≡ b
one_type ts v w a b d f =
    one (type_step (max v w)) (λ m. type_tree (type_finish m)) type_start (IsType (max v w)) (type_complete (max v w)) ts a b (v, d, le-max_left v w) (w, f, le-max_right v w)

-- ---- expressions

-- an expression is read to its end
pub expr_goes : (r : ℕ) (ts : List Spelled) (e : Expr) → IsExpr r ts e → (m : Mode) × Goes (step r) (mode.Want []) ts m × (finish m ≡ Some e)
expr_goes r ts e x =
    let a = reach r x.1 [] (omega arith) (omega (arith, x.2)) in
    (_, a.goes, ap reading.whole (settled 1 (omega arith) a.closes))

-- where it stops with an expression, this is one
pub expr_sound : (r : ℕ) → 1 ≤ r → (ts : List Spelled) (m : Mode) (e : Expr) → Goes (step r) (mode.Want []) ts m → finish m ≡ Some e → IsExpr r ts e
expr_sound r h ts m e a i = finish_sound (goes_sound (sound_start r h) a) e i

-- each run can go on to an expression
pub expr_alive : (r : ℕ) → 1 ≤ r → (ts : List Spelled) (m : Mode) → Goes (step r) (mode.Want []) ts m
    → (more : List Spelled) × (n : Mode) × (e : Expr) × Goes (step r) m more n × (finish n ≡ Some e)
expr_alive r h ts m x =
    let b = viable (goes_sound (sound_start r h) x) in
    let g = expr_goes r (ts ++ b.0) b.1 b.2 in
    (b.0, g.0, b.1, remains (step r) ts b.0 start m g.0 x g.1, g.2)

-- a postfix is read to itself
pub postfix_goes : (r : ℕ) (ts : List Spelled) (w : ℕ) (e : Expr) → Derives g.postfix ts w e → w ≤ r → Goes (step r) (mode.Want []) ts (mode.Have (held [] e w))
postfix_goes r ts w e d h = exactly (omega arith) (reach r d [] (omega arith) (omega arith))

-- what is read alone and bare is a postfix
pub postfix_sound : (r : ℕ) → 1 ≤ r → (ts : List Spelled) (w : ℕ) (e : Expr) → Goes (step r) (mode.Want []) ts (mode.Have (held [] e w)) → Derives g.postfix ts w e × (w ≤ r)
postfix_sound r h ts w e a = have_postfix e w (goes_sound (sound_start r h) a) refl

-- an expression has a first token
pub expr_some : (r : ℕ) (ts : List Spelled) (e : Expr) → IsExpr r ts e → (t : Spelled) × (us : List Spelled) × (ts ≡ t ∷ us)
expr_some r [] e x = let y = expr_goes r [] e x in none_some _ (ap finish (goes_nil (step r) y.1) ∙ y.2)
expr_some r (t ∷ us) e x = (t, us, refl)

-- the weights in the states of a run are small
pub expr_light : (r : ℕ) (ts : List Spelled) (m : Mode) → r ≤ greatest_weight → Goes (step r) (mode.Want []) ts m → IsLightMode m
expr_light zero ts m h a = subst IsLightMode (sym (exprs_at_zero ts m a).1) (tt, omega arith)
expr_light (suc r) ts m h a = sound_light h (goes_sound (sound_start (suc r) (omega arith)) a)

-- tokens are at most one expression
pub one_expr : (ts : List Spelled) (v w : ℕ) (a b : Expr) → Derives g.whole ts v a → Derives g.whole ts w b → a ≡ b
one_expr ts v w a b d f = one (step (max v w)) finish start (IsExpr (max v w)) (expr_goes (max v w)) ts a b (v, d, le-max_left v w) (w, f, le-max_right v w)
