-- The stages that are reached.
use Rattle.std.proofs.Common.{◌≡◌, ℕ, suc, ◌+◌, ◌≤◌, ◌<◌, [], Some, refl, ap, arith}
use Rattle.std.proofs.lemmas.Bool.{lt-ltb}
use Rattle.mono_syntax.specs.declared.leaf.Place.{Place}
use Rattle.mono_syntax.specs.declared.leaf.Word.{Word}
use Rattle.mono_syntax.specs.Expr as expr
use Rattle.mono_syntax.specs.Expr.{Expr}
use Rattle.spelled_tokens.specs.declared.token.What.TheVariants as what
use Rattle.spelled_tokens.specs.SpelledTokens.{tok}
use Rattle.parse_expr.specs.declared.machine.Mode.TheVariants as mode
use Rattle.parse_expr.specs.computed.Reading.{step, held, if_some}
use Rattle.parse_script.specs.declared.stage.Stage.{Stage}
use Rattle.parse_script.specs.declared.stage.Stage.TheVariants as stage
use Rattle.mono_syntax.specs.Limits.{greatest_weight}
use Rattle.parse_script.proofs.ClassLive.{LiveClass}
use Rattle.parse_script.proofs.DefLive.{LiveDef}
use Rattle.parse_script.proofs.Steps.{Reached, ReachedType, begins, goes_on}
use Rattle.parse_expr.proofs.Readings.{postfix_sound}

-- what holds of a stage that is reached: the readers inside it are reached too
abbrev pub Live : Stage → Type 0
Live (stage.Plain a m) = Reached m
Live (stage.Dotted a o w) = Reached (mode.Have (held [] o w))
Live (stage.Target a o w x) = w < greatest_weight → Reached (mode.Have (held [] (expr.read o x) (suc w)))
Live (stage.Typed a x m) = ReachedType m
Live (stage.Inside a u m) = Reached m
Live (stage.Argument a l es m) = Reached m
Live (stage.Class before m) = LiveClass m
Live (stage.Def before m) = LiveDef m
Live _ = Unit {0}

-- a receiver weighs at most as much as an expression may
pub held_light : (o : Expr) (w : ℕ) → Reached (mode.Have (held [] o w)) → w ≤ greatest_weight
held_light o w r = (postfix_sound greatest_weight (omega arith) r.0 w o r.1).1

-- a name is read in one step
pub named_goes : (x : Word) → step greatest_weight (mode.Want []) (tok (what.Name x.text) x.place) ≡ Some (mode.Have (held [] (expr.local x) 1))
named_goes x = refl

pub named_reached : (x : Word) → Reached (mode.Have (held [] (expr.local x) 1))
named_reached x = goes_on (mode.Want []) (mode.Have (held [] (expr.local x) 1)) (tok (what.Name x.text) x.place) begins (named_goes x)

-- an attribute is read in two
pub dot_goes : (o : Expr) (w : ℕ) (p : Place) → w < greatest_weight → step greatest_weight (mode.Have (held [] o w)) (tok what.Dot p) ≡ Some (mode.Dotted (held [] o w))
dot_goes o w p h = ap (λ b. if_some b (mode.Dotted (held [] o w))) (lt-ltb (w + 0) greatest_weight (omega arith))

pub field_goes : (o : Expr) (w : ℕ) (x : Word) → step greatest_weight (mode.Dotted (held [] o w)) (tok (what.Name x.text) x.place) ≡ Some (mode.Have (held [] (expr.read o x) (suc w)))
field_goes o w x = refl

pub attribute_reached : (o : Expr) (w : ℕ) (x : Word) (p : Place) → Reached (mode.Have (held [] o w)) → w < greatest_weight → Reached (mode.Have (held [] (expr.read o x) (suc w)))
attribute_reached o w x p r h =
    goes_on (mode.Dotted (held [] o w)) (mode.Have (held [] (expr.read o x) (suc w))) (tok (what.Name x.text) x.place)
    (goes_on (mode.Have (held [] o w)) (mode.Dotted (held [] o w)) (tok what.Dot p) r (dot_goes o w p h)) (field_goes o w x)
