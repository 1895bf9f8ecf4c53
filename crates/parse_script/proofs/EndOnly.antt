-- At END the reading ends or stops: it never goes on.
use Rattle.std.proofs.Common.{◌≡◌, ◌⊎◌, inl, inr, ℕ, suc, Bool, true, false, nat_lt, List, [], ◌∷◌, Option, Some, None, refl, sym, ◌∙◌, ap, subst}
use Rattle.mono_syntax.specs.declared.leaf.Place.{Place}
use Rattle.mono_syntax.specs.declared.leaf.Word.{Word}
use Rattle.mono_syntax.specs.declared.tree.Item.{Item}
use Rattle.mono_syntax.specs.Expr as expr
use Rattle.mono_syntax.specs.Expr.{Expr}
use Rattle.mono_syntax.specs.Stmt as stmt
use Rattle.mono_syntax.specs.StmtView.{branches}
use Rattle.spelled_tokens.specs.declared.token.Mark.TheVariants as mark
use Rattle.spelled_tokens.specs.declared.token.Spelled.{Spelled}
use Rattle.spelled_tokens.specs.declared.token.What.{What}
use Rattle.spelled_tokens.specs.declared.token.What.TheVariants as what
use Rattle.spelled_tokens.specs.SpelledTokens.{tok, sign}
use Rattle.parse_expr.specs.declared.machine.Frame.{Frame}
use Rattle.parse_expr.specs.declared.machine.Mode.{Mode}
use Rattle.parse_expr.specs.declared.machine.Mode.TheVariants as mode
use Rattle.parse_expr.specs.declared.machine.TypeMode.{TypeMode}
use Rattle.parse_expr.specs.declared.machine.Weighed.{Weighed}
use Rattle.parse_expr.specs.computed.Reading.{step, finish, held}
use Rattle.parse_expr.specs.computed.TypeReading.{type_step, type_finish}
use Rattle.parse_expr.proofs.Loops.{reads_exprs, reads_types}
use Rattle.parse_script.specs.declared.stage.Around.{Around}
use Rattle.parse_script.specs.declared.stage.ClassStage.{ClassStage}
use Rattle.parse_script.specs.declared.stage.ClassStage.TheVariants as class_stage
use Rattle.parse_script.specs.declared.stage.DefStage.{DefStage}
use Rattle.parse_script.specs.declared.stage.DefStage.TheVariants as def_stage
use Rattle.parse_script.specs.declared.stage.Ending.TheVariants as ending
use Rattle.parse_script.specs.declared.stage.Floor.{Floor}
use Rattle.parse_script.specs.declared.stage.Floor.TheVariants as floor
use Rattle.parse_script.specs.declared.stage.Listed.{Listed}
use Rattle.parse_script.specs.declared.stage.Opened.{Opened}
use Rattle.parse_script.specs.declared.stage.Stage.{Stage}
use Rattle.parse_script.specs.declared.stage.Stage.TheVariants as stage
use Rattle.parse_script.specs.declared.stage.Use.{Use}
use Rattle.parse_script.specs.declared.stage.Use.TheVariants as for_
use Rattle.parse_script.specs.computed.ClassReading.{class_type, class_step, field_end}
use Rattle.parse_script.specs.computed.DefReading.{def_type, def_result, def_step, param_end, result_end}
use Rattle.parse_script.specs.computed.Reading.{added, behind_found, behind_used, inside_next, found_argument, argument_next, plain_found, plain_next, plain_on, plain_held, plain_at, attribute_step, typed_end, typed_next, end_at, class_next, def_next, script_step}
use Rattle.mono_syntax.specs.Limits.{greatest_weight}

-- the reading stops, or the script ends
abbrev pub StopsOrEnds : Option Stage → Type 0
StopsOrEnds o = (o ≡ None) ⊎ ((is : List Item) × (o ≡ Some (stage.Ended is)))

expr_ends : (m : Mode) (p : Place) → step greatest_weight m (sign mark.End p) ≡ None
expr_ends m p = (reads_exprs greatest_weight).ends m (sign mark.End p) refl

type_ends : (m : TypeMode) (p : Place) → type_step greatest_weight m (sign mark.End p) ≡ None
type_ends m p = (reads_types greatest_weight).ends m (sign mark.End p) refl

start_ends : (f : Floor) (k : List Opened) → StopsOrEnds (end_at f k)
start_ends (floor.Script is) [] = inr (is, refl)
start_ends (floor.Script is) (o ∷ k) = inl refl
start_ends (floor.Def is h) k = inl refl

held_other : (a : Around) (k : List Frame) (e : Expr) (w : ℕ) (o : Option Stage) → plain_held a k e w ending.Other o ≡ o
held_other a [] e w o = refl
held_other a (f ∷ k) e w o = refl

plain_other : (a : Around) (m : Mode) (o : Option Stage) → plain_at a m ending.Other o ≡ o
plain_other a (mode.Have h) o = held_other a h.stack h.tree h.weight o
plain_other a m o = refl

found_other : (a : Around) (o : Option Expr) → plain_found a o ending.Other ≡ None
found_other a None = refl
found_other a (Some e) = refl

plain_ends : (a : Around) (m : Mode) (p : Place) → plain_at a m ending.Other (plain_on a m (sign mark.End p)) ≡ None
plain_ends a m p = plain_other a m (plain_on a m (sign mark.End p)) ∙ ap (plain_next a (finish m) ending.Other) (expr_ends m p) ∙ found_other a (finish m)

attribute_ends : (b : Bool) (a : Around) (o : Expr) (w : ℕ) (x : Word) (p : Place) → attribute_step b a o w x (sign mark.End p) ≡ None
attribute_ends true a o w x p = plain_ends a (mode.Have (held [] (expr.read o x) (suc w))) p
attribute_ends false a o w x p = refl

used_other : (a : Around) (u : Use) (e : Expr) → behind_used a u e ending.Other ≡ None
used_other a (for_.Assign x t) e = refl
used_other a (for_.Write o x) e = refl
used_other a (for_.Return p) e = refl
used_other a for_.While e = refl
used_other a (for_.Branch bs) e = refl

behind_other : (a : Around) (u : Use) (o : Option Expr) → behind_found a u o ending.Other ≡ None
behind_other a u None = refl
behind_other a u (Some e) = used_other a u e

argument_other : (a : Around) (l : Listed) (es : List Expr) (o : Option Expr) → found_argument a l es o ending.Other ≡ None
argument_other a l es None = refl
argument_other a l es (Some e) = refl

typed_other : (a : Around) (x : Word) (o : Option Weighed) → typed_end a x o ending.Other ≡ None
typed_other a x None = refl
typed_other a x (Some t) = refl

class_ends : (is : List Item) (m : ClassStage) (p : Place) → class_next is (class_step m (sign mark.End p)) ≡ None
class_ends is (class_stage.Type w fs x m) p = ap (λ (o : Option TypeMode). class_next is (class_type w fs x (type_finish m) ending.Other o)) (type_ends m p) ∙ other (type_finish m)
  where
    other : (o : Option Weighed) → class_next is (field_end w fs x o ending.Other) ≡ None
    other None = refl
    other (Some a) = refl
class_ends is m p = refl

def_ends : (is : List Item) (m : DefStage) (p : Place) → def_next is (def_step m (sign mark.End p)) ≡ None
def_ends is (def_stage.Type w xs x m) p = ap (λ (o : Option TypeMode). def_next is (def_type w xs x (type_finish m) ending.Other o)) (type_ends m p) ∙ other (type_finish m)
  where
    other : (o : Option Weighed) → def_next is (param_end w xs x o ending.Other) ≡ None
    other None = refl
    other (Some a) = refl
def_ends is (def_stage.Result w xs m) p = ap (λ (o : Option TypeMode). def_next is (def_result w xs (type_finish m) ending.Other o)) (type_ends m p) ∙ other (type_finish m)
  where
    other : (o : Option Weighed) → def_next is (result_end w xs o ending.Other) ≡ None
    other None = refl
    other (Some a) = refl
def_ends is m p = refl

at_end : (s : Stage) (p : Place) → StopsOrEnds (script_step s (sign mark.End p))
at_end (stage.Start a) p = start_ends a.floor a.opened
at_end (stage.Behind a bs) p = let b = added a (stmt.if_any (branches bs) stmt.no_else) in start_ends b.floor b.opened
at_end (stage.Line a) p = inl refl
at_end (stage.Named a x) p = inl (plain_ends a (mode.Have (held [] (expr.local x) 1)) p)
at_end (stage.Plain a m) p = inl (plain_ends a m p)
at_end (stage.Dotted a o w) p = inl refl
at_end (stage.Target a o w x) p = inl (attribute_ends (nat_lt w greatest_weight) a o w x p)
at_end (stage.Typed a x m) p = inl (ap (typed_next a x (type_finish m) ending.Other) (type_ends m p) ∙ typed_other a x (type_finish m))
at_end (stage.Assigning a x) p = inl refl
at_end (stage.Returning a q) p = inl refl
at_end (stage.Inside a u m) p = inl (ap (inside_next a u (finish m) ending.Other) (expr_ends m p) ∙ behind_other a u (finish m))
at_end (stage.PrintWord a) p = inl refl
at_end (stage.StartWord a x) p = inl refl
at_end (stage.Listing a l es) p = inl refl
at_end (stage.Argument a l es m) p = inl (ap (argument_next a l es (finish m) ending.Other) (expr_ends m p) ∙ argument_other a l es (finish m))
at_end (stage.HeadColon a h) p = inl refl
at_end (stage.HeadLine a h) p = inl refl
at_end (stage.HeadBlock a h) p = inl refl
at_end (stage.Class is m) p = inl (class_ends is m p)
at_end (stage.Def is m) p = inl (def_ends is m p)
at_end (stage.Ended is) p = inl refl

pub end_only : (s : Stage) (t : Spelled) → t.what ≡ what.Mark mark.End → StopsOrEnds (script_step s t)
end_only s t e = subst (λ (w : What). StopsOrEnds (script_step s (tok w t.place))) (sym e) (at_end s t.place)
