-- What the code makes of a step of the readers of types and expressions.
use Rattle.std.proofs.Common.{◌≡◌, List, Option, Some, None, Result, IfOk, refl, sym, ◌∙◌, ap, subst}
use Rattle.mono_syntax.specs.declared.leaf.Word.{Word}
use Rattle.mono_syntax.specs.declared.tree.FieldDef.{FieldDef}
use Rattle.mono_syntax.specs.declared.tree.Param.{Param}
use Rattle.mono_syntax.specs.Expr.{Expr}
use Rattle.parse_expr.specs.declared.machine.Mode.{Mode}
use Rattle.parse_expr.specs.declared.machine.Next.TheVariants as next
use Rattle.parse_expr.specs.declared.machine.TypeMode.{TypeMode}
use Rattle.parse_expr.specs.declared.machine.TypeNext.TheVariants as type_next
use Rattle.parse_expr.specs.declared.machine.Weighed.{Weighed}
use Rattle.parse_expr.specs.computed.Reading.{next_of}
use Rattle.parse_expr.specs.computed.TypeReading as reading
use Rattle.parse_expr.proofs.Loops.{go_is, stop_is, type_go_is, type_stop_is}
use Rattle.parse_script.specs.declared.stage.Around.{Around}
use Rattle.mono_syntax.specs.declared.tree.Item.{Item}
use Rattle.parse_script.specs.declared.stage.ClassStage.{ClassStage}
use Rattle.parse_script.specs.declared.stage.ClassStage.TheVariants as class_stage
use Rattle.parse_script.specs.declared.stage.DefStage.{DefStage}
use Rattle.parse_script.specs.declared.stage.Listed.{Listed}
use Rattle.parse_script.specs.declared.stage.ClassTurn.TheVariants as class_go
use Rattle.parse_script.specs.declared.stage.DefStage.TheVariants as def_stage
use Rattle.parse_script.specs.declared.stage.DefTurn.TheVariants as def_go
use Rattle.parse_script.specs.declared.stage.Ending.{Ending}
use Rattle.parse_script.specs.declared.stage.Stage.TheVariants as stage
use Rattle.parse_script.specs.declared.stage.Turn.TheVariants as turn
use Rattle.parse_script.specs.declared.stage.Use.{Use}
use Rattle.parse_script.specs.computed.ClassReading.{field_end, class_type, class_turn}
use Rattle.parse_script.specs.computed.DefReading.{param_end, def_type, result_end, def_result, def_turn}
use Rattle.parse_script.specs.computed.Reading.{behind_found, inside_next, found_argument, argument_next, plain_found, plain_next, typed_end, typed_next, class_stage_of, class_next, def_stage_of, def_next, turn_of}

pub if_at : {A E : Type 0} (r : Result A E) (x y : A) → x ≡ y → IfOk r (λ n. n ≡ x) → IfOk r (λ n. n ≡ y)
if_at r x y e h = subst (λ z. IfOk r (λ n. n ≡ z)) e h

pub class_went : (w : Word) (fs : List FieldDef) (x : Word) (n : Ending) (o : Option TypeMode) (f : Option Weighed) (m : TypeMode) → type_next.Go m ≡ reading.type_next o f
    → class_go.Go (class_stage.Type w fs x m) ≡ class_turn (class_type w fs x f n o)
class_went w fs x n o f m e = sym (ap (λ (p : Option TypeMode). class_turn (class_type w fs x f n p)) (type_go_is o f m e))

pub class_stopped : (w : Word) (fs : List FieldDef) (x : Word) (n k : Ending) (o : Option TypeMode) (f g : Option Weighed) → k ≡ n → type_next.Stop g ≡ reading.type_next o f
    → class_turn (field_end w fs x g k) ≡ class_turn (class_type w fs x f n o)
class_stopped w fs x n k o f g i e =
    let s = type_stop_is o f g e in
    ap (λ (z : Option Weighed). class_turn (field_end w fs x z k)) s.1 ∙ ap (λ (l : Ending). class_turn (field_end w fs x f l)) i ∙ sym (ap (λ (p : Option TypeMode). class_turn (class_type w fs x f n p)) s.0)

pub param_went : (w : Word) (xs : List Param) (x : Word) (n : Ending) (o : Option TypeMode) (f : Option Weighed) (m : TypeMode) → type_next.Go m ≡ reading.type_next o f
    → def_go.Go (def_stage.Type w xs x m) ≡ def_turn (def_type w xs x f n o)
param_went w xs x n o f m e = sym (ap (λ (p : Option TypeMode). def_turn (def_type w xs x f n p)) (type_go_is o f m e))

pub param_stopped : (w : Word) (xs : List Param) (x : Word) (n k : Ending) (o : Option TypeMode) (f g : Option Weighed) → k ≡ n → type_next.Stop g ≡ reading.type_next o f
    → def_turn (param_end w xs x g k) ≡ def_turn (def_type w xs x f n o)
param_stopped w xs x n k o f g i e =
    let s = type_stop_is o f g e in
    ap (λ (z : Option Weighed). def_turn (param_end w xs x z k)) s.1 ∙ ap (λ (l : Ending). def_turn (param_end w xs x f l)) i ∙ sym (ap (λ (p : Option TypeMode). def_turn (def_type w xs x f n p)) s.0)

pub result_went : (w : Word) (xs : List Param) (n : Ending) (o : Option TypeMode) (f : Option Weighed) (m : TypeMode) → type_next.Go m ≡ reading.type_next o f
    → def_go.Go (def_stage.Result w xs m) ≡ def_turn (def_result w xs f n o)
result_went w xs n o f m e = sym (ap (λ (p : Option TypeMode). def_turn (def_result w xs f n p)) (type_go_is o f m e))

pub result_stopped : (w : Word) (xs : List Param) (n k : Ending) (o : Option TypeMode) (f g : Option Weighed) → k ≡ n → type_next.Stop g ≡ reading.type_next o f
    → def_turn (result_end w xs g k) ≡ def_turn (def_result w xs f n o)
result_stopped w xs n k o f g i e =
    let s = type_stop_is o f g e in
    ap (λ (z : Option Weighed). def_turn (result_end w xs z k)) s.1 ∙ ap (λ (l : Ending). def_turn (result_end w xs f l)) i ∙ sym (ap (λ (p : Option TypeMode). def_turn (def_result w xs f n p)) s.0)

pub typed_went : (a : Around) (x : Word) (n : Ending) (o : Option TypeMode) (f : Option Weighed) (m : TypeMode) → type_next.Go m ≡ reading.type_next o f
    → turn.Go (stage.Typed a x m) ≡ turn_of (typed_next a x f n o)
typed_went a x n o f m e = sym (ap (λ (p : Option TypeMode). turn_of (typed_next a x f n p)) (type_go_is o f m e))

pub typed_stopped : (a : Around) (x : Word) (n k : Ending) (o : Option TypeMode) (f g : Option Weighed) → k ≡ n → type_next.Stop g ≡ reading.type_next o f
    → turn_of (typed_end a x g k) ≡ turn_of (typed_next a x f n o)
typed_stopped a x n k o f g i e =
    let s = type_stop_is o f g e in
    ap (λ (z : Option Weighed). turn_of (typed_end a x z k)) s.1 ∙ ap (λ (l : Ending). turn_of (typed_end a x f l)) i ∙ sym (ap (λ (p : Option TypeMode). turn_of (typed_next a x f n p)) s.0)

pub plain_went : (a : Around) (n : Ending) (o : Option Mode) (f : Option Expr) (m : Mode) → next.Go m ≡ next_of o f → turn.Go (stage.Plain a m) ≡ turn_of (plain_next a f n o)
plain_went a n o f m e = sym (ap (λ (p : Option Mode). turn_of (plain_next a f n p)) (go_is o f m e))

pub plain_stopped : (a : Around) (n k : Ending) (o : Option Mode) (f g : Option Expr) → k ≡ n → next.Stop g ≡ next_of o f → turn_of (plain_found a g k) ≡ turn_of (plain_next a f n o)
plain_stopped a n k o f g i e =
    let s = stop_is o f g e in
    ap (λ (z : Option Expr). turn_of (plain_found a z k)) s.1 ∙ ap (λ (l : Ending). turn_of (plain_found a f l)) i ∙ sym (ap (λ (p : Option Mode). turn_of (plain_next a f n p)) s.0)

pub inside_went : (a : Around) (u : Use) (n : Ending) (o : Option Mode) (f : Option Expr) (m : Mode) → next.Go m ≡ next_of o f → turn.Go (stage.Inside a u m) ≡ turn_of (inside_next a u f n o)
inside_went a u n o f m e = sym (ap (λ (p : Option Mode). turn_of (inside_next a u f n p)) (go_is o f m e))

pub inside_stopped : (a : Around) (u : Use) (n k : Ending) (o : Option Mode) (f g : Option Expr) → k ≡ n → next.Stop g ≡ next_of o f → turn_of (behind_found a u g k) ≡ turn_of (inside_next a u f n o)
inside_stopped a u n k o f g i e =
    let s = stop_is o f g e in
    ap (λ (z : Option Expr). turn_of (behind_found a u z k)) s.1 ∙ ap (λ (l : Ending). turn_of (behind_found a u f l)) i ∙ sym (ap (λ (p : Option Mode). turn_of (inside_next a u f n p)) s.0)

pub argument_went : (a : Around) (l : Listed) (es : List Expr) (n : Ending) (o : Option Mode) (f : Option Expr) (m : Mode) → next.Go m ≡ next_of o f → turn.Go (stage.Argument a l es m) ≡ turn_of (argument_next a l es f n o)
argument_went a l es n o f m e = sym (ap (λ (p : Option Mode). turn_of (argument_next a l es f n p)) (go_is o f m e))

pub argument_stopped : (a : Around) (l : Listed) (es : List Expr) (n k : Ending) (o : Option Mode) (f g : Option Expr) → k ≡ n → next.Stop g ≡ next_of o f
    → turn_of (found_argument a l es g k) ≡ turn_of (argument_next a l es f n o)
argument_stopped a l es n k o f g i e =
    let s = stop_is o f g e in
    ap (λ (z : Option Expr). turn_of (found_argument a l es z k)) s.1 ∙ ap (λ (j : Ending). turn_of (found_argument a l es f j)) i ∙ sym (ap (λ (p : Option Mode). turn_of (argument_next a l es f n p)) s.0)

-- where a class or a function's head goes on, and where it stops
pub class_go_is : (o : Option ClassStage) (m : ClassStage) → class_go.Go m ≡ class_turn o → o ≡ Some m
class_go_is None m e = absurd (apart e)
  where
    apart : class_go.Go m ≡ class_go.Stop → ⊥
    apart e = cc
class_go_is (Some n) m e = ap Some (same (sym e))
  where
    same : class_go.Go n ≡ class_go.Go m → n ≡ m
    same e = cc

pub def_go_is : (o : Option DefStage) (m : DefStage) → def_go.Go m ≡ def_turn o → o ≡ Some m
def_go_is None m e = absurd (apart e)
  where
    apart : def_go.Go m ≡ def_go.Stop → ⊥
    apart e = cc
def_go_is (Some n) m e = ap Some (same (sym e))
  where
    same : def_go.Go n ≡ def_go.Go m → n ≡ m
    same e = cc

def_goes_on : (is : List Item) (m : DefStage) → turn.Go (def_stage_of is m) ≡ turn_of (Some (def_stage_of is m))
def_goes_on is (def_stage.Done h) = refl
def_goes_on is m = refl

class_goes_on : (is : List Item) (m : ClassStage) → turn.Go (class_stage_of is m) ≡ turn_of (Some (class_stage_of is m))
class_goes_on is (class_stage.Done c) = refl
class_goes_on is m = refl

pub def_followed : (is : List Item) (o : Option DefStage) (m : DefStage) → def_go.Go m ≡ def_turn o → turn.Go (def_stage_of is m) ≡ turn_of (def_next is o)
def_followed is o m e = def_goes_on is m ∙ sym (ap (λ (p : Option DefStage). turn_of (def_next is p)) (def_go_is o m e))

pub class_followed : (is : List Item) (o : Option ClassStage) (m : ClassStage) → class_go.Go m ≡ class_turn o → turn.Go (class_stage_of is m) ≡ turn_of (class_next is o)
class_followed is o m e = class_goes_on is m ∙ sym (ap (λ (p : Option ClassStage). turn_of (class_next is p)) (class_go_is o m e))
