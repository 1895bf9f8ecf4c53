-- One step of the reading forwards, at any stage; and a whole run.
use Rattle.std.proofs.Common.{◌≡◌, inl, inr, ℕ, List, [], ◌∷◌, ◌++◌, None, refl, sym, ◌∙◌, ap, subst, append_assoc}
use Rattle.mono_syntax.specs.declared.leaf.Place.{Place}
use Rattle.mono_syntax.specs.declared.leaf.Word.{Word}
use Rattle.mono_syntax.specs.declared.tree.ClassDef.{ClassDef}
use Rattle.mono_syntax.specs.declared.tree.Item.{Item}
use Rattle.mono_syntax.specs.declared.tree.Item.TheVariants as item
use Rattle.mono_syntax.specs.declared.tree.Branch.{Branch}
use Rattle.mono_syntax.specs.Ann.{Ann}
use Rattle.mono_syntax.specs.Expr.{Expr}
use Rattle.mono_syntax.specs.Stmt.{Stmt}
use Rattle.spelled_tokens.specs.declared.token.Mark.TheVariants as mark
use Rattle.spelled_tokens.specs.declared.token.Spelled.{Spelled}
use Rattle.spelled_tokens.specs.declared.token.What.{What}
use Rattle.spelled_tokens.specs.declared.token.What.TheVariants as what
use Rattle.spelled_tokens.specs.SpelledTokens.{tok, sign}
use Rattle.parse_expr.specs.declared.machine.Mode.{Mode}
use Rattle.parse_expr.specs.declared.machine.Mode.TheVariants as mode
use Rattle.parse_expr.specs.declared.machine.TypeMode.{TypeMode}
use Rattle.parse_expr.specs.computed.Goes.{Goes, stay, go}
use Rattle.parse_expr.proofs.Goes.{goes_nil, goes_cons}
use Rattle.parse_script.specs.declared.stage.Around.{Around}
use Rattle.parse_script.specs.declared.stage.ClassStage.{ClassStage}
use Rattle.parse_script.specs.declared.stage.ClassStage.TheVariants as class_stage
use Rattle.parse_script.specs.declared.stage.DefHead.{DefHead}
use Rattle.parse_script.specs.declared.stage.DefStage.{DefStage}
use Rattle.parse_script.specs.declared.stage.DefStage.TheVariants as def_stage
use Rattle.parse_script.specs.declared.stage.Floor.{Floor}
use Rattle.parse_script.specs.declared.stage.Floor.TheVariants as floor
use Rattle.parse_script.specs.declared.stage.Listed.{Listed}
use Rattle.parse_script.specs.declared.stage.Listed.TheVariants as listed
use Rattle.parse_script.specs.declared.stage.Opened.{Opened}
use Rattle.parse_script.specs.declared.stage.Stage.{Stage}
use Rattle.parse_script.specs.declared.stage.Stage.TheVariants as stage
use Rattle.parse_script.specs.declared.stage.Use.{Use}
use Rattle.parse_script.specs.declared.stage.Use.TheVariants as for_
use Rattle.parse_script.specs.computed.ClassReading.{class_step}
use Rattle.parse_script.specs.computed.DefReading.{def_step}
use Rattle.parse_script.specs.computed.Reading.{around, top, entered, line_step, head_colon, head_line, head_block, print_word, start_word, class_stage_of, class_next, def_stage_of, def_next, script_step}
use Rattle.parse_script.proofs.Ahead.{On, unnext, inside_on, argument_on, listing_on}
use Rattle.parse_script.proofs.AheadPlain.{plain_ahead, dotted_ahead, target_ahead, named_ahead, typed_ahead, assigning_ahead, returning_ahead}
use Rattle.parse_script.proofs.AheadStart.{start_on, behind_on}
use Rattle.parse_script.proofs.ClassLive.{LiveClass}
use Rattle.parse_script.proofs.DefLive.{LiveDef}
use Rattle.parse_script.proofs.Live.{Live}
use Rattle.parse_script.proofs.Rest.{RestStart, statement, closes, ends, class, def, RestLeft, while_left, branch_left, else_left, def_left, RestBehind, behind, Rest, RestAt, Next, NextName, NextExpr, NextType, RestUse, RestArgument, RestPlain, RestTarget, RestValue, RestAttribute, RestClass, RestDef}
use Rattle.parse_script.proofs.StepSound.{step_sound}
use Rattle.parse_script.proofs.Steps.{none_some, nil_cons, head_is, tail_is}

-- ---- classes and functions

class_is_done : (is : List Item) (c d : ClassDef) (part more ts : List Spelled) (all : List Item) → Goes class_step (class_stage.Done c) part (class_stage.Done d) → ts ≡ part ++ more
    → RestAt (top (is ++ (item.Class d ∷ []))) more all → RestAt (top (is ++ (item.Class c ∷ []))) ts all
class_is_done is c d [] more ts all g e r =
    subst (λ (l : List Spelled). RestAt (top (is ++ (item.Class c ∷ []))) l all) (sym e)
    (subst (λ (k : ClassDef). RestAt (top (is ++ (item.Class k ∷ []))) more all) (sym (same (goes_nil class_step g))) r)
  where
    same : class_stage.Done c ≡ class_stage.Done d → c ≡ d
    same e = cc
class_is_done is c d (t ∷ part) more ts all g e r = let s = goes_cons class_step g in none_some _ s.1

class_stage_on : (is : List Item) (m : ClassStage) (ts : List Spelled) (all : List Item) → RestClass is m ts all → Rest (class_stage_of is m) ts all
class_stage_on is (class_stage.Done c) ts all r = class_is_done is c r.tree r.part r.more ts all r.goes r.split r.rest
class_stage_on is m ts all r = r

not_done : (m : ClassStage) (d : ClassDef) → LiveClass m → m ≡ class_stage.Done d → ⊥
not_done m d l e = subst LiveClass e l

class_ahead : (is : List Item) (m : ClassStage) (t : Spelled) (ts part more : List Spelled) (d : ClassDef) (all : List Item) → LiveClass m → Goes class_step m part (class_stage.Done d) → t ∷ ts ≡ part ++ more
    → RestAt (top (is ++ (item.Class d ∷ []))) more all → On (class_next is (class_step m t)) ts all
class_ahead is m t ts [] more d all l g e r = absurd (not_done m d l (goes_nil class_step g))
class_ahead is m t ts (u ∷ part) more d all l g e r =
    let c = goes_cons class_step g in
    record {
      next = class_stage_of is c.0;
      step_is = ap (class_next is) (ap (class_step m) (head_is e) ∙ c.1);
      rest = class_stage_on is c.0 ts all (record { part = part; more = more; tree = d; goes = c.2; split = tail_is e; rest = r });
    }

def_is_done : (is : List Item) (c d : DefHead) (part more ts : List Spelled) (all : List Item) → Goes def_step (def_stage.Done c) part (def_stage.Done d) → ts ≡ part ++ more
    → RestAt (around (floor.Def is d) [] []) more all → RestAt (around (floor.Def is c) [] []) ts all
def_is_done is c d [] more ts all g e r =
    subst (λ (l : List Spelled). RestAt (around (floor.Def is c) [] []) l all) (sym e)
    (subst (λ (k : DefHead). RestAt (around (floor.Def is k) [] []) more all) (sym (same (goes_nil def_step g))) r)
  where
    same : def_stage.Done c ≡ def_stage.Done d → c ≡ d
    same e = cc
def_is_done is c d (t ∷ part) more ts all g e r = let s = goes_cons def_step g in none_some _ s.1

def_stage_on : (is : List Item) (m : DefStage) (ts : List Spelled) (all : List Item) → RestDef is m ts all → Rest (def_stage_of is m) ts all
def_stage_on is (def_stage.Done c) ts all r = def_is_done is c r.tree r.part r.more ts all r.goes r.split r.rest
def_stage_on is m ts all r = r

def_not_done : (m : DefStage) (d : DefHead) → LiveDef m → m ≡ def_stage.Done d → ⊥
def_not_done m d l e = subst LiveDef e l

def_ahead : (is : List Item) (m : DefStage) (t : Spelled) (ts part more : List Spelled) (d : DefHead) (all : List Item) → LiveDef m → Goes def_step m part (def_stage.Done d) → t ∷ ts ≡ part ++ more
    → RestAt (around (floor.Def is d) [] []) more all → On (def_next is (def_step m t)) ts all
def_ahead is m t ts [] more d all l g e r = absurd (def_not_done m d l (goes_nil def_step g))
def_ahead is m t ts (u ∷ part) more d all l g e r =
    let c = goes_cons def_step g in
    record {
      next = def_stage_of is c.0;
      step_is = ap (def_next is) (ap (def_step m) (head_is e) ∙ c.1);
      rest = def_stage_on is c.0 ts all (record { part = part; more = more; tree = d; goes = c.2; split = tail_is e; rest = r });
    }

-- ---- all stages

pub step_ahead : (s : Stage) (t : Spelled) (ts : List Spelled) (all : List Item) → Live s → Rest s (t ∷ ts) all → On (script_step s t) ts all
step_ahead (stage.Start a) t ts all l r = start_on a t ts all r
step_ahead (stage.Behind a bs) t ts all l r = behind_on a bs t ts all r
step_ahead (stage.Line a) t ts all l r = let n = unnext (what.Mark mark.Newline) _ t ts r in record { next = stage.Start a; step_is = ap (line_step a) n.0; rest = n.1 }
step_ahead (stage.Named a x) t ts all l r = named_ahead a x t ts all r
step_ahead (stage.Plain a m) t ts all l r = plain_ahead a m t ts all r
step_ahead (stage.Dotted a o w) t ts all l r = dotted_ahead a o w t ts all r
step_ahead (stage.Target a o w x) t ts all l r = target_ahead a o w x t ts all r
step_ahead (stage.Typed a x m) t ts all l r = typed_ahead a x m t ts all r
step_ahead (stage.Assigning a x) t ts all l r = assigning_ahead a x t ts all r
step_ahead (stage.Returning a p) t ts all l r = returning_ahead a p t ts all r
step_ahead (stage.Inside a u m) t ts all l r = inside_on a u m t ts all r
step_ahead (stage.PrintWord a) t ts all l r = let n = unnext what.Open _ t ts r in record { next = stage.Listing a (listed.Print t.place) []; step_is = ap (print_word a t.place) n.0; rest = n.1 }
step_ahead (stage.StartWord a x) t ts all l r = let n = unnext what.Open _ t ts r in record { next = stage.Listing a (listed.Start x t.place) []; step_is = ap (start_word a x t.place) n.0; rest = n.1 }
step_ahead (stage.Listing a k es) t ts all l r = listing_on a k es t ts all r
step_ahead (stage.Argument a k es m) t ts all l r = argument_on a k es m t ts all r
step_ahead (stage.HeadColon a h) t ts all l r = let n = unnext (what.Mark mark.Colon) _ t ts r in record { next = stage.HeadLine a h; step_is = ap (head_colon a h) n.0; rest = n.1 }
step_ahead (stage.HeadLine a h) t ts all l r = let n = unnext (what.Mark mark.Newline) _ t ts r in record { next = stage.HeadBlock a h; step_is = ap (head_line a h) n.0; rest = n.1 }
step_ahead (stage.HeadBlock a h) t ts all l r = let n = unnext (what.Mark mark.Indent) _ t ts r in record { next = stage.Start (entered a h); step_is = ap (head_block a h) n.0; rest = n.1 }
step_ahead (stage.Class is m) t ts all l r = class_ahead is m t ts r.part r.more r.tree all l r.goes r.split r.rest
step_ahead (stage.Def is m) t ts all l r = def_ahead is m t ts r.part r.more r.tree all l r.goes r.split r.rest
step_ahead (stage.Ended is) t ts all l r = absurd (nil_cons ⊥ (sym r.0))

-- tokens that are wanted are read to their end
pub record ReadTo (s : Stage) (ts : List Spelled) (all : List Item) : Type 0 where
  pub last : Stage
  pub goes : Goes script_step s ts last
  pub rest : Rest last [] all

pub goes_ahead : (s : Stage) (ts : List Spelled) (all : List Item) → Live s → Rest s ts all → ReadTo s ts all
goes_ahead s [] all l r = record { last = s; goes = stay s; rest = r }
goes_ahead s (t ∷ ts) all l r =
    let x = step_ahead s t ts all l r in
    let y = goes_ahead x.next ts all (step_sound s t x.next l x.step_is).live x.rest in
    record { last = y.last; goes = go s x.next y.last t ts x.step_is y.goes; rest = y.rest }

-- ---- where nothing is wanted any more, the script has ended

-- END is always wanted
record LastIsEnd (ts : List Spelled) : Type 0 where
  front : List Spelled
  place : Place
  split : ts ≡ front ++ (sign mark.End place ∷ [])

behind_end : (us vs ts : List Spelled) → ts ≡ us ++ vs → LastIsEnd vs → LastIsEnd ts
behind_end us vs ts e x = record { front = us ++ x.front; place = x.place; split = e ∙ ap (λ (l : List Spelled). us ++ l) x.split ∙ sym (append_assoc us x.front (sign mark.End x.place ∷ [])) }

mutual
  start_end : (f : Floor) (k : List Opened) (done : List Stmt) (ts : List Spelled) (all : List Item) → RestStart f k done ts all → LastIsEnd ts
  start_end f k done ts all (statement g l d us vs ws x is h e r) = behind_end us vs ts e (start_end _ _ _ vs all r)
  start_end f k done ts all (closes g l d p vs is r) = behind_end (sign mark.Dedent p ∷ []) vs (sign mark.Dedent p ∷ vs) refl (left_end f k done vs all r)
  start_end f k done ts all (ends before d p) = record { front = []; place = p; split = refl }
  start_end f k done ts all (class before d us vs ws c is h e r) = behind_end us vs ts e (start_end _ _ _ vs all r)
  start_end f k done ts all (def before d us vs ws c is h e r) = behind_end us vs ts e (start_end _ _ _ vs all r)

  left_end : (f : Floor) (k : List Opened) (done : List Stmt) (ts : List Spelled) (all : List Item) → RestLeft f k done ts all → LastIsEnd ts
  left_end f k done ts all (while_left g l before e x ss us is r) = start_end _ _ _ ts all r
  left_end f k done ts all (branch_left g l before bs e x ss us is r) = rest_behind_end _ _ _ _ ts all r
  left_end f k done ts all (else_left g l before bs x ss us is r) = start_end _ _ _ ts all r
  left_end f k done ts all (def_left before h x ss us is r) = start_end _ _ _ ts all r

  rest_behind_end : (f : Floor) (k : List Opened) (done : List Stmt) (bs : List Branch) (ts : List Spelled) (all : List Item) → RestBehind f k done bs ts all → LastIsEnd ts
  rest_behind_end f k done bs ts all (behind g l d as_ cs el us vs ws is h e r) = behind_end us vs ts e (start_end _ _ _ vs all r)

not_nil : (front : List Spelled) (t : Spelled) → ◌≡◌ {A = List Spelled} [] (front ++ (t ∷ [])) → ⊥
not_nil [] t e = nil_cons ⊥ e
not_nil (u ∷ front) t e = nil_cons ⊥ e

start_more : (a : Around) (all : List Item) → RestAt a [] all → ⊥
start_more a all r = let x = start_end a.floor a.opened a.done [] all r in not_nil x.front (sign mark.End x.place) x.split

next_more : (w : What) (P : Place → List Spelled → Type 0) → Next w P [] → ⊥
next_more w P n = nil_cons ⊥ n.split

name_more : (P : Word → List Spelled → Type 0) → NextName P [] → ⊥
name_more P n = nil_cons ⊥ n.split

-- nothing is two parts of nothing
no_more : (xs ys : List Spelled) → ◌≡◌ {A = List Spelled} [] (xs ++ ys) → ys ≡ []
no_more [] ys e = sym e
no_more (x ∷ xs) ys e = nil_cons _ e

expr_more : (m : Mode) (P : Expr → List Spelled → Type 0) → ((e : Expr) → P e [] → ⊥) → NextExpr m P [] → ⊥
expr_more m P f n = f n.tree (subst (λ (l : List Spelled). P n.tree l) (no_more n.part n.more n.split) n.rest)

type_more : (m : TypeMode) (P : Ann → List Spelled → Type 0) → ((a : Ann) → P a [] → ⊥) → NextType m P [] → ⊥
type_more m P f n = f n.tree (subst (λ (l : List Spelled). P n.tree l) (no_more n.part n.more n.split) n.rest)

used_more : (a : Around) (u : Use) (e : Expr) (all : List Item) → RestUse a u e [] all → ⊥
used_more a (for_.Assign x t) e all r = next_more _ _ r
used_more a (for_.Write o x) e all r = next_more _ _ r
used_more a (for_.Return p) e all r = next_more _ _ r
used_more a for_.While e all r = next_more _ _ r
used_more a (for_.Branch bs) e all r = next_more _ _ r

inside_more : (a : Around) (u : Use) (m : Mode) (all : List Item) → Rest (stage.Inside a u m) [] all → ⊥
inside_more a u m all r = expr_more m _ (λ e x. used_more a u e all x) r

target_more : (a : Around) (m : Mode) (all : List Item) → RestTarget a m [] all → ⊥
target_more a m all r =
    next_more what.Dot (λ p us. NextName (λ x vs. RestValue a r.tree x vs all) us)
    (subst (λ (l : List Spelled). Next what.Dot (λ p us. NextName (λ x vs. RestValue a r.tree x vs all) us) l) (no_more r.part r.more r.split) r.rest)

plain_more : (a : Around) (m : Mode) (all : List Item) → RestPlain a m [] all → ⊥
plain_more a m all (inl r) = expr_more m _ (λ e x. next_more _ _ x) r
plain_more a m all (inr r) = target_more a m all r

attribute_more : (a : Around) (o : Expr) (w : ℕ) (x : Word) (all : List Item) → RestAttribute a o w x [] all → ⊥
attribute_more a o w x all (inl r) = next_more _ _ r
attribute_more a o w x all (inr r) = plain_more a _ all r.1

argument_more : (a : Around) (k : Listed) (es : List Expr) (all : List Item) → RestArgument a k es [] all → ⊥
argument_more a k es all (inl r) = next_more _ _ r
argument_more a k es all (inr r) = next_more _ _ r

listing_more : (xs ys : List Spelled) (t : Spelled) → ◌≡◌ {A = List Spelled} [] (xs ++ (t ∷ ys)) → ⊥
listing_more [] ys t e = nil_cons ⊥ e
listing_more (x ∷ xs) ys t e = nil_cons ⊥ e

pub at_end : (s : Stage) (all : List Item) → Rest s [] all → s ≡ stage.Ended all
at_end (stage.Start a) all r = absurd (start_more a all r)
at_end (stage.Behind a bs) all r = let x = rest_behind_end a.floor a.opened a.done bs [] all r in absurd (not_nil x.front (sign mark.End x.place) x.split)
at_end (stage.Line a) all r = absurd (next_more _ _ r)
at_end (stage.Named a x) all (inl r) = absurd (next_more _ _ r)
at_end (stage.Named a x) all (inr (inl r)) = absurd (next_more _ _ r)
at_end (stage.Named a x) all (inr (inr r)) = absurd (plain_more a _ all r)
at_end (stage.Plain a m) all r = absurd (plain_more a m all r)
at_end (stage.Dotted a o w) all r = absurd (name_more _ r)
at_end (stage.Target a o w x) all r = absurd (attribute_more a o w x all r)
at_end (stage.Typed a x m) all r = absurd (type_more m _ (λ t y. next_more _ _ y) r)
at_end (stage.Assigning a x) all (inl r) = absurd (inside_more a (for_.Assign x None) (mode.Want []) all r)
at_end (stage.Assigning a x) all (inr r) = absurd (next_more _ _ r)
at_end (stage.Returning a p) all (inl r) = absurd (next_more _ _ r)
at_end (stage.Returning a p) all (inr r) = absurd (inside_more a (for_.Return p) (mode.Want []) all r)
at_end (stage.Inside a u m) all r = absurd (inside_more a u m all r)
at_end (stage.PrintWord a) all r = absurd (next_more _ _ r)
at_end (stage.StartWord a x) all r = absurd (next_more _ _ r)
at_end (stage.Listing a k es) all r = absurd (listing_more r.part r.more (tok what.Close r.place) r.split)
at_end (stage.Argument a k es m) all r = absurd (expr_more m _ (λ e x. argument_more a k (es ++ (e ∷ [])) all x) r)
at_end (stage.HeadColon a h) all r = absurd (next_more _ _ r)
at_end (stage.HeadLine a h) all r = absurd (next_more _ _ r)
at_end (stage.HeadBlock a h) all r = absurd (next_more _ _ r)
at_end (stage.Class is m) all r =
    absurd (start_more (top (is ++ (item.Class r.tree ∷ []))) all (subst (λ (l : List Spelled). RestAt (top (is ++ (item.Class r.tree ∷ []))) l all) (no_more r.part r.more r.split) r.rest))
at_end (stage.Def is m) all r =
    absurd (start_more (around (floor.Def is r.tree) [] []) all (subst (λ (l : List Spelled). RestAt (around (floor.Def is r.tree) [] []) l all) (no_more r.part r.more r.split) r.rest))
at_end (stage.Ended is) all r = ap stage.Ended (sym r.1)
