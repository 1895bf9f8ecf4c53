-- The reading goes over exactly the tokens of scripts: it ends with their tree, and stops at the first token with which no script begins.
use Rattle.std.proofs.Common.{◌≡◌, List, [], ◌∷◌, ◌++◌, None, refl, sym, ◌∙◌, ap, subst, append_assoc}
use Rattle.std.proofs.lemmas.List.{append-nil}
use Rattle.mono_syntax.specs.declared.tree.Item.{Item}
use Rattle.mono_syntax.specs.declared.tree.Item.TheVariants as item
use Rattle.mono_syntax.specs.declared.tree.Script.{Script}
use Rattle.mono_syntax.specs.declared.leaf.Place.{Place}
use Rattle.mono_syntax.specs.Stmt.{Stmt}
use Rattle.spelled_tokens.specs.declared.token.Mark.TheVariants as mark
use Rattle.spelled_tokens.specs.declared.token.Spelled.{Spelled}
use Rattle.spelled_tokens.specs.SpelledTokens.{sign}
use Rattle.parse_expr.specs.computed.Goes.{Goes}
use Rattle.parse_expr.proofs.Goes.{same_end, stuck}
use Rattle.parse_script.specs.declared.stage.Floor.TheVariants as floor
use Rattle.parse_script.specs.declared.stage.Stage.{Stage}
use Rattle.parse_script.specs.declared.stage.Stage.TheVariants as stage
use Rattle.parse_script.specs.computed.Reading.{top, script_step}
use Rattle.parse_script.specs.Script as sc
use Rattle.parse_script.specs.Script.{DerivesItem, DerivesItems, DerivesWhole, script, Begins, OneTree}
use Rattle.parse_script.proofs.Alive.{alive}
use Rattle.parse_script.proofs.Rest.{RestStart, statement, closes, ends, class, def, RestLeft, Rest}
use Rattle.parse_script.proofs.StepAhead.{goes_ahead, at_end}
use Rattle.parse_script.proofs.StepSound.{goes_live, goes_back}

-- where the reading begins
abbrev pub start : Stage
start = stage.Start (top [])

abbrev pub whole : List Item → Script
whole is = record { items = is }

-- ---- the script's own block is its items

record ItemsAre (before : List Item) (ts : List Spelled) (all : List Item) : Type 0 where
  part : List Spelled
  items : List Item
  place : Place
  derives : DerivesItems part items
  split : ts ≡ part ++ (sign mark.End place ∷ [])
  are : all ≡ before ++ items

item_before : (before : List Item) (us vs ts : List Spelled) (i : Item) (all : List Item) → DerivesItem us i → ts ≡ us ++ vs → ItemsAre (before ++ (i ∷ [])) vs all → ItemsAre before ts all
item_before before us vs ts i all d e x =
    record {
      part = us ++ x.part;
      items = i ∷ x.items;
      place = x.place;
      derives = sc.more_items us x.part i x.items d x.derives;
      split = e ∙ ap (λ (l : List Spelled). us ++ l) x.split ∙ sym (append_assoc us x.part (sign mark.End x.place ∷ []));
      are = x.are ∙ append_assoc before (i ∷ []) x.items;
    }

no_left : (before : List Item) (done : List Stmt) (vs : List Spelled) (all : List Item) → RestLeft (floor.Script before) [] done vs all → ⊥
no_left before done vs all r = elim r [ ]

items_are : (before : List Item) (done : List Stmt) (ts : List Spelled) (all : List Item) → RestStart (floor.Script before) [] done ts all → ItemsAre before ts all
items_are before done ts all (statement f k d us vs ws x is h e r) = item_before before us vs ts (item.Stmt x) all (sc.statement us x h) e (items_are (before ++ (item.Stmt x ∷ [])) [] vs all r)
items_are before done ts all (closes f k d p vs is r) = absurd (no_left before done vs all r)
items_are before done ts all (ends b d p) = record { part = []; items = []; place = p; derives = sc.no_items; split = refl; are = sym (append-nil before) }
items_are before done ts all (class b d us vs ws c is h e r) = item_before before us vs ts (item.Class c) all (sc.class us c h) e (items_are (before ++ (item.Class c ∷ [])) [] vs all r)
items_are before done ts all (def b d us vs ws c is h e r) = item_before before us vs ts (item.Def c) all (sc.def us c h) e (items_are (before ++ (item.Def c ∷ [])) [] vs all r)

of_items : (before : List Item) (done : List Stmt) (us : List Spelled) (is : List Item) (p : Place) → DerivesItems us is → RestStart (floor.Script before) [] done (us ++ (sign mark.End p ∷ [])) (before ++ is)
of_items before done us is p sc.no_items = subst (λ (l : List Item). RestStart (floor.Script before) [] done (sign mark.End p ∷ []) l) (sym (append-nil before)) (ends before done p)
of_items before done us is p (sc.more_items ts vs i js (sc.statement ws x h) r) =
    let rest = subst (λ (l : List Item). RestStart (floor.Script (before ++ (item.Stmt x ∷ []))) [] [] (vs ++ (sign mark.End p ∷ [])) l) (append_assoc before (item.Stmt x ∷ []) js) (of_items (before ++ (item.Stmt x ∷ [])) [] vs js p r) in
    statement (floor.Script before) [] done ts (vs ++ (sign mark.End p ∷ [])) ((ts ++ vs) ++ (sign mark.End p ∷ [])) x (before ++ (item.Stmt x ∷ js)) h (append_assoc ts vs (sign mark.End p ∷ [])) rest
of_items before done us is p (sc.more_items ts vs i js (sc.class ws c h) r) =
    let rest = subst (λ (l : List Item). RestStart (floor.Script (before ++ (item.Class c ∷ []))) [] [] (vs ++ (sign mark.End p ∷ [])) l) (append_assoc before (item.Class c ∷ []) js) (of_items (before ++ (item.Class c ∷ [])) [] vs js p r) in
    class before done ts (vs ++ (sign mark.End p ∷ [])) ((ts ++ vs) ++ (sign mark.End p ∷ [])) c (before ++ (item.Class c ∷ js)) h (append_assoc ts vs (sign mark.End p ∷ [])) rest
of_items before done us is p (sc.more_items ts vs i js (sc.def ws c h) r) =
    let rest = subst (λ (l : List Item). RestStart (floor.Script (before ++ (item.Def c ∷ []))) [] [] (vs ++ (sign mark.End p ∷ [])) l) (append_assoc before (item.Def c ∷ []) js) (of_items (before ++ (item.Def c ∷ [])) [] vs js p r) in
    def before done ts (vs ++ (sign mark.End p ∷ [])) ((ts ++ vs) ++ (sign mark.End p ∷ [])) c (before ++ (item.Def c ∷ js)) h (append_assoc ts vs (sign mark.End p ∷ [])) rest

wanted : (ts : List Spelled) (x : Script) → DerivesWhole ts x → Rest start ts x.items
wanted ts x (script p us is h) = of_items [] [] us is p h

derived : (ts : List Spelled) (all : List Item) → Rest start ts all → DerivesWhole ts (whole all)
derived ts all r =
    let x = items_are [] [] ts all r in
    subst (λ (l : List Spelled). DerivesWhole l (whole all)) (sym x.split)
    (subst (λ (is : List Item). DerivesWhole (x.part ++ (sign mark.End x.place ∷ [])) (whole is)) (sym x.are) (script x.place x.part x.items x.derives))

-- ---- the theorem

-- what the grammar has is read to its end, with its tree
pub complete : (ts : List Spelled) (x : Script) → DerivesWhole ts x → Goes script_step start ts (stage.Ended x.items)
complete ts x d =
    let y = goes_ahead start ts x.items tt (wanted ts x d) in
    subst (λ (n : Stage). Goes script_step start ts n) (at_end y.last x.items y.rest) y.goes

-- what is read to its end has that tree
pub sound : (ts : List Spelled) (is : List Item) → Goes script_step start ts (stage.Ended is) → DerivesWhole ts (whole is)
sound ts is g = derived ts is (subst (λ (l : List Spelled). Rest start l is) (append-nil ts) (goes_back start (stage.Ended is) ts [] is g tt (refl, refl)))

-- what the reading goes over begins a script
pub begins_script : (ts : List Spelled) (n : Stage) → Goes script_step start ts n → Begins ts
begins_script ts n g =
    let f = alive n (goes_live start n ts g tt) in
    (f.tokens, whole f.items, derived (ts ++ f.tokens) f.items (goes_back start n ts f.tokens f.items g tt f.holds))

-- with the token at which the reading stops, no script begins
pub no_further : (front : List Spelled) (n : Stage) (t : Spelled) → Goes script_step start front n → script_step n t ≡ None → Begins (front ++ (t ∷ [])) → ⊥
no_further front n t g e b =
    let whole_run = complete ((front ++ (t ∷ [])) ++ b.0) b.1 b.2 in
    stuck script_step front start n (stage.Ended b.1.items) t b.0 g e
    (subst (λ (l : List Spelled). Goes script_step start l (stage.Ended b.1.items)) (append_assoc front (t ∷ []) b.0) whole_run)

ended_is : {xs ys : List Item} → stage.Ended xs ≡ stage.Ended ys → xs ≡ ys
ended_is e = cc

pub one_tree : OneTree
one_tree ts a b h k = ap whole (ended_is (same_end script_step ts start (stage.Ended a.items) (stage.Ended b.items) (complete ts a h) (complete ts b k)))
