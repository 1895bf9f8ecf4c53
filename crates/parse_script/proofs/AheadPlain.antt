-- A step forwards in statements that an expression begins.
use Rattle.std.proofs.Common.{◌≡◌, ◌⊎◌, inl, inr, ℕ, suc, ◌+◌, ◌≤◌, ◌<◌, Bool, true, false, List, [], ◌∷◌, ◌++◌, Option, Some, None, nat_lt, refl, sym, ◌∙◌, ap, subst, arith}
use Rattle.std.proofs.lemmas.Bool.{ltb-true, lt-ltb}
use Rattle.mono_syntax.specs.declared.leaf.Place.{Place}
use Rattle.mono_syntax.specs.declared.leaf.Word.{Word}
use Rattle.mono_syntax.specs.declared.tree.Item.{Item}
use Rattle.mono_syntax.specs.Expr as expr
use Rattle.mono_syntax.specs.Expr.{Expr}
use Rattle.mono_syntax.specs.Stmt as stmt
use Rattle.spelled_tokens.specs.declared.token.Mark.{Mark}
use Rattle.spelled_tokens.specs.declared.token.Mark.TheVariants as mark
use Rattle.spelled_tokens.specs.declared.token.Spelled.{Spelled}
use Rattle.spelled_tokens.specs.declared.token.What.{What}
use Rattle.spelled_tokens.specs.declared.token.What.TheVariants as what
use Rattle.spelled_tokens.specs.SpelledTokens.{tok}
use Rattle.parse_expr.specs.declared.machine.Frame.{Frame}
use Rattle.parse_expr.specs.declared.machine.Held.{Held}
use Rattle.parse_expr.specs.declared.machine.Mode.{Mode}
use Rattle.parse_expr.specs.declared.machine.Mode.TheVariants as mode
use Rattle.parse_expr.specs.declared.machine.TypeMode.{TypeMode}
use Rattle.parse_expr.specs.declared.machine.TypeMode.TheVariants as type_mode
use Rattle.parse_expr.specs.computed.Goes.{Goes}
use Rattle.parse_expr.specs.computed.Reading.{step, finish, held, go_on, field_at, if_some}
use Rattle.parse_expr.specs.computed.TypeReading.{type_step, type_finish, type_behind}
use Rattle.parse_expr.specs.Types.{word}
use Rattle.parse_expr.proofs.Goes.{goes_nil, goes_cons}
use Rattle.parse_script.specs.declared.stage.Around.{Around}
use Rattle.parse_script.specs.declared.stage.Stage.{Stage}
use Rattle.parse_script.specs.declared.stage.Stage.TheVariants as stage
use Rattle.parse_script.specs.declared.stage.Use.{Use}
use Rattle.parse_script.specs.declared.stage.Use.TheVariants as for_
use Rattle.parse_script.specs.computed.Reading.{added_stage, inside_step, inside, plain_found, plain_next, plain_on, plain_held, plain_at, plain_step, dotted_step, attribute_step, target_at, target_step, named_at, named_step, assigning_at, assigning_step, typed_end, typed_next, typed_step, returning_at, returning_step}
use Rattle.parse_script.specs.computed.Endings.{ending_of}
use Rattle.mono_syntax.specs.Limits.{greatest_weight}
use Rattle.parse_script.proofs.Ahead.{On, on_at, unnext, unname, ExprEnd, unexpr, untype, mark_stops, inside_on}
use Rattle.parse_script.proofs.Rest.{Rest, Next, NextName, Ends, RestLine, RestInside, RestValue, RestPlain, RestAttribute, RestAssigning, RestTyped, RestNamed}
use Rattle.parse_script.proofs.Steps.{none_some, some_is, nil_cons, head_is, tail_is}

-- a step on
pub record PlainOn (a : Around) (m : Mode) (t : Spelled) (ts : List Spelled) (all : List Item) : Type 0 where
  pub next : Mode
  pub step_is : step greatest_weight m t ≡ Some next
  pub rest : RestPlain a next ts all

-- a receiver stands here, and its target is behind it
pub record TargetHere (a : Around) (m : Mode) (t : Spelled) (ts : List Spelled) (all : List Item) : Type 0 where
  pub tree : Expr
  pub weight : ℕ
  pub mode_is : m ≡ mode.Have (held [] tree weight)
  pub dot : t.what ≡ what.Dot
  pub rest : NextName (λ x vs. RestValue a tree x vs all) ts

pub record PlainIs (a : Around) (m : Mode) (t : Spelled) (ts : List Spelled) (all : List Item) : Type 0 where
  pub which : PlainOn a m t ts all ⊎ (ExprEnd m (λ e us. RestLine a (stmt.plain e) us all) (t ∷ ts) ⊎ TargetHere a m t ts all)

target_is : (a : Around) (m : Mode) (t : Spelled) (ts part more : List Spelled) (o : Expr) (w : ℕ) (all : List Item) → Goes (step greatest_weight) m part (mode.Have (held [] o w)) → w ≤ greatest_weight
    → t ∷ ts ≡ part ++ more → Next what.Dot (λ p us. NextName (λ x vs. RestValue a o x vs all) us) more → PlainIs a m t ts all
target_is a m t ts [] more o w all g l s r =
    let n = unnext what.Dot (λ p us. NextName (λ x vs. RestValue a o x vs all) us) t ts (subst (λ (k : List Spelled). Next what.Dot (λ p us. NextName (λ x vs. RestValue a o x vs all) us) k) (sym s) r) in
    record { which = inr (inr (record { tree = o; weight = w; mode_is = goes_nil (step greatest_weight) g; dot = n.0; rest = n.1 })) }
target_is a m t ts (u ∷ part) more o w all g l s r =
    let c = goes_cons (step greatest_weight) g in
    record {
      which = inl (record {
        next = c.0;
        step_is = ap (step greatest_weight m) (head_is s) ∙ c.1;
        rest = inr (record { part = part; more = more; tree = o; weight = w; goes = c.2; light = l; split = tail_is s; rest = r });
      });
    }

pub plain_is : (a : Around) (m : Mode) (t : Spelled) (ts : List Spelled) (all : List Item) → RestPlain a m (t ∷ ts) all → PlainIs a m t ts all
plain_is a m t ts all (inl r) =
    elim (unexpr m (λ e us. RestLine a (stmt.plain e) us all) t ts r) [
      | inl x ↦ record { which = inl (record { next = x.next; step_is = x.step_is; rest = inl x.rest }) }
      | inr x ↦ record { which = inr (inl x) }
    ]
plain_is a m t ts all (inr r) = target_is a m t ts r.part r.more r.tree r.weight all r.goes r.light r.split r.rest

-- behind a `.` comes something
no_have : (k g : Held) → mode.Dotted k ≡ mode.Have g → ⊥
no_have k g e = cc

dotted_part : (h : Held) (part more : List Spelled) (e : Expr) → Ends (mode.Dotted h) part e → ◌≡◌ {A = List Spelled} [] (part ++ more) → ⊥
dotted_part h [] more e x s = none_some _ (ap finish (goes_nil (step greatest_weight) x.1) ∙ x.2)
dotted_part h (u ∷ part) more e x s = nil_cons _ s

dotted_target : (h g : Held) (part more : List Spelled) → Goes (step greatest_weight) (mode.Dotted h) part (mode.Have g) → ◌≡◌ {A = List Spelled} [] (part ++ more) → ⊥
dotted_target h g [] more x s = no_have h g (goes_nil (step greatest_weight) x)
dotted_target h g (u ∷ part) more x s = nil_cons _ s

dotted_more : (a : Around) (h : Held) (all : List Item) → RestPlain a (mode.Dotted h) [] all → ⊥
dotted_more a h all (inl r) = dotted_part h r.part r.more r.tree r.ends r.split
dotted_more a h all (inr r) = dotted_target h (held [] r.tree r.weight) r.part r.more r.goes r.split

-- and that is a name
field_named : (a : Around) (h : Held) (t : Spelled) (w : What) (ts : List Spelled) (n : Mode) (all : List Item) → t.what ≡ w → field_at h.stack h.tree h.weight t.place w ≡ Some n → RestPlain a n ts all
    → NextName (λ x us. RestPlain a (mode.Have (held h.stack (expr.read h.tree x) (suc h.weight))) us all) (t ∷ ts)
field_named a h t (what.Name x) ts n all i e r =
    record { name = x; place = t.place; more = ts; split = λ j. tok (i j) t.place ∷ ts; rest = subst (λ (m : Mode). RestPlain a m ts all) (sym (some_is e)) r }
field_named a h t w ts n all i e r = none_some _ e

dotted_is : (a : Around) (h : Held) (ts : List Spelled) (all : List Item) → RestPlain a (mode.Dotted h) ts all
    → NextName (λ x us. RestPlain a (mode.Have (held h.stack (expr.read h.tree x) (suc h.weight))) us all) ts
dotted_is a h [] all r = absurd (dotted_more a h all r)
dotted_is a h (t ∷ ts) all r =
    elim (plain_is a (mode.Dotted h) t ts all r).which [
      | inl x ↦ field_named a h t t.what ts x.next all refl x.step_is x.rest
      | inr y ↦ elim y [ inl x ↦ none_some _ x.finish_is | inr x ↦ absurd (no_have h (held [] x.tree x.weight) x.mode_is) ]
    ]

-- ---- a step

-- a `.` behind a receiver, or the reading takes the token as any other
record DotHere (m : Mode) (w : What) : Type 0 where
  tree : Expr
  weight : ℕ
  mode_is : m ≡ mode.Have (held [] tree weight)
  dot : w ≡ what.Dot

held_pass : (a : Around) (k : List Frame) (e : Expr) (v : ℕ) (w : What) → DotHere (mode.Have (held k e v)) w ⊎ ((o : Option Stage) → plain_held a k e v (ending_of w) o ≡ o)
held_pass a [] e v what.Dot = inl (record { tree = e; weight = v; mode_is = refl; dot = refl })
held_pass a [] e v (what.Mark mark.Newline) = inr (λ o. refl)
held_pass a [] e v w = inr (λ o. refl)
held_pass a (f ∷ k) e v w = inr (λ o. refl)

plain_pass : (a : Around) (m : Mode) (w : What) → DotHere m w ⊎ ((o : Option Stage) → plain_at a m (ending_of w) o ≡ o)
plain_pass a (mode.Have h) w = held_pass a h.stack h.tree h.weight w
plain_pass a m w = inr (λ o. refl)

-- where a receiver goes on as an attribute, that weighs as much as an expression may
dot_next : (o : Expr) (w : ℕ) (t : Spelled) (n : Mode) → t.what ≡ what.Dot → step greatest_weight (mode.Have (held [] o w)) t ≡ Some n → (w < greatest_weight) × (n ≡ mode.Dotted (held [] o w))
dot_next o w t n i e = go (nat_lt (w + 0) greatest_weight) refl (sym (ap (go_on greatest_weight [] o w t.place) i) ∙ e)
  where
    go : (b : Bool) → nat_lt (w + 0) greatest_weight ≡ b → if_some b (mode.Dotted (held [] o w)) ≡ Some n → (w < greatest_weight) × (n ≡ mode.Dotted (held [] o w))
    go true q h = let l : w + 0 < greatest_weight = ltb-true (w + 0) greatest_weight q in (omega arith, sym (some_is h))
    go false q h = none_some _ h

-- a receiver with a `.` behind it, whatever comes then
dot_on : (a : Around) (o : Expr) (w : ℕ) (t : Spelled) (ts : List Spelled) (all : List Item) → t.what ≡ what.Dot → RestPlain a (mode.Have (held [] o w)) (t ∷ ts) all
    → NextName (λ x us. RestAttribute a o w x us all) ts
dot_on a o w t ts all i r =
    elim (plain_is a (mode.Have (held [] o w)) t ts all r).which [
      | inl x ↦ (
          let d = dot_next o w t x.next i x.step_is in
          let n = dotted_is a (held [] o w) ts all (subst (λ (m : Mode). RestPlain a m ts all) d.1 x.rest) in
          record { name = n.name; place = n.place; more = n.more; split = n.split; rest = inr (d.0, n.rest) })
      | inr y ↦
          elim y [
            | inl x ↦ (
                let n = unnext (what.Mark mark.Newline) _ t ts x.rest in
                absurd (no (sym i ∙ n.0)))
            | inr x ↦ (
                let e : held [] o w ≡ held [] x.tree x.weight = have_is x.mode_is in
                let n = x.rest in
                record { name = n.name; place = n.place; more = n.more; split = n.split; rest = inl (subst (λ (z : Expr). RestValue a z (word n.name n.place) n.more all) (sym (ap (λ (h : Held). h.tree) e)) n.rest) })
          ]
    ]
  where
    no : what.Dot ≡ what.Mark mark.Newline → ⊥
    no e = cc

    have_is : {g h : Held} → mode.Have g ≡ mode.Have h → g ≡ h
    have_is e = cc

pub plain_on_ahead : (a : Around) (m : Mode) (t : Spelled) (ts : List Spelled) (all : List Item) → ((o : Expr) (w : ℕ) → m ≡ mode.Have (held [] o w) → t.what ≡ what.Dot → ⊥) → RestPlain a m (t ∷ ts) all
    → On (plain_on a m t) ts all
plain_on_ahead a m t ts all apart r =
    elim (plain_is a m t ts all r).which [
      | inl x ↦ record { next = stage.Plain a x.next; step_is = ap (plain_next a (finish m) (ending_of t.what)) x.step_is; rest = x.rest }
      | inr y ↦
          elim y [
            | inl x ↦ (
                let n = unnext (what.Mark mark.Newline) _ t ts x.rest in
                record {
                  next = added_stage a (stmt.plain x.tree);
                  step_is = ap (plain_next a (finish m) (ending_of t.what)) (mark_stops m x.tree t mark.Newline x.finish_is n.0) ∙ ap (λ (o : Option Expr). plain_found a o (ending_of t.what)) x.finish_is ∙ ap (λ (w : What). plain_found a (Some x.tree) (ending_of w)) n.0;
                  rest = n.1;
                })
            | inr x ↦ absurd (apart x.tree x.weight x.mode_is x.dot)
          ]
    ]

pub plain_ahead : (a : Around) (m : Mode) (t : Spelled) (ts : List Spelled) (all : List Item) → RestPlain a m (t ∷ ts) all → On (plain_step a m t) ts all
plain_ahead a m t ts all r =
    elim (plain_pass a m t.what) [
      | inl d ↦
          record {
            next = stage.Dotted a d.tree d.weight;
            step_is = ap (λ (k : Mode). plain_step a k t) d.mode_is ∙ ap (λ (w : What). plain_at a (mode.Have (held [] d.tree d.weight)) (ending_of w) (plain_on a (mode.Have (held [] d.tree d.weight)) t)) d.dot;
            rest = dot_on a d.tree d.weight t ts all d.dot (subst (λ (k : Mode). RestPlain a k (t ∷ ts) all) d.mode_is r);
          }
      | inr i ↦
          on_at _ _ ts all (i (plain_on a m t))
          (plain_on_ahead a m t ts all
          (λ o w e f. none_some ⊥ (sym (i None) ∙ ap (λ (k : Mode). plain_at a k (ending_of t.what) None) e ∙ ap (λ (v : What). plain_at a (mode.Have (held [] o w)) (ending_of v) None) f)) r)
    ]

pub dotted_ahead : (a : Around) (o : Expr) (w : ℕ) (t : Spelled) (ts : List Spelled) (all : List Item) → NextName (λ x us. RestAttribute a o w x us all) (t ∷ ts) → On (dotted_step a o w t.place t.what) ts all
dotted_ahead a o w t ts all r =
    let n = unname (λ x us. RestAttribute a o w x us all) t ts r in
    record { next = stage.Target a o w (word n.0 t.place); step_is = ap (dotted_step a o w t.place) n.1; rest = n.2 }

-- `=` and `:` behind what was read are no expression's
stops_plain : (a : Around) (h : Held) (t : Spelled) (x : Mark) → t.what ≡ what.Mark x → ((o : Option Expr) → plain_found a o (ending_of (what.Mark x)) ≡ None)
    → ((k : List Frame) (e : Expr) (w : ℕ) (o : Option Stage) → plain_held a k e w (ending_of (what.Mark x)) o ≡ o) → plain_step a (mode.Have h) t ≡ None
stops_plain a h t x i f g =
    ap (λ (w : What). plain_held a h.stack h.tree h.weight (ending_of w) (plain_on a (mode.Have h) t)) i ∙ g h.stack h.tree h.weight (plain_on a (mode.Have h) t)
    ∙ ap (plain_next a (finish (mode.Have h)) (ending_of t.what)) (ap (go_on greatest_weight h.stack h.tree h.weight t.place) i) ∙ ap (λ (w : What). plain_found a (finish (mode.Have h)) (ending_of w)) i ∙ f (finish (mode.Have h))

found_equals : (a : Around) (o : Option Expr) → plain_found a o (ending_of (what.Mark mark.Equals)) ≡ None
found_equals a None = refl
found_equals a (Some e) = refl

found_colon : (a : Around) (o : Option Expr) → plain_found a o (ending_of (what.Mark mark.Colon)) ≡ None
found_colon a None = refl
found_colon a (Some e) = refl

held_equals : (a : Around) (k : List Frame) (e : Expr) (w : ℕ) (o : Option Stage) → plain_held a k e w (ending_of (what.Mark mark.Equals)) o ≡ o
held_equals a [] e w o = refl
held_equals a (f ∷ k) e w o = refl

held_colon : (a : Around) (k : List Frame) (e : Expr) (w : ℕ) (o : Option Stage) → plain_held a k e w (ending_of (what.Mark mark.Colon)) o ≡ o
held_colon a [] e w o = refl
held_colon a (f ∷ k) e w o = refl

target_pass : (a : Around) (o : Expr) (x : Word) (w : What) → (w ≡ what.Mark mark.Equals) ⊎ ((s : Option Stage) → target_at a o x (ending_of w) s ≡ s)
target_pass a o x (what.Mark mark.Equals) = inl refl
target_pass a o x w = inr (λ s. refl)

pub target_ahead : (a : Around) (o : Expr) (w : ℕ) (x : Word) (t : Spelled) (ts : List Spelled) (all : List Item) → RestAttribute a o w x (t ∷ ts) all → On (target_step a o w x t) ts all
target_ahead a o w x t ts all (inl r) =
    let n = unnext (what.Mark mark.Equals) _ t ts r in
    record { next = inside a (for_.Write o x); step_is = ap (λ (v : What). target_at a o x (ending_of v) (attribute_step (nat_lt w greatest_weight) a o w x t)) n.0; rest = n.1 }
target_ahead a o w x t ts all (inr r) =
    let p = plain_ahead a (mode.Have (held [] (expr.read o x) (suc w))) t ts all r.1 in
    let q : attribute_step (nat_lt w greatest_weight) a o w x t ≡ plain_step a (mode.Have (held [] (expr.read o x) (suc w))) t = ap (λ (b : Bool). attribute_step b a o w x t) (lt-ltb w greatest_weight r.0) in
    elim (target_pass a o x t.what) [
      | inl i ↦ none_some _ (sym (stops_plain a (held [] (expr.read o x) (suc w)) t mark.Equals i (found_equals a) (held_equals a)) ∙ p.step_is)
      | inr i ↦ on_at _ _ ts all (i (attribute_step (nat_lt w greatest_weight) a o w x t) ∙ q) p
    ]

record NamedPass (a : Around) (x : Word) (w : What) : Type 0 where
  which : (w ≡ what.Mark mark.Equals) ⊎ ((w ≡ what.Mark mark.Colon) ⊎ ((s : Option Stage) → named_at a x (ending_of w) s ≡ s))

named_pass : (a : Around) (x : Word) (w : What) → NamedPass a x w
named_pass a x (what.Mark mark.Equals) = record { which = inl refl }
named_pass a x (what.Mark mark.Colon) = record { which = inr (inl refl) }
named_pass a x w = record { which = inr (inr (λ s. refl)) }

pub named_ahead : (a : Around) (x : Word) (t : Spelled) (ts : List Spelled) (all : List Item) → RestNamed a x (t ∷ ts) all → On (named_step a x t) ts all
named_ahead a x t ts all (inl r) =
    let n = unnext (what.Mark mark.Equals) _ t ts r in
    record { next = stage.Assigning a x; step_is = ap (λ (v : What). named_at a x (ending_of v) (plain_step a (mode.Have (held [] (expr.local x) 1)) t)) n.0; rest = n.1 }
named_ahead a x t ts all (inr (inl r)) =
    let n = unnext (what.Mark mark.Colon) _ t ts r in
    record { next = stage.Typed a x (type_mode.Want []); step_is = ap (λ (v : What). named_at a x (ending_of v) (plain_step a (mode.Have (held [] (expr.local x) 1)) t)) n.0; rest = n.1 }
named_ahead a x t ts all (inr (inr r)) =
    let p = plain_ahead a (mode.Have (held [] (expr.local x) 1)) t ts all r in
    elim (named_pass a x t.what).which [
      | inl i ↦ none_some _ (sym (stops_plain a (held [] (expr.local x) 1) t mark.Equals i (found_equals a) (held_equals a)) ∙ p.step_is)
      | inr j ↦
          elim j [
            | inl i ↦ none_some _ (sym (stops_plain a (held [] (expr.local x) 1) t mark.Colon i (found_colon a) (held_colon a)) ∙ p.step_is)
            | inr i ↦ on_at _ _ ts all (i (plain_step a (mode.Have (held [] (expr.local x) 1)) t)) p
          ]
    ]

pub typed_ahead : (a : Around) (x : Word) (m : TypeMode) (t : Spelled) (ts : List Spelled) (all : List Item) → RestTyped a x m (t ∷ ts) all → On (typed_step a x m t) ts all
typed_ahead a x m t ts all r =
    elim (untype m (λ u us. Next (what.Mark mark.Equals) (λ p vs. RestInside a (for_.Assign x (Some u)) (mode.Want []) vs all) us) t ts r) [
      | inl y ↦ record { next = stage.Typed a x y.next; step_is = ap (typed_next a x (type_finish m) (ending_of t.what)) y.step_is; rest = y.rest }
      | inr y ↦ (
          let n = unnext (what.Mark mark.Equals) _ t ts y.rest in
          let stops : type_step greatest_weight (type_mode.Have [] y.tree y.weight) t ≡ None = ap (type_behind [] y.tree y.weight) n.0 in
          record {
            next = inside a (for_.Assign x (Some y.tree));
            step_is = ap (λ (k : TypeMode). typed_step a x k t) y.mode_is ∙ ap (typed_next a x (Some (record { ann = y.tree; weight = y.weight })) (ending_of t.what)) stops
                ∙ ap (λ (v : What). typed_end a x (Some (record { ann = y.tree; weight = y.weight })) (ending_of v)) n.0;
            rest = n.1;
          })
    ]

-- a reserved word of statements begins no expression
word_begins_none : (a : Around) (u : Use) (t : Spelled) (x : Mark) → t.what ≡ what.Mark x → inside_step a u (mode.Want []) t ≡ None
word_begins_none a u t x i = ap (λ (w : What). inside_step a u (mode.Want []) (tok w t.place)) i

assigning_pass : (a : Around) (x : Word) (w : What) → (w ≡ what.Mark mark.Start) ⊎ ((s : Option Stage) → assigning_at a x (ending_of w) s ≡ s)
assigning_pass a x (what.Mark mark.Start) = inl refl
assigning_pass a x w = inr (λ s. refl)

pub assigning_ahead : (a : Around) (x : Word) (t : Spelled) (ts : List Spelled) (all : List Item) → RestAssigning a x (t ∷ ts) all → On (assigning_step a x t) ts all
assigning_ahead a x t ts all (inl r) =
    let p = inside_on a (for_.Assign x None) (mode.Want []) t ts all r in
    elim (assigning_pass a x t.what) [
      | inl i ↦ none_some _ (sym (word_begins_none a (for_.Assign x None) t mark.Start i) ∙ p.step_is)
      | inr i ↦ on_at _ _ ts all (i (inside_step a (for_.Assign x None) (mode.Want []) t)) p
    ]
assigning_ahead a x t ts all (inr r) =
    let n = unnext (what.Mark mark.Start) _ t ts r in
    record { next = stage.StartWord a x; step_is = ap (λ (v : What). assigning_at a x (ending_of v) (inside_step a (for_.Assign x None) (mode.Want []) t)) n.0; rest = n.1 }

returning_pass : (a : Around) (p : Place) (w : What) → (w ≡ what.Mark mark.Newline) ⊎ ((s : Option Stage) → returning_at a p (ending_of w) s ≡ s)
returning_pass a p (what.Mark mark.Newline) = inl refl
returning_pass a p w = inr (λ s. refl)

pub returning_ahead : (a : Around) (p : Place) (t : Spelled) (ts : List Spelled) (all : List Item) → Rest (stage.Returning a p) (t ∷ ts) all → On (returning_step a p t) ts all
returning_ahead a p t ts all (inl r) =
    let n = unnext (what.Mark mark.Newline) _ t ts r in
    record { next = added_stage a (stmt.give p None); step_is = ap (λ (v : What). returning_at a p (ending_of v) (inside_step a (for_.Return p) (mode.Want []) t)) n.0; rest = n.1 }
returning_ahead a p t ts all (inr r) =
    let q = inside_on a (for_.Return p) (mode.Want []) t ts all r in
    elim (returning_pass a p t.what) [
      | inl i ↦ none_some _ (sym (word_begins_none a (for_.Return p) t mark.Newline i) ∙ q.step_is)
      | inr i ↦ on_at _ _ ts all (i (inside_step a (for_.Return p) (mode.Want []) t)) q
    ]
