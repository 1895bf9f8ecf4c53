-- A step backwards: what the next stage still wants, with the token before it, is what this stage wants. Expressions, types and arguments.
use Rattle.std.proofs.Common.{◌≡◌, ◌⊎◌, inl, inr, ℕ, suc, ◌≤◌, ◌<◌, max, Bool, true, false, List, [], ◌∷◌, ◌++◌, Option, Some, None, nat_lt, refl, sym, ◌∙◌, ap, subst, arith, append_assoc}
use Rattle.std.proofs.lemmas.Bool.{ltb-true}
use Rattle.std.proofs.lemmas.List.{append-nil}
use Rattle.std.proofs.Math.Nat.{max-le}
use Rattle.mono_syntax.specs.declared.leaf.Place.{Place}
use Rattle.mono_syntax.specs.declared.leaf.Word.{Word}
use Rattle.mono_syntax.specs.declared.tree.Item.{Item}
use Rattle.mono_syntax.specs.Ann.{Ann}
use Rattle.mono_syntax.specs.Expr as expr
use Rattle.mono_syntax.specs.Expr.{Expr}
use Rattle.mono_syntax.specs.Stmt as stmt
use Rattle.mono_syntax.specs.Stmt.{Stmt}
use Rattle.spelled_tokens.specs.declared.token.Mark.TheVariants as mark
use Rattle.spelled_tokens.specs.declared.token.Spelled.{Spelled}
use Rattle.spelled_tokens.specs.declared.token.What.{What}
use Rattle.spelled_tokens.specs.declared.token.What.TheVariants as what
use Rattle.spelled_tokens.specs.SpelledTokens.{tok}
use Rattle.parse_expr.specs.declared.machine.Frame.{Frame}
use Rattle.parse_expr.specs.declared.machine.Mode.{Mode}
use Rattle.parse_expr.specs.declared.machine.Mode.TheVariants as mode
use Rattle.parse_expr.specs.declared.machine.TypeMode.{TypeMode}
use Rattle.parse_expr.specs.declared.machine.TypeMode.TheVariants as type_mode
use Rattle.parse_expr.specs.declared.machine.Weighed.{Weighed}
use Rattle.parse_expr.specs.computed.Goes.{Goes, stay, go}
use Rattle.parse_expr.specs.Grammar.{no_args, last_arg, more_args}
use Rattle.parse_expr.specs.computed.Reading.{step, finish, held}
use Rattle.parse_expr.specs.computed.TypeReading.{type_step, type_finish}
use Rattle.parse_expr.specs.Types.{word}
use Rattle.parse_script.specs.declared.stage.Around.{Around}
use Rattle.parse_script.specs.declared.stage.Listed.{Listed}
use Rattle.parse_script.specs.declared.stage.Listed.TheVariants as listed
use Rattle.parse_script.specs.declared.stage.Stage.{Stage}
use Rattle.parse_script.specs.declared.stage.Stage.TheVariants as stage
use Rattle.parse_script.specs.declared.stage.Use.{Use}
use Rattle.parse_script.specs.declared.stage.Use.TheVariants as for_
use Rattle.parse_script.specs.computed.Reading.{added_stage, behind_used, behind_found, inside_next, inside_step, inside, listed_stage, behind_argument, found_argument, argument_next, argument_step, listing_at, listing_step, plain_found, plain_next, plain_on, plain_held, plain_at, plain_step, dotted_step, attribute_step, target_at, target_step, named_at, named_step, assigning_at, assigning_step, typed_end, typed_next, typed_step, returning_at, returning_step}
use Rattle.parse_script.specs.computed.Endings.{ending_of}
use Rattle.mono_syntax.specs.Limits.{greatest_weight}
use Rattle.parse_script.proofs.Live.{Live, held_light, named_reached, dot_goes, field_goes, attribute_reached}
use Rattle.parse_script.proofs.Rest.{Rest, Next, NextName, NextExpr, NextType, RestUse, RestInside, RestListed, RestListing, RestArgument, RestPlain, RestAttribute, RestAssigning, RestTyped, RestNamed}
use Rattle.parse_script.proofs.Steps.{none_some, some_is, split_option, type_finished, Reached, ReachedType, begins, goes_on, reached_start, reached_more}
use Rattle.parse_expr.proofs.Readings.{expr_sound}

-- the next stage is live, and goes back to what the one before wants
pub record Sound (Before : List Spelled → List Item → Type 0) (t : Spelled) (n : Stage) : Type 0 where
  pub live : Live n
  pub back : (ts : List Spelled) (all : List Item) → Rest n ts all → Before (t ∷ ts) all

pub sound_at : (Before : List Spelled → List Item → Type 0) (t : Spelled) (m n : Stage) → m ≡ n → Sound Before t m → Sound Before t n
sound_at Before t m n e s = subst (λ (z : Stage). Sound Before t z) e s

-- this token is the next, and these are behind it
pub next_is : (w : What) (P : Place → List Spelled → Type 0) (t : Spelled) (ts : List Spelled) → t.what ≡ w → P t.place ts → Next w P (t ∷ ts)
next_is w P t ts e r = record { place = t.place; more = ts; split = λ i. tok (e i) t.place ∷ ts; rest = r }

-- a step more of an expression
pub expr_back : (m k : Mode) (t : Spelled) (P : Expr → List Spelled → Type 0) (ts : List Spelled) → step greatest_weight m t ≡ Some k → NextExpr k P ts → NextExpr m P (t ∷ ts)
expr_back m k t P ts e r =
    let x = r.ends in
    record { part = t ∷ r.part; more = r.more; tree = r.tree; ends = (x.0, go m k x.0 t r.part e x.1, x.2); split = ap (λ (l : List Spelled). t ∷ l) r.split; rest = r.rest }

-- the expression ends here
pub expr_end : (m : Mode) (e : Expr) (P : Expr → List Spelled → Type 0) (ts : List Spelled) → finish m ≡ Some e → P e ts → NextExpr m P ts
expr_end m e P ts f r = record { part = []; more = ts; tree = e; ends = (m, stay m, f); split = refl; rest = r }

pub type_back : (m k : TypeMode) (t : Spelled) (P : Ann → List Spelled → Type 0) (ts : List Spelled) → type_step greatest_weight m t ≡ Some k → NextType k P ts → NextType m P (t ∷ ts)
type_back m k t P ts e r =
    record { part = t ∷ r.part; more = r.more; tree = r.tree; weight = r.weight; goes = go m k (type_mode.Have [] r.tree r.weight) t r.part e r.goes; split = ap (λ (l : List Spelled). t ∷ l) r.split; rest = r.rest }

pub type_end : (m : TypeMode) (a : Weighed) (P : Ann → List Spelled → Type 0) (ts : List Spelled) → type_finish m ≡ Some a → P a.ann ts → NextType m P ts
type_end m a P ts f r =
    record { part = []; more = ts; tree = a.ann; weight = a.weight; goes = subst (λ (z : TypeMode). Goes (type_step greatest_weight) z [] (type_mode.Have [] a.ann a.weight)) (sym (type_finished m a f)) (stay (type_mode.Have [] a.ann a.weight)); split = refl; rest = r }

-- ---- an expression that is read for something

abbrev Before_inside : Around → Use → Mode → List Spelled → List Item → Type 0
Before_inside a u m ts all = RestInside a u m ts all

used_sound : (a : Around) (u : Use) (e : Expr) (t : Spelled) (w : What) (n : Stage) → t.what ≡ w → behind_used a u e (ending_of w) ≡ Some n → Sound (λ ts all. RestUse a u e ts all) t n
used_sound a (for_.Assign x y) e t (what.Mark mark.Newline) n i h = sound_at _ t _ n (some_is h) (record { live = tt; back = λ ts all r. next_is (what.Mark mark.Newline) _ t ts i r })
used_sound a (for_.Assign x y) e t w n i h = none_some _ h
used_sound a (for_.Write o x) e t (what.Mark mark.Newline) n i h = sound_at _ t _ n (some_is h) (record { live = tt; back = λ ts all r. next_is (what.Mark mark.Newline) _ t ts i r })
used_sound a (for_.Write o x) e t w n i h = none_some _ h
used_sound a (for_.Return p) e t (what.Mark mark.Newline) n i h = sound_at _ t _ n (some_is h) (record { live = tt; back = λ ts all r. next_is (what.Mark mark.Newline) _ t ts i r })
used_sound a (for_.Return p) e t w n i h = none_some _ h
used_sound a for_.While e t (what.Mark mark.Colon) n i h = sound_at _ t _ n (some_is h) (record { live = tt; back = λ ts all r. next_is (what.Mark mark.Colon) _ t ts i r })
used_sound a for_.While e t w n i h = none_some _ h
used_sound a (for_.Branch bs) e t (what.Mark mark.Colon) n i h = sound_at _ t _ n (some_is h) (record { live = tt; back = λ ts all r. next_is (what.Mark mark.Colon) _ t ts i r })
used_sound a (for_.Branch bs) e t w n i h = none_some _ h

pub inside_sound : (a : Around) (u : Use) (m : Mode) (t : Spelled) (n : Stage) → Reached m → inside_step a u m t ≡ Some n → Sound (λ ts all. RestInside a u m ts all) t n
inside_sound a u m t n r h =
    split_option (step greatest_weight m t) (Sound (λ ts all. RestInside a u m ts all) t n)
    (λ e.
    split_option (finish m) (Sound (λ ts all. RestInside a u m ts all) t n)
    (λ f. none_some _ (sym (ap (λ o. behind_found a u o (ending_of t.what)) f) ∙ sym (ap (inside_next a u (finish m) (ending_of t.what)) e) ∙ h))
    (λ x f.
    let s = used_sound a u x t t.what n refl (sym (ap (λ o. behind_found a u o (ending_of t.what)) f) ∙ sym (ap (inside_next a u (finish m) (ending_of t.what)) e) ∙ h) in
    record { live = s.live; back = λ ts all q. expr_end m x _ (t ∷ ts) f (s.back ts all q) }))
    (λ k e.
    sound_at _ t (stage.Inside a u k) n (some_is (sym (ap (inside_next a u (finish m) (ending_of t.what)) e) ∙ h))
    (record { live = goes_on m k t r e; back = λ ts all q. expr_back m k t _ ts e q }))

-- ---- statements that an expression begins

pub plain_back : (a : Around) (m k : Mode) (t : Spelled) (ts : List Spelled) (all : List Item) → step greatest_weight m t ≡ Some k → RestPlain a k ts all → RestPlain a m (t ∷ ts) all
plain_back a m k t ts all e (inl r) = inl (expr_back m k t _ ts e r)
plain_back a m k t ts all e (inr r) =
    inr (record {
      part = t ∷ r.part;
      more = r.more;
      tree = r.tree;
      weight = r.weight;
      goes = go m k (mode.Have (held [] r.tree r.weight)) t r.part e r.goes;
      light = r.light;
      split = ap (λ (l : List Spelled). t ∷ l) r.split;
      rest = r.rest;
    })

found_plain : (a : Around) (o : Option Expr) (w : What) (n : Stage) → plain_found a o (ending_of w) ≡ Some n
    → (e : Expr) × (o ≡ Some e) × (w ≡ what.Mark mark.Newline) × (added_stage a (stmt.plain e) ≡ n)
found_plain a (Some e) (what.Mark mark.Newline) n h = (e, refl, refl, some_is h)
found_plain a (Some e) w n h = none_some _ h
found_plain a None w n h = none_some _ h

pub plain_on_sound : (a : Around) (m : Mode) (t : Spelled) (n : Stage) → Reached m → plain_on a m t ≡ Some n → Sound (λ ts all. RestPlain a m ts all) t n
plain_on_sound a m t n r h =
    split_option (step greatest_weight m t) (Sound (λ ts all. RestPlain a m ts all) t n)
    (λ e.
    let f = found_plain a (finish m) t.what n (sym (ap (plain_next a (finish m) (ending_of t.what)) e) ∙ h) in
    sound_at _ t (added_stage a (stmt.plain f.0)) n f.3 (record { live = tt; back = λ ts all q. inl (expr_end m f.0 _ (t ∷ ts) f.1 (next_is (what.Mark mark.Newline) _ t ts f.2 q)) }))
    (λ k e.
    sound_at _ t (stage.Plain a k) n (some_is (sym (ap (plain_next a (finish m) (ending_of t.what)) e) ∙ h))
    (record { live = goes_on m k t r e; back = λ ts all q. plain_back a m k t ts all e q }))

-- a receiver stands here, and a `.` is behind it
record AtDot (a : Around) (m : Mode) (w : What) (n : Stage) : Type 0 where
  tree : Expr
  weight : ℕ
  mode_is : m ≡ mode.Have (held [] tree weight)
  dot : w ≡ what.Dot
  next : stage.Dotted a tree weight ≡ n

held_dot : (a : Around) (k : List Frame) (e : Expr) (v : ℕ) (w : What) (o : Option Stage) (n : Stage) → plain_held a k e v (ending_of w) o ≡ Some n
    → AtDot a (mode.Have (held k e v)) w n ⊎ (o ≡ Some n)
held_dot a [] e v what.Dot o n h = inl (record { tree = e; weight = v; mode_is = refl; dot = refl; next = some_is h })
held_dot a [] e v (what.Mark mark.Newline) o n h = inr h
held_dot a [] e v w o n h = inr h
held_dot a (f ∷ k) e v w o n h = inr h

at_dot : (a : Around) (m : Mode) (w : What) (o : Option Stage) (n : Stage) → plain_at a m (ending_of w) o ≡ Some n → AtDot a m w n ⊎ (o ≡ Some n)
at_dot a (mode.Have h) w o n e = held_dot a h.stack h.tree h.weight w o n e
at_dot a m w o n e = inr e

-- a receiver goes on as a target or as an attribute
attribute_back : (a : Around) (o : Expr) (w : ℕ) (p : Place) (x : Word) (ts : List Spelled) (all : List Item) → w ≤ greatest_weight → RestAttribute a o w x ts all
    → RestPlain a (mode.Have (held [] o w)) (tok what.Dot p ∷ tok (what.Name x.text) x.place ∷ ts) all
attribute_back a o w p x ts all l (inl v) =
    inr (record {
      part = [];
      more = tok what.Dot p ∷ tok (what.Name x.text) x.place ∷ ts;
      tree = o;
      weight = w;
      goes = stay (mode.Have (held [] o w));
      light = l;
      split = refl;
      rest = record { place = p; more = tok (what.Name x.text) x.place ∷ ts; split = refl; rest = record { name = x.text; place = x.place; more = ts; split = refl; rest = v } };
    })
attribute_back a o w p x ts all l (inr q) =
    plain_back a (mode.Have (held [] o w)) (mode.Dotted (held [] o w)) (tok what.Dot p) (tok (what.Name x.text) x.place ∷ ts) all (dot_goes o w p q.0)
    (plain_back a (mode.Dotted (held [] o w)) (mode.Have (held [] (expr.read o x) (suc w))) (tok (what.Name x.text) x.place) ts all (field_goes o w x) q.1)

pub plain_sound : (a : Around) (m : Mode) (t : Spelled) (n : Stage) → Reached m → plain_step a m t ≡ Some n → Sound (λ ts all. RestPlain a m ts all) t n
plain_sound a m t n r h =
    elim (at_dot a m t.what (plain_on a m t) n h) [
      | inl d ↦ (
          let reached = subst Reached d.mode_is r in
          sound_at _ t (stage.Dotted a d.tree d.weight) n d.next
          (record {
            live = reached;
            back = λ ts all q.
                subst (λ (k : Mode). RestPlain a k (t ∷ ts) all) (sym d.mode_is)
                (subst (λ (u : Spelled). RestPlain a (mode.Have (held [] d.tree d.weight)) (u ∷ ts) all) (λ i. tok (sym d.dot i) t.place)
                (subst (λ (l : List Spelled). RestPlain a (mode.Have (held [] d.tree d.weight)) (tok what.Dot t.place ∷ l) all) (sym q.split)
                (attribute_back a d.tree d.weight t.place (word q.name q.place) q.more all (held_light d.tree d.weight reached) q.rest)));
          }))
      | inr e ↦ plain_on_sound a m t n r e
    ]

pub dotted_sound : (a : Around) (o : Expr) (w : ℕ) (t : Spelled) (v : What) (n : Stage) → t.what ≡ v → Reached (mode.Have (held [] o w)) → dotted_step a o w t.place v ≡ Some n
    → Sound (λ ts all. NextName (λ x us. RestAttribute a o w x us all) ts) t n
dotted_sound a o w t (what.Name x) n i r h =
    sound_at _ t (stage.Target a o w (word x t.place)) n (some_is h)
    (record { live = λ l. attribute_reached o w (word x t.place) t.place r l; back = λ ts all q. record { name = x; place = t.place; more = ts; split = λ j. tok (i j) t.place ∷ ts; rest = q } })
dotted_sound a o w t v n i r h = none_some _ h

-- what goes on as an attribute
attributed : (a : Around) (o : Expr) (w : ℕ) (x : Word) (t : Spelled) (n : Stage) (b : Bool) → nat_lt w greatest_weight ≡ b → (w < greatest_weight → Reached (mode.Have (held [] (expr.read o x) (suc w))))
    → attribute_step b a o w x t ≡ Some n → Sound (λ ts all. RestAttribute a o w x ts all) t n
attributed a o w x t n true b r h =
    let l : w < greatest_weight = ltb-true w greatest_weight b in
    let s = plain_sound a (mode.Have (held [] (expr.read o x) (suc w))) t n (r l) h in
    record { live = s.live; back = λ ts all q. inr (l, s.back ts all q) }
attributed a o w x t n false b r h = none_some _ h

at_target : (a : Around) (o : Expr) (x : Word) (w : What) (s : Option Stage) (n : Stage) → target_at a o x (ending_of w) s ≡ Some n
    → ((w ≡ what.Mark mark.Equals) × (inside a (for_.Write o x) ≡ n)) ⊎ (s ≡ Some n)
at_target a o x (what.Mark mark.Equals) s n h = inl (refl, some_is h)
at_target a o x w s n h = inr h

pub target_sound : (a : Around) (o : Expr) (w : ℕ) (x : Word) (t : Spelled) (n : Stage) → (w < greatest_weight → Reached (mode.Have (held [] (expr.read o x) (suc w))))
    → target_step a o w x t ≡ Some n → Sound (λ ts all. RestAttribute a o w x ts all) t n
target_sound a o w x t n r h =
    elim (at_target a o x t.what (attribute_step (nat_lt w greatest_weight) a o w x t) n h) [
      | inl e ↦ sound_at _ t (inside a (for_.Write o x)) n e.1 (record { live = begins; back = λ ts all q. inl (next_is (what.Mark mark.Equals) _ t ts e.0 q) })
      | inr e ↦ attributed a o w x t n (nat_lt w greatest_weight) refl r e
    ]

-- ---- a name that begins a statement

record AtNamed (a : Around) (x : Word) (w : What) (s : Option Stage) (n : Stage) : Type 0 where
  which : ((w ≡ what.Mark mark.Equals) × (stage.Assigning a x ≡ n)) ⊎ (((w ≡ what.Mark mark.Colon) × (stage.Typed a x (type_mode.Want []) ≡ n)) ⊎ (s ≡ Some n))

at_named : (a : Around) (x : Word) (w : What) (s : Option Stage) (n : Stage) → named_at a x (ending_of w) s ≡ Some n → AtNamed a x w s n
at_named a x (what.Mark mark.Equals) s n h = record { which = inl (refl, some_is h) }
at_named a x (what.Mark mark.Colon) s n h = record { which = inr (inl (refl, some_is h)) }
at_named a x w s n h = record { which = inr (inr h) }

pub named_sound : (a : Around) (x : Word) (t : Spelled) (n : Stage) → named_step a x t ≡ Some n → Sound (λ ts all. RestNamed a x ts all) t n
named_sound a x t n h =
    elim (at_named a x t.what (plain_step a (mode.Have (held [] (expr.local x) 1)) t) n h).which [
      | inl e ↦ sound_at _ t (stage.Assigning a x) n e.1 (record { live = tt; back = λ ts all q. inl (next_is (what.Mark mark.Equals) _ t ts e.0 q) })
      | inr f ↦
          elim f [
            | inl e ↦ sound_at _ t (stage.Typed a x (type_mode.Want [])) n e.1 (record { live = reached_start; back = λ ts all q. inr (inl (next_is (what.Mark mark.Colon) _ t ts e.0 q)) })
            | inr e ↦ (
                let s = plain_sound a (mode.Have (held [] (expr.local x) 1)) t n (named_reached x) e in
                record { live = s.live; back = λ ts all q. inr (inr (s.back ts all q)) })
          ]
    ]

at_typed : (a : Around) (x : Word) (o : Option Weighed) (w : What) (n : Stage) → typed_end a x o (ending_of w) ≡ Some n
    → (y : Weighed) × (o ≡ Some y) × (w ≡ what.Mark mark.Equals) × (inside a (for_.Assign x (Some y.ann)) ≡ n)
at_typed a x (Some y) (what.Mark mark.Equals) n h = (y, refl, refl, some_is h)
at_typed a x (Some y) w n h = none_some _ h
at_typed a x None w n h = none_some _ h

pub typed_sound : (a : Around) (x : Word) (m : TypeMode) (t : Spelled) (n : Stage) → ReachedType m → typed_step a x m t ≡ Some n → Sound (λ ts all. RestTyped a x m ts all) t n
typed_sound a x m t n r h =
    split_option (type_step greatest_weight m t) (Sound (λ ts all. RestTyped a x m ts all) t n)
    (λ e.
    let f = at_typed a x (type_finish m) t.what n (sym (ap (typed_next a x (type_finish m) (ending_of t.what)) e) ∙ h) in
    sound_at _ t (inside a (for_.Assign x (Some (f.0).ann))) n f.3 (record { live = begins; back = λ ts all q. type_end m f.0 _ (t ∷ ts) f.1 (next_is (what.Mark mark.Equals) _ t ts f.2 q) }))
    (λ k e.
    sound_at _ t (stage.Typed a x k) n (some_is (sym (ap (typed_next a x (type_finish m) (ending_of t.what)) e) ∙ h))
    (record { live = reached_more m k t r e; back = λ ts all q. type_back m k t _ ts e q }))

at_assigning : (a : Around) (x : Word) (w : What) (s : Option Stage) (n : Stage) → assigning_at a x (ending_of w) s ≡ Some n
    → ((w ≡ what.Mark mark.Start) × (stage.StartWord a x ≡ n)) ⊎ (s ≡ Some n)
at_assigning a x (what.Mark mark.Start) s n h = inl (refl, some_is h)
at_assigning a x w s n h = inr h

pub assigning_sound : (a : Around) (x : Word) (t : Spelled) (n : Stage) → assigning_step a x t ≡ Some n → Sound (λ ts all. RestAssigning a x ts all) t n
assigning_sound a x t n h =
    elim (at_assigning a x t.what (inside_step a (for_.Assign x None) (mode.Want []) t) n h) [
      | inl e ↦ sound_at _ t (stage.StartWord a x) n e.1 (record { live = tt; back = λ ts all q. inr (next_is (what.Mark mark.Start) _ t ts e.0 q) })
      | inr e ↦ (
          let s = inside_sound a (for_.Assign x None) (mode.Want []) t n begins e in
          record { live = s.live; back = λ ts all q. inl (s.back ts all q) })
    ]

at_returning : (a : Around) (p : Place) (w : What) (s : Option Stage) (n : Stage) → returning_at a p (ending_of w) s ≡ Some n
    → ((w ≡ what.Mark mark.Newline) × (added_stage a (stmt.give p None) ≡ n)) ⊎ (s ≡ Some n)
at_returning a p (what.Mark mark.Newline) s n h = inl (refl, some_is h)
at_returning a p w s n h = inr h

pub returning_sound : (a : Around) (p : Place) (t : Spelled) (n : Stage) → returning_step a p t ≡ Some n → Sound (λ ts all. Rest (stage.Returning a p) ts all) t n
returning_sound a p t n h =
    elim (at_returning a p t.what (inside_step a (for_.Return p) (mode.Want []) t) n h) [
      | inl e ↦ sound_at _ t (added_stage a (stmt.give p None)) n e.1 (record { live = tt; back = λ ts all q. inl (next_is (what.Mark mark.Newline) _ t ts e.0 q) })
      | inr e ↦ (
          let s = inside_sound a (for_.Return p) (mode.Want []) t n begins e in
          record { live = s.live; back = λ ts all q. inr (s.back ts all q) })
    ]

-- ---- arguments

listed_sound : (a : Around) (l : Listed) (es : List Expr) (t : Spelled) (n : Stage) → listed_stage a l es ≡ Some n → Live n × ((ts : List Spelled) (all : List Item) → Rest n ts all → RestListed a l es ts all)
listed_sound a (listed.Print p) es t n h = subst (λ (z : Stage). Live z × ((ts : List Spelled) (all : List Item) → Rest z ts all → RestListed a (listed.Print p) es ts all)) (some_is h) (tt, λ ts all q. q)
listed_sound a (listed.Start x p) (e ∷ es) t n h =
    subst (λ (z : Stage). Live z × ((ts : List Spelled) (all : List Item) → Rest z ts all → RestListed a (listed.Start x p) (e ∷ es) ts all)) (some_is h) (tt, λ ts all q. q)
listed_sound a (listed.Start x p) [] t n h = none_some _ h

behind_sound : (a : Around) (l : Listed) (es : List Expr) (t : Spelled) (w : What) (n : Stage) → t.what ≡ w → behind_argument a l es (ending_of w) ≡ Some n
    → Sound (λ ts all. RestArgument a l es ts all) t n
behind_sound a l es t what.Comma n i h = sound_at _ t (stage.Listing a l es) n (some_is h) (record { live = tt; back = λ ts all q. inl (next_is what.Comma _ t ts i q) })
behind_sound a l es t what.Close n i h = let s = listed_sound a l es t n h in record { live = s.0; back = λ ts all q. inr (next_is what.Close _ t ts i (s.1 ts all q)) }
behind_sound a l es t (what.Mark mark.Newline) n i h = none_some _ h
behind_sound a l es t w n i h = none_some _ h

pub argument_sound : (a : Around) (l : Listed) (es : List Expr) (m : Mode) (t : Spelled) (n : Stage) → Reached m → argument_step a l es m t ≡ Some n
    → Sound (λ ts all. Rest (stage.Argument a l es m) ts all) t n
argument_sound a l es m t n r h =
    split_option (step greatest_weight m t) (Sound (λ ts all. Rest (stage.Argument a l es m) ts all) t n)
    (λ e.
    split_option (finish m) (Sound (λ ts all. Rest (stage.Argument a l es m) ts all) t n)
    (λ f. none_some _ (sym (ap (λ o. found_argument a l es o (ending_of t.what)) f) ∙ sym (ap (argument_next a l es (finish m) (ending_of t.what)) e) ∙ h))
    (λ x f.
    let s = behind_sound a l (es ++ (x ∷ [])) t t.what n refl (sym (ap (λ o. found_argument a l es o (ending_of t.what)) f) ∙ sym (ap (argument_next a l es (finish m) (ending_of t.what)) e) ∙ h) in
    record { live = s.live; back = λ ts all q. expr_end m x _ (t ∷ ts) f (s.back ts all q) }))
    (λ k e.
    sound_at _ t (stage.Argument a l es k) n (some_is (sym (ap (argument_next a l es (finish m) (ending_of t.what)) e) ∙ h))
    (record { live = goes_on m k t r e; back = λ ts all q. expr_back m k t _ ts e q }))

-- an argument and what is behind it are arguments
pub argument_listing : (a : Around) (l : Listed) (es : List Expr) (ts : List Spelled) (all : List Item) → NextExpr (mode.Want []) (λ e us. RestArgument a l (es ++ (e ∷ [])) us all) ts → RestListing a l es ts all
argument_listing a l es ts all r =
    let x = r.ends in
    let d = expr_sound greatest_weight (omega arith) r.part x.0 r.tree x.1 x.2 in
    elim r.rest [
      | inl c ↦ (
          let s = c.rest in
          record {
            part = r.part ++ (tok what.Comma c.place ∷ s.part);
            weight = max d.0 s.weight;
            args = r.tree ∷ s.args;
            place = s.place;
            more = s.more;
            derives = more_args c.place r.part s.part d.0 s.weight r.tree s.args d.1 s.derives;
            light = max-le d.2 s.light;
            split = r.split ∙ ap (λ (l : List Spelled). r.part ++ l) (c.split ∙ ap (λ (l : List Spelled). tok what.Comma c.place ∷ l) s.split) ∙ sym (append_assoc r.part (tok what.Comma c.place ∷ s.part) (tok what.Close s.place ∷ s.more));
            rest = subst (λ (fs : List Expr). RestListed a l fs s.more all) (append_assoc es (r.tree ∷ []) s.args) s.rest;
          })
      | inr c ↦
          record {
            part = r.part;
            weight = d.0;
            args = r.tree ∷ [];
            place = c.place;
            more = c.more;
            derives = last_arg r.part d.0 r.tree d.1;
            light = d.2;
            split = r.split ∙ ap (λ (l : List Spelled). r.part ++ l) c.split;
            rest = c.rest;
          }
    ]

at_listing : (a : Around) (l : Listed) (es : List Expr) (w : What) (o : Option Stage) (n : Stage) → listing_at a l es (ending_of w) o ≡ Some n
    → ((w ≡ what.Close) × (listed_stage a l es ≡ Some n)) ⊎ (o ≡ Some n)
at_listing a l es what.Close o n h = inl (refl, h)
at_listing a l es (what.Mark mark.Newline) o n h = inr h
at_listing a l es w o n h = inr h

pub listing_sound : (a : Around) (l : Listed) (es : List Expr) (t : Spelled) (n : Stage) → listing_step a l es t ≡ Some n → Sound (λ ts all. RestListing a l es ts all) t n
listing_sound a l es t n h =
    elim (at_listing a l es t.what (argument_step a l es (mode.Want []) t) n h) [
      | inl e ↦ (
          let s = listed_sound a l es t n e.1 in
          record {
            live = s.0;
            back = λ ts all q.
                record {
                  part = [];
                  weight = 0;
                  args = [];
                  place = t.place;
                  more = ts;
                  derives = no_args;
                  light = omega arith;
                  split = λ i. tok (e.0 i) t.place ∷ ts;
                  rest = subst (λ (fs : List Expr). RestListed a l fs ts all) (sym (append-nil es)) (s.1 ts all q);
                };
          })
      | inr e ↦ (
          let s = argument_sound a l es (mode.Want []) t n begins e in
          record { live = s.live; back = λ ts all q. argument_listing a l es (t ∷ ts) all (s.back ts all q) })
    ]
