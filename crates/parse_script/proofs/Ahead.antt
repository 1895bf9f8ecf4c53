-- A step forwards: where tokens are wanted, the first of them is taken, and the rest is what the next stage wants. Expressions, types and arguments.
use Rattle.std.proofs.Common.{◌≡◌, ◌⊎◌, inl, inr, ℕ, ◌≤◌, List, [], ◌∷◌, ◌++◌, Option, Some, None, refl, sym, ◌∙◌, ap, subst, arith, append_assoc}
use Rattle.std.proofs.lemmas.List.{append-nil}
use Rattle.std.proofs.Math.Nat.{le-max_left, le-max_right}
use Rattle.mono_syntax.specs.declared.leaf.Place.{Place}
use Rattle.mono_syntax.specs.declared.leaf.Word.{Word}
use Rattle.mono_syntax.specs.declared.tree.Item.{Item}
use Rattle.mono_syntax.specs.Ann.{Ann}
use Rattle.mono_syntax.specs.Expr.{Expr}
use Rattle.mono_syntax.specs.ExprView.{exprs}
use Rattle.mono_syntax.specs.Stmt as stmt
use Rattle.mono_syntax.specs.Stmt.{Stmt}
use Rattle.spelled_tokens.specs.declared.token.Mark.{Mark}
use Rattle.spelled_tokens.specs.declared.token.Mark.TheVariants as mark
use Rattle.spelled_tokens.specs.declared.token.Spelled.{Spelled}
use Rattle.spelled_tokens.specs.declared.token.What.{What}
use Rattle.spelled_tokens.specs.declared.token.What.TheVariants as what
use Rattle.spelled_tokens.specs.SpelledTokens.{tok}
use Rattle.parse_expr.specs.declared.machine.Frame.{Frame}
use Rattle.parse_expr.specs.declared.machine.Mode.{Mode}
use Rattle.parse_expr.specs.declared.machine.Mode.TheVariants as mode
use Rattle.parse_expr.specs.declared.machine.TypeMode.{TypeMode}
use Rattle.parse_expr.specs.declared.machine.TypeMode.TheVariants as type_mode
use Rattle.parse_expr.specs.computed.Goes.{Goes}
use Rattle.parse_expr.specs.Grammar.{DerivesArgs, no_args, last_arg, more_args, IsExpr}
use Rattle.parse_expr.specs.computed.Reading.{step, finish, settle, whole_at, close_at, comma_at, go_on}
use Rattle.parse_expr.specs.computed.TypeReading.{type_step}
use Rattle.parse_expr.specs.Types.{word}
use Rattle.parse_expr.proofs.Goes.{goes_nil, goes_cons}
use Rattle.parse_script.specs.declared.stage.Around.{Around}
use Rattle.parse_script.specs.declared.stage.Head.TheVariants as head
use Rattle.parse_script.specs.declared.stage.Listed.{Listed}
use Rattle.parse_script.specs.declared.stage.Listed.TheVariants as listed
use Rattle.parse_script.specs.declared.stage.Stage.{Stage}
use Rattle.parse_script.specs.declared.stage.Stage.TheVariants as stage
use Rattle.parse_script.specs.declared.stage.Use.{Use}
use Rattle.parse_script.specs.declared.stage.Use.TheVariants as for_
use Rattle.parse_script.specs.computed.Reading.{added, added_stage, behind_used, behind_found, inside_next, inside_step, listed_stage, behind_argument, found_argument, argument_next, argument_step, listing_at, listing_step}
use Rattle.parse_script.specs.computed.Endings.{ending_of}
use Rattle.mono_syntax.specs.Limits.{greatest_weight}
use Rattle.parse_script.proofs.Rest.{Rest, Next, NextName, Ends, NextExpr, NextType, RestUse, RestInside, RestListed, RestListing, RestArgument}
use Rattle.parse_script.proofs.Steps.{none_some, head_is, tail_is}
use Rattle.parse_expr.proofs.Readings.{expr_goes}

-- the next stage, and what it wants
pub record On (o : Option Stage) (ts : List Spelled) (all : List Item) : Type 0 where
  pub next : Stage
  pub step_is : o ≡ Some next
  pub rest : Rest next ts all

pub on_at : (o p : Option Stage) (ts : List Spelled) (all : List Item) → o ≡ p → On p ts all → On o ts all
on_at o p ts all e x = record { next = x.next; step_is = e ∙ x.step_is; rest = x.rest }

-- the token that is next, and what is behind it
pub unnext : (w : What) (P : Place → List Spelled → Type 0) (t : Spelled) (ts : List Spelled) → Next w P (t ∷ ts) → (t.what ≡ w) × P t.place ts
unnext w P t ts n =
    let h = head_is n.split in
    (ap (λ (u : Spelled). u.what) h, subst (λ (p : Place). P p ts) (sym (ap (λ (u : Spelled). u.place) h)) (subst (λ (l : List Spelled). P n.place l) (sym (tail_is n.split)) n.rest))

pub unname : (P : Word → List Spelled → Type 0) (t : Spelled) (ts : List Spelled) → NextName P (t ∷ ts) → (x : List ℕ) × (t.what ≡ what.Name x) × P (word x t.place) ts
unname P t ts n =
    let h = head_is n.split in (
      n.name,
      ap (λ (u : Spelled). u.what) h,
      subst (λ (p : Place). P (word n.name p) ts) (sym (ap (λ (u : Spelled). u.place) h)) (subst (λ (l : List Spelled). P (word n.name n.place) l) (sym (tail_is n.split)) n.rest),
    )

-- an expression goes on, or ends here
pub record ExprOn (m : Mode) (P : Expr → List Spelled → Type 0) (t : Spelled) (ts : List Spelled) : Type 0 where
  pub next : Mode
  pub step_is : step greatest_weight m t ≡ Some next
  pub rest : NextExpr next P ts

pub record ExprEnd (m : Mode) (P : Expr → List Spelled → Type 0) (ts : List Spelled) : Type 0 where
  pub tree : Expr
  pub finish_is : finish m ≡ Some tree
  pub rest : P tree ts

unexpr_at : (m : Mode) (P : Expr → List Spelled → Type 0) (t : Spelled) (ts part more : List Spelled) (e : Expr) → Ends m part e → t ∷ ts ≡ part ++ more → P e more → ExprOn m P t ts ⊎ ExprEnd m P (t ∷ ts)
unexpr_at m P t ts [] more e x s r =
    inr (record { tree = e; finish_is = ap finish (goes_nil (step greatest_weight) x.1) ∙ x.2; rest = subst (λ (l : List Spelled). P e l) (sym s) r })
unexpr_at m P t ts (u ∷ part) more e x s r =
    let c = goes_cons (step greatest_weight) x.1 in
    inl (record { next = c.0; step_is = ap (step greatest_weight m) (head_is s) ∙ c.1; rest = record { part = part; more = more; tree = e; ends = (x.0, c.2, x.2); split = tail_is s; rest = r } })

pub unexpr : (m : Mode) (P : Expr → List Spelled → Type 0) (t : Spelled) (ts : List Spelled) → NextExpr m P (t ∷ ts) → ExprOn m P t ts ⊎ ExprEnd m P (t ∷ ts)
unexpr m P t ts n = unexpr_at m P t ts n.part n.more n.tree n.ends n.split n.rest

pub record TypeOn (m : TypeMode) (P : Ann → List Spelled → Type 0) (t : Spelled) (ts : List Spelled) : Type 0 where
  pub next : TypeMode
  pub step_is : type_step greatest_weight m t ≡ Some next
  pub rest : NextType next P ts

pub record TypeEnd (m : TypeMode) (P : Ann → List Spelled → Type 0) (ts : List Spelled) : Type 0 where
  pub tree : Ann
  pub weight : ℕ
  pub mode_is : m ≡ type_mode.Have [] tree weight
  pub rest : P tree ts

untype_at : (m : TypeMode) (P : Ann → List Spelled → Type 0) (t : Spelled) (ts part more : List Spelled) (a : Ann) (w : ℕ) → Goes (type_step greatest_weight) m part (type_mode.Have [] a w)
    → t ∷ ts ≡ part ++ more → P a more → TypeOn m P t ts ⊎ TypeEnd m P (t ∷ ts)
untype_at m P t ts [] more a w g s r = inr (record { tree = a; weight = w; mode_is = goes_nil (type_step greatest_weight) g; rest = subst (λ (l : List Spelled). P a l) (sym s) r })
untype_at m P t ts (u ∷ part) more a w g s r =
    let c = goes_cons (type_step greatest_weight) g in
    inl (record { next = c.0; step_is = ap (type_step greatest_weight m) (head_is s) ∙ c.1; rest = record { part = part; more = more; tree = a; weight = w; goes = c.2; split = tail_is s; rest = r } })

pub untype : (m : TypeMode) (P : Ann → List Spelled → Type 0) (t : Spelled) (ts : List Spelled) → NextType m P (t ∷ ts) → TypeOn m P t ts ⊎ TypeEnd m P (t ∷ ts)
untype m P t ts n = untype_at m P t ts n.part n.more n.tree n.weight n.goes n.split n.rest

-- ---- what ends an expression doesn't go on in it

pub mark_stops : (m : Mode) (e : Expr) (t : Spelled) (x : Mark) → finish m ≡ Some e → t.what ≡ what.Mark x → step greatest_weight m t ≡ None
mark_stops (mode.Have h) e t x f i = ap (go_on greatest_weight h.stack h.tree h.weight t.place) i
mark_stops (mode.Want k) e t x f i = none_some _ f
mark_stops (mode.Dotted h) e t x f i = none_some _ f
mark_stops (mode.CastWord p k) e t x f i = none_some _ f
mark_stops (mode.CastType p k m) e t x f i = none_some _ f
mark_stops (mode.JoinWord p k) e t x f i = none_some _ f
mark_stops (mode.JoinOpen p k) e t x f i = none_some _ f
mark_stops (mode.JoinName p y k) e t x f i = none_some _ f

whole_open : (k : List Frame) (e x : Expr) → whole_at k e ≡ Some x → k ≡ []
whole_open [] e x h = refl
whole_open (f ∷ k) e x h = none_some _ h

close_stops : (m : Mode) (e : Expr) (t : Spelled) → finish m ≡ Some e → t.what ≡ what.Close → step greatest_weight m t ≡ None
close_stops (mode.Have h) e t f i =
    let s = settle 1 h.stack h.tree h.weight in
    ap (go_on greatest_weight h.stack h.tree h.weight t.place) i ∙ ap (λ (k : List Frame). close_at k s.tree s.weight) (whole_open s.stack s.tree e f)
close_stops (mode.Want k) e t f i = none_some _ f
close_stops (mode.Dotted h) e t f i = none_some _ f
close_stops (mode.CastWord p k) e t f i = none_some _ f
close_stops (mode.CastType p k m) e t f i = none_some _ f
close_stops (mode.JoinWord p k) e t f i = none_some _ f
close_stops (mode.JoinOpen p k) e t f i = none_some _ f
close_stops (mode.JoinName p y k) e t f i = none_some _ f

comma_stops : (m : Mode) (e : Expr) (t : Spelled) → finish m ≡ Some e → t.what ≡ what.Comma → step greatest_weight m t ≡ None
comma_stops (mode.Have h) e t f i =
    let s = settle 1 h.stack h.tree h.weight in
    ap (go_on greatest_weight h.stack h.tree h.weight t.place) i ∙ ap (λ (k : List Frame). comma_at k s.tree s.weight) (whole_open s.stack s.tree e f)
comma_stops (mode.Want k) e t f i = none_some _ f
comma_stops (mode.Dotted h) e t f i = none_some _ f
comma_stops (mode.CastWord p k) e t f i = none_some _ f
comma_stops (mode.CastType p k m) e t f i = none_some _ f
comma_stops (mode.JoinWord p k) e t f i = none_some _ f
comma_stops (mode.JoinOpen p k) e t f i = none_some _ f
comma_stops (mode.JoinName p y k) e t f i = none_some _ f

-- ---- an expression that is read for something

used_on : (a : Around) (u : Use) (e : Expr) (t : Spelled) (ts : List Spelled) (all : List Item) → RestUse a u e (t ∷ ts) all
    → (x : Mark) × (t.what ≡ what.Mark x) × On (behind_used a u e (ending_of t.what)) ts all
used_on a (for_.Assign x y) e t ts all r =
    let n = unnext (what.Mark mark.Newline) _ t ts r in
    (mark.Newline, n.0, record { next = added_stage a (stmt.assign x y e); step_is = ap (λ w. behind_used a (for_.Assign x y) e (ending_of w)) n.0; rest = n.1 })
used_on a (for_.Write o x) e t ts all r =
    let n = unnext (what.Mark mark.Newline) _ t ts r in
    (mark.Newline, n.0, record { next = added_stage a (stmt.write o x e); step_is = ap (λ w. behind_used a (for_.Write o x) e (ending_of w)) n.0; rest = n.1 })
used_on a (for_.Return p) e t ts all r =
    let n = unnext (what.Mark mark.Newline) _ t ts r in
    (mark.Newline, n.0, record { next = added_stage a (stmt.give p (Some e)); step_is = ap (λ w. behind_used a (for_.Return p) e (ending_of w)) n.0; rest = n.1 })
used_on a for_.While e t ts all r =
    let n = unnext (what.Mark mark.Colon) _ t ts r in
    (mark.Colon, n.0, record { next = stage.HeadLine a (head.While e); step_is = ap (λ w. behind_used a for_.While e (ending_of w)) n.0; rest = n.1 })
used_on a (for_.Branch bs) e t ts all r =
    let n = unnext (what.Mark mark.Colon) _ t ts r in
    (mark.Colon, n.0, record { next = stage.HeadLine a (head.Branch bs e); step_is = ap (λ w. behind_used a (for_.Branch bs) e (ending_of w)) n.0; rest = n.1 })

pub inside_on : (a : Around) (u : Use) (m : Mode) (t : Spelled) (ts : List Spelled) (all : List Item) → RestInside a u m (t ∷ ts) all → On (inside_step a u m t) ts all
inside_on a u m t ts all r =
    elim (unexpr m (λ e us. RestUse a u e us all) t ts r) [
      | inl x ↦ record { next = stage.Inside a u x.next; step_is = ap (inside_next a u (finish m) (ending_of t.what)) x.step_is; rest = x.rest }
      | inr x ↦ (
          let y = used_on a u x.tree t ts all x.rest in
          on_at _ _ ts all (ap (inside_next a u (finish m) (ending_of t.what)) (mark_stops m x.tree t y.0 x.finish_is y.1) ∙ ap (λ (o : Option Expr). behind_found a u o (ending_of t.what)) x.finish_is) y.2)
    ]

-- ---- arguments

pub listed_on : (a : Around) (l : Listed) (es : List Expr) (ts : List Spelled) (all : List Item) → RestListed a l es ts all → On (listed_stage a l es) ts all
listed_on a (listed.Print p) es ts all r = record { next = stage.Line (added a (stmt.print p (exprs es))); step_is = refl; rest = r }
listed_on a (listed.Start x p) (e ∷ es) ts all r = record { next = stage.Line (added a (stmt.start x p e (exprs es))); step_is = refl; rest = r }
listed_on a (listed.Start x p) [] ts all r = absurd r

behind_on : (a : Around) (l : Listed) (es : List Expr) (m : Mode) (e : Expr) (t : Spelled) (ts : List Spelled) (all : List Item) → finish m ≡ Some e → RestArgument a l es (t ∷ ts) all
    → (step greatest_weight m t ≡ None) × On (behind_argument a l es (ending_of t.what)) ts all
behind_on a l es m e t ts all f (inl r) =
    let n = unnext what.Comma _ t ts r in
    (comma_stops m e t f n.0, record { next = stage.Listing a l es; step_is = ap (λ w. behind_argument a l es (ending_of w)) n.0; rest = n.1 })
behind_on a l es m e t ts all f (inr r) =
    let n = unnext what.Close _ t ts r in
    (close_stops m e t f n.0, on_at _ _ ts all (ap (λ w. behind_argument a l es (ending_of w)) n.0) (listed_on a l es ts all n.1))

pub argument_on : (a : Around) (l : Listed) (es : List Expr) (m : Mode) (t : Spelled) (ts : List Spelled) (all : List Item) → NextExpr m (λ e us. RestArgument a l (es ++ (e ∷ [])) us all) (t ∷ ts)
    → On (argument_step a l es m t) ts all
argument_on a l es m t ts all r =
    elim (unexpr m (λ e us. RestArgument a l (es ++ (e ∷ [])) us all) t ts r) [
      | inl x ↦ record { next = stage.Argument a l es x.next; step_is = ap (argument_next a l es (finish m) (ending_of t.what)) x.step_is; rest = x.rest }
      | inr x ↦ (
          let y = behind_on a l (es ++ (x.tree ∷ [])) m x.tree t ts all x.finish_is x.rest in
          on_at _ _ ts all (ap (argument_next a l es (finish m) (ending_of t.what)) y.0 ∙ ap (λ (o : Option Expr). found_argument a l es o (ending_of t.what)) x.finish_is) y.1)
    ]

-- an expression of the grammar, and what is behind it
pub grammar_expr : (P : Expr → List Spelled → Type 0) (us vs ts : List Spelled) (e : Expr) → IsExpr greatest_weight us e → ts ≡ us ++ vs → P e vs → NextExpr (mode.Want []) P ts
grammar_expr P us vs ts e h s r = let g = expr_goes greatest_weight us e h in record { part = us; more = vs; tree = e; ends = g; split = s; rest = r }

-- arguments are none, or an argument and what is behind it
record ArgumentsAre (a : Around) (l : Listed) (es : List Expr) (ts : List Spelled) (all : List Item) : Type 0 where
  which : Next what.Close (λ p us. RestListed a l es us all) ts ⊎ NextExpr (mode.Want []) (λ e us. RestArgument a l (es ++ (e ∷ [])) us all) ts

arguments_are : (a : Around) (l : Listed) (es : List Expr) (ts us vs : List Spelled) (w : ℕ) (fs : List Expr) (p : Place) (all : List Item) → DerivesArgs us w fs → w ≤ greatest_weight
    → ts ≡ us ++ (tok what.Close p ∷ vs) → RestListed a l (es ++ fs) vs all → ArgumentsAre a l es ts all
arguments_are a l es ts us vs w fs p all no_args h s r = record { which = inl (record { place = p; more = vs; split = s; rest = subst (λ (ks : List Expr). RestListed a l ks vs all) (append-nil es) r }) }
arguments_are a l es ts us vs w fs p all (last_arg xs v e d) h s r =
    record { which = inr (grammar_expr _ us (tok what.Close p ∷ vs) ts e (w, d, h) s (inr (record { place = p; more = vs; split = refl; rest = r }))) }
arguments_are a l es ts us vs w fs p all (more_args q xs ys v u e ks d k) h s r =
    record {
      which = inr (grammar_expr _ xs (tok what.Comma q ∷ (ys ++ (tok what.Close p ∷ vs))) ts e (v, d, omega (arith, le-max_left v u)) (s ∙ append_assoc xs (tok what.Comma q ∷ ys) (tok what.Close p ∷ vs))
          (inl (record {
            place = q;
            more = ys ++ (tok what.Close p ∷ vs);
            split = refl;
            rest = record {
              part = ys;
              weight = u;
              args = ks;
              place = p;
              more = vs;
              derives = k;
              light = omega (arith, le-max_right v u);
              split = refl;
              rest = subst (λ (gs : List Expr). RestListed a l gs vs all) (sym (append_assoc es (e ∷ []) ks)) r;
            };
          })));
    }

listing_pass : (a : Around) (l : Listed) (es : List Expr) (w : What) → (w ≡ what.Close) ⊎ ((o : Option Stage) → listing_at a l es (ending_of w) o ≡ o)
listing_pass a l es what.Close = inl refl
listing_pass a l es (what.Mark mark.Newline) = inr (λ o. refl)
listing_pass a l es w = inr (λ o. refl)

-- where an argument is wanted, `)` begins none
close_begins_none : (a : Around) (l : Listed) (es : List Expr) (t : Spelled) → t.what ≡ what.Close → argument_step a l es (mode.Want []) t ≡ None
close_begins_none a l es t i = ap (λ (w : What). argument_step a l es (mode.Want []) (tok w t.place)) i

pub listing_on : (a : Around) (l : Listed) (es : List Expr) (t : Spelled) (ts : List Spelled) (all : List Item) → RestListing a l es (t ∷ ts) all → On (listing_step a l es t) ts all
listing_on a l es t ts all r =
    elim (arguments_are a l es (t ∷ ts) r.part r.more r.weight r.args r.place all r.derives r.light r.split r.rest).which [
      | inl x ↦ (
          let n = unnext what.Close _ t ts x in
          on_at _ _ ts all (ap (λ w. listing_at a l es (ending_of w) (argument_step a l es (mode.Want []) t)) n.0) (listed_on a l es ts all n.1))
      | inr x ↦ (
          let y = argument_on a l es (mode.Want []) t ts all x in
          elim (listing_pass a l es t.what) [
            | inl i ↦ none_some _ (sym (close_begins_none a l es t i) ∙ y.step_is)
            | inr i ↦ on_at _ _ ts all (i (argument_step a l es (mode.Want []) t)) y
          ])
    ]
