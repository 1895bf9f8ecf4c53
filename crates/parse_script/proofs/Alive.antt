-- Each stage that is reached can go on to the end of a script.
use Rattle.std.proofs.Common.{inl, inr, ℕ, ◌+◌, List, [], ◌∷◌, ◌++◌, length, Some, None, refl, arith}
use Rattle.mono_syntax.specs.declared.leaf.Word.{Word}
use Rattle.mono_syntax.specs.declared.tree.Item.{Item}
use Rattle.mono_syntax.specs.declared.tree.Item.TheVariants as item
use Rattle.mono_syntax.specs.Ann.{Ann}
use Rattle.mono_syntax.specs.Expr as expr
use Rattle.mono_syntax.specs.Expr.{Expr}
use Rattle.mono_syntax.specs.ExprView.{exprs}
use Rattle.mono_syntax.specs.Stmt as stmt
use Rattle.mono_syntax.specs.Stmt.{Stmt}
use Rattle.mono_syntax.specs.StmtView.{block, branches}
use Rattle.spelled_tokens.specs.declared.token.Mark.TheVariants as mark
use Rattle.spelled_tokens.specs.declared.token.Spelled.{Spelled}
use Rattle.spelled_tokens.specs.declared.token.What.{What}
use Rattle.spelled_tokens.specs.declared.token.What.TheVariants as what
use Rattle.spelled_tokens.specs.SpelledTokens.{tok, sign}
use Rattle.parse_expr.specs.declared.machine.Mode.{Mode}
use Rattle.parse_expr.specs.declared.machine.Mode.TheVariants as mode
use Rattle.parse_expr.specs.declared.machine.TypeMode.{TypeMode}
use Rattle.parse_expr.specs.Grammar.{last_arg}
use Rattle.parse_expr.specs.Grammar as g
use Rattle.parse_expr.specs.Types.{word}
use Rattle.parse_script.specs.declared.stage.Around.{Around}
use Rattle.parse_script.specs.declared.stage.Floor.{Floor}
use Rattle.parse_script.specs.declared.stage.Floor.TheVariants as floor
use Rattle.parse_script.specs.declared.stage.Head.{Head}
use Rattle.parse_script.specs.declared.stage.Head.TheVariants as head
use Rattle.parse_script.specs.declared.stage.Listed.{Listed}
use Rattle.parse_script.specs.declared.stage.Listed.TheVariants as listed
use Rattle.parse_script.specs.declared.stage.Opened.{Opened}
use Rattle.parse_script.specs.declared.stage.Opened.TheVariants as opened
use Rattle.parse_script.specs.declared.stage.Stage.{Stage}
use Rattle.parse_script.specs.declared.stage.Stage.TheVariants as stage
use Rattle.parse_script.specs.declared.stage.Use.{Use}
use Rattle.parse_script.specs.declared.stage.Use.TheVariants as for_
use Rattle.parse_script.specs.computed.Reading.{around, top, floor_depth, added_to, added, entered, func_def}
use Rattle.parse_script.specs.Statements as s
use Rattle.mono_syntax.specs.Limits.{greatest_weight}
use Rattle.parse_script.specs.Statements.{branch}
use Rattle.parse_script.proofs.ClassLive.{class_alive}
use Rattle.parse_script.proofs.DefLive.{def_alive}
use Rattle.parse_script.proofs.Live.{Live}
use Rattle.parse_script.proofs.Rest.{RestStart, statement, closes, ends, RestLeft, while_left, branch_left, else_left, def_left, behind, Rest, RestAt, Next, NextExpr, NextType, RestLine, RestBlock, RestHead, RestColon, RestUse, RestInside, RestListed, RestListing, RestArgument, RestPlain, RestAttribute}
use Rattle.parse_script.proofs.Steps.{here, Reached, ReachedType, begins}
use Rattle.parse_expr.proofs.Readings.{expr_alive, type_alive}

-- tokens, and the items of the script that they end
pub record Found (P : List Spelled → List Item → Type 0) : Type 0 where
  pub tokens : List Spelled
  pub items : List Item
  pub holds : P tokens items

-- ---- blocks can be left

added_found : (f : Floor) (k : List Opened) (done : List Stmt) (x : Stmt) → ((g : Floor) (d : List Stmt) → Found (RestStart g k d)) → Found (RestAt (added_to f k done x))
added_found f (o ∷ k) done x h = h f (done ++ (x ∷ []))
added_found (floor.Def is d) [] done x h = h (floor.Def is d) (done ++ (x ∷ []))
added_found (floor.Script is) [] done x h = h (floor.Script (is ++ (item.Stmt x ∷ []))) []

left_found : (f : Floor) (o : Opened) (k : List Opened) (x : Stmt) (ss : List Stmt) → ((g : Floor) (d : List Stmt) → Found (RestStart g k d)) → Found (RestLeft f (o ∷ k) (x ∷ ss))
left_found f (opened.While before e) k x ss h =
    let a = added_found f k before (stmt.loop e (block (x ∷ ss))) h in
    record { tokens = a.tokens; items = a.items; holds = while_left f k before e x ss a.tokens a.items a.holds }
left_found f (opened.Branch before bs e) k x ss h =
    let cs = bs ++ (branch e (x ∷ ss) ∷ []) in
    let a = added_found f k before (stmt.if_any (branches (cs ++ [])) stmt.no_else) h in
    record {
      tokens = a.tokens;
      items = a.items;
      holds = branch_left f k before bs e x ss a.tokens a.items
          (behind f k before cs [] stmt.no_else [] a.tokens a.tokens a.items (s.no_else (length k + floor_depth f)) refl a.holds);
    }
left_found f (opened.Else before bs) k x ss h =
    let a = added_found f k before (stmt.if_any (branches bs) (stmt.otherwise (block (x ∷ ss)))) h in
    record { tokens = a.tokens; items = a.items; holds = else_left f k before bs x ss a.tokens a.items a.holds }

passed_left : (f : Floor) (k : List Opened) (done : List Stmt) → ((x : Stmt) (ss : List Stmt) → Found (RestLeft f k (x ∷ ss))) → Found (RestLeft f k (done ++ (stmt.pass ∷ [])))
passed_left f k [] h = h stmt.pass []
passed_left f k (x ∷ ss) h = h x (ss ++ (stmt.pass ∷ []))

start_found : (k : List Opened) (f : Floor) (done : List Stmt) → Found (RestStart f k done)
start_found [] (floor.Script is) done = record { tokens = sign mark.End here ∷ []; items = is; holds = ends is done here }
start_found [] (floor.Def is h) done =
    let l = passed_left (floor.Def is h) [] done (λ x ss.
    record {
      tokens = sign mark.End here ∷ [];
      items = is ++ (item.Def (func_def h (x ∷ ss)) ∷ []);
      holds = def_left is h x ss (sign mark.End here ∷ []) (is ++ (item.Def (func_def h (x ∷ ss)) ∷ [])) (ends (is ++ (item.Def (func_def h (x ∷ ss)) ∷ [])) [] here);
    }) in
    record {
      tokens = sign mark.Pass here ∷ sign mark.Newline here ∷ sign mark.Dedent here ∷ l.tokens;
      items = l.items;
      holds = statement (floor.Def is h) [] done (sign mark.Pass here ∷ sign mark.Newline here ∷ []) (sign mark.Dedent here ∷ l.tokens) (sign mark.Pass here ∷ sign mark.Newline here ∷ sign mark.Dedent here ∷ l.tokens)
          stmt.pass l.items (s.pass 1 here here) refl (closes (floor.Def is h) [] (done ++ (stmt.pass ∷ [])) here l.tokens l.items l.holds);
    }
start_found (o ∷ k) f done =
    let l = passed_left f (o ∷ k) done (λ x ss. left_found f o k x ss (λ g d. start_found k g d)) in
    record {
      tokens = sign mark.Pass here ∷ sign mark.Newline here ∷ sign mark.Dedent here ∷ l.tokens;
      items = l.items;
      holds = statement f (o ∷ k) done (sign mark.Pass here ∷ sign mark.Newline here ∷ []) (sign mark.Dedent here ∷ l.tokens) (sign mark.Pass here ∷ sign mark.Newline here ∷ sign mark.Dedent here ∷ l.tokens)
          stmt.pass l.items (s.pass (length (o ∷ k) + floor_depth f) here here) refl (closes f (o ∷ k) (done ++ (stmt.pass ∷ [])) here l.tokens l.items l.holds);
    }

at_found : (a : Around) → Found (RestAt a)
at_found a = start_found a.opened a.floor a.done

-- ---- one thing in front of another

next_found : (w : What) (P : List Spelled → List Item → Type 0) → Found P → Found (λ ts all. Next w (λ p us. P us all) ts)
next_found w P x = record { tokens = tok w here ∷ x.tokens; items = x.items; holds = record { place = here; more = x.tokens; split = refl; rest = x.holds } }

expr_found : (m : Mode) (P : Expr → List Spelled → List Item → Type 0) → Reached m → ((e : Expr) → Found (P e)) → Found (λ ts all. NextExpr m (λ e us. P e us all) ts)
expr_found m P r h =
    let x = expr_alive greatest_weight (omega arith) r.0 m r.1 in
    let f = h x.2 in
    record { tokens = x.0 ++ f.tokens; items = f.items; holds = record { part = x.0; more = f.tokens; tree = x.2; ends = (x.1, x.3, x.4); split = refl; rest = f.holds } }

type_found : (m : TypeMode) (P : Ann → List Spelled → List Item → Type 0) → ReachedType m → ((a : Ann) → Found (P a)) → Found (λ ts all. NextType m (λ a us. P a us all) ts)
type_found m P r h =
    let x = type_alive greatest_weight (omega arith) r.0 m r.1 in
    let f = h x.1 in
    record { tokens = x.0 ++ f.tokens; items = f.items; holds = record { part = x.0; more = f.tokens; tree = x.1; weight = x.2; goes = x.3; split = refl; rest = f.holds } }

line_found : (a : Around) (x : Stmt) → Found (RestLine a x)
line_found a x = next_found (what.Mark mark.Newline) (RestAt (added a x)) (at_found (added a x))

block_found : (a : Around) (h : Head) → Found (RestBlock a h)
block_found a h = next_found (what.Mark mark.Indent) (RestAt (entered a h)) (at_found (entered a h))

head_found : (a : Around) (h : Head) → Found (RestHead a h)
head_found a h = next_found (what.Mark mark.Newline) (RestBlock a h) (block_found a h)

colon_found : (a : Around) (h : Head) → Found (RestColon a h)
colon_found a h = next_found (what.Mark mark.Colon) (RestHead a h) (head_found a h)

used_found : (a : Around) (u : Use) (e : Expr) → Found (RestUse a u e)
used_found a (for_.Assign x t) e = line_found a (stmt.assign x t e)
used_found a (for_.Write o x) e = line_found a (stmt.write o x e)
used_found a (for_.Return p) e = line_found a (stmt.give p (Some e))
used_found a for_.While e = colon_found a (head.While e)
used_found a (for_.Branch bs) e = colon_found a (head.Branch bs e)

inside_found : (a : Around) (u : Use) (m : Mode) → Reached m → Found (RestInside a u m)
inside_found a u m r = expr_found m (RestUse a u) r (used_found a u)

plain_found : (a : Around) (m : Mode) → Reached m → Found (RestPlain a m)
plain_found a m r =
    let x = expr_found m (λ e. RestLine a (stmt.plain e)) r (λ e. line_found a (stmt.plain e)) in
    record { tokens = x.tokens; items = x.items; holds = inl x.holds }

attribute_found : (a : Around) (o : Expr) (w : ℕ) (x : Word) → Found (RestAttribute a o w x)
attribute_found a o w x =
    let f = next_found (what.Mark mark.Equals) (RestInside a (for_.Write o x) (mode.Want [])) (inside_found a (for_.Write o x) (mode.Want []) begins) in
    record { tokens = f.tokens; items = f.items; holds = inl f.holds }

-- ---- arguments

-- one argument more, which a start may need, and `)`
listed_found : (a : Around) (l : Listed) (es : List Expr) (e : Expr) → Found (RestListed a l (es ++ (e ∷ [])))
listed_found a (listed.Print p) es e = line_found a (stmt.print p (exprs (es ++ (e ∷ []))))
listed_found a (listed.Start x p) [] e = line_found a (stmt.start x p e (exprs []))
listed_found a (listed.Start x p) (d ∷ es) e = line_found a (stmt.start x p d (exprs (es ++ (e ∷ []))))

listing_found : (a : Around) (l : Listed) (es : List Expr) → Found (RestListing a l es)
listing_found a l es =
    let e = expr.nil here in
    let f = listed_found a l es e in
    let atom = g.none here in
    let whole = g.whole_and _ _ _ (g.and_not _ _ _ (g.not_comparison _ _ _ (g.comparison_sum _ _ _ (g.sum_term _ _ _ (g.term_factor _ _ _ (g.factor_postfix _ _ _ (g.postfix_atom _ _ _ atom))))))) in
    record {
      tokens = tok what.Nil here ∷ tok what.Close here ∷ f.tokens;
      items = f.items;
      holds = record { part = tok what.Nil here ∷ []; weight = 1; args = e ∷ []; place = here; more = f.tokens; derives = last_arg (tok what.Nil here ∷ []) 1 e whole; light = omega arith; split = refl; rest = f.holds };
    }

argument_found : (a : Around) (l : Listed) (es : List Expr) (m : Mode) → Reached m → Found (λ ts all. NextExpr m (λ e us. RestArgument a l (es ++ (e ∷ [])) us all) ts)
argument_found a l es m r =
    expr_found m (λ e us all. RestArgument a l (es ++ (e ∷ [])) us all) r
    (λ e.
    let f = next_found what.Close (RestListed a l (es ++ (e ∷ []))) (listed_found a l es e) in
    record { tokens = f.tokens; items = f.items; holds = inr f.holds })

-- ---- all stages

pub alive : (s : Stage) → Live s → Found (Rest s)
alive (stage.Start a) l = at_found a
alive (stage.Behind a bs) l =
    let f = at_found (added a (stmt.if_any (branches (bs ++ [])) stmt.no_else)) in
    record { tokens = f.tokens; items = f.items; holds = behind a.floor a.opened a.done bs [] stmt.no_else [] f.tokens f.tokens f.items (s.no_else (length a.opened + floor_depth a.floor)) refl f.holds }
alive (stage.Line a) l = next_found (what.Mark mark.Newline) (RestAt a) (at_found a)
alive (stage.Named a x) l =
    let f = inside_found a (for_.Assign x None) (mode.Want []) begins in
    record { tokens = sign mark.Equals here ∷ f.tokens; items = f.items; holds = inl (record { place = here; more = f.tokens; split = refl; rest = inl f.holds }) }
alive (stage.Plain a m) l = plain_found a m l
alive (stage.Dotted a o w) l =
    let f = attribute_found a o w (word [] here) in
    record { tokens = tok (what.Name []) here ∷ f.tokens; items = f.items; holds = record { name = []; place = here; more = f.tokens; split = refl; rest = f.holds } }
alive (stage.Target a o w x) l = attribute_found a o w x
alive (stage.Typed a x m) l =
    type_found m (λ t us all. Next (what.Mark mark.Equals) (λ p vs. RestInside a (for_.Assign x (Some t)) (mode.Want []) vs all) us) l
    (λ t. next_found (what.Mark mark.Equals) (RestInside a (for_.Assign x (Some t)) (mode.Want [])) (inside_found a (for_.Assign x (Some t)) (mode.Want []) begins))
alive (stage.Assigning a x) l = let f = inside_found a (for_.Assign x None) (mode.Want []) begins in record { tokens = f.tokens; items = f.items; holds = inl f.holds }
alive (stage.Returning a p) l = let f = line_found a (stmt.give p None) in record { tokens = f.tokens; items = f.items; holds = inl f.holds }
alive (stage.Inside a u m) l = inside_found a u m l
alive (stage.PrintWord a) l =
    let f = listing_found a (listed.Print here) [] in record { tokens = tok what.Open here ∷ f.tokens; items = f.items; holds = record { place = here; more = f.tokens; split = refl; rest = f.holds } }
alive (stage.StartWord a x) l =
    let f = listing_found a (listed.Start x here) [] in record { tokens = tok what.Open here ∷ f.tokens; items = f.items; holds = record { place = here; more = f.tokens; split = refl; rest = f.holds } }
alive (stage.Listing a k es) l = listing_found a k es
alive (stage.Argument a k es m) l = argument_found a k es m l
alive (stage.HeadColon a h) l = colon_found a h
alive (stage.HeadLine a h) l = head_found a h
alive (stage.HeadBlock a h) l = block_found a h
alive (stage.Class is m) l =
    let c = class_alive m l in
    let f = at_found (top (is ++ (item.Class c.tree ∷ []))) in
    record { tokens = c.more ++ f.tokens; items = f.items; holds = record { part = c.more; more = f.tokens; tree = c.tree; goes = c.goes; split = refl; rest = f.holds } }
alive (stage.Def is m) l =
    let c = def_alive m l in
    let f = at_found (around (floor.Def is c.tree) [] []) in
    record { tokens = c.more ++ f.tokens; items = f.items; holds = record { part = c.more; more = f.tokens; tree = c.tree; goes = c.goes; split = refl; rest = f.holds } }
alive (stage.Ended is) l = record { tokens = []; items = is; holds = (refl, refl) }
