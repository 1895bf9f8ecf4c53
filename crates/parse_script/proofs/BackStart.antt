-- A step backwards where a statement begins, and behind a block: what the next stage still wants is put together to a statement.
use Rattle.std.proofs.Common.{◌≡◌, inl, inr, ℕ, suc, ◌+◌, ◌≤◌, ◌<◌, Bool, true, false, List, [], ◌∷◌, ◌++◌, length, Option, Some, None, nat_lt, refl, sym, ◌∙◌, ap, subst, arith, append_assoc}
use Rattle.std.proofs.lemmas.Bool.{ltb-true}
use Rattle.std.proofs.lemmas.List.{append-nil}
use Rattle.mono_syntax.specs.declared.leaf.Place.{Place}
use Rattle.mono_syntax.specs.declared.tree.Branch.{Branch}
use Rattle.mono_syntax.specs.declared.tree.FuncDef.{FuncDef}
use Rattle.mono_syntax.specs.declared.tree.Item.{Item}
use Rattle.mono_syntax.specs.declared.tree.Item.TheVariants as item
use Rattle.mono_syntax.specs.Expr as expr
use Rattle.mono_syntax.specs.Expr.{Expr}
use Rattle.mono_syntax.specs.ExprView.{exprs}
use Rattle.mono_syntax.specs.Stmt as stmt
use Rattle.mono_syntax.specs.Stmt.{Stmt}
use Rattle.mono_syntax.specs.StmtView.{block, branches}
use Rattle.spelled_tokens.specs.declared.token.Mark.{Mark}
use Rattle.spelled_tokens.specs.declared.token.Mark.TheVariants as mark
use Rattle.spelled_tokens.specs.declared.token.Spelled.{Spelled}
use Rattle.spelled_tokens.specs.declared.token.What.{What}
use Rattle.spelled_tokens.specs.declared.token.What.TheVariants as what
use Rattle.spelled_tokens.specs.SpelledTokens.{tok, sign}
use Rattle.parse_expr.specs.declared.machine.Mode.{Mode}
use Rattle.parse_expr.specs.declared.machine.Mode.TheVariants as mode
use Rattle.parse_expr.specs.declared.machine.TypeMode.TheVariants as type_mode
use Rattle.parse_expr.specs.computed.Goes.{Goes}
use Rattle.parse_expr.specs.Grammar.{DerivesArgs, IsExpr}
use Rattle.parse_expr.specs.computed.Reading.{step, finish, held}
use Rattle.parse_expr.specs.Types.{word}
use Rattle.parse_script.specs.declared.stage.Around.{Around}
use Rattle.parse_script.specs.declared.stage.ClassStage.TheVariants as class_stage
use Rattle.parse_script.specs.declared.stage.DefHead.{DefHead}
use Rattle.parse_script.specs.declared.stage.DefStage.TheVariants as def_stage
use Rattle.parse_script.specs.declared.stage.Floor.{Floor}
use Rattle.parse_script.specs.declared.stage.Floor.TheVariants as floor
use Rattle.parse_script.specs.declared.stage.Head.{Head}
use Rattle.parse_script.specs.declared.stage.Head.TheVariants as head
use Rattle.parse_script.specs.declared.stage.Listed.TheVariants as listed
use Rattle.parse_script.specs.declared.stage.Opened.{Opened}
use Rattle.parse_script.specs.declared.stage.Opened.TheVariants as opened
use Rattle.parse_script.specs.declared.stage.Stage.{Stage}
use Rattle.parse_script.specs.declared.stage.Stage.TheVariants as stage
use Rattle.parse_script.specs.declared.stage.Use.TheVariants as for_
use Rattle.parse_script.specs.Definitions.{DerivesDef}
use Rattle.parse_script.specs.Definitions as defs
use Rattle.parse_script.specs.computed.Endings.{ending_of}
use Rattle.parse_script.specs.computed.Reading.{around, top, is_def, floor_depth, depth, added_to, added, entered, func_def, left, end_at, class_at, def_at, stage_if, inside, plain_on, start_mark, start_at, start_step, behind_at, behind_step}
use Rattle.parse_script.specs.Statements as s
use Rattle.mono_syntax.specs.Limits.{greatest_weight, most_blocks}
use Rattle.parse_script.specs.Statements.{branch, DerivesStmt, DerivesTail, DerivesBlock, DerivesStmts, indented}
use Rattle.parse_script.proofs.Back.{Sound, sound_at, plain_back, plain_on_sound}
use Rattle.parse_script.proofs.ClassExact.{class_sound}
use Rattle.parse_script.proofs.Collect.{AnyStmts, nothing, more, some_stmts, collect, collect_body}
use Rattle.parse_script.proofs.DefExact.{def_sound, head_tokens}
use Rattle.parse_script.proofs.Live.{Live, named_goes}
use Rattle.parse_script.proofs.Rest.{RestStart, statement, closes, ends, class, def, RestLeft, while_left, branch_left, else_left, def_left, RestBehind, behind, Rest, RestAt, RestLine, RestHead, RestColon, RestInside, RestListed, RestPlain, RestTyped, RestAssigning, RestNamed, RestClass, RestDef}
use Rattle.parse_script.proofs.Steps.{none_some, some_is, begins}
use Rattle.parse_expr.proofs.Readings.{expr_sound, postfix_sound, type_sound}

-- a statement in front of what is behind it
abbrev Behind : Around → Stmt → List Spelled → List Item → Type 0
Behind a t vs all = RestAt (added a t) vs all

begun : (a : Around) (us vs ts : List Spelled) (t : Stmt) (all : List Item) → DerivesStmt (is_def a.floor) (depth a) us t → ts ≡ us ++ vs → RestAt (added a t) vs all → RestAt a ts all
begun a us vs ts t all d e r = statement a.floor a.opened a.done us vs ts t all d e r

-- an expression that was read is one
read_expr : (m : Mode) (ts : List Spelled) (e : Expr) → m ≡ mode.Want [] → (n : Mode) × Goes (step greatest_weight) m ts n × (finish n ≡ Some e) → IsExpr greatest_weight ts e
read_expr m ts e i x = expr_sound greatest_weight (omega arith) ts x.0 e (subst (λ (z : Mode). Goes (step greatest_weight) z ts x.0) i x.1) x.2

-- ---- simple statements

pass_begun : (a : Around) (p : Place) (ts : List Spelled) (all : List Item) → RestLine a stmt.pass ts all → RestAt a (sign mark.Pass p ∷ ts) all
pass_begun a p ts all r = begun a (sign mark.Pass p ∷ sign mark.Newline r.place ∷ []) r.more (sign mark.Pass p ∷ ts) stmt.pass all (s.pass (depth a) p r.place) (ap (λ (l : List Spelled). sign mark.Pass p ∷ l) r.split) r.rest

return_begun : (a : Around) (p : Place) (ts : List Spelled) (all : List Item) → is_def a.floor ≡ true → Rest (stage.Returning a p) ts all → RestAt a (sign mark.Return p ∷ ts) all
return_begun a p ts all d (inl r) =
    begun a (sign mark.Return p ∷ sign mark.Newline r.place ∷ []) r.more (sign mark.Return p ∷ ts) (stmt.give p None) all (s.give_none (depth a) p r.place d)
    (ap (λ (l : List Spelled). sign mark.Return p ∷ l) r.split) r.rest
return_begun a p ts all d (inr r) =
    let l = r.rest in
    begun a (sign mark.Return p ∷ (r.part ++ (sign mark.Newline l.place ∷ []))) l.more (sign mark.Return p ∷ ts) (stmt.give p (Some r.tree)) all
    (s.give (depth a) p l.place r.part r.tree d (read_expr (mode.Want []) r.part r.tree refl r.ends))
    (ap (λ (k : List Spelled). sign mark.Return p ∷ k) (r.split ∙ ap (λ (k : List Spelled). r.part ++ k) l.split ∙ sym (append_assoc r.part (sign mark.Newline l.place ∷ []) l.more))) l.rest

print_begun : (a : Around) (p : Place) (ts : List Spelled) (all : List Item) → Rest (stage.PrintWord a) ts all → RestAt a (sign mark.Print p ∷ ts) all
print_begun a p ts all r =
    let g = r.rest in
    let l = g.rest in
    begun a (sign mark.Print p ∷ tok what.Open r.place ∷ (g.part ++ (tok what.Close g.place ∷ sign mark.Newline l.place ∷ []))) l.more (sign mark.Print p ∷ ts) (stmt.print r.place (exprs g.args)) all
    (s.print (depth a) p r.place g.place l.place g.part g.weight g.args g.derives g.light)
    (ap (λ (k : List Spelled). sign mark.Print p ∷ k) (r.split ∙ ap (λ (k : List Spelled). tok what.Open r.place ∷ k)
    (g.split ∙ ap (λ (k : List Spelled). g.part ++ (tok what.Close g.place ∷ k)) l.split ∙ sym (append_assoc g.part (tok what.Close g.place ∷ sign mark.Newline l.place ∷ []) l.more)))) l.rest

-- what begins with an expression
plain_begun : (a : Around) (ts : List Spelled) (all : List Item) → RestPlain a (mode.Want []) ts all → RestAt a ts all
plain_begun a ts all (inl r) =
    let l = r.rest in
    begun a (r.part ++ (sign mark.Newline l.place ∷ [])) l.more ts (stmt.plain r.tree) all (s.plain (depth a) l.place r.part r.tree (read_expr (mode.Want []) r.part r.tree refl r.ends))
    (r.split ∙ ap (λ (k : List Spelled). r.part ++ k) l.split ∙ sym (append_assoc r.part (sign mark.Newline l.place ∷ []) l.more)) l.rest
plain_begun a ts all (inr r) =
    let d = r.rest in
    let n = d.rest in
    let q = n.rest in
    let v = q.rest in
    let l = v.rest in
    let o = postfix_sound greatest_weight (omega arith) r.part r.weight r.tree r.goes in
    let x = word n.name n.place in
    begun a (r.part ++ (tok what.Dot d.place ∷ tok (what.Name n.name) n.place ∷ sign mark.Equals q.place ∷ (v.part ++ (sign mark.Newline l.place ∷ [])))) l.more ts (stmt.write r.tree x v.tree) all
    (s.write (depth a) d.place n.place q.place l.place n.name r.part r.weight r.tree v.part v.tree o.0 o.1 (read_expr (mode.Want []) v.part v.tree refl v.ends))
    (r.split ∙ ap (λ (k : List Spelled). r.part ++ k)
    (d.split ∙ ap (λ (k : List Spelled). tok what.Dot d.place ∷ k) (n.split ∙ ap (λ (k : List Spelled). tok (what.Name n.name) n.place ∷ k)
    (q.split ∙ ap (λ (k : List Spelled). sign mark.Equals q.place ∷ k)
    (v.split ∙ ap (λ (k : List Spelled). v.part ++ k) l.split ∙ sym (append_assoc v.part (sign mark.Newline l.place ∷ []) l.more)))))
    ∙ sym (append_assoc r.part (tok what.Dot d.place ∷ tok (what.Name n.name) n.place ∷ sign mark.Equals q.place ∷ (v.part ++ (sign mark.Newline l.place ∷ []))) l.more)) l.rest

started : (a : Around) (x : List ℕ) (p q r o c : Place) (us : List Spelled) (w : ℕ) (es : List Expr) (vs : List Spelled) (all : List Item) (ts : List Spelled) → DerivesArgs us w es → w ≤ greatest_weight
    → ts ≡ tok (what.Name x) p ∷ sign mark.Equals q ∷ sign mark.Start r ∷ tok what.Open o ∷ (us ++ (tok what.Close c ∷ vs)) → RestListed a (listed.Start (word x p) o) es vs all → RestAt a ts all
started a x p q r o c us w [] vs all ts d l e h = absurd h
started a x p q r o c us w (y ∷ es) vs all ts d l e h =
    begun a (tok (what.Name x) p ∷ sign mark.Equals q ∷ sign mark.Start r ∷ tok what.Open o ∷ (us ++ (tok what.Close c ∷ sign mark.Newline h.place ∷ []))) h.more ts (stmt.start (word x p) o y (exprs es)) all
    (s.start (depth a) p q r o c h.place x us w y es d l)
    (e ∙ ap (λ (k : List Spelled). tok (what.Name x) p ∷ sign mark.Equals q ∷ sign mark.Start r ∷ tok what.Open o ∷ k)
    (ap (λ (k : List Spelled). us ++ (tok what.Close c ∷ k)) h.split ∙ sym (append_assoc us (tok what.Close c ∷ sign mark.Newline h.place ∷ []) h.more))) h.rest

assign_begun : (a : Around) (x : List ℕ) (p q : Place) (ts us : List Spelled) (all : List Item) → ts ≡ sign mark.Equals q ∷ us → RestAssigning a (word x p) us all
    → RestAt a (tok (what.Name x) p ∷ ts) all
assign_begun a x p q ts us all e (inl r) =
    let l = r.rest in
    begun a (tok (what.Name x) p ∷ sign mark.Equals q ∷ (r.part ++ (sign mark.Newline l.place ∷ []))) l.more (tok (what.Name x) p ∷ ts) (stmt.assign (word x p) None r.tree) all
    (s.assign (depth a) p q l.place x r.part r.tree (read_expr (mode.Want []) r.part r.tree refl r.ends))
    (ap (λ (k : List Spelled). tok (what.Name x) p ∷ k) (e ∙ ap (λ (k : List Spelled). sign mark.Equals q ∷ k)
    (r.split ∙ ap (λ (k : List Spelled). r.part ++ k) l.split ∙ sym (append_assoc r.part (sign mark.Newline l.place ∷ []) l.more)))) l.rest
assign_begun a x p q ts us all e (inr r) =
    let o = r.rest in
    let g = o.rest in
    started a x p q r.place o.place g.place g.part g.weight g.args g.more all (tok (what.Name x) p ∷ ts) g.derives g.light
    (ap (λ (k : List Spelled). tok (what.Name x) p ∷ k) (e ∙ ap (λ (k : List Spelled). sign mark.Equals q ∷ k) (r.split ∙ ap (λ (k : List Spelled). sign mark.Start r.place ∷ k)
    (o.split ∙ ap (λ (k : List Spelled). tok what.Open o.place ∷ k) g.split)))) g.rest

declare_begun : (a : Around) (x : List ℕ) (p q : Place) (ts us : List Spelled) (all : List Item) → ts ≡ sign mark.Colon q ∷ us → RestTyped a (word x p) (type_mode.Want []) us all
    → RestAt a (tok (what.Name x) p ∷ ts) all
declare_begun a x p q ts us all e r =
    let d = r.rest in
    let v = d.rest in
    let l = v.rest in
    begun a (tok (what.Name x) p ∷ sign mark.Colon q ∷ (r.part ++ (sign mark.Equals d.place ∷ (v.part ++ (sign mark.Newline l.place ∷ []))))) l.more (tok (what.Name x) p ∷ ts)
    (stmt.assign (word x p) (Some r.tree) v.tree) all
    (s.declare (depth a) p q d.place l.place x r.part r.tree v.part v.tree (type_sound greatest_weight r.part r.tree r.weight r.goes) (read_expr (mode.Want []) v.part v.tree refl v.ends))
    (ap (λ (k : List Spelled). tok (what.Name x) p ∷ k) (e ∙ ap (λ (k : List Spelled). sign mark.Colon q ∷ k)
    (r.split ∙ ap (λ (k : List Spelled). r.part ++ k) (d.split ∙ ap (λ (k : List Spelled). sign mark.Equals d.place ∷ k)
    (v.split ∙ ap (λ (k : List Spelled). v.part ++ k) l.split ∙ sym (append_assoc v.part (sign mark.Newline l.place ∷ []) l.more)))
    ∙ sym (append_assoc r.part (sign mark.Equals d.place ∷ (v.part ++ (sign mark.Newline l.place ∷ []))) l.more)))) l.rest

named_begun : (a : Around) (x : List ℕ) (p : Place) (ts : List Spelled) (all : List Item) → RestNamed a (word x p) ts all → RestAt a (tok (what.Name x) p ∷ ts) all
named_begun a x p ts all (inl r) = assign_begun a x p r.place ts r.more all r.split r.rest
named_begun a x p ts all (inr (inl r)) = declare_begun a x p r.place ts r.more all r.split r.rest
named_begun a x p ts all (inr (inr r)) =
    plain_begun a (tok (what.Name x) p ∷ ts) all
    (plain_back a (mode.Want []) (mode.Have (held [] (expr.local (word x p)) 1)) (tok (what.Name x) p) ts all (named_goes (word x p)) r)

-- ---- blocks

-- the block that a head opens
abbrev pub opens : Around → Head → Opened
opens a (head.While e) = opened.While a.done e
opens a (head.Branch bs e) = opened.Branch a.done bs e
opens a (head.Else bs) = opened.Else a.done bs

pub enters : (a : Around) (h : Head) → entered a h ≡ around a.floor (opens a h ∷ a.opened) []
enters a (head.While e) = refl
enters a (head.Branch bs e) = refl
enters a (head.Else bs) = refl

not_left : (f : Floor) (k : List Opened) (vs : List Spelled) (all : List Item) → RestLeft f k [] vs all → ⊥
not_left f k vs all r = elim r [ ]

some_block : (ins : Bool) (d : ℕ) (us : List Spelled) (ss : List Stmt) (f : Floor) (k : List Opened) (vs : List Spelled) (all : List Item) → AnyStmts ins d us ss → RestLeft f k ss vs all → DerivesStmts ins d us ss
some_block ins d us ss f k vs all (nothing e) r = absurd (not_left f k vs all r)
some_block ins d us ss f k vs all (more e ts ws t rs h a) r = some_stmts ins d ts ws t rs h a

record BlockRead (a : Around) (h : Head) (ts : List Spelled) (all : List Item) : Type 0 where
  part : List Spelled
  stmts : List Stmt
  tail : List Spelled
  derives : DerivesBlock (is_def a.floor) (suc (depth a)) part stmts
  split : ts ≡ part ++ tail
  leaves : RestLeft a.floor (opens a h ∷ a.opened) stmts tail all

block_read : (a : Around) (h : Head) (ts : List Spelled) (all : List Item) → RestHead a h ts all → BlockRead a h ts all
block_read a h ts all r =
    let b = r.rest in
    let c = collect a.floor (opens a h) a.opened [] b.more all (subst (λ (z : Around). RestAt z b.more all) (enters a h) b.rest) in
    let d : length (opens a h ∷ a.opened) + floor_depth a.floor ≡ suc (depth a) = omega arith in
    let any = subst (λ (n : ℕ). AnyStmts (is_def a.floor) n c.part c.stmts) d c.any in
    record {
      part = sign mark.Newline r.place ∷ sign mark.Indent b.place ∷ (c.part ++ (sign mark.Dedent c.place ∷ []));
      stmts = c.stmts;
      tail = c.behind;
      derives = indented (suc (depth a)) r.place b.place c.place c.part c.stmts (some_block (is_def a.floor) (suc (depth a)) c.part c.stmts a.floor (opens a h ∷ a.opened) c.behind all any c.left);
      split =
          r.split ∙ ap (λ (l : List Spelled). sign mark.Newline r.place ∷ l) (b.split ∙ ap (λ (l : List Spelled). sign mark.Indent b.place ∷ l)
          (c.split ∙ sym (append_assoc c.part (sign mark.Dedent c.place ∷ []) c.behind)));
      leaves = c.left;
    }

while_behind : (f : Floor) (k : List Opened) (done : List Stmt) (e : Expr) (ss : List Stmt) (vs : List Spelled) (all : List Item) → RestLeft f (opened.While done e ∷ k) ss vs all
    → RestAt (added_to f k done (stmt.loop e (block ss))) vs all
while_behind f k done e ss vs all (while_left g l d x t ts us is r) = r

branch_behind : (f : Floor) (k : List Opened) (done : List Stmt) (bs : List Branch) (e : Expr) (ss : List Stmt) (vs : List Spelled) (all : List Item) → RestLeft f (opened.Branch done bs e ∷ k) ss vs all
    → RestBehind f k done (bs ++ (branch e ss ∷ [])) vs all
branch_behind f k done bs e ss vs all (branch_left g l d cs x t ts us is r) = r

else_behind : (f : Floor) (k : List Opened) (done : List Stmt) (bs : List Branch) (ss : List Stmt) (vs : List Spelled) (all : List Item) → RestLeft f (opened.Else done bs ∷ k) ss vs all
    → RestAt (added_to f k done (stmt.if_any (branches bs) (stmt.otherwise (block ss)))) vs all
else_behind f k done bs ss vs all (else_left g l d cs t ts us is r) = r

while_begun : (a : Around) (p : Place) (ts : List Spelled) (all : List Item) → depth a < most_blocks → RestInside a for_.While (mode.Want []) ts all → RestAt a (sign mark.While p ∷ ts) all
while_begun a p ts all d r =
    let c = r.rest in
    let b = block_read a (head.While r.tree) c.more all c.rest in
    begun a (sign mark.While p ∷ (r.part ++ (sign mark.Colon c.place ∷ b.part))) b.tail (sign mark.While p ∷ ts) (stmt.loop r.tree (block b.stmts)) all
    (s.while (depth a) p c.place r.part r.tree b.part b.stmts d (read_expr (mode.Want []) r.part r.tree refl r.ends) b.derives)
    (ap (λ (k : List Spelled). sign mark.While p ∷ k) (r.split ∙ ap (λ (k : List Spelled). r.part ++ k) (c.split ∙ ap (λ (k : List Spelled). sign mark.Colon c.place ∷ k) b.split)
    ∙ sym (append_assoc r.part (sign mark.Colon c.place ∷ b.part) b.tail)))
    (while_behind a.floor a.opened a.done r.tree b.stmts b.tail all b.leaves)

-- the branches behind the first
record TailRead (a : Around) (bs : List Branch) (ts : List Spelled) (all : List Item) : Type 0 where
  part : List Spelled
  tail : List Spelled
  others : List Branch
  else_part : stmt.Else
  derives : DerivesTail (is_def a.floor) (depth a) part others else_part
  split : ts ≡ part ++ tail
  rest : RestAt (added a (stmt.if_any (branches (bs ++ others)) else_part)) tail all

tail_read : (f : Floor) (k : List Opened) (done : List Stmt) (bs : List Branch) (ts : List Spelled) (all : List Item) → RestBehind f k done bs ts all → TailRead (around f k done) bs ts all
tail_read f k done bs ts all (behind g l d as_ cs el us vs ws is t e r) = record { part = us; tail = vs; others = cs; else_part = el; derives = t; split = e; rest = r }

if_begun : (a : Around) (p : Place) (ts : List Spelled) (all : List Item) → depth a < most_blocks → RestInside a (for_.Branch []) (mode.Want []) ts all → RestAt a (sign mark.If p ∷ ts) all
if_begun a p ts all d r =
    let c = r.rest in
    let b = block_read a (head.Branch [] r.tree) c.more all c.rest in
    let t = tail_read a.floor a.opened a.done (branch r.tree b.stmts ∷ []) b.tail all (branch_behind a.floor a.opened a.done [] r.tree b.stmts b.tail all b.leaves) in
    begun a (sign mark.If p ∷ (r.part ++ (sign mark.Colon c.place ∷ (b.part ++ t.part)))) t.tail (sign mark.If p ∷ ts) (stmt.if_any (branches (branch r.tree b.stmts ∷ t.others)) t.else_part) all
    (s.if_any (depth a) p c.place r.part r.tree b.part b.stmts t.part t.others t.else_part d (read_expr (mode.Want []) r.part r.tree refl r.ends) b.derives t.derives)
    (ap (λ (k : List Spelled). sign mark.If p ∷ k) (r.split ∙ ap (λ (k : List Spelled). r.part ++ k) (c.split ∙ ap (λ (k : List Spelled). sign mark.Colon c.place ∷ k)
    (b.split ∙ ap (λ (k : List Spelled). b.part ++ k) t.split ∙ sym (append_assoc b.part t.part t.tail)))
    ∙ sym (append_assoc r.part (sign mark.Colon c.place ∷ (b.part ++ t.part)) t.tail)))
    t.rest

elif_behind : (a : Around) (bs : List Branch) (p : Place) (ts : List Spelled) (all : List Item) → RestInside a (for_.Branch bs) (mode.Want []) ts all
    → RestBehind a.floor a.opened a.done bs (sign mark.Elif p ∷ ts) all
elif_behind a bs p ts all r =
    let c = r.rest in
    let b = block_read a (head.Branch bs r.tree) c.more all c.rest in
    let t = tail_read a.floor a.opened a.done (bs ++ (branch r.tree b.stmts ∷ [])) b.tail all (branch_behind a.floor a.opened a.done bs r.tree b.stmts b.tail all b.leaves) in
    behind a.floor a.opened a.done bs (branch r.tree b.stmts ∷ t.others) t.else_part (sign mark.Elif p ∷ (r.part ++ (sign mark.Colon c.place ∷ (b.part ++ t.part)))) t.tail (sign mark.Elif p ∷ ts) all
    (s.elif (depth a) p c.place r.part r.tree b.part b.stmts t.part t.others t.else_part (read_expr (mode.Want []) r.part r.tree refl r.ends) b.derives t.derives)
    (ap (λ (k : List Spelled). sign mark.Elif p ∷ k) (r.split ∙ ap (λ (k : List Spelled). r.part ++ k) (c.split ∙ ap (λ (k : List Spelled). sign mark.Colon c.place ∷ k)
    (b.split ∙ ap (λ (k : List Spelled). b.part ++ k) t.split ∙ sym (append_assoc b.part t.part t.tail)))
    ∙ sym (append_assoc r.part (sign mark.Colon c.place ∷ (b.part ++ t.part)) t.tail)))
    (subst (λ (cs : List Branch). RestAt (added a (stmt.if_any (branches cs) t.else_part)) t.tail all) (append_assoc bs (branch r.tree b.stmts ∷ []) t.others) t.rest)

otherwise_behind : (a : Around) (bs : List Branch) (p : Place) (ts : List Spelled) (all : List Item) → RestColon a (head.Else bs) ts all → RestBehind a.floor a.opened a.done bs (sign mark.Else p ∷ ts) all
otherwise_behind a bs p ts all c =
    let b = block_read a (head.Else bs) c.more all c.rest in
    behind a.floor a.opened a.done bs [] (stmt.otherwise (block b.stmts)) (sign mark.Else p ∷ sign mark.Colon c.place ∷ b.part) b.tail (sign mark.Else p ∷ ts) all
    (s.otherwise (depth a) p c.place b.part b.stmts b.derives)
    (ap (λ (k : List Spelled). sign mark.Else p ∷ k) (c.split ∙ ap (λ (k : List Spelled). sign mark.Colon c.place ∷ k) b.split))
    (subst (λ (cs : List Branch). RestAt (added a (stmt.if_any (branches cs) (stmt.otherwise (block b.stmts)))) b.tail all) (sym (append-nil bs))
    (else_behind a.floor a.opened a.done bs b.stmts b.tail all b.leaves))

no_more_behind : (a : Around) (bs : List Branch) (ts : List Spelled) (all : List Item) → RestAt (added a (stmt.if_any (branches bs) stmt.no_else)) ts all → RestBehind a.floor a.opened a.done bs ts all
no_more_behind a bs ts all r =
    behind a.floor a.opened a.done bs [] stmt.no_else [] ts ts all (s.no_else (depth a)) refl
    (subst (λ (cs : List Branch). RestAt (added a (stmt.if_any (branches cs) stmt.no_else)) ts all) (sym (append-nil bs)) r)

-- ---- classes and functions

class_begun : (bs : List Item) (k : List Stmt) (p : Place) (ts : List Spelled) (all : List Item) → RestClass bs class_stage.Word ts all → RestAt (around (floor.Script bs) [] k) (sign mark.Class p ∷ ts) all
class_begun bs k p ts all r =
    class bs k (sign mark.Class p ∷ r.part) r.more (sign mark.Class p ∷ ts) r.tree all (class_sound p r.part r.tree r.goes) (ap (λ (l : List Spelled). sign mark.Class p ∷ l) r.split) r.rest

-- the body of a function, which its head opens
record BodyRead (bs : List Item) (h : DefHead) (ts : List Spelled) (all : List Item) : Type 0 where
  part : List Spelled
  stmts : List Stmt
  place : Place
  tail : List Spelled
  derives : DerivesStmts true 1 part stmts
  split : ts ≡ part ++ (sign mark.Dedent place ∷ tail)
  rest : RestAt (top (bs ++ (item.Def (func_def h stmts) ∷ []))) tail all

def_behind : (bs : List Item) (h : DefHead) (ss : List Stmt) (vs : List Spelled) (all : List Item) → RestLeft (floor.Def bs h) [] ss vs all → RestAt (top (bs ++ (item.Def (func_def h ss) ∷ []))) vs all
def_behind bs h ss vs all (def_left cs g t ts us is r) = r

body_read : (bs : List Item) (h : DefHead) (ts : List Spelled) (all : List Item) → RestAt (around (floor.Def bs h) [] []) ts all → BodyRead bs h ts all
body_read bs h ts all r =
    let c = collect_body bs h [] ts all r in
    record {
      part = c.part;
      stmts = c.stmts;
      place = c.place;
      tail = c.behind;
      derives = some_block true 1 c.part c.stmts (floor.Def bs h) [] c.behind all c.any c.left;
      split = c.split;
      rest = def_behind bs h c.stmts c.behind all c.left;
    }

-- a head and a body, bracketed as a function has them
pub parts : (x : List ℕ) (q r s t u v z : Place) (us rs bs vs more_ : List Spelled) → more_ ≡ bs ++ (sign mark.Dedent z ∷ vs)
    → head_tokens x q r us s rs t u v ++ more_
    ≡ tok (what.Name x) q ∷ tok what.Open r ∷ ((us ++ (tok what.Close s ∷ (rs ++ (sign mark.Colon t ∷ sign mark.Newline u ∷ sign mark.Indent v ∷ (bs ++ (sign mark.Dedent z ∷ [])))))) ++ vs)
parts x q r s t u v z us rs bs vs more_ e =
    ap (λ (l : List Spelled). tok (what.Name x) q ∷ tok what.Open r ∷ l)
    (append_assoc us (tok what.Close s ∷ (rs ++ (sign mark.Colon t ∷ sign mark.Newline u ∷ sign mark.Indent v ∷ []))) more_
    ∙ ap (λ (l : List Spelled). us ++ (tok what.Close s ∷ l))
    (append_assoc rs (sign mark.Colon t ∷ sign mark.Newline u ∷ sign mark.Indent v ∷ []) more_
    ∙ ap (λ (l : List Spelled). rs ++ (sign mark.Colon t ∷ sign mark.Newline u ∷ sign mark.Indent v ∷ l)) (e ∙ sym (append_assoc bs (sign mark.Dedent z ∷ []) vs))
    ∙ sym (append_assoc rs (sign mark.Colon t ∷ sign mark.Newline u ∷ sign mark.Indent v ∷ (bs ++ (sign mark.Dedent z ∷ []))) vs))
    ∙ sym (append_assoc us (tok what.Close s ∷ (rs ++ (sign mark.Colon t ∷ sign mark.Newline u ∷ sign mark.Indent v ∷ (bs ++ (sign mark.Dedent z ∷ []))))) vs))

def_begun : (bs : List Item) (k : List Stmt) (p : Place) (ts : List Spelled) (all : List Item) → RestDef bs def_stage.Word ts all → RestAt (around (floor.Script bs) [] k) (sign mark.Def p ∷ ts) all
def_begun bs k p ts all r =
    let h = def_sound r.part r.tree r.goes in
    let b = body_read bs r.tree r.more all r.rest in
    let w = word h.name h.at_name_ in
    let inner = sign mark.Newline h.at_newline ∷ sign mark.Indent h.at_indent ∷ (b.part ++ (sign mark.Dedent b.place ∷ [])) in
    let d = defs.def p h.at_name_ h.at_open h.at_close h.at_colon_ h.name h.params_part h.params h.result_part h.type inner b.stmts h.derives_params h.derives_result
    (indented 1 h.at_newline h.at_indent b.place b.part b.stmts b.derives) in
    let same : func_def r.tree b.stmts ≡ record { name = w; params = h.params; result = h.type; body = b.stmts } = ap (λ (z : DefHead). func_def z b.stmts) h.head_is_ in
    def bs k
    (sign mark.Def p ∷ tok (what.Name h.name) h.at_name_ ∷ tok what.Open h.at_open ∷ (h.params_part ++ (tok what.Close h.at_close ∷ (h.result_part ++ (sign mark.Colon h.at_colon_ ∷ inner)))))
    b.tail (sign mark.Def p ∷ ts) (func_def r.tree b.stmts) all
    (subst (λ (z : FuncDef). DerivesDef (sign mark.Def p ∷ tok (what.Name h.name) h.at_name_ ∷ tok what.Open h.at_open
    ∷ (h.params_part ++ (tok what.Close h.at_close ∷ (h.result_part ++ (sign mark.Colon h.at_colon_ ∷ inner))))) z) (sym same) d)
    (ap (λ (l : List Spelled). sign mark.Def p ∷ l) (r.split ∙ ap (λ (l : List Spelled). l ++ r.more) h.split ∙ parts h.name h.at_name_ h.at_open h.at_close h.at_colon_ h.at_newline h.at_indent b.place h.params_part h.result_part b.part b.tail r.more b.split))
    b.rest

-- ---- one step where a statement begins

stage_if_is : (b : Bool) (m n : Stage) → stage_if b m ≡ Some n → (b ≡ true) × (m ≡ n)
stage_if_is true m n e = (refl, some_is e)
stage_if_is false m n e = none_some _ e

class_at_sound : (f : Floor) (k : List Opened) (done : List Stmt) (t : Spelled) (n : Stage) → t.what ≡ what.Mark mark.Class → class_at f k ≡ Some n → Sound (λ ts all. RestStart f k done ts all) t n
class_at_sound (floor.Script is) [] done t n i e =
    sound_at _ t (stage.Class is class_stage.Word) n (some_is e)
    (record { live = tt; back = λ ts all r. subst (λ (u : Spelled). RestStart (floor.Script is) [] done (u ∷ ts) all) (λ j. tok (sym i j) t.place) (class_begun is done t.place ts all r) })
class_at_sound (floor.Script is) (o ∷ k) done t n i e = none_some _ e
class_at_sound (floor.Def is h) k done t n i e = none_some _ e

def_at_sound : (f : Floor) (k : List Opened) (done : List Stmt) (t : Spelled) (n : Stage) → t.what ≡ what.Mark mark.Def → def_at f k ≡ Some n → Sound (λ ts all. RestStart f k done ts all) t n
def_at_sound (floor.Script is) [] done t n i e =
    sound_at _ t (stage.Def is def_stage.Word) n (some_is e)
    (record { live = tt; back = λ ts all r. subst (λ (u : Spelled). RestStart (floor.Script is) [] done (u ∷ ts) all) (λ j. tok (sym i j) t.place) (def_begun is done t.place ts all r) })
def_at_sound (floor.Script is) (o ∷ k) done t n i e = none_some _ e
def_at_sound (floor.Def is h) k done t n i e = none_some _ e

end_at_sound : (f : Floor) (k : List Opened) (done : List Stmt) (t : Spelled) (n : Stage) → t.what ≡ what.Mark mark.End → end_at f k ≡ Some n → Sound (λ ts all. RestStart f k done ts all) t n
end_at_sound (floor.Script is) [] done t n i e =
    sound_at _ t (stage.Ended is) n (some_is e)
    (record {
      live = tt;
      back = λ ts all r.
          subst (λ (as_ : List Item). RestStart (floor.Script is) [] done (t ∷ ts) as_) (sym r.1)
          (subst (λ (l : List Spelled). RestStart (floor.Script is) [] done l is) ((λ j. tok (sym i j) t.place ∷ []) ∙ ap (λ (l : List Spelled). t ∷ l) (sym r.0)) (ends is done t.place));
    })
end_at_sound (floor.Script is) (o ∷ k) done t n i e = none_some _ e
end_at_sound (floor.Def is h) k done t n i e = none_some _ e

-- a DEDENT leaves a block
left_sound : (f : Floor) (k : List Opened) (done : List Stmt) (n : Stage) → left f k done ≡ Some n → Live n × ((ts : List Spelled) (all : List Item) → Rest n ts all → RestLeft f k done ts all)
left_sound f k [] n e = none_some _ e
left_sound f (opened.While before e ∷ k) (x ∷ ss) n h =
    subst (λ (z : Stage). Live z × ((ts : List Spelled) (all : List Item) → Rest z ts all → RestLeft f (opened.While before e ∷ k) (x ∷ ss) ts all)) (some_is h)
    (tt, λ ts all r. while_left f k before e x ss ts all r)
left_sound f (opened.Branch before bs e ∷ k) (x ∷ ss) n h =
    subst (λ (z : Stage). Live z × ((ts : List Spelled) (all : List Item) → Rest z ts all → RestLeft f (opened.Branch before bs e ∷ k) (x ∷ ss) ts all)) (some_is h)
    (tt, λ ts all r. branch_left f k before bs e x ss ts all r)
left_sound f (opened.Else before bs ∷ k) (x ∷ ss) n h =
    subst (λ (z : Stage). Live z × ((ts : List Spelled) (all : List Item) → Rest z ts all → RestLeft f (opened.Else before bs ∷ k) (x ∷ ss) ts all)) (some_is h)
    (tt, λ ts all r. else_left f k before bs x ss ts all r)
left_sound (floor.Def is d) [] (x ∷ ss) n h =
    subst (λ (z : Stage). Live z × ((ts : List Spelled) (all : List Item) → Rest z ts all → RestLeft (floor.Def is d) [] (x ∷ ss) ts all)) (some_is h)
    (tt, λ ts all r. def_left is d x ss ts all r)
left_sound (floor.Script is) [] (x ∷ ss) n h = none_some _ h

-- what a stage wants, with this word before it, is a statement
begun_by : (a : Around) (m : Mark) (t : Spelled) (n : Stage) → t.what ≡ what.Mark m → Live n → ((ts : List Spelled) (all : List Item) → Rest n ts all → RestAt a (sign m t.place ∷ ts) all)
    → Sound (λ ts all. RestAt a ts all) t n
begun_by a m t n i l f = record { live = l; back = λ ts all r. subst (λ (u : Spelled). RestAt a (u ∷ ts) all) (λ j. tok (sym i j) t.place) (f ts all r) }

mark_sound : (a : Around) (m : Mark) (t : Spelled) (n : Stage) → t.what ≡ what.Mark m → start_mark a t.place m ≡ Some n → Sound (λ ts all. RestAt a ts all) t n
mark_sound a mark.Pass t n i h = sound_at _ t (stage.Line (added a stmt.pass)) n (some_is h) (begun_by a mark.Pass t (stage.Line (added a stmt.pass)) i tt (λ ts all r. pass_begun a t.place ts all r))
mark_sound a mark.Return t n i h =
    let e = stage_if_is (is_def a.floor) (stage.Returning a t.place) n h in
    sound_at _ t (stage.Returning a t.place) n e.1 (begun_by a mark.Return t (stage.Returning a t.place) i tt (λ ts all r. return_begun a t.place ts all e.0 r))
mark_sound a mark.Print t n i h = sound_at _ t (stage.PrintWord a) n (some_is h) (begun_by a mark.Print t (stage.PrintWord a) i tt (λ ts all r. print_begun a t.place ts all r))
mark_sound a mark.If t n i h =
    let e = stage_if_is (nat_lt (depth a) most_blocks) (inside a (for_.Branch [])) n h in
    sound_at _ t (inside a (for_.Branch [])) n e.1 (begun_by a mark.If t (inside a (for_.Branch [])) i begins (λ ts all r. if_begun a t.place ts all (ltb-true (depth a) most_blocks e.0) r))
mark_sound a mark.While t n i h =
    let e = stage_if_is (nat_lt (depth a) most_blocks) (inside a for_.While) n h in
    sound_at _ t (inside a for_.While) n e.1 (begun_by a mark.While t (inside a for_.While) i begins (λ ts all r. while_begun a t.place ts all (ltb-true (depth a) most_blocks e.0) r))
mark_sound a mark.Class t n i h = class_at_sound a.floor a.opened a.done t n i h
mark_sound a mark.Def t n i h = def_at_sound a.floor a.opened a.done t n i h
mark_sound a mark.Dedent t n i h =
    let l = left_sound a.floor a.opened a.done n h in
    begun_by a mark.Dedent t n i l.0 (λ ts all r. closes a.floor a.opened a.done t.place ts all (l.1 ts all r))
mark_sound a mark.End t n i h = end_at_sound a.floor a.opened a.done t n i h
mark_sound a m t n i h = none_some _ h

start_sound_at : (a : Around) (t : Spelled) (w : What) (o : Option Stage) (n : Stage) → t.what ≡ w → o ≡ plain_on a (mode.Want []) t → start_at a t.place w o ≡ Some n → Sound (λ ts all. RestAt a ts all) t n
start_sound_at a t (what.Name x) o n i q h =
    sound_at _ t (stage.Named a (word x t.place)) n (some_is h)
    (record { live = tt; back = λ ts all r. subst (λ (u : Spelled). RestAt a (u ∷ ts) all) (λ j. tok (sym i j) t.place) (named_begun a x t.place ts all r) })
start_sound_at a t (what.Mark m) o n i q h = mark_sound a m t n i h
start_sound_at a t w o n i q h =
    let p = plain_on_sound a (mode.Want []) t n begins (sym q ∙ h) in
    record { live = p.live; back = λ ts all r. plain_begun a (t ∷ ts) all (p.back ts all r) }

pub start_sound : (a : Around) (t : Spelled) (n : Stage) → start_step a t ≡ Some n → Sound (λ ts all. RestAt a ts all) t n
start_sound a t n h = start_sound_at a t t.what (plain_on a (mode.Want []) t) n refl refl h

at_behind : (a : Around) (bs : List Branch) (t : Spelled) (w : What) (o : Option Stage) (n : Stage) → t.what ≡ w → behind_at a bs (ending_of w) o ≡ Some n
    → (o ≡ Some n → Sound (λ ts all. RestBehind a.floor a.opened a.done bs ts all) t n) → Sound (λ ts all. RestBehind a.floor a.opened a.done bs ts all) t n
at_behind a bs t (what.Mark mark.Elif) o n i h f =
    sound_at _ t (inside a (for_.Branch bs)) n (some_is h)
    (record { live = begins; back = λ ts all r. subst (λ (u : Spelled). RestBehind a.floor a.opened a.done bs (u ∷ ts) all) (λ j. tok (sym i j) t.place) (elif_behind a bs t.place ts all r) })
at_behind a bs t (what.Mark mark.Else) o n i h f =
    sound_at _ t (stage.HeadColon a (head.Else bs)) n (some_is h)
    (record { live = tt; back = λ ts all r. subst (λ (u : Spelled). RestBehind a.floor a.opened a.done bs (u ∷ ts) all) (λ j. tok (sym i j) t.place) (otherwise_behind a bs t.place ts all r) })
at_behind a bs t w o n i h f = f h

pub behind_sound : (a : Around) (bs : List Branch) (t : Spelled) (n : Stage) → behind_step a bs t ≡ Some n → Sound (λ ts all. RestBehind a.floor a.opened a.done bs ts all) t n
behind_sound a bs t n h =
    at_behind a bs t t.what (start_step (added a (stmt.if_any (branches bs) stmt.no_else)) t) n refl h
    (λ e. let p = start_sound (added a (stmt.if_any (branches bs) stmt.no_else)) t n e in record { live = p.live; back = λ ts all r. no_more_behind a bs (t ∷ ts) all (p.back ts all r) })
