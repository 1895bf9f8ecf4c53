-- A step forwards where a statement begins, and behind a block.
use Rattle.std.proofs.Common.{◌≡◌, ◌⊎◌, inl, inr, ℕ, suc, ◌+◌, Bool, true, List, [], ◌∷◌, ◌++◌, length, Option, Some, None, refl, sym, ◌∙◌, ap, subst, arith, append_assoc}
use Rattle.std.proofs.lemmas.Bool.{lt-ltb}
use Rattle.std.proofs.lemmas.List.{append-nil}
use Rattle.mono_syntax.specs.declared.leaf.Place.{Place}
use Rattle.mono_syntax.specs.declared.tree.Branch.{Branch}
use Rattle.mono_syntax.specs.declared.tree.ClassDef.{ClassDef}
use Rattle.mono_syntax.specs.declared.tree.FuncDef.{FuncDef}
use Rattle.mono_syntax.specs.declared.tree.Item.{Item}
use Rattle.mono_syntax.specs.declared.tree.Item.TheVariants as item
use Rattle.mono_syntax.specs.declared.tree.Param.{Param}
use Rattle.mono_syntax.specs.Ann.{Ann}
use Rattle.mono_syntax.specs.Expr as expr
use Rattle.mono_syntax.specs.Expr.{Expr}
use Rattle.mono_syntax.specs.ExprView.{exprs}
use Rattle.mono_syntax.specs.Stmt as stmt
use Rattle.mono_syntax.specs.Stmt.{Stmt}
use Rattle.mono_syntax.specs.StmtView.{block, branches}
use Rattle.spelled_tokens.specs.declared.token.Mark.{Mark}
use Rattle.spelled_tokens.specs.declared.token.Mark.TheVariants as mark
use Rattle.spelled_tokens.specs.declared.token.Spelled.{Spelled}
use Rattle.spelled_tokens.specs.declared.token.What.{What}
use Rattle.spelled_tokens.specs.declared.token.What.TheVariants as what
use Rattle.spelled_tokens.specs.SpelledTokens.{tok, sign}
use Rattle.parse_expr.specs.declared.machine.Held.{Held}
use Rattle.parse_expr.specs.declared.machine.Mode.{Mode}
use Rattle.parse_expr.specs.declared.machine.Mode.TheVariants as mode
use Rattle.parse_expr.specs.computed.Reading.{step, held}
use Rattle.parse_expr.specs.Types.{word}
use Rattle.parse_script.specs.declared.stage.Around.{Around}
use Rattle.parse_script.specs.declared.stage.ClassStage.TheVariants as class_stage
use Rattle.parse_script.specs.declared.stage.DefHead.{DefHead}
use Rattle.parse_script.specs.declared.stage.DefStage.TheVariants as def_stage
use Rattle.parse_script.specs.declared.stage.Floor.{Floor}
use Rattle.parse_script.specs.declared.stage.Floor.TheVariants as floor
use Rattle.parse_script.specs.declared.stage.Head.{Head}
use Rattle.parse_script.specs.declared.stage.Head.TheVariants as head
use Rattle.parse_script.specs.declared.stage.Opened.{Opened}
use Rattle.parse_script.specs.declared.stage.Opened.TheVariants as opened
use Rattle.parse_script.specs.declared.stage.Stage.{Stage}
use Rattle.parse_script.specs.declared.stage.Stage.TheVariants as stage
use Rattle.parse_script.specs.declared.stage.Use.TheVariants as for_
use Rattle.parse_script.specs.Definitions.{DerivesDef}
use Rattle.parse_script.specs.Definitions as defs
use Rattle.parse_script.specs.computed.Endings.{ending_of}
use Rattle.parse_script.specs.computed.Reading.{around, top, is_def, floor_depth, depth, added_to, added, added_stage, func_def, left, stage_if, inside, plain_on, start_mark, start_at, start_step, behind_at, behind_step}
use Rattle.parse_script.specs.Statements as s
use Rattle.mono_syntax.specs.Limits.{greatest_weight, most_blocks}
use Rattle.parse_script.specs.Statements.{branch, DerivesStmt, DerivesTail, DerivesBlock, DerivesStmts, indented}
use Rattle.parse_script.proofs.Ahead.{On, on_at, grammar_expr}
use Rattle.parse_script.proofs.AheadPlain.{PlainIs, plain_is, plain_on_ahead}
use Rattle.parse_script.proofs.BackStart.{opens, enters, parts}
use Rattle.parse_script.proofs.ClassExact.{class_goes}
use Rattle.parse_script.proofs.Collect.{AnyStmts, any_stmts, unroll, unroll_body}
use Rattle.parse_script.proofs.DefExact.{def_goes, head_tokens}
use Rattle.parse_script.proofs.Live.{named_goes}
use Rattle.parse_script.proofs.Rest.{RestStart, statement, closes, ends, class, def, RestLeft, while_left, branch_left, else_left, def_left, RestBehind, behind, RestAt, RestLine, RestHead, RestUse, RestInside, RestPlain}
use Rattle.parse_script.proofs.Steps.{none_some, some_is, head_is, tail_is}
use Rattle.parse_expr.proofs.Readings.{type_goes, postfix_goes}

-- the first token of these is this one
on_first : (a : Around) (t u : Spelled) (ts us : List Spelled) (all : List Item) → t ∷ ts ≡ u ∷ us → On (start_step a u) us all → On (start_step a t) ts all
on_first a t u ts us all e x =
    subst (λ (l : List Spelled). On (start_step a t) l all) (sym (tail_is e)) (on_at (start_step a t) (start_step a u) us all (ap (start_step a) (head_is e)) x)

-- NEWLINE, and what is behind a statement
line_is : (a : Around) (t : Stmt) (p : Place) (vs ts : List Spelled) (all : List Item) → ts ≡ sign mark.Newline p ∷ vs → RestAt (added a t) vs all → RestLine a t ts all
line_is a t p vs ts all e r = record { place = p; more = vs; split = e; rest = r }

-- ---- blocks

block_is : (a : Around) (h : Head) (us vs : List Spelled) (ss : List Stmt) (all : List Item) → DerivesBlock (is_def a.floor) (suc (depth a)) us ss → RestLeft a.floor (opens a h ∷ a.opened) ss vs all
    → RestHead a h (us ++ vs) all
block_is a h us vs ss all (indented d p q r ts rs e) l =
    let same : suc (depth a) ≡ length (opens a h ∷ a.opened) + floor_depth a.floor = omega arith in
    let any = subst (λ (n : ℕ). AnyStmts (is_def a.floor) n ts ss) same (any_stmts (is_def a.floor) (suc (depth a)) ts ss e) in
    let inner = unroll a.floor (opens a h) a.opened [] ts (sign mark.Dedent r ∷ vs) ss all any (closes a.floor (opens a h ∷ a.opened) ss r vs all l) in
    record {
      place = p;
      more = sign mark.Indent q ∷ ((ts ++ (sign mark.Dedent r ∷ [])) ++ vs);
      split = refl;
      rest = record {
        place = q;
        more = (ts ++ (sign mark.Dedent r ∷ [])) ++ vs;
        split = refl;
        rest = subst (λ (z : Around). RestAt z ((ts ++ (sign mark.Dedent r ∷ [])) ++ vs) all) (sym (enters a h))
            (subst (λ (k : List Spelled). RestAt (around a.floor (opens a h ∷ a.opened) []) k all) (sym (append_assoc ts (sign mark.Dedent r ∷ []) vs)) inner);
      };
    }

-- a block has a statement
record Some_ (ss : List Stmt) : Type 0 where
  first : Stmt
  others : List Stmt
  are : ss ≡ first ∷ others

stmts_some : (ins : Bool) (d : ℕ) (us : List Spelled) (ss : List Stmt) → DerivesStmts ins d us ss → Some_ ss
stmts_some ins d us ss (s.one_stmt e ts x h) = record { first = x; others = []; are = refl }
stmts_some ins d us ss (s.more_stmts e ts vs x xs h r) = record { first = x; others = xs; are = refl }

block_some : (ins : Bool) (d : ℕ) (us : List Spelled) (ss : List Stmt) → DerivesBlock ins d us ss → Some_ ss
block_some ins d us ss (indented e p q r ts rs h) = stmts_some ins d ts ss h

leaves_while : (f : Floor) (k : List Opened) (done : List Stmt) (e : Expr) (ss : List Stmt) (vs : List Spelled) (all : List Item) → Some_ ss → RestAt (added_to f k done (stmt.loop e (block ss))) vs all
    → RestLeft f (opened.While done e ∷ k) ss vs all
leaves_while f k done e ss vs all n r =
    subst (λ (xs : List Stmt). RestLeft f (opened.While done e ∷ k) xs vs all) (sym n.are)
    (while_left f k done e n.first n.others vs all (subst (λ (xs : List Stmt). RestAt (added_to f k done (stmt.loop e (block xs))) vs all) n.are r))

leaves_branch : (f : Floor) (k : List Opened) (done : List Stmt) (bs : List Branch) (e : Expr) (ss : List Stmt) (vs : List Spelled) (all : List Item) → Some_ ss
    → RestBehind f k done (bs ++ (branch e ss ∷ [])) vs all → RestLeft f (opened.Branch done bs e ∷ k) ss vs all
leaves_branch f k done bs e ss vs all n r =
    subst (λ (xs : List Stmt). RestLeft f (opened.Branch done bs e ∷ k) xs vs all) (sym n.are)
    (branch_left f k done bs e n.first n.others vs all (subst (λ (xs : List Stmt). RestBehind f k done (bs ++ (branch e xs ∷ [])) vs all) n.are r))

leaves_else : (f : Floor) (k : List Opened) (done : List Stmt) (bs : List Branch) (ss : List Stmt) (vs : List Spelled) (all : List Item) → Some_ ss
    → RestAt (added_to f k done (stmt.if_any (branches bs) (stmt.otherwise (block ss)))) vs all → RestLeft f (opened.Else done bs ∷ k) ss vs all
leaves_else f k done bs ss vs all n r =
    subst (λ (xs : List Stmt). RestLeft f (opened.Else done bs ∷ k) xs vs all) (sym n.are)
    (else_left f k done bs n.first n.others vs all (subst (λ (xs : List Stmt). RestAt (added_to f k done (stmt.if_any (branches bs) (stmt.otherwise (block xs)))) vs all) n.are r))

leaves_def : (before : List Item) (h : DefHead) (ss : List Stmt) (vs : List Spelled) (all : List Item) → Some_ ss → RestAt (top (before ++ (item.Def (func_def h ss) ∷ []))) vs all
    → RestLeft (floor.Def before h) [] ss vs all
leaves_def before h ss vs all n r =
    subst (λ (xs : List Stmt). RestLeft (floor.Def before h) [] xs vs all) (sym n.are)
    (def_left before h n.first n.others vs all (subst (λ (xs : List Stmt). RestAt (top (before ++ (item.Def (func_def h xs) ∷ []))) vs all) n.are r))

-- ---- what begins with an expression

-- a reserved word of statements begins none
word_no_plain : (a : Around) (t : Spelled) (x : Mark) (ts : List Spelled) (all : List Item) (B : Type 0) → t.what ≡ what.Mark x → PlainIs a (mode.Want []) t ts all → B
word_no_plain a t x ts all B i p =
    elim p.which [
      | inl y ↦ none_some B (sym (ap (λ (w : What). step greatest_weight (mode.Want []) (tok w t.place)) i) ∙ y.step_is)
      | inr z ↦ elim z [ inl y ↦ none_some B y.finish_is | inr y ↦ absurd (no y.mode_is) ]
    ]
  where
    no : {h : Held} → mode.Want [] ≡ mode.Have h → ⊥
    no e = cc

-- a name begins one
name_plain : (a : Around) (t : Spelled) (x : List ℕ) (ts : List Spelled) (all : List Item) → t.what ≡ what.Name x → PlainIs a (mode.Want []) t ts all → RestPlain a (mode.Have (held [] (expr.local (word x t.place)) 1)) ts all
name_plain a t x ts all i p =
    elim p.which [
      | inl y ↦ subst (λ (m : Mode). RestPlain a m ts all) (sym (some_is (sym (ap (λ (w : What). step greatest_weight (mode.Want []) (tok w t.place)) i ∙ named_goes (word x t.place)) ∙ y.step_is))) y.rest
      | inr z ↦ elim z [ inl y ↦ none_some _ y.finish_is | inr y ↦ absurd (no y.mode_is) ]
    ]
  where
    no : {h : Held} → mode.Want [] ≡ mode.Have h → ⊥
    no e = cc

want_apart : (o : Expr) (w : ℕ) (v u : What) → mode.Want [] ≡ mode.Have (held [] o w) → v ≡ u → ⊥
want_apart o w v u e i = cc

plain_start_at : (a : Around) (t : Spelled) (w : What) (ts : List Spelled) (all : List Item) → t.what ≡ w → RestPlain a (mode.Want []) (t ∷ ts) all → On (start_at a t.place w (plain_on a (mode.Want []) t)) ts all
plain_start_at a t (what.Name x) ts all i r =
    record { next = stage.Named a (word x t.place); step_is = refl; rest = inr (inr (name_plain a t x ts all i (plain_is a (mode.Want []) t ts all r))) }
plain_start_at a t (what.Mark m) ts all i r = word_no_plain a t m ts all _ i (plain_is a (mode.Want []) t ts all r)
plain_start_at a t w ts all i r = plain_on_ahead a (mode.Want []) t ts all (λ o v e f. want_apart o v t.what what.Dot e f) r

plain_start : (a : Around) (t : Spelled) (ts : List Spelled) (all : List Item) → RestPlain a (mode.Want []) (t ∷ ts) all → On (start_step a t) ts all
plain_start a t ts all r = plain_start_at a t t.what ts all refl r

-- ---- statements

statement_on : (a : Around) (d : ℕ) (us vs ts : List Spelled) (t : Spelled) (x : Stmt) (all : List Item) → depth a ≡ d → DerivesStmt (is_def a.floor) d us x → t ∷ ts ≡ us ++ vs → RestAt (added a x) vs all
    → On (start_step a t) ts all
statement_on a d us vs ts t x all n (s.pass e p q) h r =
    on_first a t (sign mark.Pass p) ts (sign mark.Newline q ∷ vs) all h (record { next = stage.Line (added a stmt.pass); step_is = refl; rest = line_is a stmt.pass q vs (sign mark.Newline q ∷ vs) all refl r })
statement_on a d us vs ts t x all n (s.give_none e p q i) h r =
    on_first a t (sign mark.Return p) ts (sign mark.Newline q ∷ vs) all h
    (record { next = stage.Returning a p; step_is = ap (λ b. stage_if b (stage.Returning a p)) i; rest = inl (line_is a (stmt.give p None) q vs (sign mark.Newline q ∷ vs) all refl r) })
statement_on a d us vs ts t x all n (s.give e p q ws y i z) h r =
    on_first a t (sign mark.Return p) ts ((ws ++ (sign mark.Newline q ∷ [])) ++ vs) all h
    (record {
      next = stage.Returning a p;
      step_is = ap (λ b. stage_if b (stage.Returning a p)) i;
      rest = inr (grammar_expr (λ k l. RestUse a (for_.Return p) k l all) ws (sign mark.Newline q ∷ vs) ((ws ++ (sign mark.Newline q ∷ [])) ++ vs) y z (append_assoc ws (sign mark.Newline q ∷ []) vs)
          (line_is a (stmt.give p (Some y)) q vs (sign mark.Newline q ∷ vs) all refl r));
    })
statement_on a d us vs ts t x all n (s.print e p q i j ws w es k l) h r =
    on_first a t (sign mark.Print p) ts (tok what.Open q ∷ ((ws ++ (tok what.Close i ∷ sign mark.Newline j ∷ [])) ++ vs)) all h
    (record {
      next = stage.PrintWord a;
      step_is = refl;
      rest = record {
        place = q;
        more = (ws ++ (tok what.Close i ∷ sign mark.Newline j ∷ [])) ++ vs;
        split = refl;
        rest = record {
          part = ws;
          weight = w;
          args = es;
          place = i;
          more = sign mark.Newline j ∷ vs;
          derives = k;
          light = l;
          split = append_assoc ws (tok what.Close i ∷ sign mark.Newline j ∷ []) vs;
          rest = line_is a (stmt.print q (exprs es)) j vs (sign mark.Newline j ∷ vs) all refl r;
        };
      };
    })
statement_on a d us vs ts t x all n (s.assign e p q i y ws z k) h r =
    on_first a t (tok (what.Name y) p) ts (sign mark.Equals q ∷ ((ws ++ (sign mark.Newline i ∷ [])) ++ vs)) all h
    (record {
      next = stage.Named a (word y p);
      step_is = refl;
      rest = inl (record {
        place = q;
        more = (ws ++ (sign mark.Newline i ∷ [])) ++ vs;
        split = refl;
        rest = inl (grammar_expr (λ g l. RestUse a (for_.Assign (word y p) None) g l all) ws (sign mark.Newline i ∷ vs) ((ws ++ (sign mark.Newline i ∷ [])) ++ vs) z k (append_assoc ws (sign mark.Newline i ∷ []) vs)
            (line_is a (stmt.assign (word y p) None z) i vs (sign mark.Newline i ∷ vs) all refl r));
      });
    })
statement_on a d us vs ts t x all n (s.declare e p q i j y xs b ws z k l) h r =
    let g = type_goes greatest_weight xs b k in
    on_first a t (tok (what.Name y) p) ts (sign mark.Colon q ∷ ((xs ++ (sign mark.Equals i ∷ (ws ++ (sign mark.Newline j ∷ [])))) ++ vs)) all h
    (record {
      next = stage.Named a (word y p);
      step_is = refl;
      rest = inr (inl (record {
        place = q;
        more = (xs ++ (sign mark.Equals i ∷ (ws ++ (sign mark.Newline j ∷ [])))) ++ vs;
        split = refl;
        rest = record {
          part = xs;
          more = sign mark.Equals i ∷ ((ws ++ (sign mark.Newline j ∷ [])) ++ vs);
          tree = b;
          weight = g.0;
          goes = g.1;
          split = append_assoc xs (sign mark.Equals i ∷ (ws ++ (sign mark.Newline j ∷ []))) vs;
          rest = record {
            place = i;
            more = (ws ++ (sign mark.Newline j ∷ [])) ++ vs;
            split = refl;
            rest = grammar_expr (λ f m. RestUse a (for_.Assign (word y p) (Some b)) f m all) ws (sign mark.Newline j ∷ vs) ((ws ++ (sign mark.Newline j ∷ [])) ++ vs) z l (append_assoc ws (sign mark.Newline j ∷ []) vs)
                (line_is a (stmt.assign (word y p) (Some b) z) j vs (sign mark.Newline j ∷ vs) all refl r);
          };
        };
      }));
    })
statement_on a d us vs ts t x all n (s.write e p q i j y xs w o ws z k l m) h r =
    let value = sign mark.Equals i ∷ (ws ++ (sign mark.Newline j ∷ [])) in
    plain_start a t ts all
    (inr (record {
      part = xs;
      more = (tok what.Dot p ∷ tok (what.Name y) q ∷ value) ++ vs;
      tree = o;
      weight = w;
      goes = postfix_goes greatest_weight xs w o k l;
      light = l;
      split = h ∙ append_assoc xs (tok what.Dot p ∷ tok (what.Name y) q ∷ value) vs;
      rest = record {
        place = p;
        more = (tok (what.Name y) q ∷ value) ++ vs;
        split = refl;
        rest = record {
          name = y;
          place = q;
          more = value ++ vs;
          split = refl;
          rest = record {
            place = i;
            more = (ws ++ (sign mark.Newline j ∷ [])) ++ vs;
            split = refl;
            rest = grammar_expr (λ f g. RestUse a (for_.Write o (word y q)) f g all) ws (sign mark.Newline j ∷ vs) ((ws ++ (sign mark.Newline j ∷ [])) ++ vs) z m (append_assoc ws (sign mark.Newline j ∷ []) vs)
                (line_is a (stmt.write o (word y q) z) j vs (sign mark.Newline j ∷ vs) all refl r);
          };
        };
      };
    }))
statement_on a d us vs ts t x all n (s.start e p q i j k l y ws w z es m o) h r =
    on_first a t (tok (what.Name y) p) ts (sign mark.Equals q ∷ sign mark.Start i ∷ tok what.Open j ∷ ((ws ++ (tok what.Close k ∷ sign mark.Newline l ∷ [])) ++ vs)) all h
    (record {
      next = stage.Named a (word y p);
      step_is = refl;
      rest = inl (record {
        place = q;
        more = sign mark.Start i ∷ tok what.Open j ∷ ((ws ++ (tok what.Close k ∷ sign mark.Newline l ∷ [])) ++ vs);
        split = refl;
        rest = inr (record {
          place = i;
          more = tok what.Open j ∷ ((ws ++ (tok what.Close k ∷ sign mark.Newline l ∷ [])) ++ vs);
          split = refl;
          rest = record {
            place = j;
            more = (ws ++ (tok what.Close k ∷ sign mark.Newline l ∷ [])) ++ vs;
            split = refl;
            rest = record {
              part = ws;
              weight = w;
              args = z ∷ es;
              place = k;
              more = sign mark.Newline l ∷ vs;
              derives = m;
              light = o;
              split = append_assoc ws (tok what.Close k ∷ sign mark.Newline l ∷ []) vs;
              rest = line_is a (stmt.start (word y p) j z (exprs es)) l vs (sign mark.Newline l ∷ vs) all refl r;
            };
          };
        });
      });
    })
statement_on a d us vs ts t x all n (s.plain e q ws y z) h r =
    plain_start a t ts all
    (inl (grammar_expr (λ k l. RestLine a (stmt.plain k) l all) ws (sign mark.Newline q ∷ vs) (t ∷ ts) y z (h ∙ append_assoc ws (sign mark.Newline q ∷ []) vs)
    (line_is a (stmt.plain y) q vs (sign mark.Newline q ∷ vs) all refl r)))
statement_on a d us vs ts t x all n (s.if_any e p q ws y xs ss zs bs el i j k l) h r =
    let tail = xs ++ zs in
    on_first a t (sign mark.If p) ts ((ws ++ (sign mark.Colon q ∷ tail)) ++ vs) all h
    (record {
      next = inside a (for_.Branch []);
      step_is = ap (λ b. stage_if b (inside a (for_.Branch []))) (lt-ltb (depth a) most_blocks (omega (arith, n, i)));
      rest = grammar_expr (λ f g. RestUse a (for_.Branch []) f g all) ws (sign mark.Colon q ∷ (tail ++ vs)) ((ws ++ (sign mark.Colon q ∷ tail)) ++ vs) y j (append_assoc ws (sign mark.Colon q ∷ tail) vs)
          (record {
            place = q;
            more = tail ++ vs;
            split = refl;
            rest = subst (λ (g : List Spelled). RestHead a (head.Branch [] y) g all) (sym (append_assoc xs zs vs))
                (block_is a (head.Branch [] y) xs (zs ++ vs) ss all (subst (λ (m : ℕ). DerivesBlock (is_def a.floor) (suc m) xs ss) (sym n) k)
                (leaves_branch a.floor a.opened a.done [] y ss (zs ++ vs) all (block_some (is_def a.floor) (suc e) xs ss k)
                (behind a.floor a.opened a.done (branch y ss ∷ []) bs el zs vs (zs ++ vs) all (subst (λ (m : ℕ). DerivesTail (is_def a.floor) m zs bs el) (sym n) l) refl r)));
          });
    })
statement_on a d us vs ts t x all n (s.while e p q ws y xs ss i j k) h r =
    on_first a t (sign mark.While p) ts ((ws ++ (sign mark.Colon q ∷ xs)) ++ vs) all h
    (record {
      next = inside a for_.While;
      step_is = ap (λ b. stage_if b (inside a for_.While)) (lt-ltb (depth a) most_blocks (omega (arith, n, i)));
      rest = grammar_expr (λ f g. RestUse a for_.While f g all) ws (sign mark.Colon q ∷ (xs ++ vs)) ((ws ++ (sign mark.Colon q ∷ xs)) ++ vs) y j (append_assoc ws (sign mark.Colon q ∷ xs) vs)
          (record {
            place = q;
            more = xs ++ vs;
            split = refl;
            rest = block_is a (head.While y) xs vs ss all (subst (λ (m : ℕ). DerivesBlock (is_def a.floor) (suc m) xs ss) (sym n) k)
                (leaves_while a.floor a.opened a.done y ss vs all (block_some (is_def a.floor) (suc e) xs ss k) r);
          });
    })

-- ---- classes and functions

class_on : (before : List Item) (done : List Stmt) (us vs ts : List Spelled) (t : Spelled) (c : ClassDef) (all : List Item) → defs.DerivesClass us c → t ∷ ts ≡ us ++ vs
    → RestAt (top (before ++ (item.Class c ∷ []))) vs all → On (start_step (around (floor.Script before) [] done) t) ts all
class_on before done us vs ts t c all d e r =
    let g = class_goes us c d in
    on_first (around (floor.Script before) [] done) t (sign mark.Class g.place) ts (g.more ++ vs) all (e ∙ ap (λ (l : List Spelled). l ++ vs) g.split)
    (record { next = stage.Class before class_stage.Word; step_is = refl; rest = record { part = g.more; more = vs; tree = c; goes = g.goes; split = refl; rest = r } })

def_on_block : (before : List Item) (done : List Stmt) (p q r u v w : Place) (x : List ℕ) (us : List Spelled) (xs : List Param) (rs : List Spelled) (a : Option Ann) (bs : List Spelled) (ss : List Stmt)
    → defs.DerivesParams us xs → defs.DerivesResult rs a → DerivesBlock true 1 bs ss → (vs ts : List Spelled) (t : Spelled) (all : List Item)
    → t ∷ ts ≡ (sign mark.Def p ∷ tok (what.Name x) q ∷ tok what.Open r ∷ (us ++ (tok what.Close u ∷ (rs ++ (sign mark.Colon v ∷ bs))))) ++ vs
    → RestAt (top (before ++ (item.Def (func_def (record { name = word x q; params = xs; result = a }) ss) ∷ []))) vs all
    → On (start_step (around (floor.Script before) [] done) t) ts all
def_on_block before done p q r u v w x us xs rs a bs ss k l (indented d i j z cs ts' m) vs ts t all e rest =
    let h : DefHead = record { name = word x q; params = xs; result = a } in
    let tokens = head_tokens x q r us u rs v i j in
    on_first (around (floor.Script before) [] done) t (sign mark.Def p) ts (tokens ++ (cs ++ (sign mark.Dedent z ∷ vs))) all
    (e ∙ ap (λ (g : List Spelled). sign mark.Def p ∷ g) (sym (parts x q r u v i j z us rs cs vs (cs ++ (sign mark.Dedent z ∷ vs)) refl)))
    (record {
      next = stage.Def before def_stage.Word;
      step_is = refl;
      rest = record {
        part = tokens;
        more = cs ++ (sign mark.Dedent z ∷ vs);
        tree = h;
        goes = def_goes x q r u v i j us rs xs a k l;
        split = refl;
        rest = unroll_body before h [] cs (sign mark.Dedent z ∷ vs) ss all (any_stmts true 1 cs ss m)
            (closes (floor.Def before h) [] ss z vs all (leaves_def before h ss vs all (stmts_some true 1 cs ss m) rest));
      };
    })

def_on : (before : List Item) (done : List Stmt) (us vs ts : List Spelled) (t : Spelled) (d : FuncDef) (all : List Item) → DerivesDef us d → t ∷ ts ≡ us ++ vs
    → RestAt (top (before ++ (item.Def d ∷ []))) vs all → On (start_step (around (floor.Script before) [] done) t) ts all
def_on before done us vs ts t d all (defs.def p q r u v x ps xs rs a bs ss k l m) e rest = def_on_block before done p q r u v p x ps xs rs a bs ss k l m vs ts t all e rest

-- ---- a DEDENT

pub left_on : (f : Floor) (k : List Opened) (done : List Stmt) (vs : List Spelled) (all : List Item) → RestLeft f k done vs all → On (left f k done) vs all
left_on f k done vs all (while_left g l before e x ss us is r) = record { next = added_stage (around f l before) (stmt.loop e (block (x ∷ ss))); step_is = refl; rest = r }
left_on f k done vs all (branch_left g l before bs e x ss us is r) = record { next = stage.Behind (around f l before) (bs ++ (branch e (x ∷ ss) ∷ [])); step_is = refl; rest = r }
left_on f k done vs all (else_left g l before bs x ss us is r) =
    record { next = added_stage (around f l before) (stmt.if_any (branches bs) (stmt.otherwise (block (x ∷ ss)))); step_is = refl; rest = r }
left_on f k done vs all (def_left before h x ss us is r) = record { next = stage.Start (top (before ++ (item.Def (func_def h (x ∷ ss)) ∷ []))); step_is = refl; rest = r }

-- ---- where a statement may begin

start_on_at : (f : Floor) (k : List Opened) (done : List Stmt) (t : Spelled) (ts us : List Spelled) (all : List Item) → us ≡ t ∷ ts → RestStart f k done us all → On (start_step (around f k done) t) ts all
start_on_at f k done t ts us all e (statement g l d ws vs zs x is h i r) = statement_on (around f k done) (length k + floor_depth f) ws vs ts t x all refl h (sym e ∙ i) r
start_on_at f k done t ts us all e (closes g l d p vs is r) =
    let x = left_on f k done vs all r in
    on_first (around f k done) t (sign mark.Dedent p) ts vs all (sym e) (record { next = x.next; step_is = x.step_is; rest = x.rest })
start_on_at f k done t ts us all e (ends before d p) =
    on_first (around f k done) t (sign mark.End p) ts [] all (sym e) (record { next = stage.Ended before; step_is = refl; rest = (refl, refl) })
start_on_at f k done t ts us all e (class before d ws vs zs c is h i r) = class_on before done ws vs ts t c all h (sym e ∙ i) r
start_on_at f k done t ts us all e (def before d ws vs zs c is h i r) = def_on before done ws vs ts t c all h (sym e ∙ i) r

pub start_on : (a : Around) (t : Spelled) (ts : List Spelled) (all : List Item) → RestAt a (t ∷ ts) all → On (start_step a t) ts all
start_on a t ts all r = start_on_at a.floor a.opened a.done t ts (t ∷ ts) all refl r

-- ---- behind a block

behind_pass : (a : Around) (bs : List Branch) (w : What) → ((m : Mark) × (w ≡ what.Mark m) × ((b : Around) (p : Place) → start_mark b p m ≡ None)) ⊎ ((o : Option Stage) → behind_at a bs (ending_of w) o ≡ o)
behind_pass a bs (what.Mark mark.Elif) = inl (mark.Elif, refl, λ b p. refl)
behind_pass a bs (what.Mark mark.Else) = inl (mark.Else, refl, λ b p. refl)
behind_pass a bs w = inr (λ o. refl)

behind_tail : (a : Around) (d : ℕ) (bs cs : List Branch) (el : stmt.Else) (us vs ts : List Spelled) (t : Spelled) (all : List Item) → depth a ≡ d → DerivesTail (is_def a.floor) d us cs el → t ∷ ts ≡ us ++ vs
    → RestAt (added a (stmt.if_any (branches (bs ++ cs)) el)) vs all → On (behind_step a bs t) ts all
behind_tail a d bs cs el us vs ts t all n (s.no_else e) h r =
    let b = added a (stmt.if_any (branches bs) stmt.no_else) in
    let same = subst (λ (ks : List Branch). RestAt (added a (stmt.if_any (branches ks) stmt.no_else)) vs all) (append-nil bs) r in
    let x = start_on b t ts all (subst (λ (l : List Spelled). RestAt b l all) (sym h) same) in
    elim (behind_pass a bs t.what) [
      | inl m ↦ none_some _ (sym (ap (λ (w : What). start_at b t.place w (plain_on b (mode.Want []) t)) m.1 ∙ m.2 b t.place) ∙ x.step_is)
      | inr i ↦ on_at _ _ ts all (i (start_step b t)) x
    ]
behind_tail a d bs cs el us vs ts t all n (s.elif e p q ws y xs ss zs ks el' j k l) h r =
    let tail = xs ++ zs in
    let rest = grammar_expr (λ f g. RestUse a (for_.Branch bs) f g all) ws (sign mark.Colon q ∷ (tail ++ vs)) ((ws ++ (sign mark.Colon q ∷ tail)) ++ vs) y j (append_assoc ws (sign mark.Colon q ∷ tail) vs)
    (record {
      place = q;
      more = tail ++ vs;
      split = refl;
      rest = subst (λ (g : List Spelled). RestHead a (head.Branch bs y) g all) (sym (append_assoc xs zs vs))
          (block_is a (head.Branch bs y) xs (zs ++ vs) ss all (subst (λ (m : ℕ). DerivesBlock (is_def a.floor) (suc m) xs ss) (sym n) k)
          (leaves_branch a.floor a.opened a.done bs y ss (zs ++ vs) all (block_some (is_def a.floor) (suc e) xs ss k)
          (behind a.floor a.opened a.done (bs ++ (branch y ss ∷ [])) ks el zs vs (zs ++ vs) all (subst (λ (m : ℕ). DerivesTail (is_def a.floor) m zs ks el) (sym n) l) refl
          (subst (λ (gs : List Branch). RestAt (added a (stmt.if_any (branches gs) el)) vs all) (sym (append_assoc bs (branch y ss ∷ []) ks)) r))));
    }) in
    record {
      next = inside a (for_.Branch bs);
      step_is = ap (λ (w : What). behind_at a bs (ending_of w) (start_step (added a (stmt.if_any (branches bs) stmt.no_else)) t)) (ap (λ (z : Spelled). z.what) (head_is h));
      rest = subst (λ (l' : List Spelled). RestInside a (for_.Branch bs) (mode.Want []) l' all) (sym (tail_is h)) rest;
    }
behind_tail a d bs cs el us vs ts t all n (s.otherwise e p q xs ss k) h r =
    let rest = block_is a (head.Else bs) xs vs ss all (subst (λ (m : ℕ). DerivesBlock (is_def a.floor) (suc m) xs ss) (sym n) k)
    (leaves_else a.floor a.opened a.done bs ss vs all (block_some (is_def a.floor) (suc e) xs ss k)
    (subst (λ (gs : List Branch). RestAt (added a (stmt.if_any (branches gs) (stmt.otherwise (block ss)))) vs all) (append-nil bs) r)) in
    record {
      next = stage.HeadColon a (head.Else bs);
      step_is = ap (λ (w : What). behind_at a bs (ending_of w) (start_step (added a (stmt.if_any (branches bs) stmt.no_else)) t)) (ap (λ (z : Spelled). z.what) (head_is h));
      rest = record { place = q; more = xs ++ vs; split = tail_is h; rest = rest };
    }

behind_on_at : (f : Floor) (k : List Opened) (done : List Stmt) (bs : List Branch) (t : Spelled) (ts us : List Spelled) (all : List Item) → us ≡ t ∷ ts → RestBehind f k done bs us all
    → On (behind_step (around f k done) bs t) ts all
behind_on_at f k done bs t ts us all e (behind g l d as_ cs el ws vs zs is h i r) = behind_tail (around f k done) (length k + floor_depth f) bs cs el ws vs ts t all refl h (sym e ∙ i) r

pub behind_on : (a : Around) (bs : List Branch) (t : Spelled) (ts : List Spelled) (all : List Item) → RestBehind a.floor a.opened a.done bs (t ∷ ts) all → On (behind_step a bs t) ts all
behind_on a bs t ts all r = behind_on_at a.floor a.opened a.done bs t ts (t ∷ ts) all refl r
