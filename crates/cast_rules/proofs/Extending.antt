-- A later list of sites begins with the earlier one, and a name that is known stays known.
use Rattle.std.proofs.Common.{◌≡◌, ℕ, List, [], ◌∷◌, ◌++◌, Some, None, refl, sym, ◌∙◌, ap, append_assoc, bytes_eq, if◌then◌else◌}
use Rattle.std.proofs.lemmas.List.{append-nil}
use Rattle.mono_list.proofs.Cases.{split, none_some}
use Rattle.mono_syntax.specs.declared.cast.CastFunction.{CastFunction}
use Rattle.mono_syntax.specs.declared.cast.NamedType.{NamedType}
use Rattle.mono_syntax.specs.declared.leaf.Place.{Place}
use Rattle.mono_syntax.specs.declared.tree.ClassDef.{ClassDef}
use Rattle.mono_syntax.specs.declared.tree.FuncDef.{FuncDef}
use Rattle.mono_syntax.specs.declared.tree.Item.{Item}
use Rattle.mono_syntax.specs.CastExpr.{CastExpr}
use Rattle.mono_syntax.specs.CastStmt.{CastStmt, CastBlock, CastBranches, CastElse}
use Rattle.mono_syntax.specs.CastStmtView.{cast_block}
use Rattle.mono_syntax.specs.Expr.{Expr}
use Rattle.mono_syntax.specs.Stmt as stmt
use Rattle.mono_syntax.specs.Stmt.{Stmt, Block, Branches, Else}
use Rattle.mono_syntax.specs.StmtView.{block}
use Rattle.mono_syntax.specs.Ty.{Ty}
use Rattle.mono_tree.specs.TypedPrograms.{type_of_name}
use Rattle.static_types.specs.Lines.{line_parts, LineRule}
use Rattle.static_types.specs.Names.{Names, with_thread}
use Rattle.static_types.specs.Parts.{parts}
use Rattle.cast_rules.specs.declared.site.TypedSite.{TypedSite}
use Rattle.cast_rules.specs.Elaborates.{Uses, as_it_is, with_cast, UsesEach, uses_none, uses_more, uses_of, Elaborates, elaborates, ElaborateAll, of_none, of_more}
use Rattle.cast_rules.specs.ElaboratesLines.{ElaboratesLine, line, branches, loops, ElaboratesGuarded, guards, ElaborateBranches, no_branch, next_branch, ElaboratesElse, no_last, at_last, ElaboratesBlock, ends, goes_on}
use Rattle.cast_rules.specs.HasCasts.{ElaboratesFunction, ElaborateItems, no_item, class_item, function_item, line_item}

-- the second list begins with the first
pub record Extends (ss us : List TypedSite) : Type 0 where
  pub more : List TypedSite
  pub is : us ≡ ss ++ more

pub itself : (ss : List TypedSite) → Extends ss ss
itself ss = record { more = []; is = sym (append-nil ss) }

pub further : {ss us vs : List TypedSite} → Extends ss us → Extends us vs → Extends ss vs
further {ss} {us} {vs} f g = record { more = f.more ++ g.more; is = g.is ∙ ap (λ l. l ++ g.more) f.is ∙ append_assoc ss f.more g.more }

pub adds : {ss us : List TypedSite} (xs : List TypedSite) → us ≡ ss ++ xs → Extends ss us
adds xs e = record { more = xs; is = e }

-- ---- expressions

pub use_extends : (ss us : List TypedSite) (q : Place) (s t : Ty) (c d : CastExpr) → Uses ss q s c t d us → Extends ss us
use_extends ss us q s t c d (as_it_is h) = itself ss
use_extends ss us q s t c d (with_cast h n e) = adds _ e

pub uses_extend : (ss us : List TypedSite) (es : List Expr) (ts asks : List Ty) (cs ds : List CastExpr) → UsesEach ss es ts cs asks ds us → Extends ss us
uses_extend ss us es ts asks cs ds uses_none = itself ss
uses_extend ss us es ts asks cs ds (uses_more {us = vs} f g) = further (use_extends ss vs _ _ _ _ _ f) (uses_extend vs us _ _ _ _ _ g)

mutual
  pub expr_extends : (ns : Names) (ss us : List TypedSite) (e : Expr) (t : Ty) (c : CastExpr) → Elaborates ns ss e t c us → Extends ss us
  expr_extends ns ss us e t c (elaborates {us = vs} {vs = ws} {ts = ts} {cs = cs} {ds = ds} r g rule h q u n node a) =
      further (all_extend ns ss vs (parts ns.classes e) ts cs g) (further (uses_extend vs ws (parts ns.classes e) ts (uses_of e ts r.asks) cs ds u) (adds _ a))

  pub all_extend : (ns : Names) (ss us : List TypedSite) (es : List Expr) (ts : List Ty) (cs : List CastExpr) → ElaborateAll ns ss es ts cs us → Extends ss us
  all_extend ns ss us es ts cs of_none = itself ss
  all_extend ns ss us es ts cs (of_more {us = vs} {e = e} {es = es1} {t = t} {ts = ts1} {c = c} {cs = cs1} g h) =
      further (expr_extends ns ss vs e t c g) (all_extend ns vs us es1 ts1 cs1 h)

-- ---- what may be named

-- the second has the first's names, and more threads behind its own
pub record Grows (ns ms : Names) : Type 0 where
  pub classes : ms.classes ≡ ns.classes
  pub functions : ms.functions ≡ ns.functions
  pub values : ms.values ≡ ns.values
  pub result : ms.result ≡ ns.result
  pub more : List NamedType
  pub threads : ms.threads ≡ ns.threads ++ more

pub same_names : (ns ms : Names) → ms ≡ ns → Grows ns ms
same_names ns ms e = record {
  classes = ap (λ (z : Names). z.classes) e;
  functions = ap (λ (z : Names). z.functions) e;
  values = ap (λ (z : Names). z.values) e;
  result = ap (λ (z : Names). z.result) e;
  more = [];
  threads = ap (λ (z : Names). z.threads) e ∙ sym (append-nil ns.threads);
}

one_more : (ns ms : Names) (x : List ℕ) (t : Ty) → ms ≡ with_thread ns x t → Grows ns ms
one_more ns ms x t e = record {
  classes = ap (λ (z : Names). z.classes) e;
  functions = ap (λ (z : Names). z.functions) e;
  values = ap (λ (z : Names). z.values) e;
  result = ap (λ (z : Names). z.result) e;
  more = record { name = x; ty = t } ∷ [];
  threads = ap (λ (z : Names). z.threads) e;
}

pub more_names : {ns ks ms : Names} → Grows ns ks → Grows ks ms → Grows ns ms
more_names {ns} {ks} {ms} f g = record {
  classes = g.classes ∙ f.classes;
  functions = g.functions ∙ f.functions;
  values = g.values ∙ f.values;
  result = g.result ∙ f.result;
  more = f.more ++ g.more;
  threads = g.threads ∙ ap (λ l. l ++ g.more) f.threads ∙ append_assoc ns.threads f.more g.more;
}

rule_grows : (ns ms : Names) (s : Stmt) (ts asks : List Ty) → LineRule ns s ts asks ms → Grows ns ms
rule_grows ns ms stmt.pass ts asks h = same_names ns ms h.1
rule_grows ns ms (stmt.give p e) ts asks h = same_names ns ms h.1
rule_grows ns ms (stmt.print p es) ts asks h = same_names ns ms h.1
rule_grows ns ms (stmt.assign w a e) ts asks h = same_names ns ms h.1
rule_grows ns ms (stmt.write o w e) ts asks h = same_names ns ms h.1
rule_grows ns ms (stmt.start w p f es) ts asks h = one_more ns ms w.text h.rule.gives h.named
rule_grows ns ms (stmt.plain e) ts asks h = same_names ns ms h.1
rule_grows ns ms (stmt.if_any b l) ts asks h = absurd h
rule_grows ns ms (stmt.loop e b) ts asks h = absurd h

-- the first of two types of one name counts
pub stays_named : (bs more : List NamedType) (x : List ℕ) (t : Ty) → type_of_name bs x ≡ Some t → type_of_name (bs ++ more) x ≡ Some t
stays_named [] more x t e = none_some (type_of_name more x ≡ Some t) e
stays_named (b ∷ bs) more x t e =
    split (bytes_eq b.name x) (λ q. (if q then Some b.ty else type_of_name bs x) ≡ Some t → (if q then Some b.ty else type_of_name (bs ++ more) x) ≡ Some t)
    (λ _ f. f) (λ _ f. stays_named bs more x t f) e

-- a name that stands in the first list is looked up in the second where it isn't there
pub named_behind : (bs more : List NamedType) (x : List ℕ) → type_of_name bs x ≡ None → type_of_name (bs ++ more) x ≡ type_of_name more x
named_behind [] more x e = refl
named_behind (b ∷ bs) more x e =
    split (bytes_eq b.name x)
    (λ q. (if q then Some b.ty else type_of_name bs x) ≡ None → (if q then Some b.ty else type_of_name (bs ++ more) x) ≡ type_of_name more x)
    (λ _ f. none_some _ (sym f)) (λ _ f. named_behind bs more x f) e

-- ---- statements

-- what a statement leaves behind it
pub record Goes (ns : Names) (ss : List TypedSite) (ms : Names) (us : List TypedSite) : Type 0 where
  pub names : Grows ns ms
  pub sites : Extends ss us

pub nowhere : (ns : Names) (ss : List TypedSite) → Goes ns ss ns ss
nowhere ns ss = record { names = same_names ns ns refl; sites = itself ss }

pub then_goes : {ns ks ms : Names} {ss us vs : List TypedSite} → Goes ns ss ks us → Goes ks us ms vs → Goes ns ss ms vs
then_goes f g = record { names = more_names f.names g.names; sites = further f.sites g.sites }

mutual
  pub line_goes : (ns ms : Names) (ss us : List TypedSite) (s : Stmt) (c : CastStmt) → ElaboratesLine ns ss s c ms us → Goes ns ss ms us
  line_goes ns ms ss us s c (line {us = vs} {vs = ws} {ts = ts} {cs = cs} {ds = ds} asks g rule h u n node a) = record {
    names = rule_grows ns ms s ts asks rule;
    sites = further (all_extend ns ss vs (line_parts s) ts cs g) (further (uses_extend vs ws (line_parts s) ts asks cs ds u) (adds _ a));
  }
  line_goes ns ms ss us s c (branches {ks = ks} {us = vs} {bs = bs} {last = last} {cs = cs} {d = d} g h) =
      then_goes (branches_go ns ks ss vs bs cs g) (else_goes ks ms vs us last d h)
  line_goes ns ms ss us s c (loops {e = e} {body = body} {c = k} {d = d} g) = guarded_goes ns ms ss us e body k d g

  pub guarded_goes : (ns ms : Names) (ss us : List TypedSite) (e : Expr) (body : Block) (c : CastExpr) (d : CastBlock) → ElaboratesGuarded ns ss e body c d ms us
      → Goes ns ss ms us
  guarded_goes ns ms ss us e body c d (guards {us = vs} {vs = ws} {t = t} {c = k} g h u b) =
      let first : Goes ns ss ns ws = record { names = same_names ns ns refl; sites = further (expr_extends ns ss vs e t k g) (use_extends vs ws _ t _ k c u) } in
      then_goes first (block_goes ns ms ws us body d b)

  pub branches_go : (ns ms : Names) (ss us : List TypedSite) (bs : Branches) (cs : CastBranches) → ElaborateBranches ns ss bs cs ms us → Goes ns ss ms us
  branches_go ns ms ss us bs cs no_branch = nowhere ns ss
  branches_go ns ms ss us bs cs (next_branch {ks = ks} {us = vs} {e = e} {body = body} {bs = bs1} {c = c} {d = d} {cs = cs1} g h) =
      then_goes (guarded_goes ns ks ss vs e body c d g) (branches_go ks ms vs us bs1 cs1 h)

  pub else_goes : (ns ms : Names) (ss us : List TypedSite) (last : Else) (d : CastElse) → ElaboratesElse ns ss last d ms us → Goes ns ss ms us
  else_goes ns ms ss us last d no_last = nowhere ns ss
  else_goes ns ms ss us last d (at_last {body = body} {d = b} g) = block_goes ns ms ss us body b g

  pub block_goes : (ns ms : Names) (ss us : List TypedSite) (body : Block) (d : CastBlock) → ElaboratesBlock ns ss body d ms us → Goes ns ss ms us
  block_goes ns ms ss us body d ends = nowhere ns ss
  block_goes ns ms ss us body d (goes_on {ks = ks} {us = vs} {s = s} {rest = rest} {c = c} {more = more} g h) =
      then_goes (line_goes ns ks ss vs s c g) (block_goes ks ms vs us rest more h)

-- ---- a script

pub function_extends : (cs : List ClassDef) (fs : List FuncDef) (ss us : List TypedSite) (d : FuncDef) (f : CastFunction) → ElaboratesFunction cs fs ss d f us → Extends ss us
function_extends cs fs ss us d f h =
    further (block_goes h.names h.behind ss h.inside (block d.body) (cast_block f.block.body) h.body).sites (adds _ h.sites)

pub items_go : (ns ms : Names) (ss us : List TypedSite) (is : List Item) (fs : List CastFunction) (b : CastBlock) → ElaborateItems ns ss is fs b ms us → Goes ns ss ms us
items_go ns ms ss us is fs b no_item = nowhere ns ss
items_go ns ms ss us is fs b (class_item {is = rest} g) = items_go ns ms ss us rest fs b g
items_go ns ms ss us is fs b (function_item {us = vs} {d = d} {is = rest} {f = f} {fs = gs} g h) =
    let first : Goes ns ss ns vs = record { names = same_names ns ns refl; sites = function_extends ns.classes ns.functions ss vs d f g } in
    then_goes first (items_go ns ms vs us rest gs b h)
items_go ns ms ss us is fs b (line_item {ks = ks} {us = vs} {s = s} {is = rest} {c = c} {b = b1} g h) =
    then_goes (line_goes ns ks ss vs s c g) (items_go ks ms vs us rest fs b1 h)
