-- The sites of a right script have types of the language, and so have the names of its blocks.
use Rattle.std.proofs.Common.{inl, inr, List, [], ◌∷◌, ◌++◌, Bool, true, false, Option, Some, None, sym, ◌∙◌, subst}
use Rattle.std.specs.Prelude.{Contains}
use Rattle.mono_list.proofs.Cases.{some_is, none_some}
use Rattle.mono_syntax.specs.declared.cast.CastFunction.{CastFunction}
use Rattle.mono_syntax.specs.declared.cast.CastScript.{CastScript}
use Rattle.mono_syntax.specs.declared.cast.NamedType.{NamedType}
use Rattle.mono_syntax.specs.declared.leaf.Kind.{Kind}
use Rattle.mono_syntax.specs.declared.leaf.Kind.TheVariants as kind
use Rattle.mono_syntax.specs.declared.leaf.Place.{Place}
use Rattle.mono_syntax.specs.declared.script.Scoped.{Scoped}
use Rattle.mono_syntax.specs.declared.tree.ClassDef.{ClassDef}
use Rattle.mono_syntax.specs.declared.tree.FuncDef.{FuncDef}
use Rattle.mono_syntax.specs.declared.tree.Item.{Item}
use Rattle.mono_syntax.specs.declared.tree.Item.TheVariants as item
use Rattle.mono_syntax.specs.declared.tree.Script.{Script}
use Rattle.mono_syntax.specs.CastExpr.{CastExpr}
use Rattle.mono_syntax.specs.CastStmt.{CastStmt, CastBlock, CastBranches, CastElse}
use Rattle.mono_syntax.specs.CastStmtView.{cast_block}
use Rattle.mono_syntax.specs.Expr as expr
use Rattle.mono_syntax.specs.Expr.{Expr}
use Rattle.mono_syntax.specs.ExprView.{exprs_list}
use Rattle.mono_syntax.specs.Stmt as stmt
use Rattle.mono_syntax.specs.Stmt.{Stmt, Block, Branches, Else}
use Rattle.mono_syntax.specs.StmtView.{block}
use Rattle.mono_syntax.specs.Ty.{Ty, dyn, int, bool, str, nil, fun, obj}
use Rattle.mono_tree.specs.IsType.{IsType}
use Rattle.mono_tree.specs.Static.{is_static}
use Rattle.mono_tree.specs.TypedPrograms.{type_of_name}
use Rattle.script_rules.specs.BlockNames.{Target, firsts, all_targets}
use Rattle.script_rules.specs.ScopeFaults.{IsRight}
use Rattle.script_rules.specs.Scoping.{class_list, main_block}
use Rattle.script_rules.specs.SourceParts.{Part, any_ann, expr_parts, stmt_parts, block_parts, branch_parts, else_parts, param_parts, body_parts, item_parts, parts_of}
use Rattle.script_rules.specs.SourcePlaces.{place_of}
use Rattle.script_rules.specs.Writes.{WritesAny}
use Rattle.static_types.specs.Lines.{line_parts}
use Rattle.script_rules.specs.SourceCasts.{returned}
use Rattle.static_types.specs.Names.{Names}
use Rattle.static_types.specs.Operators.{Sort, arithmetic, comparison, equality, sort_of, is_dyn_sum}
use Rattle.static_types.specs.Parts.{class_called, parts}
use Rattle.static_types.specs.Scripts.{IsFunctionScope, IsMainScope}
use Rattle.script_rules.specs.SourceCasts.{AreNames}
use Rattle.cast_rules.specs.declared.site.TypedSite.{TypedSite}
use Rattle.cast_rules.specs.Elaborates.{Uses, as_it_is, with_cast, UsesEach, uses_none, uses_more, uses_of, Elaborates, elaborates, ElaborateAll, of_none, of_more}
use Rattle.cast_rules.specs.ElaboratesLines.{ElaboratesLine, line, branches, loops, ElaboratesGuarded, guards, ElaborateBranches, no_branch, next_branch, ElaboratesElse, no_last, at_last, ElaboratesBlock, ends, goes_on}
use Rattle.cast_rules.specs.HasCasts.{ElaboratesFunction, ElaborateItems, no_item, class_item, function_item, line_item, HasCasts}
use Rattle.cast_rules.specs.OwnSites.{name_site, operator_sites, written_site, call_sites, called_sites, own_sites, write_sites, line_sites, end_of, end_site}
use Rattle.cast_rules.specs.Sites.{site_from, site_unless, tested_sites, site_at_dyn, standing}
use Rattle.class_types.proofs.OrderLaws.{In, contains-in}
use Rattle.cast_rules.proofs.RightTypes.{Stand, stand_left, stand_right, any_type}
use Rattle.cast_rules.proofs.PartsStand.{AllStand, parts_stand, line_stands, block_part_list, main_parts, TargetsStand, names_stand}
use Rattle.cast_rules.proofs.RuleTypes.{AllTypes, NamesHaveTypes, IsNamesOfTypes, rule_types, line_types}

-- ---- sites in a row

abbrev pub IsSiteOfTypes : TypedSite → Type 0
IsSiteOfTypes f = IsType f.source × IsType f.target

abbrev pub SitesHaveTypes : List TypedSite → Type 0
SitesHaveTypes [] = Unit {0}
SitesHaveTypes (f ∷ fs) = IsSiteOfTypes f × SitesHaveTypes fs

sites_append : (xs ys : List TypedSite) → SitesHaveTypes xs → SitesHaveTypes ys → SitesHaveTypes (xs ++ ys)
sites_append [] ys h k = k
sites_append (x ∷ xs) ys h k = (h.0, sites_append xs ys h.1 k)

site_among : (fs : List TypedSite) (f : TypedSite) → SitesHaveTypes fs → In f fs → IsSiteOfTypes f
site_among [] f h i = absurd i
site_among (g ∷ fs) f h (inl e) = subst IsSiteOfTypes e h.0
site_among (g ∷ fs) f h (inr i) = site_among fs f h.1 i

-- ---- the sites of a construct's own

name_sites : (o : Option Ty) (p : Place) → SitesHaveTypes (standing (name_site o p ∷ []))
name_sites None p = tt
name_sites (Some t) p = ((tt, tt), tt)

operator_own : (o : Sort) (b : Bool) (p : Place) → SitesHaveTypes (standing (operator_sites o b p))
operator_own equality b p = tt
operator_own comparison b p = tt
operator_own arithmetic true p = ((tt, tt), ((tt, tt), tt))
operator_own arithmetic false p = ((tt, tt), tt)

at_dyn : (k : Kind) (p : Place) (ss : List Ty) (os : List (Option TypedSite)) → SitesHaveTypes (standing os) → SitesHaveTypes (standing (site_at_dyn k p ss ∷ os))
at_dyn k p [] os h = h
at_dyn k p (dyn ∷ ss) os h = ((tt, tt), h)
at_dyn k p (int ∷ ss) os h = h
at_dyn k p (bool ∷ ss) os h = h
at_dyn k p (str ∷ ss) os h = h
at_dyn k p (nil ∷ ss) os h = h
at_dyn k p (fun ps r ∷ ss) os h = h
at_dyn k p (obj fs ∷ ss) os h = h

unless : (b : Bool) (f : TypedSite) (os : List (Option TypedSite)) → IsSiteOfTypes f → SitesHaveTypes (standing os) → SitesHaveTypes (standing (site_unless b f ∷ os))
unless true f os h k = k
unless false f os h k = (h, k)

tested : (k : Kind) (es : List Expr) (ss ts : List Ty) → AllTypes ss → AllTypes ts → SitesHaveTypes (standing (tested_sites k es ss ts))
tested k [] ss ts h g = tt
tested k (e ∷ es) [] ts h g = tt
tested k (e ∷ es) (s ∷ ss) [] h g = tt
tested k (e ∷ es) (s ∷ ss) (t ∷ ts) h g = unless (is_static t) (site_from (place_of e) k s t) (tested_sites k es ss ts) (h.0, g.0) (tested k es ss ts h.1 g.1)

call_own : (p : Place) (es : List Expr) (ss ts : List Ty) → AllTypes ss → AllTypes ts → SitesHaveTypes (standing (call_sites p es ss ts))
call_own p es [] ts h g = tt
call_own p es (s ∷ ss) [] h g = tt
call_own p es (s ∷ ss) (t ∷ ts) h g = at_dyn kind.Call p (s ∷ ss) (tested_sites kind.Argument es ss ts) (tested kind.Argument es ss ts h.1 g.1)

called_own : (o : Option ClassDef) (p : Place) (es : List Expr) (ss ts : List Ty) → AllTypes ss → AllTypes ts → SitesHaveTypes (standing (called_sites o p es ss ts))
called_own None p es ss ts h g = call_own p es ss ts h g
called_own (Some d) p es ss ts h g = tt

written_own : (p : Place) (ss : List Ty) (t : Ty) → AllTypes ss → IsType t → SitesHaveTypes (standing (written_site p ss t))
written_own p [] t h g = tt
written_own p (s ∷ ss) t h g = ((h.0, g), tt)

write_own : (p : Place) (e : Expr) (ss ts : List Ty) → AllTypes ss → AllTypes ts → SitesHaveTypes (standing (write_sites p e ss ts))
write_own p e [] ts h g = tt
write_own p e (s ∷ ss) [] h g = tt
write_own p e (s ∷ ss) (t ∷ ts) h g = at_dyn kind.Member p (s ∷ ss) (tested_sites kind.Write (e ∷ []) ss ts) (tested kind.Write (e ∷ []) ss ts h.1 g.1)

own : (ns : Names) (e : Expr) (ss asks : List Ty) (t : Ty) → AllTypes ss → AllTypes asks → IsType t → SitesHaveTypes (standing (own_sites ns e ss asks t))
own ns (expr.local w) ss asks t h g k = name_sites (type_of_name ns.values w.text) w.place
own ns (expr.neg p a) ss asks t h g k = ((tt, tt), tt)
own ns (expr.binary o p a b) ss asks t h g k = operator_own (sort_of o) (is_dyn_sum o ss) p
own ns (expr.read a w) ss asks t h g k = at_dyn kind.Member w.place ss [] tt
own ns (expr.call p f es) ss asks t h g k = called_own (class_called ns.classes f) p (exprs_list es) ss asks h g
own ns (expr.cast p a e) ss asks t h g k = written_own (place_of e) ss t h k
own ns (expr.join p w) ss asks t h g k = ((tt, tt), tt)
own ns _ ss asks t h g k = tt

line_own : (l : Stmt) (ss asks : List Ty) → AllTypes ss → AllTypes asks → SitesHaveTypes (standing (line_sites l ss asks))
line_own (stmt.give p e) ss asks h g = tested kind.Return (returned p e ∷ []) ss asks h g
line_own (stmt.write o w e) ss asks h g = write_own w.place e ss asks h g
line_own (stmt.start w p f es) ss asks h g = call_own p (exprs_list es) ss asks h g
line_own _ ss asks h g = tt

end_own : (b : Bool) (p : Place) (t : Ty) → IsType t → SitesHaveTypes (standing (end_of b p t ∷ []))
end_own true p t h = unless (is_static t) (site_from p kind.Return nil t) [] (tt, h) tt
end_own false p t h = tt

-- ---- uses

use_sites : (ss us : List TypedSite) (p : Place) (t u : Ty) (c d : CastExpr) → Uses ss p t c u d us → IsType t → IsType u → SitesHaveTypes ss → SitesHaveTypes us
use_sites ss us p t u c d (as_it_is h) k g l = l
use_sites ss us p t u c d (with_cast h n e) k g l = subst SitesHaveTypes (sym e) (sites_append ss (site_from p kind.Cast t u ∷ []) l ((k, g), tt))

uses_sites : (ss us : List TypedSite) (es : List Expr) (ts asks : List Ty) (cs ds : List CastExpr) → UsesEach ss es ts cs asks ds us → AllTypes ts → AllTypes asks
    → SitesHaveTypes ss → SitesHaveTypes us
uses_sites ss us es ts asks cs ds uses_none k g l = l
uses_sites ss us es ts asks cs ds (uses_more {us = vs} {e = e} {es = es1} {s = s} {t = t} {ts = ts1} {asks = asks1} {c = c} {d = d} {cs = cs1} {ds = ds1} f h) k g l =
    uses_sites vs us es1 ts1 asks1 cs1 ds1 h k.1 g.1 (use_sites ss vs (place_of e) s t c d f k.0 g.0 l)

asked_types : (e : Expr) (ts asks : List Ty) → AllTypes ts → AllTypes asks → AllTypes (uses_of e ts asks)
asked_types (expr.cast p a e) ts asks h k = h
asked_types _ ts asks h k = k

-- ---- what stands in a right script

-- the names of a block have types
pub record IsNamedBlock (values threads : List NamedType) : Type 0 where
  pub names : NamesHaveTypes values
  pub started : NamesHaveTypes threads

abbrev pub FunctionsAreNamed : List CastFunction → Type 0
FunctionsAreNamed [] = Unit {0}
FunctionsAreNamed (f ∷ fs) = IsNamedBlock f.block.names f.block.threads × FunctionsAreNamed fs

-- what the items of a script leave behind them
pub record ItemsLeave (s : Script) (ms : Names) (us : List TypedSite) (fs : List CastFunction) : Type 0 where
  pub names : IsNamesOfTypes s ms
  pub sites : SitesHaveTypes us
  pub functions : FunctionsAreNamed fs

module _ (s : Script) (right : IsRight s) where
  mutual
    expr_sites : (ns : Names) (ss us : List TypedSite) (e : Expr) (t : Ty) (c : CastExpr) → Elaborates ns ss e t c us → IsNamesOfTypes s ns → Stand s (expr_parts e)
        → SitesHaveTypes ss → IsType t × SitesHaveTypes us
    expr_sites ns ss us e t c (elaborates {us = vs} {vs = ws} {ts = ts} {cs = cs} {ds = ds} r g rule h q u n node a) names st sites =
        let inside = all_sites ns ss vs (parts ns.classes e) ts cs g names (parts_stand s ns.classes e st) sites in
        let types = rule_types s right ns e ts r names st inside.0 rule in
        let type : IsType t = subst IsType (sym q) types.1 in
        let asked = asked_types e ts r.asks inside.0 types.0 in
        let used = uses_sites vs ws (parts ns.classes e) ts (uses_of e ts r.asks) cs ds u inside.0 asked inside.1 in
        (type, subst SitesHaveTypes (sym a) (sites_append ws (standing (own_sites ns e ts r.asks t)) used (own ns e ts r.asks t inside.0 types.0 type)))

    all_sites : (ns : Names) (ss us : List TypedSite) (es : List Expr) (ts : List Ty) (cs : List CastExpr) → ElaborateAll ns ss es ts cs us → IsNamesOfTypes s ns → AllStand s es
        → SitesHaveTypes ss → AllTypes ts × SitesHaveTypes us
    all_sites ns ss us es ts cs of_none names st sites = (tt, sites)
    all_sites ns ss us es ts cs (of_more {us = vs} {e = e} {es = es1} {t = t} {ts = ts1} {c = c} {cs = cs1} g h) names st sites =
        let first = expr_sites ns ss vs e t c g names st.0 sites in
        let rest = all_sites ns vs us es1 ts1 cs1 h names st.1 first.1 in
        ((first.0, rest.0), rest.1)

  -- what a statement leaves behind it
  abbrev pub Leaves : Names → List TypedSite → Type 0
  Leaves ms us = IsNamesOfTypes s ms × SitesHaveTypes us

  mutual
    line_leaves : (ns ms : Names) (ss us : List TypedSite) (l : Stmt) (c : CastStmt) → ElaboratesLine ns ss l c ms us → IsNamesOfTypes s ns → Stand s (stmt_parts l)
        → SitesHaveTypes ss → Leaves ms us
    line_leaves ns ms ss us l c (line {us = vs} {vs = ws} {ts = ts} {cs = cs} {ds = ds} asks g rule h u n node a) names st sites =
        let inside = all_sites ns ss vs (line_parts l) ts cs g names (line_stands s l st) sites in
        let types = line_types s right ns ms l ts asks names inside.0 rule in
        let used = uses_sites vs ws (line_parts l) ts asks cs ds u inside.0 types.0 inside.1 in
        (types.1, subst SitesHaveTypes (sym a) (sites_append ws (standing (line_sites l ts asks)) used (line_own l ts asks inside.0 types.0)))
    line_leaves ns ms ss us l c (branches {ks = ks} {us = vs} {bs = bs} {last = last} {cs = cs} {d = d} g h) names st sites =
        let first = branches_leave ns ks ss vs bs cs g names (stand_left s (branch_parts bs) (else_parts last) st) sites in
        else_leaves ks ms vs us last d h first.0 (stand_right s (branch_parts bs) (else_parts last) st) first.1
    line_leaves ns ms ss us l c (loops {e = e} {body = body} {c = k} {d = d} g) names st sites = guarded_leaves ns ms ss us e body k d g names st sites

    guarded_leaves : (ns ms : Names) (ss us : List TypedSite) (e : Expr) (body : Block) (c : CastExpr) (d : CastBlock) → ElaboratesGuarded ns ss e body c d ms us
        → IsNamesOfTypes s ns → Stand s (expr_parts e ++ block_parts body) → SitesHaveTypes ss → Leaves ms us
    guarded_leaves ns ms ss us e body c d (guards {us = vs} {vs = ws} {t = t} {c = k} g h u b) names st sites =
        let first = expr_sites ns ss vs e t k g names (stand_left s (expr_parts e) (block_parts body) st) sites in
        let used = use_sites vs ws (place_of e) t bool k c u first.0 tt first.1 in
        block_leaves ns ms ws us body d b names (stand_right s (expr_parts e) (block_parts body) st) used

    branches_leave : (ns ms : Names) (ss us : List TypedSite) (bs : Branches) (cs : CastBranches) → ElaborateBranches ns ss bs cs ms us → IsNamesOfTypes s ns
        → Stand s (branch_parts bs) → SitesHaveTypes ss → Leaves ms us
    branches_leave ns ms ss us bs cs no_branch names st sites = (names, sites)
    branches_leave ns ms ss us bs cs (next_branch {ks = ks} {us = vs} {e = e} {body = body} {bs = bs1} {c = c} {d = d} {cs = cs1} g h) names st sites =
        let front = expr_parts e ++ block_parts body in
        let first = guarded_leaves ns ks ss vs e body c d g names (stand_left s front (branch_parts bs1) st) sites in
        branches_leave ks ms vs us bs1 cs1 h first.0 (stand_right s front (branch_parts bs1) st) first.1

    else_leaves : (ns ms : Names) (ss us : List TypedSite) (last : Else) (d : CastElse) → ElaboratesElse ns ss last d ms us → IsNamesOfTypes s ns → Stand s (else_parts last)
        → SitesHaveTypes ss → Leaves ms us
    else_leaves ns ms ss us last d no_last names st sites = (names, sites)
    else_leaves ns ms ss us last d (at_last {body = body} {d = b} g) names st sites = block_leaves ns ms ss us body b g names st sites

    block_leaves : (ns ms : Names) (ss us : List TypedSite) (body : Block) (d : CastBlock) → ElaboratesBlock ns ss body d ms us → IsNamesOfTypes s ns → Stand s (block_parts body)
        → SitesHaveTypes ss → Leaves ms us
    block_leaves ns ms ss us body d ends names st sites = (names, sites)
    block_leaves ns ms ss us body d (goes_on {ks = ks} {us = vs} {s = l} {rest = rest} {c = c} {more = more} g h) names st sites =
        let first = line_leaves ns ks ss vs l c g names (stand_left s (stmt_parts l) (block_parts rest) st) sites in
        block_leaves ks ms vs us rest more h first.0 (stand_right s (stmt_parts l) (block_parts rest) st) first.1

  -- ---- what may be named at the start of a block

  named_types : (ts : List Target) (ns : List NamedType) → TargetsStand s ts → AreNames (class_list s) ts ns → NamesHaveTypes ns
  named_types [] [] st h = tt
  named_types (t ∷ ts) (n ∷ ns) st h = (any_type s right t.ann n.ty st.0 h.1, named_types ts ns st.1 h.2)
  named_types [] (n ∷ ns) st h = absurd h
  named_types (t ∷ ts) [] st h = absurd h

  pub main_names : (ns : Names) → IsMainScope s ns → IsNamesOfTypes s ns
  main_names ns h =
      let stand = names_stand s [] (main_block s) (λ x i. absurd i) (λ x i. main_parts s.items x i) in
      record {
        classes = h.classes;
        functions = h.functions;
        values = named_types (firsts (all_targets [] (main_block s))) ns.values stand h.values;
        threads = subst NamesHaveTypes (sym h.threads) tt;
        result = λ t e. none_some (IsType t) (sym h.result ∙ e);
      }

  function_names : (ns ms : Names) (d : FuncDef) (t : Ty) → IsNamesOfTypes s ns → Stand s (item_parts (item.Def d)) → IsFunctionScope ns.classes ns.functions d t ms
      → IsNamesOfTypes s ms × IsType t
  function_names ns ms d t names st h =
      let front = param_parts d.params ++ any_ann d.result in
      let head = stand_left s front (body_parts d.body) st in
      let stand = names_stand s d.params d.body (stand_left s (param_parts d.params) (any_ann d.result) head) (stand_right s front (body_parts d.body) st) in
      let values = subst (λ (cs : List ClassDef). AreNames cs (firsts (all_targets d.params d.body)) ms.values) names.classes h.values in
      let type = any_type s right d.result t (stand_right s (param_parts d.params) (any_ann d.result) head) (subst (λ (cs : List ClassDef). WritesAny cs d.result t) names.classes h.declared) in (
        record {
          classes = h.classes ∙ names.classes;
          functions = h.functions ∙ names.functions;
          values = named_types (firsts (all_targets d.params d.body)) ms.values stand values;
          threads = subst NamesHaveTypes (sym h.threads) tt;
          result = λ u e. subst IsType (some_is (sym h.result ∙ e)) type;
        },
        type,
      )

  -- ---- a script

  function_leaves : (ns : Names) (ss us : List TypedSite) (d : FuncDef) (f : CastFunction) → ElaboratesFunction ns.classes ns.functions ss d f us → IsNamesOfTypes s ns
      → Stand s (item_parts (item.Def d)) → SitesHaveTypes ss → IsNamedBlock f.block.names f.block.threads × SitesHaveTypes us
  function_leaves ns ss us d f h names st sites =
      let start = function_names ns h.names d h.result names st h.scope in
      let front = param_parts d.params ++ any_ann d.result in
      let body : Stand s (block_parts (block d.body)) = subst (λ (l : List Part). Stand s l) (sym (block_part_list d.body)) (stand_right s front (body_parts d.body) st) in
      let rest = block_leaves h.names h.behind ss h.inside (block d.body) (cast_block f.block.body) h.body start.0 body sites in (
        record { names = subst NamesHaveTypes (sym h.values) (start.0).values; started = subst NamesHaveTypes (sym h.threads) (rest.0).threads },
        subst SitesHaveTypes (sym h.sites) (sites_append h.inside (standing (end_site d h.result ∷ [])) rest.1 (end_own _ d.name.place h.result start.1)),
      )

  items_leave : (ns ms : Names) (ss us : List TypedSite) (is : List Item) (fs : List CastFunction) (b : CastBlock) → ElaborateItems ns ss is fs b ms us → IsNamesOfTypes s ns
      → Stand s (parts_of is) → SitesHaveTypes ss → ItemsLeave s ms us fs
  items_leave ns ms ss us is fs b no_item names st sites = record { names = names; sites = sites; functions = tt }
  items_leave ns ms ss us is fs b (class_item {d = d} {is = rest} g) names st sites =
      items_leave ns ms ss us rest fs b g names (stand_right s (item_parts (item.Class d)) (parts_of rest) st) sites
  items_leave ns ms ss us is fs b (function_item {us = vs} {d = d} {is = rest} {f = f} {fs = gs} g h) names st sites =
      let first = function_leaves ns ss vs d f g names (stand_left s (item_parts (item.Def d)) (parts_of rest) st) sites in
      let others = items_leave ns ms vs us rest gs b h names (stand_right s (item_parts (item.Def d)) (parts_of rest) st) first.1 in
      record { names = others.names; sites = others.sites; functions = (first.0, others.functions) }
  items_leave ns ms ss us is fs b (line_item {ks = ks} {us = vs} {s = l} {is = rest} {c = c} {b = b1} g h) names st sites =
      let first = line_leaves ns ks ss vs l c g names (stand_left s (stmt_parts l) (parts_of rest) st) sites in
      items_leave ks ms vs us rest fs b1 h first.0 (stand_right s (stmt_parts l) (parts_of rest) st) first.1

pub script_leaves : (d : Scoped) (p : CastScript) → IsRight d.script → (h : HasCasts d p) → ItemsLeave d.script h.behind h.all p.functions
script_leaves d p right h =
    items_leave d.script right h.names h.behind [] h.all d.script.items p.functions (cast_block p.main.body) h.items (main_names d.script right h.names h.scope) (λ x i. i) tt

-- each type in the list of types is one
pub script_types : (d : Scoped) (p : CastScript) → IsRight d.script → HasCasts d p → (t : Ty) → Contains p.types t → IsType t
script_types d p right h t c =
    let o = h.used t c in
    let sites = (script_leaves d p right h).sites in
    let types = site_among h.all o.site sites (contains-in o.site h.all o.among) in
    elim o.is [ inl e ↦ subst IsType (sym e) types.0 | inr e ↦ subst IsType (sym e) types.1 ]
