-- A script with its casts is its source with casts added.
use Rattle.std.proofs.Common.{inl, ℕ, List, [], ◌∷◌, ◌++◌, Bool, true, false, map, Option, Some, None, refl, sym, ◌∙◌, ap, subst}
use Rattle.mono_syntax.specs.declared.cast.CastFunction.{CastFunction}
use Rattle.mono_syntax.specs.declared.cast.CastScript.{CastScript}
use Rattle.mono_syntax.specs.declared.cast.NamedType.{NamedType}
use Rattle.mono_syntax.specs.declared.leaf.Kind.{Kind}
use Rattle.mono_syntax.specs.declared.leaf.Kind.TheVariants as kind
use Rattle.mono_syntax.specs.declared.leaf.Place.{Place}
use Rattle.mono_syntax.specs.declared.leaf.Word.{Word}
use Rattle.mono_syntax.specs.declared.script.Scoped.{Scoped}
use Rattle.mono_syntax.specs.declared.tree.ClassDef.{ClassDef}
use Rattle.mono_syntax.specs.declared.tree.FuncDef.{FuncDef}
use Rattle.mono_syntax.specs.declared.tree.Item.{Item}
use Rattle.mono_syntax.specs.declared.tree.Item.TheVariants as item
use Rattle.mono_syntax.specs.declared.tree.Script.{Script}
use Rattle.mono_syntax.specs.CastExpr.{CastExpr, CastExprs, Args}
use Rattle.mono_syntax.specs.CastStmt as cast_stmt
use Rattle.mono_syntax.specs.CastStmt.{CastStmt, CastBlock, CastBranches, CastElse}
use Rattle.mono_syntax.specs.CastStmtView.{cast_block}
use Rattle.mono_syntax.specs.Expr.{Expr}
use Rattle.mono_syntax.specs.Stmt as stmt
use Rattle.mono_syntax.specs.Stmt.{Stmt, Block, Branches, Else}
use Rattle.mono_syntax.specs.StmtView.{block}
use Rattle.mono_syntax.specs.Ty.{Ty, bool, nil}
use Rattle.script_rules.specs.BlockNames.{Target, firsts, all_targets}
use Rattle.script_rules.specs.Definitions.{functions_of, statements_of}
use Rattle.script_rules.specs.ScopeFaults.{IsRight}
use Rattle.script_rules.specs.Scoping.{class_list, main_block}
use Rattle.script_rules.specs.SourceCasts as source
use Rattle.script_rules.specs.SourceCasts.{IsAnySiteAt, Becomes, BecomesStatement, BecomesBlock, BecomeBranches, BecomesElse, BecomesFunction, BecomeFunctions, IsWithCasts}
use Rattle.script_rules.specs.SourceParts.{Part, argument_list, any_ann, expr_parts, stmt_parts, block_parts, branch_parts, else_parts, param_parts, body_parts, item_parts, parts_of}
use Rattle.script_rules.specs.SourcePlaces.{place_of}
use Rattle.script_rules.specs.Writes.{IsFunctionType}
use Rattle.static_types.specs.BodyEnds.{may_end}
use Rattle.static_types.specs.Lines.{line_parts}
use Rattle.script_rules.specs.SourceCasts.{returned}
use Rattle.static_types.specs.Names.{Names}
use Rattle.script_rules.specs.SourceCasts.{AreNames}
use Rattle.cast_rules.specs.declared.site.TypedSite.{TypedSite}
use Rattle.cast_rules.specs.ElaboratesLines.{ElaboratesLine, line, branches, loops, ElaboratesGuarded, guards, ElaborateBranches, no_branch, next_branch, ElaboratesElse, no_last, at_last, ElaboratesBlock, ends, goes_on}
use Rattle.cast_rules.specs.HasCasts.{ElaboratesFunction, ElaborateItems, no_item, class_item, function_item, line_item, HasCasts}
use Rattle.cast_rules.specs.Nodes as node
use Rattle.cast_rules.specs.Nodes.{arguments, IsLineNode}
use Rattle.cast_rules.specs.OwnSites.{write_sites, line_sites, end_of, end_site}
use Rattle.cast_rules.specs.Sites.{site_at_dyn, tested_site, tested_sites, standing, AreSites}
use Rattle.cast_rules.proofs.BecomeExprs.{IsAt, dyn_at, tested_at, IsOfScript, any_site, use_becomes, uses_become, EachBecomes, few_arguments, all_become, is_called, single, expr_built, all_built}
use Rattle.cast_rules.proofs.Extending.{Extends, itself, further, adds, use_extends, uses_extend, Grows, line_goes, guarded_goes, branches_go, else_goes, block_goes, items_go}
use Rattle.cast_rules.proofs.PartsStand.{line_stands, block_part_list}
use Rattle.cast_rules.proofs.RightTypes.{Stand, stand_left, stand_right}
use Rattle.cast_rules.proofs.SiteNumbers.{AreNumbers, are_numbers}
use Rattle.cast_rules.proofs.Starts.{body_starts, main_starts}

end_at : (b : Bool) (q : Place) (t : Ty) → IsAt q kind.Return (end_of b q t)
end_at true q t = tested_at kind.Return q nil t
end_at false q t = tt

of_script_still : (s : Script) (ns ms : Names) → Grows ns ms → IsOfScript s ns → IsOfScript s ms
of_script_still s ns ms g h = record { classes = g.classes ∙ h.classes; functions = g.functions ∙ h.functions }

-- the names of targets are the same in both words for them
pub same_names : (cs : List ClassDef) (ts : List Target) (ns : List NamedType) → AreNames cs ts ns → source.AreNames cs ts ns
same_names cs [] [] h = tt
same_names cs (t ∷ ts) (n ∷ ns) h = (h.0, h.1, same_names cs ts ns h.2)
same_names cs [] (n ∷ ns) h = absurd h
same_names cs (t ∷ ts) [] h = absurd h

module _ (s : Script) (right : IsRight s) (p : CastScript) (all : List TypedSite) (sites : AreSites p.types all p.sites) where
  give_becomes : (q : Place) (e : Option Expr) (c : CastExpr) (k : Option ℕ) → Becomes s p (returned q e) c → IsAnySiteAt p k (place_of (returned q e)) kind.Return
      → BecomesStatement s p (stmt.give q e) (cast_stmt.give k c)
  give_becomes q None c k h i = source.returns h i
  give_becomes q (Some e) c k h i = source.returns h i

  -- one part, which is tested where it goes
  one_tested : (x : Kind) (e : Expr) (us ts : List Ty) (c : CastExpr) (k : Option ℕ) → EachBecomes s right p all sites (e ∷ []) us ts (c ∷ [])
      → AreNumbers all (k ∷ []) (tested_sites x (e ∷ []) us ts) → Becomes s p e c × IsAnySiteAt p k (place_of e) x
  one_tested x e (u ∷ us) (t ∷ ts) c k h n =
      ((h.0).0, any_site s right p all sites k (tested_site x (place_of e) u t) (place_of e) x n.0 (tested_at x (place_of e) u t))
  one_tested x e [] ts c k h n = absurd h
  one_tested x e (u ∷ us) [] c k h n = absurd h

  write_becomes : (o e : Expr) (w : Word) (us : List Ty) (v t : Ty) (c d : CastExpr) (m k : Option ℕ) → EachBecomes s right p all sites (o ∷ e ∷ []) us (v ∷ t ∷ []) (c ∷ d ∷ [])
      → AreNumbers all (m ∷ k ∷ []) (write_sites w.place e us (v ∷ t ∷ [])) → BecomesStatement s p (stmt.write o w e) (cast_stmt.write m k t c w.text d)
  write_becomes o e w (x ∷ us) v t c d m k h n =
      let value = one_tested kind.Write e us (t ∷ []) d k h.1 n.1 in
      let member = any_site s right p all sites m (site_at_dyn kind.Member w.place (x ∷ us)) w.place kind.Member n.0 (dyn_at kind.Member w.place (x ∷ us)) in
      source.writes (h.0).0 value.0 member value.1
  write_becomes o e w [] v t c d m k h n = absurd h

  line_node : (l : Stmt) (ts asks : List Ty) (ds : List CastExpr) (ks : List (Option ℕ)) (c : CastStmt) → IsLineNode l asks ds ks c → AreNumbers all ks (line_sites l ts asks)
      → EachBecomes s right p all sites (line_parts l) ts asks ds → Stand s (stmt_parts l) → BecomesStatement s p l c
  line_node l ts asks ds ks c node.pass n h st = source.passes
  line_node l ts asks ds ks c (node.give {p = q} {e = e} {c = c1} {k = k}) n h st = let x = one_tested kind.Return (returned q e) ts asks c1 k h n in give_becomes q e c1 k x.0 x.1
  line_node l ts asks ds ks c (node.print {p = q} {es = es} z) n h st =
      subst (λ (x : CastExprs). BecomesStatement s p (stmt.print q es) (cast_stmt.print x)) (sym z)
      (source.prints (few_arguments s right p all sites q es (st (argument_list q es) (inl refl))) (all_become s right p all sites es ts asks ds h))
  line_node l ts asks ds ks c (node.assign {e = e} {c = c1}) n h st = source.assigns (single s right p all sites e ts asks c1 h)
  line_node l ts asks ds ks c (node.write {o = o} {e = e} {w = w} {s = v} {t = t} {c = c1} {d = d1} {m = m} {k = k}) n h st = write_becomes o e w ts v t c1 d1 m k h n
  line_node l ts asks ds ks c (node.start {w = w} {p = q} {f = f} {es = es} {c = c1} {cs = cs} {k = k} {ks = ks1} z) n h st =
      let r = is_called s right p all sites q f es ts asks c1 cs k ks1 h n in
      subst (λ (x : Args). BecomesStatement s p (stmt.start w q f es) (cast_stmt.start w.text k c1 x)) (sym z)
      (source.starts r.callee (few_arguments s right p all sites q es (st (argument_list q es) (inl refl))) r.arguments r.site)
  line_node l ts asks ds ks c (node.plain {e = e} {c = c1}) n h st = source.stands_alone (single s right p all sites e ts asks c1 h)

  mutual
    line_becomes : (ns ms : Names) (ss us : List TypedSite) (l : Stmt) (c : CastStmt) → ElaboratesLine ns ss l c ms us → IsOfScript s ns → Stand s (stmt_parts l)
        → Extends us all → BecomesStatement s p l c
    line_becomes ns ms ss us l c (line {us = vs} {vs = ws} {ts = ts} {cs = cs} {ds = ds} {ks = ks} asks g rule h u n node a) names st f =
        let own = line_sites l ts asks in
        let here : Extends (ws ++ standing own) all = subst (λ (xs : List TypedSite). Extends xs all) a f in
        let front : Extends ws all = further (adds (standing own) refl) here in
        let inside = all_built s right p all sites ns names ss vs (line_parts l) ts cs g (line_stands s l st) (further (uses_extend vs ws (line_parts l) ts asks cs ds u) front) in
        let used = uses_become s right p all sites vs ws (line_parts l) ts asks cs ds u front inside.0 inside.1 in
        let numbers : AreNumbers all ks own = subst (λ (x : List (Option ℕ)). AreNumbers all x own) (sym n) (are_numbers ws own all here) in
        line_node l ts asks ds ks c node numbers used.0 st
    line_becomes ns ms ss us l c (branches {ks = ks} {us = vs} {bs = bs} {last = last} {cs = cs} {d = d} g h) names st f =
        let behind = (else_goes ks ms vs us last d h).sites in
        let grown = of_script_still s ns ks (branches_go ns ks ss vs bs cs g).names names in
        source.branches (branches_become ns ks ss vs bs cs g names (stand_left s (branch_parts bs) (else_parts last) st) (further behind f))
        (else_becomes ks ms vs us last d h grown (stand_right s (branch_parts bs) (else_parts last) st) f)
    line_becomes ns ms ss us l c (loops {e = e} {body = body} {c = k} {d = d} g) names st f =
        let x = guarded_becomes ns ms ss us e body k d g names st f in source.loops x.0 x.1

    guarded_becomes : (ns ms : Names) (ss us : List TypedSite) (e : Expr) (body : Block) (c : CastExpr) (d : CastBlock) → ElaboratesGuarded ns ss e body c d ms us
        → IsOfScript s ns → Stand s (expr_parts e ++ block_parts body) → Extends us all → Becomes s p e c × BecomesBlock s p body d
    guarded_becomes ns ms ss us e body c d (guards {us = vs} {vs = ws} {t = t} {c = k} g h u b) names st f =
        let front = further (block_goes ns ms ws us body d b).sites f in
        let inside = expr_built s right p all sites ns names ss vs e t k g (stand_left s (expr_parts e) (block_parts body) st) (further (use_extends vs ws (place_of e) t bool k c u) front) in
        let used = use_becomes s right p all sites vs ws e t bool k c u front inside.0 inside.1 in
        ((used.0).0, block_becomes ns ms ws us body d b names (stand_right s (expr_parts e) (block_parts body) st) f)

    branches_become : (ns ms : Names) (ss us : List TypedSite) (bs : Branches) (cs : CastBranches) → ElaborateBranches ns ss bs cs ms us → IsOfScript s ns
        → Stand s (branch_parts bs) → Extends us all → BecomeBranches s p bs cs
    branches_become ns ms ss us bs cs no_branch names st f = source.no_branch
    branches_become ns ms ss us bs cs (next_branch {ks = ks} {us = vs} {e = e} {body = body} {bs = bs1} {c = c} {d = d} {cs = cs1} g h) names st f =
        let front = expr_parts e ++ block_parts body in
        let behind = (branches_go ks ms vs us bs1 cs1 h).sites in
        let grown = of_script_still s ns ks (guarded_goes ns ks ss vs e body c d g).names names in
        let first = guarded_becomes ns ks ss vs e body c d g names (stand_left s front (branch_parts bs1) st) (further behind f) in
        source.next_branch first.0 first.1 (branches_become ks ms vs us bs1 cs1 h grown (stand_right s front (branch_parts bs1) st) f)

    else_becomes : (ns ms : Names) (ss us : List TypedSite) (last : Else) (d : CastElse) → ElaboratesElse ns ss last d ms us → IsOfScript s ns → Stand s (else_parts last)
        → Extends us all → BecomesElse s p last d
    else_becomes ns ms ss us last d no_last names st f = source.no_last
    else_becomes ns ms ss us last d (at_last {body = body} {d = b} g) names st f = source.at_last (block_becomes ns ms ss us body b g names st f)

    block_becomes : (ns ms : Names) (ss us : List TypedSite) (body : Block) (d : CastBlock) → ElaboratesBlock ns ss body d ms us → IsOfScript s ns → Stand s (block_parts body)
        → Extends us all → BecomesBlock s p body d
    block_becomes ns ms ss us body d ends names st f = source.ends
    block_becomes ns ms ss us body d (goes_on {ks = ks} {us = vs} {s = l} {rest = rest} {c = c} {more = more} g h) names st f =
        let behind = (block_goes ks ms vs us rest more h).sites in
        let grown = of_script_still s ns ks (line_goes ns ks ss vs l c g).names names in
        source.goes_on (line_becomes ns ks ss vs l c g names (stand_left s (stmt_parts l) (block_parts rest) st) (further behind f))
        (block_becomes ks ms vs us rest more h grown (stand_right s (stmt_parts l) (block_parts rest) st) f)

  -- ---- items

  function_becomes : (ns : Names) (ss us : List TypedSite) (d : FuncDef) (g : CastFunction) → ElaboratesFunction ns.classes ns.functions ss d g us → IsOfScript s ns
      → Stand s (item_parts (item.Def d)) → Extends us all → BecomesFunction s p d g
  function_becomes ns ss us d g h names st f =
      let own = end_site d h.result ∷ [] in
      let here : Extends (h.inside ++ standing own) all = subst (λ (xs : List TypedSite). Extends xs all) h.sites f in
      let front : Extends h.inside all = further (adds (standing own) refl) here in
      let front_parts = param_parts d.params ++ any_ann d.result in
      let body : Stand s (block_parts (block d.body)) = subst (λ (l : List Part). Stand s l) (sym (block_part_list d.body)) (stand_right s front_parts (body_parts d.body) st) in
      let inner : IsOfScript s h.names = record { classes = (h.scope).classes ∙ names.classes; functions = (h.scope).functions ∙ names.functions } in
      let numbers : AreNumbers all (g.falls ∷ []) own = subst (λ (l : List (Option ℕ)). AreNumbers all l own) (sym h.falls) (are_numbers h.inside own all here) in
      let targets = firsts (all_targets d.params d.body) in
      let values : AreNames (class_list s) targets g.block.names = subst (λ (l : List NamedType). AreNames (class_list s) targets l) (sym h.values)
      (subst (λ (cs : List ClassDef). AreNames cs targets (h.names).values) names.classes (h.scope).values) in
      let started = body_starts h.names h.behind ss h.inside d.body (cast_block g.block.body) (h.scope).threads h.body in
      record {
        params = h.params;
        type = subst (λ (cs : List ClassDef). IsFunctionType cs d g.ty) names.classes h.type;
        body = record {
          names = same_names (class_list s) targets g.block.names values;
          threads = ap (λ (l : List NamedType). map (λ n. n.name) l) h.threads ∙ started;
          body = block_becomes h.names h.behind ss h.inside (block d.body) (cast_block g.block.body) h.body inner body front;
        };
        end = any_site s right p all sites g.falls (end_site d h.result) d.name.place kind.Return numbers.0 (end_at (may_end (block d.body)) d.name.place h.result);
      }

  -- the functions of items, and the statements of the main block
  abbrev pub ItemsBecome : List Item → List CastFunction → CastBlock → Type 0
  ItemsBecome is fs b = BecomeFunctions s p (functions_of is) fs × BecomesBlock s p (block (statements_of is)) b

  items_become : (ns ms : Names) (ss us : List TypedSite) (is : List Item) (fs : List CastFunction) (b : CastBlock) → ElaborateItems ns ss is fs b ms us → IsOfScript s ns
      → Stand s (parts_of is) → Extends us all → ItemsBecome is fs b
  items_become ns ms ss us is fs b no_item names st f = (tt, source.ends)
  items_become ns ms ss us is fs b (class_item {d = d} {is = rest} g) names st f =
      items_become ns ms ss us rest fs b g names (stand_right s (item_parts (item.Class d)) (parts_of rest) st) f
  items_become ns ms ss us is fs b (function_item {us = vs} {d = d} {is = rest} {f = x} {fs = gs} g h) names st f =
      let behind = (items_go ns ms vs us rest gs b h).sites in
      let first = function_becomes ns ss vs d x g names (stand_left s (item_parts (item.Def d)) (parts_of rest) st) (further behind f) in
      let others = items_become ns ms vs us rest gs b h names (stand_right s (item_parts (item.Def d)) (parts_of rest) st) f in
      ((first, others.0), others.1)
  items_become ns ms ss us is fs b (line_item {ks = ks} {us = vs} {s = l} {is = rest} {c = c} {b = b1} g h) names st f =
      let behind = (items_go ks ms vs us rest fs b1 h).sites in
      let grown = of_script_still s ns ks (line_goes ns ks ss vs l c g).names names in
      let first = line_becomes ns ks ss vs l c g names (stand_left s (stmt_parts l) (parts_of rest) st) (further behind f) in
      let others = items_become ks ms vs us rest fs b1 h grown (stand_right s (stmt_parts l) (parts_of rest) st) f in
      (others.0, source.goes_on first others.1)

pub with_casts : (d : Scoped) (p : CastScript) → IsRight d.script → HasCasts d p → IsWithCasts d.script p
with_casts d p right h =
    let s = d.script in
    let scope = h.scope in
    let items = items_become s right p h.all h.sites h.names h.behind [] h.all s.items p.functions (cast_block p.main.body) h.items
    (record { classes = scope.classes; functions = scope.functions }) (λ x i. i) (itself h.all) in
    let targets = firsts (all_targets [] (main_block s)) in
    let values : AreNames (class_list s) targets p.main.names = subst (λ (l : List NamedType). AreNames (class_list s) targets l) (sym h.values) scope.values in
    let started = main_starts h.names h.behind [] h.all s.items p.functions (cast_block p.main.body) scope.threads h.items in
    record {
      classes = h.classes;
      functions = items.0;
      main = record {
        names = same_names (class_list s) targets p.main.names values;
        threads = ap (λ (l : List NamedType). map (λ n. n.name) l) h.threads ∙ started;
        body = items.1;
      };
    }
