-- What has its casts has its types.
use Rattle.std.proofs.Common.{List, [], ◌∷◌, ◌++◌, refl}
use Rattle.mono_syntax.specs.declared.cast.CastFunction.{CastFunction}
use Rattle.mono_syntax.specs.declared.cast.CastScript.{CastScript}
use Rattle.mono_syntax.specs.declared.script.Scoped.{Scoped}
use Rattle.mono_syntax.specs.declared.tree.ClassDef.{ClassDef}
use Rattle.mono_syntax.specs.declared.tree.FuncDef.{FuncDef}
use Rattle.mono_syntax.specs.declared.tree.Item.{Item}
use Rattle.mono_syntax.specs.CastExpr.{CastExpr}
use Rattle.mono_syntax.specs.CastStmt.{CastStmt, CastBlock, CastBranches, CastElse}
use Rattle.mono_syntax.specs.CastStmtView.{cast_block}
use Rattle.mono_syntax.specs.Expr.{Expr}
use Rattle.mono_syntax.specs.Stmt.{Stmt, Block, Branches, Else}
use Rattle.mono_syntax.specs.StmtView.{block}
use Rattle.mono_syntax.specs.Ty.{Ty}
use Rattle.static_types.specs.Lines as typed
use Rattle.static_types.specs.Lines.{line_parts, TypedLine, TypedGuarded, TypedBranches, TypedElse, TypedBlock}
use Rattle.static_types.specs.Names.{Names}
use Rattle.static_types.specs.Parts.{parts}
use Rattle.static_types.specs.Scripts as script
use Rattle.static_types.specs.Scripts.{TypedFunction, TypedItems, HasTypes}
use Rattle.static_types.specs.Types as types
use Rattle.static_types.specs.Types.{Types, TypeAll}
use Rattle.cast_rules.specs.declared.site.TypedSite.{TypedSite}
use Rattle.cast_rules.specs.Elaborates.{Elaborates, elaborates, ElaborateAll, of_none, of_more}
use Rattle.cast_rules.specs.ElaboratesLines.{ElaboratesLine, line, branches, loops, ElaboratesGuarded, guards, ElaborateBranches, no_branch, next_branch, ElaboratesElse, no_last, at_last, ElaboratesBlock, ends, goes_on}
use Rattle.cast_rules.specs.HasCasts.{ElaboratesFunction, ElaborateItems, no_item, class_item, function_item, line_item, HasCasts}

mutual
  pub expr_typed : (ns : Names) (ss us : List TypedSite) (e : Expr) (t : Ty) (c : CastExpr) → Elaborates ns ss e t c us → (all : List Ty) × Types ns e t all
  expr_typed ns ss us e t c (elaborates {us = vs} {ts = ts} {cs = cs} r g rule h q u n node a) =
      let parts = all_typed ns ss vs (parts ns.classes e) ts cs g in
      (parts.0 ++ t ∷ [], types.has_type r parts.1 rule h q refl)

  pub all_typed : (ns : Names) (ss us : List TypedSite) (es : List Expr) (ts : List Ty) (cs : List CastExpr) → ElaborateAll ns ss es ts cs us
      → (all : List Ty) × TypeAll ns es ts all
  all_typed ns ss us es ts cs of_none = ([], types.of_none)
  all_typed ns ss us es ts cs (of_more {us = vs} {e = e} {es = es1} {t = t} {ts = ts1} {c = c} {cs = cs1} g h) =
      let first = expr_typed ns ss vs e t c g in
      let rest = all_typed ns vs us es1 ts1 cs1 h in
      (first.0 ++ rest.0, types.of_more first.1 rest.1 refl)

mutual
  pub line_typed : (ns ms : Names) (ss us : List TypedSite) (s : Stmt) (c : CastStmt) → ElaboratesLine ns ss s c ms us → (all : List Ty) × TypedLine ns s ms all
  line_typed ns ms ss us s c (line {us = vs} {ts = ts} {cs = cs} asks g rule h u n node a) =
      let parts = all_typed ns ss vs (line_parts s) ts cs g in
      (parts.0, typed.line asks parts.1 rule h)
  line_typed ns ms ss us s c (branches {ks = ks} {us = vs} {bs = bs} {last = last} {cs = cs} {d = d} g h) =
      let first = branches_typed ns ks ss vs bs cs g in
      let second = else_typed ks ms vs us last d h in
      (first.0 ++ second.0, typed.branches first.1 second.1 refl)
  line_typed ns ms ss us s c (loops {e = e} {body = body} {c = k} {d = d} g) =
      let h = guarded_typed ns ms ss us e body k d g in
      (h.0, typed.loops h.1)

  pub guarded_typed : (ns ms : Names) (ss us : List TypedSite) (e : Expr) (body : Block) (c : CastExpr) (d : CastBlock) → ElaboratesGuarded ns ss e body c d ms us
      → (all : List Ty) × TypedGuarded ns e body ms all
  guarded_typed ns ms ss us e body c d (guards {us = vs} {vs = ws} {t = t} {c = k} g h u b) =
      let first = expr_typed ns ss vs e t k g in
      let rest = block_typed ns ms ws us body d b in
      (first.0 ++ rest.0, typed.guards first.1 h rest.1 refl)

  pub branches_typed : (ns ms : Names) (ss us : List TypedSite) (bs : Branches) (cs : CastBranches) → ElaborateBranches ns ss bs cs ms us
      → (all : List Ty) × TypedBranches ns bs ms all
  branches_typed ns ms ss us bs cs no_branch = ([], typed.no_branch)
  branches_typed ns ms ss us bs cs (next_branch {ks = ks} {us = vs} {e = e} {body = body} {bs = bs1} {c = c} {d = d} {cs = cs1} g h) =
      let first = guarded_typed ns ks ss vs e body c d g in
      let rest = branches_typed ks ms vs us bs1 cs1 h in
      (first.0 ++ rest.0, typed.next_branch first.1 rest.1 refl)

  pub else_typed : (ns ms : Names) (ss us : List TypedSite) (last : Else) (d : CastElse) → ElaboratesElse ns ss last d ms us → (all : List Ty) × TypedElse ns last ms all
  else_typed ns ms ss us last d no_last = ([], typed.no_last)
  else_typed ns ms ss us last d (at_last {body = body} {d = b} g) = let h = block_typed ns ms ss us body b g in (h.0, typed.at_last h.1)

  pub block_typed : (ns ms : Names) (ss us : List TypedSite) (body : Block) (d : CastBlock) → ElaboratesBlock ns ss body d ms us → (all : List Ty) × TypedBlock ns body ms all
  block_typed ns ms ss us body d ends = ([], typed.ends)
  block_typed ns ms ss us body d (goes_on {ks = ks} {us = vs} {s = s} {rest = rest} {c = c} {more = more} g h) =
      let first = line_typed ns ks ss vs s c g in
      let others = block_typed ks ms vs us rest more h in
      (first.0 ++ others.0, typed.goes_on first.1 others.1 refl)

pub function_typed : (cs : List ClassDef) (fs : List FuncDef) (ss us : List TypedSite) (d : FuncDef) (f : CastFunction) → ElaboratesFunction cs fs ss d f us
    → (all : List Ty) × TypedFunction cs fs d all
function_typed cs fs ss us d f h =
    let body = block_typed h.names h.behind ss h.inside (block d.body) (cast_block f.block.body) h.body in
    (body.0, record { names = h.names; behind = h.behind; result = h.result; scope = h.scope; body = body.1; end = h.end })

pub items_typed : (ns ms : Names) (ss us : List TypedSite) (is : List Item) (fs : List CastFunction) (b : CastBlock) → ElaborateItems ns ss is fs b ms us
    → (all : List Ty) × TypedItems ns is ms all
items_typed ns ms ss us is fs b no_item = ([], script.no_item)
items_typed ns ms ss us is fs b (class_item {is = rest} g) = let h = items_typed ns ms ss us rest fs b g in (h.0, script.class_item h.1)
items_typed ns ms ss us is fs b (function_item {us = vs} {d = d} {is = rest} {f = f} {fs = gs} g h) =
    let first = function_typed ns.classes ns.functions ss vs d f g in
    let others = items_typed ns ms vs us rest gs b h in
    (first.0 ++ others.0, script.function_item first.1 others.1 refl)
items_typed ns ms ss us is fs b (line_item {ks = ks} {us = vs} {s = s} {is = rest} {c = c} {b = b1} g h) =
    let first = line_typed ns ks ss vs s c g in
    let others = items_typed ks ms vs us rest fs b1 h in
    (first.0 ++ others.0, script.line_item first.1 others.1 refl)

pub script_typed : (d : Scoped) (p : CastScript) → HasCasts d p → (ts : List Ty) × HasTypes d.script ts
script_typed d p h =
    let items = items_typed h.names h.behind [] h.all d.script.items p.functions (cast_block p.main.body) h.items in
    (items.0, record { names = h.names; behind = h.behind; scope = h.scope; items = items.1 })
