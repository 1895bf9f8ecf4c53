-- The types of expressions and of all sites in a script's statements are there.
use Rattle.std.proofs.Common.{List, ◌++◌, sym, subst}
use Rattle.mono_syntax.specs.declared.tree.Script.{Script}
use Rattle.mono_syntax.specs.CastExpr.{CastExpr}
use Rattle.mono_syntax.specs.CastStmt.{CastStmt, CastBlock, CastBranches, CastElse}
use Rattle.mono_syntax.specs.Expr.{Expr}
use Rattle.mono_syntax.specs.Stmt.{Stmt, Block, Branches, Else}
use Rattle.mono_syntax.specs.Ty.{Ty, bool}
use Rattle.script_rules.specs.SourceParts.{expr_parts, stmt_parts, block_parts, branch_parts, else_parts}
use Rattle.script_rules.specs.SourcePlaces.{place_of}
use Rattle.static_types.specs.Lines.{line_parts}
use Rattle.static_types.specs.Names.{Names}
use Rattle.static_types.specs.Parts.{parts}
use Rattle.cast_rules.specs.declared.site.TypedSite.{TypedSite}
use Rattle.cast_rules.specs.Elaborates.{uses_of, Elaborates, elaborates, ElaborateAll, of_none, of_more}
use Rattle.cast_rules.specs.ElaboratesLines.{ElaboratesLine, line, branches, loops, ElaboratesGuarded, guards}
use Rattle.cast_rules.specs.ElaboratesLines.{ElaborateBranches, no_branch, next_branch, ElaboratesElse, no_last, at_last}
use Rattle.cast_rules.specs.ElaboratesLines.{ElaboratesBlock, ends, goes_on}
use Rattle.cast_rules.specs.OwnSites.{own_sites, line_sites}
use Rattle.cast_rules.specs.Sites.{standing}
use Rattle.cast_rules.proofs.RightTypes.{Stand, stand_left, stand_right}
use Rattle.cast_rules.proofs.PartsStand.{AllStand, parts_stand, line_stands}
use Rattle.program_types.proofs.HasWritten.{HasWritten, HasAll}
use Rattle.program_types.proofs.RulesStand.{HasScope, rule_has, line_has}
use Rattle.program_types.proofs.SitesStand.{HasSites, sites_append, use_has, uses_have, uses_of_have, own_has, line_own}

module _ (s : Script) (Has : Ty → Type 0) (has : HasWritten s Has) where
  mutual
    expr_has : (ns : Names) (ss us : List TypedSite) (e : Expr) (t : Ty) (c : CastExpr) → Elaborates ns ss e t c us → HasScope s Has ns
        → Stand s (expr_parts e) → HasSites Has ss → Has t × HasSites Has us
    expr_has ns ss us e t c (elaborates {us = vs} {vs = ws} {ts = ts} {cs = cs} {ds = ds} r g rule h q u n node a) names st sites =
        let inside = all_have ns ss vs (parts ns.classes e) ts cs g names (parts_stand s ns.classes e st) sites in
        let types = rule_has s Has has ns e ts r names st inside.0 rule in
        let type : Has t = subst Has (sym q) types.1 in
        let asked = uses_of_have Has e ts r.asks inside.0 types.0 in
        let used = uses_have Has vs ws (parts ns.classes e) ts (uses_of e ts r.asks) cs ds u inside.0 asked inside.1 in
        let own = own_has s Has has ns e ts r.asks t inside.0 types.0 type in
        (type, subst (HasSites Has) (sym a) (sites_append Has ws (standing (own_sites ns e ts r.asks t)) used own))

    all_have : (ns : Names) (ss us : List TypedSite) (es : List Expr) (ts : List Ty) (cs : List CastExpr) → ElaborateAll ns ss es ts cs us
        → HasScope s Has ns → AllStand s es → HasSites Has ss → HasAll Has ts × HasSites Has us
    all_have ns ss us es ts cs of_none names st sites = (tt, sites)
    all_have ns ss us es ts cs (of_more {us = vs} {e = e} {es = es1} {t = t} {ts = ts1} {c = c} {cs = cs1} g h) names st sites =
        let first = expr_has ns ss vs e t c g names st.0 sites in
        let rest = all_have ns vs us es1 ts1 cs1 h names st.1 first.1 in
        ((first.0, rest.0), rest.1)

  -- what a statement leaves behind it
  abbrev pub Leaves : Names → List TypedSite → Type 0
  Leaves ms us = HasScope s Has ms × HasSites Has us

  mutual
    pub line_leaves : (ns ms : Names) (ss us : List TypedSite) (l : Stmt) (c : CastStmt) → ElaboratesLine ns ss l c ms us
        → HasScope s Has ns → Stand s (stmt_parts l) → HasSites Has ss → Leaves ms us
    line_leaves ns ms ss us l c (line {us = vs} {vs = ws} {ts = ts} {cs = cs} {ds = ds} asks g rule h u n node a) names st sites =
        let inside = all_have ns ss vs (line_parts l) ts cs g names (line_stands s l st) sites in
        let types = line_has s Has has ns ms l ts asks names inside.0 rule in
        let used = uses_have Has vs ws (line_parts l) ts asks cs ds u inside.0 types.0 inside.1 in
        let own = line_own s Has has l ts asks inside.0 types.0 in
        (types.1, subst (HasSites Has) (sym a) (sites_append Has ws (standing (line_sites l ts asks)) used own))
    line_leaves ns ms ss us l c (branches {ks = ks} {us = vs} {bs = bs} {last = last} {cs = cs} {d = d} g h) names st sites =
        let first = branches_leave ns ks ss vs bs cs g names (stand_left s (branch_parts bs) (else_parts last) st) sites in
        else_leaves ks ms vs us last d h first.0 (stand_right s (branch_parts bs) (else_parts last) st) first.1
    line_leaves ns ms ss us l c (loops {e = e} {body = body} {c = k} {d = d} g) names st sites =
        guarded_leaves ns ms ss us e body k d g names st sites

    guarded_leaves : (ns ms : Names) (ss us : List TypedSite) (e : Expr) (body : Block) (c : CastExpr) (d : CastBlock)
        → ElaboratesGuarded ns ss e body c d ms us → HasScope s Has ns → Stand s (expr_parts e ++ block_parts body)
        → HasSites Has ss → Leaves ms us
    guarded_leaves ns ms ss us e body c d (guards {us = vs} {vs = ws} {t = t} {c = k} g h u b) names st sites =
        let first = expr_has ns ss vs e t k g names (stand_left s (expr_parts e) (block_parts body) st) sites in
        let used = use_has Has vs ws (place_of e) t bool k c u first.0 has.of_bool first.1 in
        block_leaves ns ms ws us body d b names (stand_right s (expr_parts e) (block_parts body) st) used

    branches_leave : (ns ms : Names) (ss us : List TypedSite) (bs : Branches) (cs : CastBranches) → ElaborateBranches ns ss bs cs ms us
        → HasScope s Has ns → Stand s (branch_parts bs) → HasSites Has ss → Leaves ms us
    branches_leave ns ms ss us bs cs no_branch names st sites = (names, sites)
    branches_leave ns ms ss us bs cs
        (next_branch {ks = ks} {us = vs} {e = e} {body = body} {bs = bs1} {c = c} {d = d} {cs = cs1} g h) names st sites =
        let front = expr_parts e ++ block_parts body in
        let first = guarded_leaves ns ks ss vs e body c d g names (stand_left s front (branch_parts bs1) st) sites in
        branches_leave ks ms vs us bs1 cs1 h first.0 (stand_right s front (branch_parts bs1) st) first.1

    else_leaves : (ns ms : Names) (ss us : List TypedSite) (last : Else) (d : CastElse) → ElaboratesElse ns ss last d ms us
        → HasScope s Has ns → Stand s (else_parts last) → HasSites Has ss → Leaves ms us
    else_leaves ns ms ss us last d no_last names st sites = (names, sites)
    else_leaves ns ms ss us last d (at_last {body = body} {d = b} g) names st sites = block_leaves ns ms ss us body b g names st sites

    pub block_leaves : (ns ms : Names) (ss us : List TypedSite) (body : Block) (d : CastBlock) → ElaboratesBlock ns ss body d ms us
        → HasScope s Has ns → Stand s (block_parts body) → HasSites Has ss → Leaves ms us
    block_leaves ns ms ss us body d ends names st sites = (names, sites)
    block_leaves ns ms ss us body d (goes_on {ks = ks} {us = vs} {s = l} {rest = rest} {c = c} {more = more} g h) names st sites =
        let first = line_leaves ns ks ss vs l c g names (stand_left s (stmt_parts l) (block_parts rest) st) sites in
        block_leaves ks ms vs us rest more h first.0 (stand_right s (stmt_parts l) (block_parts rest) st) first.1
