-- A statement has its casts and sites in one way.
use Rattle.std.proofs.Common.{◌≡◌, ℕ, List, ◌++◌, length, Option, refl, sym, ◌∙◌, subst}
use Rattle.mono_list.proofs.Cases.{some_is}
use Rattle.mono_syntax.specs.CastExpr.{CastExpr}
use Rattle.mono_syntax.specs.CastStmt as cast_stmt
use Rattle.mono_syntax.specs.CastStmt.{CastStmt, CastBlock, CastBranches, CastElse}
use Rattle.mono_syntax.specs.Expr.{Expr}
use Rattle.mono_syntax.specs.Stmt as stmt
use Rattle.mono_syntax.specs.Stmt.{Stmt, Block, Branches, Else}
use Rattle.mono_syntax.specs.Ty.{Ty, bool}
use Rattle.script_rules.specs.SourcePlaces.{place_of}
use Rattle.static_types.specs.Lines.{line_parts, LineRule}
use Rattle.static_types.specs.Names.{Names}
use Rattle.static_types.proofs.LineRuleLaws.{line_rule_once}
use Rattle.cast_rules.specs.declared.site.TypedSite.{TypedSite}
use Rattle.cast_rules.specs.Elaborates.{Uses, UsesEach, Elaborates, ElaborateAll}
use Rattle.cast_rules.specs.ElaboratesLines.{ElaboratesLine, line, branches, loops, ElaboratesGuarded, guards, ElaborateBranches, no_branch, next_branch, ElaboratesElse, no_last, at_last, ElaboratesBlock, ends, goes_on}
use Rattle.cast_rules.specs.Nodes.{IsLineNode}
use Rattle.cast_rules.specs.OwnSites.{line_sites}
use Rattle.cast_rules.specs.Sites.{standing, numbered}
use Rattle.cast_rules.proofs.OneExpr.{use_once, uses_once, Became, Made, made, expr_once, all_once}
use Rattle.cast_rules.proofs.OneNode.{line_node_of, line_node_is}

-- what something has become, and what it leaves behind it
pub record Left (A : Type 0) : Type 0 where
  pub form : A
  pub names : Names
  pub sites : List TypedSite

abbrev pub left : {A : Type 0} → A → Names → List TypedSite → Left A
left a ns ss = record { form = a; names = ns; sites = ss }

-- a condition with its block
pub record Guard : Type 0 where
  pub condition : CastExpr
  pub body : CastBlock

abbrev pub guard : CastExpr → CastBlock → Guard
guard c d = record { condition = c; body = d }

-- ---- what stands behind a statement

-- what a statement without blocks adds to its parts
record Ending (ns : Names) (s : Stmt) (z : Made) (b : Left CastStmt) : Type 0 where
  pub asks : List Ty
  pub used : List CastExpr
  pub behind : List TypedSite
  pub numbers : List (Option ℕ)
  pub ruled : LineRule ns s z.types asks b.names
  pub uses : UsesEach z.sites (line_parts s) z.types z.exprs asks used behind
  pub counted : numbers ≡ numbered (length behind) (line_sites s z.types asks)
  pub node : IsLineNode s asks used numbers b.form
  pub ended : b.sites ≡ behind ++ standing (line_sites s z.types asks)

record PlainRow (ns : Names) (ss : List TypedSite) (s : Stmt) (b : Left CastStmt) : Type 0 where
  pub parts : Made
  pub made_so : ElaborateAll ns ss (line_parts s) parts.types parts.exprs parts.sites
  pub ending : Ending ns s parts b

-- a statement that has a rule has no blocks
plain_row : (ns ks ms : Names) (ss us : List TypedSite) (s : Stmt) (ts asks : List Ty) (c : CastStmt) → LineRule ns s ts asks ks → ElaboratesLine ns ss s c ms us
    → PlainRow ns ss s (left c ms us)
plain_row ns ks ms ss us s ts asks c w (line {us = us1} {vs = vs1} {ts = ts1} {cs = cs1} {ds = ds1} {ks = ks1} bs g rule h u n m a) =
    record { parts = made ts1 cs1 us1; made_so = g; ending = record { asks = bs; used = ds1; behind = vs1; numbers = ks1; ruled = rule; uses = u; counted = n; node = m; ended = a } }
plain_row ns ks ms ss us s ts asks c w (branches g h) = absurd w
plain_row ns ks ms ss us s ts asks c w (loops g) = absurd w

ending_once : (ns : Names) (s : Stmt) (z : Made) (b d : Left CastStmt) → Ending ns s z b → Ending ns s z d → b ≡ d
ending_once ns s z b d h k =
    let rule = line_rule_once ns s z.types h.asks k.asks b.names d.names h.ruled k.ruled in
    let moved = subst (λ (l : List Ty). UsesEach z.sites (line_parts s) z.types z.exprs l k.used k.behind) (sym rule.asks) k.uses in
    let uses = uses_once z.sites h.behind k.behind (line_parts s) z.types h.asks z.exprs h.used k.used h.uses moved in
    let counts : numbered (length h.behind) (line_sites s z.types h.asks) ≡ numbered (length k.behind) (line_sites s z.types k.asks) =
    λ j. numbered (length (uses.sites j)) (line_sites s z.types (rule.asks j))
    in
    let numbers : h.numbers ≡ k.numbers = h.counted ∙ counts ∙ sym k.counted in
    let nodes : line_node_of s h.asks h.used h.numbers ≡ line_node_of s k.asks k.used k.numbers = λ j. line_node_of s (rule.asks j) (uses.exprs j) (numbers j) in
    let form : b.form ≡ d.form = some_is (sym (line_node_is s h.asks h.used h.numbers b.form h.node) ∙ nodes ∙ line_node_is s k.asks k.used k.numbers d.form k.node) in
    let sum : h.behind ++ standing (line_sites s z.types h.asks) ≡ k.behind ++ standing (line_sites s z.types k.asks) =
    λ j. uses.sites j ++ standing (line_sites s z.types (rule.asks j))
    in
    let sites : b.sites ≡ d.sites = h.ended ∙ sum ∙ sym k.ended in
    λ j. record { form = form j; names = rule.names j; sites = sites j }

record IfRow (ns : Names) (ss : List TypedSite) (bs : Branches) (last : Else) (c : CastStmt) (ms : Names) (vs : List TypedSite) : Type 0 where
  pub ks : Names
  pub us : List TypedSite
  pub branches : CastBranches
  pub end : CastElse
  pub first : ElaborateBranches ns ss bs branches ks us
  pub second : ElaboratesElse ks us last end ms vs
  pub whole : c ≡ cast_stmt.if_any branches end

if_row : (ns ms : Names) (ss vs : List TypedSite) (bs : Branches) (last : Else) (c : CastStmt) → ElaboratesLine ns ss (stmt.if_any bs last) c ms vs → IfRow ns ss bs last c ms vs
if_row ns ms ss vs bs last c (line asks g rule h u n m a) = absurd rule
if_row ns ms ss vs bs last c (branches g h) = record { ks = _; us = _; branches = _; end = _; first = g; second = h; whole = refl }

record LoopRow (ns : Names) (ss : List TypedSite) (e : Expr) (body : Block) (c : CastStmt) (ms : Names) (vs : List TypedSite) : Type 0 where
  pub condition : CastExpr
  pub lines : CastBlock
  pub first : ElaboratesGuarded ns ss e body condition lines ms vs
  pub whole : c ≡ cast_stmt.loop condition lines

loop_row : (ns ms : Names) (ss vs : List TypedSite) (e : Expr) (body : Block) (c : CastStmt) → ElaboratesLine ns ss (stmt.loop e body) c ms vs → LoopRow ns ss e body c ms vs
loop_row ns ms ss vs e body c (line asks g rule h u n m a) = absurd rule
loop_row ns ms ss vs e body c (loops g) = record { condition = _; lines = _; first = g; whole = refl }

record GuardRow (ns : Names) (ss : List TypedSite) (e : Expr) (body : Block) (c : CastExpr) (d : CastBlock) (ms : Names) (vs : List TypedSite) : Type 0 where
  pub type : Ty
  pub expr : CastExpr
  pub us : List TypedSite
  pub ws : List TypedSite
  pub first : Elaborates ns ss e type expr us
  pub used : Uses us (place_of e) type expr bool c ws
  pub second : ElaboratesBlock ns ws body d ms vs

guard_row : (ns ms : Names) (ss vs : List TypedSite) (e : Expr) (body : Block) (c : CastExpr) (d : CastBlock) → ElaboratesGuarded ns ss e body c d ms vs
    → GuardRow ns ss e body c d ms vs
guard_row ns ms ss vs e body c d (guards g h u k) = record { type = _; expr = _; us = _; ws = _; first = g; used = u; second = k }

record BranchRow (ns : Names) (ss : List TypedSite) (e : Expr) (body : Block) (bs : Branches) (cs : CastBranches) (ms : Names) (vs : List TypedSite) : Type 0 where
  pub ks : Names
  pub us : List TypedSite
  pub condition : CastExpr
  pub lines : CastBlock
  pub others : CastBranches
  pub first : ElaboratesGuarded ns ss e body condition lines ks us
  pub second : ElaborateBranches ks us bs others ms vs
  pub whole : cs ≡ cast_stmt.more_branches condition lines others

abbrev BranchesRow : Names → List TypedSite → Branches → CastBranches → Names → List TypedSite → Type 0
BranchesRow ns ss stmt.no_branches cs ms vs = (cs ≡ cast_stmt.no_branches) × (ms ≡ ns) × (vs ≡ ss)
BranchesRow ns ss (stmt.more_branches e body bs) cs ms vs = BranchRow ns ss e body bs cs ms vs

branches_row : (ns ms : Names) (ss vs : List TypedSite) (bs : Branches) (cs : CastBranches) → ElaborateBranches ns ss bs cs ms vs → BranchesRow ns ss bs cs ms vs
branches_row ns ms ss vs bs cs no_branch = (refl, refl, refl)
branches_row ns ms ss vs bs cs (next_branch g h) = record { ks = _; us = _; condition = _; lines = _; others = _; first = g; second = h; whole = refl }

record LastRow (ns : Names) (ss : List TypedSite) (body : Block) (d : CastElse) (ms : Names) (vs : List TypedSite) : Type 0 where
  pub lines : CastBlock
  pub first : ElaboratesBlock ns ss body lines ms vs
  pub whole : d ≡ cast_stmt.otherwise lines

abbrev ElseRow : Names → List TypedSite → Else → CastElse → Names → List TypedSite → Type 0
ElseRow ns ss stmt.no_else d ms vs = (d ≡ cast_stmt.no_else) × (ms ≡ ns) × (vs ≡ ss)
ElseRow ns ss (stmt.otherwise body) d ms vs = LastRow ns ss body d ms vs

else_row : (ns ms : Names) (ss vs : List TypedSite) (last : Else) (d : CastElse) → ElaboratesElse ns ss last d ms vs → ElseRow ns ss last d ms vs
else_row ns ms ss vs last d no_last = (refl, refl, refl)
else_row ns ms ss vs last d (at_last g) = record { lines = _; first = g; whole = refl }

record StmtRow (ns : Names) (ss : List TypedSite) (s : Stmt) (rest : Block) (d : CastBlock) (ms : Names) (vs : List TypedSite) : Type 0 where
  pub ks : Names
  pub us : List TypedSite
  pub line : CastStmt
  pub others : CastBlock
  pub first : ElaboratesLine ns ss s line ks us
  pub second : ElaboratesBlock ks us rest others ms vs
  pub whole : d ≡ cast_stmt.more_stmts line others

abbrev BlockRow : Names → List TypedSite → Block → CastBlock → Names → List TypedSite → Type 0
BlockRow ns ss stmt.no_stmts d ms vs = (d ≡ cast_stmt.no_stmts) × (ms ≡ ns) × (vs ≡ ss)
BlockRow ns ss (stmt.more_stmts s rest) d ms vs = StmtRow ns ss s rest d ms vs

block_row : (ns ms : Names) (ss vs : List TypedSite) (body : Block) (d : CastBlock) → ElaboratesBlock ns ss body d ms vs → BlockRow ns ss body d ms vs
block_row ns ms ss vs body d ends = (refl, refl, refl)
block_row ns ms ss vs body d (goes_on g h) = record { ks = _; us = _; line = _; others = _; first = g; second = h; whole = refl }

-- ---- one way

nothing_left : {A : Type 0} (a b : A) (ns ms : Names) (ss vs : List TypedSite) → (b ≡ a) × (ms ≡ ns) × (vs ≡ ss) → left a ns ss ≡ left b ms vs
nothing_left a b ns ms ss vs r =
    let form = sym r.0 in
    let names = sym r.1 in
    let sites = sym r.2 in
    λ j. record { form = form j; names = names j; sites = sites j }

mutual
  pub line_once : (ns ms ks : Names) (ss us vs : List TypedSite) (s : Stmt) (c d : CastStmt) → ElaboratesLine ns ss s c ms us → ElaboratesLine ns ss s d ks vs → left c ms us ≡ left d ks vs
  line_once ns ms ks ss us vs s c d (line {us = us1} {vs = vs1} {ts = ts} {cs = cs} {ds = ds} {ks = ns1} asks g rule h u n m a) k =
      let r = plain_row ns ms ks ss vs s ts asks d rule k in
      let same = all_once ns ss us1 r.parts.sites (line_parts s) ts r.parts.types cs r.parts.exprs g r.made_so in
      let first : Ending ns s (made ts cs us1) (left c ms us) =
      record { asks = asks; used = ds; behind = vs1; numbers = ns1; ruled = rule; uses = u; counted = n; node = m; ended = a }
      in
      ending_once ns s (made ts cs us1) (left c ms us) (left d ks vs) first (subst (λ (z : Made). Ending ns s z (left d ks vs)) (sym same) r.ending)
  line_once ns ms ks ss us vs s c d (branches {ks = ns1} {us = us1} {bs = bs} {last = last} {cs = cs} {d = end} g h) k =
      let r = if_row ns ks ss vs bs last d k in
      let first = branches_once ns ns1 r.ks ss us1 r.us bs cs r.branches g r.first in
      let moved = subst (λ (b : Left CastBranches). ElaboratesElse b.names b.sites last r.end ks vs) (sym first) r.second in
      let second = else_once ns1 ms ks us1 us vs last end r.end h moved in
      let form : c ≡ d = (λ j. cast_stmt.if_any (first j).form (second j).form) ∙ sym r.whole in
      λ j. record { form = form j; names = (second j).names; sites = (second j).sites }
  line_once ns ms ks ss us vs s c d (loops {e = e} {body = body} {c = condition} {d = lines} g) k =
      let r = loop_row ns ks ss vs e body d k in
      let first = guard_once ns ms ks ss us vs e body condition r.condition lines r.lines g r.first in
      let form : c ≡ d = (λ j. cast_stmt.loop (first j).form.condition (first j).form.body) ∙ sym r.whole in
      λ j. record { form = form j; names = (first j).names; sites = (first j).sites }

  pub guard_once : (ns ms ks : Names) (ss us vs : List TypedSite) (e : Expr) (body : Block) (c f : CastExpr) (d g : CastBlock) → ElaboratesGuarded ns ss e body c d ms us
      → ElaboratesGuarded ns ss e body f g ks vs → left (guard c d) ms us ≡ left (guard f g) ks vs
  guard_once ns ms ks ss us vs e body c f d g (guards {us = us1} {vs = ws1} {t = t} {c = c1} h a u b) k =
      let r = guard_row ns ks ss vs e body f g k in
      let first = expr_once ns ss us1 r.us e t r.type c1 r.expr h r.first in
      let moved = subst (λ (z : Became). Uses z.sites (place_of e) z.type z.expr bool f r.ws) (sym first) r.used in
      let second = use_once us1 ws1 r.ws (place_of e) t bool c1 c f u moved in
      let rest = subst (λ (l : List TypedSite). ElaboratesBlock ns l body g ks vs) (sym second.sites) r.second in
      let third = block_once ns ms ks ws1 us vs body d g b rest in
      λ j. record { form = record { condition = second.expr j; body = (third j).form }; names = (third j).names; sites = (third j).sites }

  pub branches_once : (ns ms ks : Names) (ss us vs : List TypedSite) (bs : Branches) (cs ds : CastBranches) → ElaborateBranches ns ss bs cs ms us → ElaborateBranches ns ss bs ds ks vs
      → left cs ms us ≡ left ds ks vs
  branches_once ns ms ks ss us vs bs cs ds no_branch k = nothing_left cast_stmt.no_branches ds ns ks ss vs (branches_row ns ks ss vs stmt.no_branches ds k)
  branches_once ns ms ks ss us vs bs cs ds (next_branch {ks = ns1} {us = us1} {e = e} {body = body} {bs = rest} {c = c} {d = d} {cs = others} g h) k =
      let r = branches_row ns ks ss vs (stmt.more_branches e body rest) ds k in
      let first = guard_once ns ns1 r.ks ss us1 r.us e body c r.condition d r.lines g r.first in
      let moved = subst (λ (b : Left Guard). ElaborateBranches b.names b.sites rest r.others ks vs) (sym first) r.second in
      let second = branches_once ns1 ms ks us1 us vs rest others r.others h moved in
      let form : cs ≡ ds = (λ j. cast_stmt.more_branches (first j).form.condition (first j).form.body (second j).form) ∙ sym r.whole in
      λ j. record { form = form j; names = (second j).names; sites = (second j).sites }

  pub else_once : (ns ms ks : Names) (ss us vs : List TypedSite) (last : Else) (c d : CastElse) → ElaboratesElse ns ss last c ms us → ElaboratesElse ns ss last d ks vs
      → left c ms us ≡ left d ks vs
  else_once ns ms ks ss us vs last c d no_last k = nothing_left cast_stmt.no_else d ns ks ss vs (else_row ns ks ss vs stmt.no_else d k)
  else_once ns ms ks ss us vs last c d (at_last {body = body} {d = lines} g) k =
      let r = else_row ns ks ss vs (stmt.otherwise body) d k in
      let first = block_once ns ms ks ss us vs body lines r.lines g r.first in
      let form : c ≡ d = (λ j. cast_stmt.otherwise (first j).form) ∙ sym r.whole in
      λ j. record { form = form j; names = (first j).names; sites = (first j).sites }

  pub block_once : (ns ms ks : Names) (ss us vs : List TypedSite) (body : Block) (c d : CastBlock) → ElaboratesBlock ns ss body c ms us → ElaboratesBlock ns ss body d ks vs
      → left c ms us ≡ left d ks vs
  block_once ns ms ks ss us vs body c d ends k = nothing_left cast_stmt.no_stmts d ns ks ss vs (block_row ns ks ss vs stmt.no_stmts d k)
  block_once ns ms ks ss us vs body c d (goes_on {ks = ns1} {us = us1} {s = s} {rest = rest} {c = l} {more = more} g h) k =
      let r = block_row ns ks ss vs (stmt.more_stmts s rest) d k in
      let first = line_once ns ns1 r.ks ss us1 r.us s l r.line g r.first in
      let moved = subst (λ (b : Left CastStmt). ElaboratesBlock b.names b.sites rest r.others ks vs) (sym first) r.second in
      let second = block_once ns1 ms ks us1 us vs rest more r.others h moved in
      let form : c ≡ d = (λ j. cast_stmt.more_stmts (first j).form (second j).form) ∙ sym r.whole in
      λ j. record { form = form j; names = (second j).names; sites = (second j).sites }
