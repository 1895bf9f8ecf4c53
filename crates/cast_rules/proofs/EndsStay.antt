-- A body that has become one with casts may end without a return where it might before.
use Rattle.std.proofs.Common.{◌≡◌, ℕ, List, Option, refl}
use Rattle.std.specs.Prelude.{◌||◌}
use Rattle.mono_syntax.specs.CastExpr.{CastExpr}
use Rattle.mono_syntax.specs.CastStmt.{CastStmt, CastBlock, more_stmts, CastBranches, CastElse}
use Rattle.mono_syntax.specs.Expr.{Expr}
use Rattle.mono_syntax.specs.Stmt as stmt
use Rattle.mono_syntax.specs.Stmt.{Stmt, Block, Branches, Else}
use Rattle.mono_syntax.specs.Ty.{Ty}
use Rattle.mono_tree.specs.BodyEnds as after
use Rattle.static_types.specs.BodyEnds.{may_end, statement_may_end, branches_may_end, else_may_end}
use Rattle.static_types.specs.Names.{Names}
use Rattle.cast_rules.specs.declared.site.TypedSite.{TypedSite}
use Rattle.cast_rules.specs.ElaboratesLines.{ElaboratesLine, line, branches, loops, ElaboratesGuarded, guards, ElaborateBranches, no_branch, next_branch, ElaboratesElse, no_last, at_last, ElaboratesBlock, ends, goes_on}
use Rattle.cast_rules.specs.Nodes as node
use Rattle.cast_rules.specs.Nodes.{IsLineNode}

node_end : (s : Stmt) (asks : List Ty) (ds : List CastExpr) (ks : List (Option ℕ)) (c : CastStmt) → IsLineNode s asks ds ks c → after.statement_may_end c ≡ statement_may_end s
node_end s asks ds ks c node.pass = refl
node_end s asks ds ks c node.give = refl
node_end s asks ds ks c (node.print e) = refl
node_end s asks ds ks c node.assign = refl
node_end s asks ds ks c node.write = refl
node_end s asks ds ks c (node.start e) = refl
node_end s asks ds ks c node.plain = refl

mutual
  line_end : (ns ms : Names) (ss us : List TypedSite) (s : Stmt) (c : CastStmt) → ElaboratesLine ns ss s c ms us → after.statement_may_end c ≡ statement_may_end s
  line_end ns ms ss us s c (line {ds = ds} {ks = ks} asks g rule h u n m a) = node_end s asks ds ks c m
  line_end ns ms ss us s c (branches {ks = ks} {us = vs} {bs = bs} {last = last} {cs = cs} {d = d} g h) =
      let first = branches_end ns ks ss vs bs cs g in
      let second = else_end ks ms vs us last d h in
      λ j. first j || second j
  line_end ns ms ss us s c (loops g) = refl

  branches_end : (ns ms : Names) (ss us : List TypedSite) (bs : Branches) (cs : CastBranches) → ElaborateBranches ns ss bs cs ms us
      → after.branches_may_end cs ≡ branches_may_end bs
  branches_end ns ms ss us bs cs no_branch = refl
  branches_end ns ms ss us bs cs (next_branch {ks = ks} {us = vs} {e = e} {body = body} {bs = bs1} {c = c} {d = d} {cs = cs1} g h) =
      let first = guarded_end ns ks ss vs e body c d g in
      let rest = branches_end ks ms vs us bs1 cs1 h in
      λ j. first j || rest j

  guarded_end : (ns ms : Names) (ss us : List TypedSite) (e : Expr) (body : Block) (c : CastExpr) (d : CastBlock) → ElaboratesGuarded ns ss e body c d ms us
      → after.may_end d ≡ may_end body
  guarded_end ns ms ss us e body c d (guards {vs = ws} g h u b) = block_end ns ms ws us body d b

  else_end : (ns ms : Names) (ss us : List TypedSite) (last : Else) (d : CastElse) → ElaboratesElse ns ss last d ms us → after.else_may_end d ≡ else_may_end last
  else_end ns ms ss us last d no_last = refl
  else_end ns ms ss us last d (at_last {body = body} {d = b} g) = block_end ns ms ss us body b g

  pub block_end : (ns ms : Names) (ss us : List TypedSite) (body : Block) (d : CastBlock) → ElaboratesBlock ns ss body d ms us → after.may_end d ≡ may_end body
  block_end ns ms ss us body d ends = refl
  block_end ns ms ss us body d (goes_on {ks = ks} {us = vs} {s = s} {rest = rest} {c = c} {more = more} g h) =
      rest_end ks ms vs us s c rest more (line_end ns ks ss vs s c g) h

  -- behind a statement
  rest_end : (ns ms : Names) (ss us : List TypedSite) (s : Stmt) (c : CastStmt) (rest : Block) (more : CastBlock) → after.statement_may_end c ≡ statement_may_end s
      → ElaboratesBlock ns ss rest more ms us → after.may_end (more_stmts c more) ≡ may_end (stmt.more_stmts s rest)
  rest_end ns ms ss us s c rest more e ends = e
  rest_end ns ms ss us s c rest more e (goes_on {ks = ks} {us = vs} {s = s2} {rest = rest2} {c = c2} {more = more2} g h) =
      rest_end ks ms vs us s2 c2 rest2 more2 (line_end ns ks ss vs s2 c2 g) h
