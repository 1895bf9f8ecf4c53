-- What a statement becomes with its casts, what may be named behind it, and its sites.
use Rattle.std.specs.Prelude.{◌≡◌, ℕ, List, ◌++◌, length, Option}
use Rattle.mono_syntax.specs.CastExpr.{CastExpr}
use Rattle.mono_syntax.specs.CastStmt as cast_stmt
use Rattle.mono_syntax.specs.CastStmt.{CastStmt, CastBlock, CastBranches, CastElse}
use Rattle.mono_syntax.specs.Expr.{Expr}
use Rattle.mono_syntax.specs.Stmt as stmt
use Rattle.mono_syntax.specs.Stmt.{Stmt, Block, Branches, Else}
use Rattle.mono_syntax.specs.Ty.{Ty, bool}
use Rattle.mono_tree.specs.Meet.{Consistent}
use Rattle.script_rules.specs.SourcePlaces.{place_of}
use Rattle.static_types.specs.Lines.{line_parts, LineRule}
use Rattle.static_types.specs.Names.{Names}
use Rattle.static_types.specs.Types.{AllConsistent}
use Rattle.cast_rules.specs.declared.site.TypedSite.{TypedSite}
use Rattle.cast_rules.specs.Elaborates.{Uses, UsesEach, Elaborates, ElaborateAll}
use Rattle.cast_rules.specs.Nodes.{IsLineNode}
use Rattle.cast_rules.specs.OwnSites.{line_sites}
use Rattle.cast_rules.specs.Sites.{standing, numbered}

mutual
  -- Behind the sites ss, where ns may be named, the statement becomes one with casts; behind it ms may be named, and the sites are all.
  pub data ElaboratesLine : Names → List TypedSite → Stmt → CastStmt → Names → List TypedSite → Type 0 where
    line : {ns ms : Names} {ss us vs all : List TypedSite} {s : Stmt} {ts : List Ty} {cs ds : List CastExpr} {c : CastStmt} {ks : List (Option ℕ)}
        (asks : List Ty)
        → ElaborateAll ns ss (line_parts s) ts cs us
        → LineRule ns s ts asks ms → AllConsistent ts asks
        → UsesEach us (line_parts s) ts cs asks ds vs
        → ks ≡ numbered (length vs) (line_sites s ts asks) → IsLineNode s asks ds ks c
        → all ≡ vs ++ standing (line_sites s ts asks)
        → ElaboratesLine ns ss s c ms all
    -- the branches in order, and then the else
    branches : {ns ks ms : Names} {ss us vs : List TypedSite} {bs : Branches} {last : Else} {cs : CastBranches} {d : CastElse}
        → ElaborateBranches ns ss bs cs ks us → ElaboratesElse ks us last d ms vs
        → ElaboratesLine ns ss (stmt.if_any bs last) (cast_stmt.if_any cs d) ms vs
    loops : {ns ms : Names} {ss us : List TypedSite} {e : Expr} {body : Block} {c : CastExpr} {d : CastBlock}
        → ElaboratesGuarded ns ss e body c d ms us → ElaboratesLine ns ss (stmt.loop e body) (cast_stmt.loop c d) ms us

  -- a condition, which is used at `bool`, and the block behind it
  pub data ElaboratesGuarded : Names → List TypedSite → Expr → Block → CastExpr → CastBlock → Names → List TypedSite → Type 0 where
    guards : {ns ms : Names} {ss us vs ws : List TypedSite} {e : Expr} {body : Block} {t : Ty} {c d : CastExpr} {b : CastBlock}
        → Elaborates ns ss e t c us → Consistent t bool → Uses us (place_of e) t c bool d vs → ElaboratesBlock ns vs body b ms ws
        → ElaboratesGuarded ns ss e body d b ms ws

  pub data ElaborateBranches : Names → List TypedSite → Branches → CastBranches → Names → List TypedSite → Type 0 where
    no_branch : {ns : Names} {ss : List TypedSite} → ElaborateBranches ns ss stmt.no_branches cast_stmt.no_branches ns ss
    next_branch : {ns ks ms : Names} {ss us vs : List TypedSite} {e : Expr} {body : Block} {bs : Branches} {c : CastExpr} {d : CastBlock} {cs : CastBranches}
        → ElaboratesGuarded ns ss e body c d ks us → ElaborateBranches ks us bs cs ms vs
        → ElaborateBranches ns ss (stmt.more_branches e body bs) (cast_stmt.more_branches c d cs) ms vs

  pub data ElaboratesElse : Names → List TypedSite → Else → CastElse → Names → List TypedSite → Type 0 where
    no_last : {ns : Names} {ss : List TypedSite} → ElaboratesElse ns ss stmt.no_else cast_stmt.no_else ns ss
    at_last : {ns ms : Names} {ss us : List TypedSite} {body : Block} {d : CastBlock}
        → ElaboratesBlock ns ss body d ms us → ElaboratesElse ns ss (stmt.otherwise body) (cast_stmt.otherwise d) ms us

  -- the statements of a block in order
  pub data ElaboratesBlock : Names → List TypedSite → Block → CastBlock → Names → List TypedSite → Type 0 where
    ends : {ns : Names} {ss : List TypedSite} → ElaboratesBlock ns ss stmt.no_stmts cast_stmt.no_stmts ns ss
    goes_on : {ns ks ms : Names} {ss us vs : List TypedSite} {s : Stmt} {rest : Block} {c : CastStmt} {more : CastBlock}
        → ElaboratesLine ns ss s c ks us → ElaboratesBlock ks us rest more ms vs
        → ElaboratesBlock ns ss (stmt.more_stmts s rest) (cast_stmt.more_stmts c more) ms vs
