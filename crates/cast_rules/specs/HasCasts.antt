-- A script with its casts.
use Rattle.std.specs.Prelude.{◌≡◌, List, [], ◌∷◌, ◌++◌, ◌⊎◌, length, map, true, Contains}
use Rattle.mono_syntax.specs.declared.cast.CastFunction.{CastFunction}
use Rattle.mono_syntax.specs.declared.cast.CastScript.{CastScript}
use Rattle.mono_syntax.specs.declared.script.Scoped.{Scoped}
use Rattle.mono_syntax.specs.declared.tree.ClassDef.{ClassDef}
use Rattle.mono_syntax.specs.declared.tree.FuncDef.{FuncDef}
use Rattle.mono_syntax.specs.declared.tree.Item.{Item}
use Rattle.mono_syntax.specs.declared.tree.Item.TheVariants as item
use Rattle.mono_syntax.specs.CastStmt.{CastStmt, CastBlock, no_stmts, more_stmts}
use Rattle.mono_syntax.specs.CastStmtView.{cast_block}
use Rattle.mono_syntax.specs.Stmt.{Stmt}
use Rattle.mono_syntax.specs.StmtView.{block}
use Rattle.mono_syntax.specs.Ty.{Ty, nil}
use Rattle.mono_tree.specs.ClosedList.{AreDistinct}
use Rattle.mono_tree.specs.Meet.{Consistent}
use Rattle.script_rules.specs.Scoping.{class_list}
use Rattle.script_rules.specs.SourceCasts.{BecomeClasses}
use Rattle.script_rules.specs.Writes.{IsFunctionType}
use Rattle.static_types.specs.BodyEnds.{may_end}
use Rattle.static_types.specs.Names.{Names}
use Rattle.static_types.specs.Scripts.{IsFunctionScope, IsMainScope}
use Rattle.cast_rules.specs.declared.site.TypedSite.{TypedSite}
use Rattle.cast_rules.specs.ElaboratesLines.{ElaboratesLine, ElaboratesBlock}
use Rattle.cast_rules.specs.OwnSites.{end_site}
use Rattle.cast_rules.specs.Sites.{AreSites, standing, numbered}

-- Behind the sites ss, the function d becomes f, and the sites are all. The site of its end stands behind those of its body.
pub record ElaboratesFunction (cs : List ClassDef) (fs : List FuncDef) (ss : List TypedSite) (d : FuncDef) (f : CastFunction) (all : List TypedSite)
    : Type 0 where
  pub names : Names
  pub behind : Names
  pub result : Ty
  pub inside : List TypedSite
  pub scope : IsFunctionScope cs fs d result names
  pub body : ElaboratesBlock names ss (block d.body) (cast_block f.block.body) behind inside
  pub end : may_end (block d.body) ≡ true → Consistent nil result
  pub falls : f.falls ∷ [] ≡ numbered (length inside) (end_site d result ∷ [])
  pub sites : all ≡ inside ++ standing (end_site d result ∷ [])
  pub params : f.params ≡ map (λ q. q.name.text) d.params
  pub type : IsFunctionType cs d f.ty
  pub values : f.block.names ≡ names.values
  pub threads : f.block.threads ≡ behind.threads

-- The items of a script in source order, behind the sites ss, where the main block may name ns: its functions, the statements of its
-- main block, what may be named behind them, and all sites.
pub data ElaborateItems : Names → List TypedSite → List Item → List CastFunction → CastBlock → Names → List TypedSite → Type 0 where
  no_item : {ns : Names} {ss : List TypedSite} → ElaborateItems ns ss [] [] no_stmts ns ss
  class_item : {ns ms : Names} {ss us : List TypedSite} {d : ClassDef} {is : List Item} {fs : List CastFunction} {b : CastBlock}
      → ElaborateItems ns ss is fs b ms us → ElaborateItems ns ss (item.Class d ∷ is) fs b ms us
  function_item : {ns ms : Names} {ss us vs : List TypedSite} {d : FuncDef} {is : List Item} {f : CastFunction} {fs : List CastFunction} {b : CastBlock}
      → ElaboratesFunction ns.classes ns.functions ss d f us → ElaborateItems ns us is fs b ms vs
      → ElaborateItems ns ss (item.Def d ∷ is) (f ∷ fs) b ms vs
  line_item : {ns ks ms : Names} {ss us vs : List TypedSite} {s : Stmt} {is : List Item} {c : CastStmt} {fs : List CastFunction} {b : CastBlock}
      → ElaboratesLine ns ss s c ks us → ElaborateItems ks us is fs b ms vs
      → ElaborateItems ns ss (item.Stmt s ∷ is) fs (more_stmts c b) ms vs

-- t is the source or the target of one of these sites
pub record IsOfSite (fs : List TypedSite) (t : Ty) : Type 0 where
  pub site : TypedSite
  pub among : Contains fs site
  pub is : (t ≡ site.source) ⊎ (t ≡ site.target)

-- p is the script d with its casts. Its list of types has those of its sites, each once.
pub record HasCasts (d : Scoped) (p : CastScript) : Type 0 where
  pub names : Names
  pub behind : Names
  pub all : List TypedSite
  pub scoped : p.scoped ≡ d
  pub scope : IsMainScope d.script names
  pub classes : BecomeClasses d.script (class_list d.script) p.classes
  pub items : ElaborateItems names [] d.script.items p.functions (cast_block p.main.body) behind all
  pub values : p.main.names ≡ names.values
  pub threads : p.main.threads ≡ behind.threads
  pub sites : AreSites p.types all p.sites
  pub distinct : AreDistinct p.types
  pub used : (t : Ty) → Contains p.types t → IsOfSite all t
