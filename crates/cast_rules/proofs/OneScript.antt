-- A script has its casts in one way over one list of types, and as many over any.
use Rattle.std.proofs.Common.{◌≡◌, suc, List, [], ◌∷◌, ◌++◌, length, refl, sym, ◌∙◌, ap, subst}
use Rattle.mono_syntax.specs.declared.cast.CastClass.{CastClass}
use Rattle.mono_syntax.specs.declared.cast.CastFunction.{CastFunction}
use Rattle.mono_syntax.specs.declared.cast.CastScript.{CastScript}
use Rattle.mono_syntax.specs.declared.leaf.Site.{Site}
use Rattle.mono_syntax.specs.declared.script.Scoped.{Scoped}
use Rattle.mono_syntax.specs.declared.tree.ClassDef.{ClassDef}
use Rattle.mono_syntax.specs.declared.tree.FuncDef.{FuncDef}
use Rattle.mono_syntax.specs.declared.tree.Item.{Item}
use Rattle.mono_syntax.specs.declared.tree.Item.TheVariants as item
use Rattle.mono_syntax.specs.declared.tree.Script.{Script}
use Rattle.mono_syntax.specs.CastStmt.{CastStmt, CastBlock, no_stmts, more_stmts}
use Rattle.mono_syntax.specs.CastStmtView.{cast_block}
use Rattle.mono_syntax.specs.Stmt.{Stmt}
use Rattle.mono_syntax.specs.StmtView.{block}
use Rattle.mono_syntax.specs.Ty.{Ty, obj}
use Rattle.mono_syntax.proofs.Lists.{cast_block-inj}
use Rattle.script_rules.specs.Scoping.{class_list}
use Rattle.script_rules.specs.SourceCasts.{BecomeClasses}
use Rattle.script_rules.specs.Writes.{in_order}
use Rattle.static_types.specs.Names.{Names}
use Rattle.static_types.specs.Scripts.{IsMainScope}
use Rattle.static_types.proofs.ScriptLaws.{main_scope_once, function_scope_once, result_once}
use Rattle.static_types.proofs.Writing.{one_declared, function_type_once}
use Rattle.cast_rules.specs.declared.site.TypedSite.{TypedSite}
use Rattle.cast_rules.specs.ElaboratesLines.{ElaboratesLine, ElaboratesBlock}
use Rattle.cast_rules.specs.HasCasts.{ElaboratesFunction, ElaborateItems, no_item, class_item, function_item, line_item, HasCasts}
use Rattle.cast_rules.specs.OwnSites.{end_site}
use Rattle.cast_rules.specs.Sites.{standing, numbered, AreSites}
use Rattle.cast_rules.proofs.Distinct.{sites_once}
use Rattle.cast_rules.proofs.Standing.{cons_head}
use Rattle.cast_rules.proofs.OneLine.{Left, left, line_once, block_once}

-- ---- classes

classes_once : (s : Script) (ds : List ClassDef) (cs ks : List CastClass) → BecomeClasses s ds cs → BecomeClasses s ds ks → cs ≡ ks
classes_once s [] [] [] h i = refl
classes_once s [] [] (k ∷ ks) h i = absurd i
classes_once s [] (c ∷ cs) ks h i = absurd h
classes_once s (d ∷ ds) [] ks h i = absurd h
classes_once s (d ∷ ds) (c ∷ cs) [] h i = absurd i
classes_once s (d ∷ ds) (c ∷ cs) (k ∷ ks) h i =
    let params : c.params ≡ k.params = h.0.fields ∙ sym i.0.fields in
    let one = h.0.type in
    let other = i.0.type in
    let fields : one.declared ≡ other.declared = one_declared (class_list s) d.fields one.declared other.declared one.fields other.fields in
    let type : c.ty ≡ k.ty = one.type ∙ ap (λ gs. obj (in_order gs)) fields ∙ sym other.type in
    let rest = classes_once s ds cs ks h.1 i.1 in
    λ j. record { params = params j; ty = type j } ∷ rest j

-- ---- functions

pub record SameFunction (f g : CastFunction) (us vs : List TypedSite) : Type 0 where
  pub function : f ≡ g
  pub sites : us ≡ vs

function_once : (cs : List ClassDef) (fs : List FuncDef) (ss us vs : List TypedSite) (d : FuncDef) (f g : CastFunction) → ElaboratesFunction cs fs ss d f us
    → ElaboratesFunction cs fs ss d g vs → SameFunction f g us vs
function_once cs fs ss us vs d f g h k =
    let names = function_scope_once cs fs d h.result k.result h.names k.names h.scope k.scope in
    let result : h.result ≡ k.result = result_once cs fs d h.result k.result h.names k.names h.scope k.scope in
    let moved = subst (λ (z : Names). ElaboratesBlock z ss (block d.body) (cast_block g.block.body) k.behind k.inside) (sym names) k.body in
    let same = block_once h.names h.behind k.behind ss h.inside k.inside (block d.body) (cast_block f.block.body) (cast_block g.block.body) h.body moved in
    let lines : cast_block f.block.body ≡ cast_block g.block.body = λ j. (same j).form in
    let body : f.block.body ≡ g.block.body = cast_block-inj f.block.body g.block.body lines in
    let values : f.block.names ≡ g.block.names = h.values ∙ ap (λ (z : Names). z.values) names ∙ sym k.values in
    let behind : h.behind.threads ≡ k.behind.threads = λ j. (same j).names.threads in
    let threads : f.block.threads ≡ g.block.threads = h.threads ∙ behind ∙ sym k.threads in
    let params : f.params ≡ g.params = h.params ∙ sym k.params in
    let type = function_type_once cs d f.ty g.ty h.type k.type in
    let numbers : numbered (length h.inside) (end_site d h.result ∷ []) ≡ numbered (length k.inside) (end_site d k.result ∷ []) =
    λ j. numbered (length (same j).sites) (end_site d (result j) ∷ [])
    in
    let falls : f.falls ≡ g.falls = cons_head (h.falls ∙ numbers ∙ sym k.falls) in
    let ended : h.inside ++ standing (end_site d h.result ∷ []) ≡ k.inside ++ standing (end_site d k.result ∷ []) =
    λ j. (same j).sites ++ standing (end_site d (result j) ∷ [])
    in
    let function : f ≡ g = λ j. record { params = params j; ty = type j; block = record { names = values j; threads = threads j; body = body j }; falls = falls j } in
    record { function = function; sites = h.sites ∙ ended ∙ sym k.sites }

-- ---- items

-- what items have become
pub record Items : Type 0 where
  pub functions : List CastFunction
  pub main : CastBlock

abbrev items : List CastFunction → CastBlock → Items
items fs b = record { functions = fs; main = b }

pub record FunctionRow (ns : Names) (ss : List TypedSite) (d : FuncDef) (is : List Item) (fs : List CastFunction) (b : CastBlock) (ms : Names) (vs : List TypedSite) : Type 0 where
  pub us : List TypedSite
  pub function : CastFunction
  pub others : List CastFunction
  pub first : ElaboratesFunction ns.classes ns.functions ss d function us
  pub rest : ElaborateItems ns us is others b ms vs
  pub whole : fs ≡ function ∷ others

pub record LineRow (ns : Names) (ss : List TypedSite) (s : Stmt) (is : List Item) (fs : List CastFunction) (b : CastBlock) (ms : Names) (vs : List TypedSite) : Type 0 where
  pub ks : Names
  pub us : List TypedSite
  pub line : CastStmt
  pub others : CastBlock
  pub first : ElaboratesLine ns ss s line ks us
  pub rest : ElaborateItems ks us is fs others ms vs
  pub whole : b ≡ more_stmts line others

abbrev pub ItemsRow : Names → List TypedSite → List Item → List CastFunction → CastBlock → Names → List TypedSite → Type 0
ItemsRow ns ss [] fs b ms vs = (fs ≡ []) × (b ≡ no_stmts) × (ms ≡ ns) × (vs ≡ ss)
ItemsRow ns ss (item.Class d ∷ is) fs b ms vs = ElaborateItems ns ss is fs b ms vs
ItemsRow ns ss (item.Def d ∷ is) fs b ms vs = FunctionRow ns ss d is fs b ms vs
ItemsRow ns ss (item.Stmt s ∷ is) fs b ms vs = LineRow ns ss s is fs b ms vs

pub items_row : (ns ms : Names) (ss vs : List TypedSite) (is : List Item) (fs : List CastFunction) (b : CastBlock) → ElaborateItems ns ss is fs b ms vs → ItemsRow ns ss is fs b ms vs
items_row ns ms ss vs is fs b no_item = (refl, refl, refl, refl)
items_row ns ms ss vs is fs b (class_item g) = g
items_row ns ms ss vs is fs b (function_item g h) = record { us = _; function = _; others = _; first = g; rest = h; whole = refl }
items_row ns ms ss vs is fs b (line_item g h) = record { ks = _; us = _; line = _; others = _; first = g; rest = h; whole = refl }

items_once : (ns ms ks : Names) (ss us vs : List TypedSite) (is : List Item) (fs gs : List CastFunction) (b d : CastBlock) → ElaborateItems ns ss is fs b ms us
    → ElaborateItems ns ss is gs d ks vs → left (items fs b) ms us ≡ left (items gs d) ks vs
items_once ns ms ks ss us vs is fs gs b d no_item k =
    let r = items_row ns ks ss vs [] gs d k in
    let functions = sym r.0 in
    let main = sym r.1 in
    let names = sym r.2 in
    let sites = sym r.3 in
    λ j. record { form = record { functions = functions j; main = main j }; names = names j; sites = sites j }
items_once ns ms ks ss us vs is fs gs b d (class_item {d = c} {is = rest} g) k = items_once ns ms ks ss us vs rest fs gs b d g (items_row ns ks ss vs (item.Class c ∷ rest) gs d k)
items_once ns ms ks ss us vs is fs gs b d (function_item {us = us1} {d = a} {is = rest} {f = f} {fs = others} g h) k =
    let r = items_row ns ks ss vs (item.Def a ∷ rest) gs d k in
    let first = function_once ns.classes ns.functions ss us1 r.us a f r.function g r.first in
    let moved = subst (λ (l : List TypedSite). ElaborateItems ns l rest r.others d ks vs) (sym first.sites) r.rest in
    let second = items_once ns ms ks us1 us vs rest others r.others b d h moved in
    let functions : fs ≡ gs = (λ j. first.function j ∷ (second j).form.functions) ∙ sym r.whole in
    λ j. record { form = record { functions = functions j; main = (second j).form.main }; names = (second j).names; sites = (second j).sites }
items_once ns ms ks ss us vs is fs gs b d (line_item {ks = ns1} {us = us1} {s = s} {is = rest} {c = c} {b = others} g h) k =
    let r = items_row ns ks ss vs (item.Stmt s ∷ rest) gs d k in
    let first = line_once ns ns1 r.ks ss us1 r.us s c r.line g r.first in
    let moved = subst (λ (z : Left CastStmt). ElaborateItems z.names z.sites rest gs r.others ks vs) (sym first) r.rest in
    let second = items_once ns1 ms ks us1 us vs rest fs gs others r.others h moved in
    let main : b ≡ d = (λ j. more_stmts (first j).form (second j).form.main) ∙ sym r.whole in
    λ j. record { form = record { functions = (second j).form.functions; main = main j }; names = (second j).names; sites = (second j).sites }

-- ---- a script

pub script_once : (d : Scoped) (p q : CastScript) → HasCasts d p → HasCasts d q → p.types ≡ q.types → p ≡ q
script_once d p q h i same =
    let scoped : p.scoped ≡ q.scoped = h.scoped ∙ sym i.scoped in
    let classes = classes_once d.script (class_list d.script) p.classes q.classes h.classes i.classes in
    let names = main_scope_once d.script h.names i.names h.scope i.scope in
    let moved = subst (λ (z : Names). ElaborateItems z [] d.script.items q.functions (cast_block q.main.body) i.behind i.all) (sym names) i.items in
    let whole =
    items_once h.names h.behind i.behind [] h.all i.all d.script.items p.functions q.functions (cast_block p.main.body) (cast_block q.main.body) h.items moved
    in
    let lines : cast_block p.main.body ≡ cast_block q.main.body = λ j. (whole j).form.main in
    let body : p.main.body ≡ q.main.body = cast_block-inj p.main.body q.main.body lines in
    let values : p.main.names ≡ q.main.names = h.values ∙ ap (λ (n : Names). n.values) names ∙ sym i.values in
    let behind : h.behind.threads ≡ i.behind.threads = λ j. (whole j).names.threads in
    let threads : p.main.threads ≡ q.main.threads = h.threads ∙ behind ∙ sym i.threads in
    let all : h.all ≡ i.all = λ j. (whole j).sites in
    let those = subst (λ (l : List Ty). AreSites l h.all q.sites) (sym same) (subst (λ (l : List TypedSite). AreSites q.types l q.sites) (sym all) i.sites) in
    let sites : p.sites ≡ q.sites = sites_once p.types h.all p.sites q.sites h.distinct h.sites those in
    λ j.
    record {
      scoped = scoped j;
      types = same j;
      classes = classes j;
      functions = (whole j).form.functions;
      main = record { names = values j; threads = threads j; body = body j };
      sites = sites j;
    }

-- ---- how many there are

as_many_sites : (types : List Ty) (fs : List TypedSite) (xs : List Site) → AreSites types fs xs → length fs ≡ length xs
as_many_sites types [] [] h = refl
as_many_sites types [] (x ∷ xs) h = absurd h
as_many_sites types (f ∷ fs) [] h = absurd h
as_many_sites types (f ∷ fs) (x ∷ xs) h = ap suc (as_many_sites types fs xs h.1)

-- the sites of two scripts with casts of one source
whole_once : (d e : Scoped) (p q : CastScript) → d.script ≡ e.script → (h : HasCasts d p) (i : HasCasts e q)
    → left (items p.functions (cast_block p.main.body)) h.behind h.all ≡ left (items q.functions (cast_block q.main.body)) i.behind i.all
whole_once d e p q same h i =
    let scope = subst (λ (s : Script). IsMainScope s i.names) (sym same) i.scope in
    let names = main_scope_once d.script h.names i.names h.scope scope in
    let own = subst (λ (s : Script). ElaborateItems i.names [] s.items q.functions (cast_block q.main.body) i.behind i.all) (sym same) i.items in
    let moved = subst (λ (z : Names). ElaborateItems z [] d.script.items q.functions (cast_block q.main.body) i.behind i.all) (sym names) own in
    items_once h.names h.behind i.behind [] h.all i.all d.script.items p.functions q.functions (cast_block p.main.body) (cast_block q.main.body) h.items moved

pub counts_once : (d e : Scoped) (p q : CastScript) → d.script ≡ e.script → HasCasts d p → HasCasts e q
    → (length p.functions ≡ length q.functions) × (length p.classes ≡ length q.classes) × (length p.sites ≡ length q.sites)
counts_once d e p q same h i =
    let whole = whole_once d e p q same h i in
    let become = subst (λ (s : Script). BecomeClasses s (class_list s) q.classes) (sym same) i.classes in
    let classes = classes_once d.script (class_list d.script) p.classes q.classes h.classes become in
    let sites : length h.all ≡ length i.all = λ j. length (whole j).sites in (
      λ j. length (whole j).form.functions,
      ap length classes,
      sym (as_many_sites p.types h.all p.sites h.sites) ∙ sites ∙ as_many_sites q.types i.all q.sites i.sites,
    )
