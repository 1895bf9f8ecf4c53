-- A cast stands only between two types that have a meet.
use Rattle.std.proofs.Common.{◌≡◌, ℕ, zero, suc, List, [], ◌∷◌, ◌++◌, Bool, true, false, Option, Some, None, slice_get, sym, ◌∙◌, subst}
use Rattle.mono_list.proofs.Cases.{some_is, none_some}
use Rattle.mono_syntax.specs.declared.cast.CastFunction.{CastFunction}
use Rattle.mono_syntax.specs.declared.cast.CastScript.{CastScript}
use Rattle.mono_syntax.specs.declared.leaf.Kind.{Kind}
use Rattle.mono_syntax.specs.declared.leaf.Kind.TheVariants as kind
use Rattle.mono_syntax.specs.declared.leaf.Place.{Place}
use Rattle.mono_syntax.specs.declared.leaf.Site.{Site}
use Rattle.mono_syntax.specs.declared.script.Scoped.{Scoped}
use Rattle.mono_syntax.specs.declared.tree.ClassDef.{ClassDef}
use Rattle.mono_syntax.specs.declared.tree.FuncDef.{FuncDef}
use Rattle.mono_syntax.specs.declared.tree.Item.{Item}
use Rattle.mono_syntax.specs.CastExpr.{CastExpr}
use Rattle.mono_syntax.specs.CastStmt.{CastStmt, CastBlock, CastBranches, CastElse}
use Rattle.mono_syntax.specs.CastStmtView.{cast_block}
use Rattle.mono_syntax.specs.Expr as expr
use Rattle.mono_syntax.specs.Expr.{Expr}
use Rattle.mono_syntax.specs.ExprView.{exprs_list}
use Rattle.mono_syntax.specs.Stmt as stmt
use Rattle.mono_syntax.specs.Stmt.{Stmt, Block, Branches, Else}
use Rattle.mono_syntax.specs.StmtView.{block}
use Rattle.mono_syntax.specs.Ty.{Ty, dyn, bool, nil}
use Rattle.mono_tree.specs.Meet.{Consistent}
use Rattle.mono_tree.specs.Static.{is_static}
use Rattle.mono_tree.specs.TypedPrograms.{type_of_name}
use Rattle.mono_tree.proofs.Order.{reflexive}
use Rattle.script_rules.specs.SourcePlaces.{place_of}
use Rattle.static_types.specs.BodyEnds.{may_end}
use Rattle.static_types.specs.declared.rule.Rule.{Rule}
use Rattle.static_types.specs.Lines.{line_parts}
use Rattle.script_rules.specs.SourceCasts.{returned}
use Rattle.static_types.specs.Names.{Names}
use Rattle.static_types.specs.Operators.{Sort, arithmetic, comparison, equality, sort_of, is_dyn_sum}
use Rattle.static_types.specs.Parts.{class_called, parts}
use Rattle.static_types.specs.Rules.{RuleOf}
use Rattle.static_types.specs.Types.{AllConsistent}
use Rattle.cast_rules.specs.declared.site.TypedSite.{TypedSite}
use Rattle.cast_rules.specs.Elaborates.{Uses, as_it_is, with_cast, UsesEach, uses_none, uses_more, uses_of, Elaborates, elaborates, ElaborateAll, of_none, of_more}
use Rattle.cast_rules.specs.ElaboratesLines.{ElaboratesLine, line, branches, loops, ElaboratesGuarded, guards, ElaborateBranches, no_branch, next_branch, ElaboratesElse, no_last, at_last, ElaboratesBlock, ends, goes_on}
use Rattle.cast_rules.specs.HasCasts.{ElaboratesFunction, ElaborateItems, no_item, class_item, function_item, line_item, HasCasts}
use Rattle.cast_rules.specs.OwnSites.{name_site, operator_sites, written_site, call_sites, called_sites, own_sites, write_sites, line_sites, end_of, end_site}
use Rattle.cast_rules.specs.Sites.{site_from, site_unless, tested_sites, site_at_dyn, standing, IsSiteOf, AreSites}

abbrev IsConsistentSite : TypedSite → Type 0
IsConsistentSite f = f.kind ≡ kind.Cast → Consistent f.source f.target

-- the casts among these sites stand between types that have a meet
abbrev pub AreConsistent : List TypedSite → Type 0
AreConsistent [] = Unit {0}
AreConsistent (f ∷ fs) = IsConsistentSite f × AreConsistent fs

and_more : (fs gs : List TypedSite) → AreConsistent fs → AreConsistent gs → AreConsistent (fs ++ gs)
and_more [] gs h k = k
and_more (f ∷ fs) gs h k = (h.0, and_more fs gs h.1 k)

joined : (ss fs us : List TypedSite) → us ≡ ss ++ fs → AreConsistent ss → AreConsistent fs → AreConsistent us
joined ss fs us e h k = subst (λ (l : List TypedSite). AreConsistent l) (sym e) (and_more ss fs h k)

-- ---- uses

pub self_consistent : (t : Ty) → Consistent t t
self_consistent t = record { meet = t; is_meet = record { left = reflexive t; right = reflexive t; greatest = λ x h k. h } }

all_self : (ts : List Ty) → AllConsistent ts ts
all_self [] = tt
all_self (t ∷ ts) = (self_consistent t, all_self ts)

use_keeps : (ss us : List TypedSite) (q : Place) (s t : Ty) (c d : CastExpr) → Uses ss q s c t d us → Consistent s t → AreConsistent ss → AreConsistent us
use_keeps ss us q s t c d (as_it_is h) k f = f
use_keeps ss us q s t c d (with_cast h n e) k f = joined ss (site_from q kind.Cast s t ∷ []) us e f ((λ _. k), tt)

uses_keep : (ss us : List TypedSite) (es : List Expr) (ts asks : List Ty) (cs ds : List CastExpr) → UsesEach ss es ts cs asks ds us → AllConsistent ts asks → AreConsistent ss
    → AreConsistent us
uses_keep ss us es ts asks cs ds uses_none k f = f
uses_keep ss us es ts asks cs ds (uses_more {us = vs} {e = e} {es = es1} {s = s} {t = t} {ts = ts1} {asks = asks1} {c = c} {d = d} {cs = cs1} {ds = ds1} g h) k f =
    uses_keep vs us es1 ts1 asks1 cs1 ds1 h k.1 (use_keeps ss vs (place_of e) s t c d g k.0 f)

uses_consistent : (e : Expr) (ts asks : List Ty) → AllConsistent ts asks → AllConsistent ts (uses_of e ts asks)
uses_consistent (expr.cast p a e) ts asks h = all_self ts
uses_consistent e ts asks h = h

-- ---- sites of a construct's own

-- the sites of other kinds than casts
at_dyn_other : (k : Kind) (q : Place) (ts : List Ty) (os : List (Option TypedSite)) → (k ≡ kind.Cast → ⊥) → AreConsistent (standing os)
    → AreConsistent (standing (site_at_dyn k q ts ∷ os))
at_dyn_other k q (dyn ∷ ts) os n h = ((λ e. absurd (n e)), h)
at_dyn_other k q ts os n h = h

unless_other : (b : Bool) (f : TypedSite) (os : List (Option TypedSite)) → (f.kind ≡ kind.Cast → ⊥) → AreConsistent (standing os) → AreConsistent (standing (site_unless b f ∷ os))
unless_other true f os n h = h
unless_other false f os n h = ((λ e. absurd (n e)), h)

tested_other : (k : Kind) (es : List Expr) (ss ts : List Ty) → (k ≡ kind.Cast → ⊥) → AreConsistent (standing (tested_sites k es ss ts))
tested_other k (e ∷ es) (s ∷ ss) (t ∷ ts) n = unless_other (is_static t) (site_from (place_of e) k s t) (tested_sites k es ss ts) n (tested_other k es ss ts n)
tested_other k es ss ts n = tt

name_other : (o : Option Ty) (q : Place) → AreConsistent (standing (name_site o q ∷ []))
name_other None q = tt
name_other (Some t) q = ((λ e. absurd cc), tt)

operator_other : (z : Sort) (b : Bool) (q : Place) → AreConsistent (standing (operator_sites z b q))
operator_other equality b q = tt
operator_other comparison b q = tt
operator_other arithmetic true q = ((λ e. absurd cc), ((λ e. absurd cc), tt))
operator_other arithmetic false q = ((λ e. absurd cc), tt)

call_other : (q : Place) (es : List Expr) (ss ts : List Ty) → AreConsistent (standing (call_sites q es ss ts))
call_other q es [] ts = tt
call_other q es (s ∷ ss) [] = tt
call_other q es (s ∷ ss) (t ∷ ts) = at_dyn_other kind.Call q (s ∷ ss) (tested_sites kind.Argument es ss ts) (λ e. cc) (tested_other kind.Argument es ss ts (λ e. cc))

called_other : (o : Option ClassDef) (q : Place) (es : List Expr) (ss ts : List Ty) → AreConsistent (standing (called_sites o q es ss ts))
called_other (Some d) q es ss ts = tt
called_other None q es ss ts = call_other q es ss ts

written_consistent : (q : Place) (ts : List Ty) (t : Ty) → AllConsistent ts (t ∷ []) → AreConsistent (standing (written_site q ts t))
written_consistent q [] t h = tt
written_consistent q (s ∷ ss) t h = ((λ _. h.0), tt)

own_consistent : (ns : Names) (e : Expr) (ts : List Ty) (t : Ty) (r : Rule) → RuleOf ns e ts r → AllConsistent ts r.asks → t ≡ r.gives
    → AreConsistent (standing (own_sites ns e ts r.asks t))
own_consistent ns (expr.local w) ts t r rule h q = name_other (type_of_name ns.values w.text) w.place
own_consistent ns (expr.number p n) ts t r rule h q = tt
own_consistent ns (expr.text p x) ts t r rule h q = tt
own_consistent ns (expr.truth p b) ts t r rule h q = tt
own_consistent ns (expr.nil p) ts t r rule h q = tt
own_consistent ns (expr.neg p a) ts t r rule h q = ((λ e. absurd cc), tt)
own_consistent ns (expr.negation p a) ts t r rule h q = tt
own_consistent ns (expr.binary o p a b) ts t r rule h q = operator_other (sort_of o) (is_dyn_sum o ts) p
own_consistent ns (expr.both a b) ts t r rule h q = tt
own_consistent ns (expr.either a b) ts t r rule h q = tt
own_consistent ns (expr.read a w) ts t r rule h q = at_dyn_other kind.Member w.place ts [] (λ e. cc) tt
own_consistent ns (expr.call p f es) ts t r rule h q = called_other (class_called ns.classes f) p (exprs_list es) ts r.asks
own_consistent ns (expr.cast p a e) ts t r rule h q =
    written_consistent (place_of e) ts t (subst (λ (z : Ty). AllConsistent ts (z ∷ [])) (sym q) (subst (λ (l : List Ty). AllConsistent ts l) rule.1 h))
own_consistent ns (expr.join p w) ts t r rule h q = ((λ e. absurd cc), tt)

write_other : (q : Place) (e : Expr) (ss ts : List Ty) → AreConsistent (standing (write_sites q e ss ts))
write_other q e [] ts = tt
write_other q e (s ∷ ss) [] = tt
write_other q e (s ∷ ss) (t ∷ ts) = at_dyn_other kind.Member q (s ∷ ss) (tested_sites kind.Write (e ∷ []) ss ts) (λ e. cc) (tested_other kind.Write (e ∷ []) ss ts (λ e. cc))

line_other : (s : Stmt) (ts asks : List Ty) → AreConsistent (standing (line_sites s ts asks))
line_other (stmt.give p e) ts asks = tested_other kind.Return (returned p e ∷ []) ts asks (λ e. cc)
line_other (stmt.write o w e) ts asks = write_other w.place e ts asks
line_other (stmt.start w p f es) ts asks = call_other p (exprs_list es) ts asks
line_other s ts asks = tt

end_other : (b : Bool) (q : Place) (t : Ty) → AreConsistent (standing (end_of b q t ∷ []))
end_other true q t = unless_other (is_static t) (site_from q kind.Return nil t) [] (λ e. cc) tt
end_other false q t = tt

-- ---- expressions

mutual
  expr_keeps : (ns : Names) (ss us : List TypedSite) (e : Expr) (t : Ty) (c : CastExpr) → Elaborates ns ss e t c us → AreConsistent ss → AreConsistent us
  expr_keeps ns ss us e t c (elaborates {us = vs} {vs = ws} {ts = ts} {cs = cs} {ds = ds} r g rule h q u n m a) f =
      let inner = all_keep ns ss vs (parts ns.classes e) ts cs g f in
      let used = uses_keep vs ws (parts ns.classes e) ts (uses_of e ts r.asks) cs ds u (uses_consistent e ts r.asks h) inner in
      joined ws (standing (own_sites ns e ts r.asks t)) us a used (own_consistent ns e ts t r rule h q)

  all_keep : (ns : Names) (ss us : List TypedSite) (es : List Expr) (ts : List Ty) (cs : List CastExpr) → ElaborateAll ns ss es ts cs us → AreConsistent ss → AreConsistent us
  all_keep ns ss us es ts cs of_none f = f
  all_keep ns ss us es ts cs (of_more {us = vs} {e = e} {es = es1} {t = t} {ts = ts1} {c = c} {cs = cs1} g h) f =
      all_keep ns vs us es1 ts1 cs1 h (expr_keeps ns ss vs e t c g f)

-- ---- statements

mutual
  line_keeps : (ns ms : Names) (ss us : List TypedSite) (s : Stmt) (c : CastStmt) → ElaboratesLine ns ss s c ms us → AreConsistent ss → AreConsistent us
  line_keeps ns ms ss us s c (line {us = vs} {vs = ws} {ts = ts} {cs = cs} {ds = ds} asks g rule h u n m a) f =
      let inner = all_keep ns ss vs (line_parts s) ts cs g f in
      let used = uses_keep vs ws (line_parts s) ts asks cs ds u h inner in
      joined ws (standing (line_sites s ts asks)) us a used (line_other s ts asks)
  line_keeps ns ms ss us s c (branches {ks = ks} {us = vs} {bs = bs} {last = last} {cs = cs} {d = d} g h) f =
      else_keeps ks ms vs us last d h (branches_keep ns ks ss vs bs cs g f)
  line_keeps ns ms ss us s c (loops {e = e} {body = body} {c = k} {d = d} g) f = guard_keeps ns ms ss us e body k d g f

  guard_keeps : (ns ms : Names) (ss us : List TypedSite) (e : Expr) (body : Block) (c : CastExpr) (d : CastBlock) → ElaboratesGuarded ns ss e body c d ms us → AreConsistent ss
      → AreConsistent us
  guard_keeps ns ms ss us e body c d (guards {us = vs} {vs = ws} {t = t} {c = k} g h u b) f =
      block_keeps ns ms ws us body d b (use_keeps vs ws (place_of e) t bool k c u h (expr_keeps ns ss vs e t k g f))

  branches_keep : (ns ms : Names) (ss us : List TypedSite) (bs : Branches) (cs : CastBranches) → ElaborateBranches ns ss bs cs ms us → AreConsistent ss → AreConsistent us
  branches_keep ns ms ss us bs cs no_branch f = f
  branches_keep ns ms ss us bs cs (next_branch {ks = ks} {us = vs} {e = e} {body = body} {bs = bs1} {c = c} {d = d} {cs = cs1} g h) f =
      branches_keep ks ms vs us bs1 cs1 h (guard_keeps ns ks ss vs e body c d g f)

  else_keeps : (ns ms : Names) (ss us : List TypedSite) (last : Else) (d : CastElse) → ElaboratesElse ns ss last d ms us → AreConsistent ss → AreConsistent us
  else_keeps ns ms ss us last d no_last f = f
  else_keeps ns ms ss us last d (at_last {body = body} {d = b} g) f = block_keeps ns ms ss us body b g f

  block_keeps : (ns ms : Names) (ss us : List TypedSite) (body : Block) (d : CastBlock) → ElaboratesBlock ns ss body d ms us → AreConsistent ss → AreConsistent us
  block_keeps ns ms ss us body d ends f = f
  block_keeps ns ms ss us body d (goes_on {ks = ks} {us = vs} {s = s} {rest = rest} {c = c} {more = more} g h) f =
      block_keeps ks ms vs us rest more h (line_keeps ns ks ss vs s c g f)

-- ---- a script

function_keeps : (cs : List ClassDef) (fs : List FuncDef) (ss us : List TypedSite) (d : FuncDef) (f : CastFunction) → ElaboratesFunction cs fs ss d f us → AreConsistent ss
    → AreConsistent us
function_keeps cs fs ss us d f h k =
    let inner = block_keeps h.names h.behind ss h.inside (block d.body) (cast_block f.block.body) h.body k in
    joined h.inside (standing (end_site d h.result ∷ [])) us h.sites inner (end_other (may_end (block d.body)) d.name.place h.result)

items_keep : (ns ms : Names) (ss us : List TypedSite) (is : List Item) (fs : List CastFunction) (b : CastBlock) → ElaborateItems ns ss is fs b ms us → AreConsistent ss
    → AreConsistent us
items_keep ns ms ss us is fs b no_item f = f
items_keep ns ms ss us is fs b (class_item {is = rest} g) f = items_keep ns ms ss us rest fs b g f
items_keep ns ms ss us is fs b (function_item {us = vs} {d = d} {is = rest} {f = a} {fs = gs} g h) f =
    items_keep ns ms vs us rest gs b h (function_keeps ns.classes ns.functions ss vs d a g f)
items_keep ns ms ss us is fs b (line_item {ks = ks} {us = vs} {s = s} {is = rest} {c = c} {b = b1} g h) f =
    items_keep ks ms vs us rest fs b1 h (line_keeps ns ks ss vs s c g f)

-- a site has the types at its two positions
site_consistent : (types : List Ty) (f : TypedSite) (x : Site) (s t : Ty) → IsConsistentSite f → IsSiteOf types f x → x.kind ≡ kind.Cast → slice_get types x.source.0 ≡ Some s
    → slice_get types x.target.0 ≡ Some t → Consistent s t
site_consistent types f x s t h i k e g =
    let source : f.source ≡ s = some_is (sym i.source ∙ e) in
    let target : f.target ≡ t = some_is (sym i.target ∙ g) in
    subst (λ (z : Ty). Consistent s z) target (subst (λ (z : Ty). Consistent z f.target) source (h (sym i.kind ∙ k)))

among : (types : List Ty) (fs : List TypedSite) (xs : List Site) (k : ℕ) (x : Site) (s t : Ty) → AreConsistent fs → AreSites types fs xs → slice_get xs k ≡ Some x
    → x.kind ≡ kind.Cast → slice_get types x.source.0 ≡ Some s → slice_get types x.target.0 ≡ Some t → Consistent s t
among types [] [] k x s t h i e c f g = none_some (Consistent s t) e
among types [] (y ∷ ys) k x s t h i e c f g = absurd i
among types (y ∷ ys) [] k x s t h i e c f g = absurd i
among types (y ∷ ys) (z ∷ zs) zero x s t h i e c f g = site_consistent types y x s t h.0 (subst (λ (v : Site). IsSiteOf types y v) (some_is e) i.0) c f g
among types (y ∷ ys) (z ∷ zs) (suc k) x s t h i e c f g = among types ys zs k x s t h.1 i.1 e c f g

pub casts_consistent : (d : Scoped) (p : CastScript) (k : ℕ) (x : Site) (s t : Ty) → HasCasts d p → slice_get p.sites k ≡ Some x → x.kind ≡ kind.Cast
    → slice_get p.types x.source.0 ≡ Some s → slice_get p.types x.target.0 ≡ Some t → Consistent s t
casts_consistent d p k x s t h e c f g =
    let all = items_keep h.names h.behind [] h.all d.script.items p.functions (cast_block p.main.body) h.items tt in
    among p.types h.all p.sites k x s t all h.sites e c f g
