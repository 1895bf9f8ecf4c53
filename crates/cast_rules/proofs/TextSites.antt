-- Where the fields of classes have names that are text, so have the types of all sites.
use Rattle.std.proofs.Common.{◌≡◌, ◌⊎◌, inl, inr, ℕ, List, [], ◌∷◌, ◌++◌, Bool, true, false, Option, Some, None, zero, suc, sym, ◌∙◌, subst, arith}
use Rattle.std.specs.Prelude.{Contains}
use Rattle.mono_syntax.specs.declared.cast.CastFunction.{CastFunction}
use Rattle.mono_syntax.specs.declared.cast.CastScript.{CastScript}
use Rattle.mono_syntax.specs.declared.leaf.Kind.{Kind}
use Rattle.mono_syntax.specs.declared.leaf.Kind.TheVariants as kind
use Rattle.mono_syntax.specs.declared.leaf.Place.{Place}
use Rattle.mono_syntax.specs.declared.script.Scoped.{Scoped}
use Rattle.mono_syntax.specs.declared.tree.ClassDef.{ClassDef}
use Rattle.mono_syntax.specs.declared.tree.FuncDef.{FuncDef}
use Rattle.mono_syntax.specs.declared.tree.Item.{Item}
use Rattle.mono_syntax.specs.CastExpr.{CastExpr}
use Rattle.mono_syntax.specs.CastStmt.{CastStmt, CastBlock, CastBranches, CastElse}
use Rattle.mono_syntax.specs.Expr as expr
use Rattle.mono_syntax.specs.Expr.{Expr}
use Rattle.mono_syntax.specs.ExprView.{exprs_list}
use Rattle.mono_syntax.specs.Stmt as stmt
use Rattle.mono_syntax.specs.Stmt.{Stmt, Block, Branches, Else}
use Rattle.mono_syntax.specs.StmtView.{block}
use Rattle.mono_syntax.specs.Ty.{Ty, dyn, int, bool, str, nil, fun, obj}
use Rattle.mono_tree.specs.Static.{is_static}
use Rattle.mono_tree.specs.TypedPrograms.{type_of_name}
use Rattle.mono_tree.specs.TypeText.{HasTextNames}
use Rattle.script_rules.specs.BlockNames.{firsts, all_targets}
use Rattle.script_rules.specs.Scoping.{class_list, main_block}
use Rattle.script_rules.specs.SourcePlaces.{place_of}
use Rattle.static_types.specs.BodyEnds.{may_end}
use Rattle.script_rules.specs.SourceCasts.{returned}
use Rattle.static_types.specs.Names.{Names}
use Rattle.static_types.specs.Operators.{Sort, arithmetic, comparison, equality, sort_of, is_dyn_sum}
use Rattle.static_types.specs.Parts.{class_called}
use Rattle.static_types.specs.Scripts.{IsFunctionScope, IsMainScope}
use Rattle.script_rules.specs.SourceCasts.{AreNames}
use Rattle.cast_rules.specs.declared.site.TypedSite.{TypedSite}
use Rattle.cast_rules.specs.Elaborates.{Uses, as_it_is, with_cast, UsesEach, uses_none, uses_more, uses_of, Elaborates, elaborates, ElaborateAll, of_none, of_more}
use Rattle.cast_rules.specs.ElaboratesLines.{ElaboratesLine, line, branches, loops, ElaboratesGuarded, guards, ElaborateBranches, no_branch, next_branch, ElaboratesElse, no_last, at_last, ElaboratesBlock, ends, goes_on}
use Rattle.cast_rules.specs.HasCasts.{ElaboratesFunction, ElaborateItems, no_item, class_item, function_item, line_item, IsOfSite, HasCasts}
use Rattle.cast_rules.specs.OwnSites.{name_site, operator_sites, written_site, call_sites, called_sites, own_sites, write_sites, line_sites, end_of, end_site}
use Rattle.cast_rules.specs.Sites.{site_unless, tested_site, tested_sites, site_at_dyn, standing}
use Rattle.cast_rules.specs.TextNames.{HaveTextFields}
use Rattle.mono_list.proofs.Cases.{some_is, none_some}
use Rattle.mono_syntax.specs.declared.tree.Script.{Script}
use Rattle.cast_rules.proofs.TextTypes.{AllText, IsTextScope, NamesText, names_text, any_text, rule_text, line_text}

abbrev IsTextSite : TypedSite → Type 0
IsTextSite x = HasTextNames x.source × HasTextNames x.target

abbrev AreText : List TypedSite → Type 0
AreText [] = Unit {0}
AreText (x ∷ xs) = IsTextSite x × AreText xs

abbrev IsAnyText : Option TypedSite → Type 0
IsAnyText None = Unit {0}
IsAnyText (Some x) = IsTextSite x

abbrev AreAnyText : List (Option TypedSite) → Type 0
AreAnyText [] = Unit {0}
AreAnyText (x ∷ xs) = IsAnyText x × AreAnyText xs

append_text : (xs ys : List TypedSite) → AreText xs → AreText ys → AreText (xs ++ ys)
append_text [] ys h k = k
append_text (x ∷ xs) ys h k = (h.0, append_text xs ys h.1 k)

standing_text : (xs : List (Option TypedSite)) → AreAnyText xs → AreText (standing xs)
standing_text [] h = tt
standing_text (None ∷ xs) h = standing_text xs h.1
standing_text (Some x ∷ xs) h = (h.0, standing_text xs h.1)

-- ---- sites of one construct's own

unless_text : (b : Bool) (x : TypedSite) → IsTextSite x → IsAnyText (site_unless b x)
unless_text true x h = tt
unless_text false x h = h

tested_text : (k : Kind) (es : List Expr) (ss ts : List Ty) → AllText ss → AllText ts → AreAnyText (tested_sites k es ss ts)
tested_text k [] ss ts h j = tt
tested_text k (e ∷ es) [] ts h j = tt
tested_text k (e ∷ es) (s ∷ ss) [] h j = tt
tested_text k (e ∷ es) (s ∷ ss) (t ∷ ts) h j = (unless_text (is_static t) _ (h.0, j.0), tested_text k es ss ts h.1 j.1)

at_dyn_text : (k : Kind) (p : Place) (ts : List Ty) → IsAnyText (site_at_dyn k p ts)
at_dyn_text k p [] = tt
at_dyn_text k p (dyn ∷ ts) = (tt, tt)
at_dyn_text k p (int ∷ ts) = tt
at_dyn_text k p (bool ∷ ts) = tt
at_dyn_text k p (str ∷ ts) = tt
at_dyn_text k p (nil ∷ ts) = tt
at_dyn_text k p (fun ps r ∷ ts) = tt
at_dyn_text k p (obj fs ∷ ts) = tt

call_text : (p : Place) (es : List Expr) (ss ts : List Ty) → AllText ss → AllText ts → AreAnyText (call_sites p es ss ts)
call_text p es [] ts h k = tt
call_text p es (s ∷ ss) [] h k = tt
call_text p es (s ∷ ss) (t ∷ ts) h k = (at_dyn_text kind.Call p (s ∷ ss), tested_text kind.Argument es ss ts h.1 k.1)

called_text : (o : Option ClassDef) (p : Place) (es : List Expr) (ss ts : List Ty) → AllText ss → AllText ts → AreAnyText (called_sites o p es ss ts)
called_text (Some d) p es ss ts h k = tt
called_text None p es ss ts h k = call_text p es ss ts h k

name_site_text : (o : Option Ty) (p : Place) → IsAnyText (name_site o p)
name_site_text None p = tt
name_site_text (Some t) p = (tt, tt)

operator_text : (o : Sort) (b : Bool) (p : Place) → AreAnyText (operator_sites o b p)
operator_text equality b p = (tt, (tt, tt))
operator_text comparison b p = (tt, (tt, tt))
operator_text arithmetic true p = ((tt, tt), ((tt, tt), tt))
operator_text arithmetic false p = (tt, ((tt, tt), tt))

written_site_text : (p : Place) (ss : List Ty) (t : Ty) → AllText ss → HasTextNames t → AreAnyText (written_site p ss t)
written_site_text p [] t h k = tt
written_site_text p (s ∷ ss) t h k = ((h.0, k), tt)

own_text : (ns : Names) (e : Expr) (ss asks : List Ty) (t : Ty) → AllText ss → AllText asks → HasTextNames t → AreAnyText (own_sites ns e ss asks t)
own_text ns (expr.local w) ss asks t h j k = (name_site_text (type_of_name ns.values w.text) w.place, tt)
own_text ns (expr.number p n) ss asks t h j k = tt
own_text ns (expr.text p x) ss asks t h j k = tt
own_text ns (expr.truth p b) ss asks t h j k = tt
own_text ns (expr.nil p) ss asks t h j k = tt
own_text ns (expr.neg p a) ss asks t h j k = ((tt, tt), tt)
own_text ns (expr.negation p a) ss asks t h j k = tt
own_text ns (expr.binary o p a b) ss asks t h j k = operator_text (sort_of o) (is_dyn_sum o ss) p
own_text ns (expr.both a b) ss asks t h j k = tt
own_text ns (expr.either a b) ss asks t h j k = tt
own_text ns (expr.read a w) ss asks t h j k = (at_dyn_text kind.Member w.place ss, tt)
own_text ns (expr.call p f es) ss asks t h j k = called_text (class_called ns.classes f) p (exprs_list es) ss asks h j
own_text ns (expr.cast p a e) ss asks t h j k = written_site_text (place_of e) ss t h k
own_text ns (expr.join p w) ss asks t h j k = ((tt, tt), tt)

write_text : (p : Place) (e : Expr) (ss ts : List Ty) → AllText ss → AllText ts → AreAnyText (write_sites p e ss ts)
write_text p e [] ts h k = tt
write_text p e (s ∷ ss) [] h k = tt
write_text p e (s ∷ ss) (t ∷ ts) h k = (at_dyn_text kind.Member p (s ∷ ss), tested_text kind.Write (e ∷ []) ss ts h.1 k.1)

line_sites_text : (s : Stmt) (ss asks : List Ty) → AllText ss → AllText asks → AreAnyText (line_sites s ss asks)
line_sites_text stmt.pass ss asks h k = tt
line_sites_text (stmt.give p e) ss asks h k = tested_text kind.Return (returned p e ∷ []) ss asks h k
line_sites_text (stmt.print p es) ss asks h k = tt
line_sites_text (stmt.assign w a e) ss asks h k = tt
line_sites_text (stmt.write o w e) ss asks h k = write_text w.place e ss asks h k
line_sites_text (stmt.start w p f es) ss asks h k = call_text p (exprs_list es) ss asks h k
line_sites_text (stmt.plain e) ss asks h k = tt
line_sites_text (stmt.if_any bs last) ss asks h k = tt
line_sites_text (stmt.loop e body) ss asks h k = tt

end_text : (b : Bool) (p : Place) (t : Ty) → HasTextNames t → IsAnyText (end_of b p t)
end_text true p t h = unless_text (is_static t) _ (tt, h)
end_text false p t h = tt

-- ---- uses

use_text : {ss us : List TypedSite} {p : Place} {s t : Ty} {c d : CastExpr} → Uses ss p s c t d us → HasTextNames s → HasTextNames t → AreText ss → AreText us
use_text (as_it_is q) h k j = j
use_text (with_cast {ss = ss} q n e) h k j = subst AreText (sym e) (append_text ss _ j ((h, k), tt))

uses_text : {ss us : List TypedSite} {es : List Expr} {ts asks : List Ty} {cs ds : List CastExpr} → UsesEach ss es ts cs asks ds us
    → AllText ts → AllText asks → AreText ss → AreText us
uses_text uses_none h k j = j
uses_text (uses_more u rest) h k j = uses_text rest h.1 k.1 (use_text u h.0 k.0 j)

uses_of_text : (e : Expr) (ts asks : List Ty) → AllText ts → AllText asks → AllText (uses_of e ts asks)
uses_of_text (expr.cast p a e) ts asks h k = h
uses_of_text (expr.local w) ts asks h k = k
uses_of_text (expr.number p n) ts asks h k = k
uses_of_text (expr.text p x) ts asks h k = k
uses_of_text (expr.truth p b) ts asks h k = k
uses_of_text (expr.nil p) ts asks h k = k
uses_of_text (expr.neg p a) ts asks h k = k
uses_of_text (expr.negation p a) ts asks h k = k
uses_of_text (expr.binary o p a b) ts asks h k = k
uses_of_text (expr.both a b) ts asks h k = k
uses_of_text (expr.either a b) ts asks h k = k
uses_of_text (expr.read a w) ts asks h k = k
uses_of_text (expr.call p f es) ts asks h k = k
uses_of_text (expr.join p w) ts asks h k = k

-- ---- expressions

mutual
  expr_text : {ns : Names} {ss us : List TypedSite} {e : Expr} {t : Ty} {c : CastExpr} → Elaborates ns ss e t c us → IsTextScope ns → AreText ss
      → HasTextNames t × AreText us
  expr_text {ns} {ss} {us} {e} {t} (elaborates {vs = vs} {ts = ts} r parts rule consistent gives uses ks node all) h j =
      let p = all_text parts h j in
      let k = rule_text ns e ts r h p.0 rule in
      let own_type : HasTextNames t = subst HasTextNames (sym gives) k.1 in
      let behind = uses_text uses p.0 (uses_of_text e ts r.asks p.0 k.0) p.1 in
      let own = standing_text (own_sites ns e ts r.asks t) (own_text ns e ts r.asks t p.0 k.0 own_type) in
      (own_type, subst AreText (sym all) (append_text vs _ behind own))

  all_text : {ns : Names} {ss us : List TypedSite} {es : List Expr} {ts : List Ty} {cs : List CastExpr} → ElaborateAll ns ss es ts cs us → IsTextScope ns → AreText ss
      → AllText ts × AreText us
  all_text of_none h j = (tt, j)
  all_text (of_more x rest) h j =
      let p = expr_text x h j in
      let q = all_text rest h p.1 in
      ((p.0, q.0), q.1)

-- ---- statements

abbrev IsTextBehind : Names → List TypedSite → Type 0
IsTextBehind ms us = IsTextScope ms × AreText us

mutual
  stmt_text : {ns ms : Names} {ss us : List TypedSite} {s : Stmt} {c : CastStmt} → ElaboratesLine ns ss s c ms us → IsTextScope ns → AreText ss → IsTextBehind ms us
  stmt_text {ns} {ms} {ss} {us} {s} (line {vs = vs} {ts = ts} asks parts rule consistent uses ks node all) h j =
      let p = all_text parts h j in
      let k = line_text ns ms s ts asks h p.0 rule in
      let own = standing_text (line_sites s ts asks) (line_sites_text s ts asks p.0 k.0) in
      (k.1, subst AreText (sym all) (append_text vs _ (uses_text uses p.0 k.0 p.1) own))
  stmt_text (branches bs last) h j = let p = branches_text bs h j in else_text last p.0 p.1
  stmt_text (loops g) h j = guarded_text g h j

  guarded_text : {ns ms : Names} {ss us : List TypedSite} {e : Expr} {body : Block} {c : CastExpr} {d : CastBlock} → ElaboratesGuarded ns ss e body c d ms us
      → IsTextScope ns → AreText ss → IsTextBehind ms us
  guarded_text (guards x consistent u b) h j = let p = expr_text x h j in block_text b h (use_text u p.0 tt p.1)

  branches_text : {ns ms : Names} {ss us : List TypedSite} {bs : Branches} {cs : CastBranches} → ElaborateBranches ns ss bs cs ms us → IsTextScope ns → AreText ss → IsTextBehind ms us
  branches_text no_branch h j = (h, j)
  branches_text (next_branch g rest) h j = let p = guarded_text g h j in branches_text rest p.0 p.1

  else_text : {ns ms : Names} {ss us : List TypedSite} {x : Else} {y : CastElse} → ElaboratesElse ns ss x y ms us → IsTextScope ns → AreText ss → IsTextBehind ms us
  else_text no_last h j = (h, j)
  else_text (at_last b) h j = block_text b h j

  block_text : {ns ms : Names} {ss us : List TypedSite} {x : Block} {y : CastBlock} → ElaboratesBlock ns ss x y ms us → IsTextScope ns → AreText ss → IsTextBehind ms us
  block_text ends h j = (h, j)
  block_text (goes_on s rest) h j = let p = stmt_text s h j in block_text rest p.0 p.1

-- ---- a script

function_scope_text : (cs : List ClassDef) (fs : List FuncDef) (d : FuncDef) (t : Ty) (ns : Names) → HaveTextFields cs → IsFunctionScope cs fs d t ns → IsTextScope ns
function_scope_text cs fs d t ns h k = record {
  classes = subst HaveTextFields (sym k.classes) h;
  values = names_text cs h (firsts (all_targets d.params d.body)) ns.values k.values;
  threads = subst NamesText (sym k.threads) tt;
  result = λ u e. subst HasTextNames (some_is (sym k.result ∙ e)) (any_text cs h d.result t k.declared);
}

main_scope_text : (s : Script) (ns : Names) → HaveTextFields (class_list s) → IsMainScope s ns → IsTextScope ns
main_scope_text s ns h k = record {
  classes = subst HaveTextFields (sym k.classes) h;
  values = names_text (class_list s) h (firsts (all_targets [] (main_block s))) ns.values k.values;
  threads = subst NamesText (sym k.threads) tt;
  result = λ u e. none_some (HasTextNames u) (sym k.result ∙ e);
}

function_sites_text : (cs : List ClassDef) (fs : List FuncDef) (ss : List TypedSite) (d : FuncDef) (f : CastFunction) (us : List TypedSite)
    → HaveTextFields cs → ElaboratesFunction cs fs ss d f us → AreText ss → AreText us
function_sites_text cs fs ss d f us h k j =
    let names = function_scope_text cs fs d k.result k.names h k.scope in
    let inside = block_text k.body names j in
    let end = standing_text (end_site d k.result ∷ []) (end_text (may_end (block d.body)) d.name.place k.result (any_text cs h d.result k.result (k.scope).declared), tt) in
    subst AreText (sym k.sites) (append_text k.inside _ inside.1 end)

items_text : {ns ms : Names} {ss us : List TypedSite} {is : List Item} {fs : List CastFunction} {b : CastBlock} → ElaborateItems ns ss is fs b ms us
    → IsTextScope ns → AreText ss → AreText us
items_text no_item h j = j
items_text (class_item rest) h j = items_text rest h j
items_text {ns} (function_item {ss = ss} {us = us} {d = d} {f = f} k rest) h j =
    items_text rest h (function_sites_text ns.classes ns.functions ss d f us h.classes k j)
items_text (line_item k rest) h j = let p = stmt_text k h j in items_text rest p.0 p.1

among_text : (xs : List TypedSite) (x : TypedSite) → AreText xs → Contains xs x → IsTextSite x
among_text [] x h c = absurd (omega (arith, c.1))
among_text (y ∷ xs) x h (zero, b, e) = subst IsTextSite e h.0
among_text (y ∷ xs) x h (suc i, b, e) = among_text xs x h.1 (i, omega (arith, b), e)

of_site_text : (t a b : Ty) → HasTextNames a → HasTextNames b → (t ≡ a) ⊎ (t ≡ b) → HasTextNames t
of_site_text t a b h k (inl e) = subst HasTextNames (sym e) h
of_site_text t a b h k (inr e) = subst HasTextNames (sym e) k

pub types_are_text : (d : Scoped) (p : CastScript) → HaveTextFields (class_list d.script) → HasCasts d p → (t : Ty) → Contains p.types t → HasTextNames t
types_are_text d p h k t c =
    let sites = items_text k.items (main_scope_text d.script k.names h k.scope) tt in
    let u = k.used t c in
    let site = among_text k.all u.site sites u.among in
    of_site_text t (u.site).source (u.site).target site.0 site.1 u.is
