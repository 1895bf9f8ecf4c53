-- The types of a construct's own sites and of the casts at its parts are there, where those of its parts and of their uses are.
use Rattle.std.proofs.Common.{inl, inr, List, [], ◌∷◌, ◌++◌, Bool, true, false, Option, Some, None, sym, subst}
use Rattle.mono_syntax.specs.declared.leaf.Kind.{Kind}
use Rattle.mono_syntax.specs.declared.leaf.Kind.TheVariants as kind
use Rattle.mono_syntax.specs.declared.leaf.Place.{Place}
use Rattle.mono_syntax.specs.declared.tree.ClassDef.{ClassDef}
use Rattle.mono_syntax.specs.declared.tree.Script.{Script}
use Rattle.mono_syntax.specs.CastExpr.{CastExpr}
use Rattle.mono_syntax.specs.Expr as expr
use Rattle.mono_syntax.specs.Expr.{Expr}
use Rattle.mono_syntax.specs.ExprView.{exprs_list}
use Rattle.mono_syntax.specs.Stmt as stmt
use Rattle.mono_syntax.specs.Stmt.{Stmt}
use Rattle.mono_syntax.specs.Ty.{Ty, dyn, int, bool, str, nil, fun, obj}
use Rattle.mono_tree.specs.Static.{is_static}
use Rattle.mono_tree.specs.TypedPrograms.{type_of_name}
use Rattle.script_rules.specs.SourceCasts.{returned}
use Rattle.script_rules.specs.SourcePlaces.{place_of}
use Rattle.static_types.specs.Names.{Names}
use Rattle.static_types.specs.Operators.{Sort, arithmetic, comparison, equality, sort_of, is_dyn_sum}
use Rattle.static_types.specs.Parts.{class_called}
use Rattle.cast_rules.specs.declared.site.TypedSite.{TypedSite}
use Rattle.cast_rules.specs.Elaborates.{Uses, as_it_is, with_cast, UsesEach, uses_none, uses_more, uses_of}
use Rattle.cast_rules.specs.OwnSites.{name_site, operator_sites, written_site, call_sites, called_sites, own_sites}
use Rattle.cast_rules.specs.OwnSites.{write_sites, line_sites, end_of}
use Rattle.cast_rules.specs.Sites.{site_from, site_unless, tested_sites, site_at_dyn, standing}
use Rattle.class_types.proofs.OrderLaws.{In}
use Rattle.program_types.proofs.HasWritten.{HasWritten, HasAll}

-- ---- sites in a row

module _ (Has : Ty → Type 0) where
  abbrev pub HasSite : TypedSite → Type 0
  HasSite f = Has f.source × Has f.target

  abbrev pub HasSites : List TypedSite → Type 0
  HasSites [] = Unit {0}
  HasSites (f ∷ fs) = HasSite f × HasSites fs

  pub sites_append : (xs ys : List TypedSite) → HasSites xs → HasSites ys → HasSites (xs ++ ys)
  sites_append [] ys h k = k
  sites_append (x ∷ xs) ys h k = (h.0, sites_append xs ys h.1 k)

  pub site_among : (fs : List TypedSite) (f : TypedSite) → HasSites fs → In f fs → HasSite f
  site_among [] f h i = absurd i
  site_among (g ∷ fs) f h (inl e) = subst HasSite e h.0
  site_among (g ∷ fs) f h (inr i) = site_among fs f h.1 i

  -- ---- uses

  pub use_has : (ss us : List TypedSite) (p : Place) (t u : Ty) (c d : CastExpr) → Uses ss p t c u d us → Has t → Has u
      → HasSites ss → HasSites us
  use_has ss us p t u c d (as_it_is h) k g l = l
  use_has ss us p t u c d (with_cast h n e) k g l = subst HasSites (sym e) (sites_append ss (site_from p kind.Cast t u ∷ []) l ((k, g), tt))

  pub uses_have : (ss us : List TypedSite) (es : List Expr) (ts asks : List Ty) (cs ds : List CastExpr) → UsesEach ss es ts cs asks ds us
      → HasAll Has ts → HasAll Has asks → HasSites ss → HasSites us
  uses_have ss us es ts asks cs ds uses_none k g l = l
  uses_have ss us es ts asks cs ds
      (uses_more {us = vs} {e = e} {es = es1} {s = s} {t = t} {ts = ts1} {asks = asks1} {c = c} {d = d} {cs = cs1} {ds = ds1} f h) k g l =
      uses_have vs us es1 ts1 asks1 cs1 ds1 h k.1 g.1 (use_has ss vs (place_of e) s t c d f k.0 g.0 l)

  pub uses_of_have : (e : Expr) (ts asks : List Ty) → HasAll Has ts → HasAll Has asks → HasAll Has (uses_of e ts asks)
  uses_of_have (expr.cast p a e) ts asks h k = h
  uses_of_have _ ts asks h k = k

  -- ---- tests of a value at its place

  unless : (b : Bool) (f : TypedSite) (os : List (Option TypedSite)) → HasSite f → HasSites (standing os)
      → HasSites (standing (site_unless b f ∷ os))
  unless true f os h k = k
  unless false f os h k = (h, k)

  tested : (k : Kind) (es : List Expr) (ss ts : List Ty) → HasAll Has ss → HasAll Has ts → HasSites (standing (tested_sites k es ss ts))
  tested k [] ss ts h g = tt
  tested k (e ∷ es) [] ts h g = tt
  tested k (e ∷ es) (s ∷ ss) [] h g = tt
  tested k (e ∷ es) (s ∷ ss) (t ∷ ts) h g =
      unless (is_static t) (site_from (place_of e) k s t) (tested_sites k es ss ts) (h.0, g.0) (tested k es ss ts h.1 g.1)

  written_own : (p : Place) (ss : List Ty) (t : Ty) → HasAll Has ss → Has t → HasSites (standing (written_site p ss t))
  written_own p [] t h g = tt
  written_own p (s ∷ ss) t h g = ((h.0, g), tt)

-- ---- the sites of a construct's own

module _ (s : Script) (Has : Ty → Type 0) (has : HasWritten s Has) where
  name_own : (o : Option Ty) (p : Place) → HasSites Has (standing (name_site o p ∷ []))
  name_own None p = tt
  name_own (Some t) p = ((has.of_dyn, has.of_dyn), tt)

  operator_own : (o : Sort) (b : Bool) (p : Place) → HasSites Has (standing (operator_sites o b p))
  operator_own equality b p = tt
  operator_own comparison b p = tt
  operator_own arithmetic true p = ((has.of_dyn, has.of_dyn), ((has.of_dyn, has.of_dyn), tt))
  operator_own arithmetic false p = ((has.of_dyn, has.of_dyn), tt)

  at_dyn : (k : Kind) (p : Place) (ss : List Ty) (os : List (Option TypedSite)) → HasSites Has (standing os)
      → HasSites Has (standing (site_at_dyn k p ss ∷ os))
  at_dyn k p [] os h = h
  at_dyn k p (dyn ∷ ss) os h = ((has.of_dyn, has.of_dyn), h)
  at_dyn k p (int ∷ ss) os h = h
  at_dyn k p (bool ∷ ss) os h = h
  at_dyn k p (str ∷ ss) os h = h
  at_dyn k p (nil ∷ ss) os h = h
  at_dyn k p (fun ps r ∷ ss) os h = h
  at_dyn k p (obj fs ∷ ss) os h = h

  call_own : (p : Place) (es : List Expr) (ss ts : List Ty) → HasAll Has ss → HasAll Has ts
      → HasSites Has (standing (call_sites p es ss ts))
  call_own p es [] ts h g = tt
  call_own p es (s ∷ ss) [] h g = tt
  call_own p es (s ∷ ss) (t ∷ ts) h g =
      at_dyn kind.Call p (s ∷ ss) (tested_sites kind.Argument es ss ts) (tested Has kind.Argument es ss ts h.1 g.1)

  called_own : (o : Option ClassDef) (p : Place) (es : List Expr) (ss ts : List Ty) → HasAll Has ss → HasAll Has ts
      → HasSites Has (standing (called_sites o p es ss ts))
  called_own None p es ss ts h g = call_own p es ss ts h g
  called_own (Some d) p es ss ts h g = tt

  write_own : (p : Place) (e : Expr) (ss ts : List Ty) → HasAll Has ss → HasAll Has ts → HasSites Has (standing (write_sites p e ss ts))
  write_own p e [] ts h g = tt
  write_own p e (s ∷ ss) [] h g = tt
  write_own p e (s ∷ ss) (t ∷ ts) h g =
      at_dyn kind.Member p (s ∷ ss) (tested_sites kind.Write (e ∷ []) ss ts) (tested Has kind.Write (e ∷ []) ss ts h.1 g.1)

  pub own_has : (ns : Names) (e : Expr) (ss asks : List Ty) (t : Ty) → HasAll Has ss → HasAll Has asks → Has t
      → HasSites Has (standing (own_sites ns e ss asks t))
  own_has ns (expr.local w) ss asks t h g k = name_own (type_of_name ns.values w.text) w.place
  own_has ns (expr.neg p a) ss asks t h g k = ((has.of_dyn, has.of_dyn), tt)
  own_has ns (expr.binary o p a b) ss asks t h g k = operator_own (sort_of o) (is_dyn_sum o ss) p
  own_has ns (expr.read a w) ss asks t h g k = at_dyn kind.Member w.place ss [] tt
  own_has ns (expr.call p f es) ss asks t h g k = called_own (class_called ns.classes f) p (exprs_list es) ss asks h g
  own_has ns (expr.cast p a e) ss asks t h g k = written_own Has (place_of e) ss t h k
  own_has ns (expr.join p w) ss asks t h g k = ((has.of_dyn, has.of_dyn), tt)
  own_has ns _ ss asks t h g k = tt

  pub line_own : (l : Stmt) (ss asks : List Ty) → HasAll Has ss → HasAll Has asks → HasSites Has (standing (line_sites l ss asks))
  line_own (stmt.give p e) ss asks h g = tested Has kind.Return (returned p e ∷ []) ss asks h g
  line_own (stmt.write o w e) ss asks h g = write_own w.place e ss asks h g
  line_own (stmt.start w p f es) ss asks h g = call_own p (exprs_list es) ss asks h g
  line_own _ ss asks h g = tt

  pub end_own : (b : Bool) (p : Place) (t : Ty) → Has t → HasSites Has (standing (end_of b p t ∷ []))
  end_own true p t h = unless Has (is_static t) (site_from p kind.Return nil t) [] (has.of_nil, h) tt
  end_own false p t h = tt
