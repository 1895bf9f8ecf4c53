-- An expression with its casts is its source with casts added, each site at its construct.
use Rattle.std.proofs.Common.{◌≡◌, inl, ℕ, suc, ◌+◌, ◌<◌, List, [], ◌∷◌, ◌++◌, Bool, true, false, length, map, Option, Some, None, slice_get, refl, sym, ◌∙◌, ap, subst, arith, bytes_eq, if◌then◌else◌}
use Rattle.std.specs.Option.{option_map}
use Rattle.std.proofs.lemmas.List.{length-append}
use Rattle.mono_list.proofs.Cases.{split, some_is, none_some, some_none}
use Rattle.mono_syntax.specs.Limits.{most_arguments}
use Rattle.mono_syntax.specs.declared.cast.CastScript.{CastScript}
use Rattle.mono_syntax.specs.declared.leaf.Kind.{Kind}
use Rattle.mono_syntax.specs.declared.leaf.Kind.TheVariants as kind
use Rattle.mono_syntax.specs.declared.leaf.Place.{Place}
use Rattle.mono_syntax.specs.declared.leaf.Site.{Site}
use Rattle.mono_syntax.specs.declared.leaf.Word.{Word}
use Rattle.mono_syntax.specs.declared.refusal.Reason.TheVariants.{TooManyArguments}
use Rattle.mono_syntax.specs.declared.tree.ClassDef.{ClassDef}
use Rattle.mono_syntax.specs.declared.tree.FuncDef.{FuncDef}
use Rattle.mono_syntax.specs.declared.tree.Script.{Script}
use Rattle.mono_syntax.specs.Ann.{Ann}
use Rattle.mono_syntax.specs.CastExpr as cast
use Rattle.mono_syntax.specs.CastExpr.{CastExpr, CastExprs, Args}
use Rattle.mono_syntax.specs.CastExprView.{cast_exprs}
use Rattle.mono_syntax.specs.Expr as expr
use Rattle.mono_syntax.specs.Expr.{Expr, Exprs}
use Rattle.mono_syntax.specs.ExprView.{exprs_list}
use Rattle.mono_syntax.specs.Ty.{Ty, dyn, int, bool, str, nil, fun, obj}
use Rattle.mono_tree.specs.CastScripts.{target_in, target_of}
use Rattle.mono_tree.specs.Precise.{Precise}
use Rattle.mono_tree.specs.Static.{is_static}
use Rattle.mono_tree.specs.TypedPrograms.{type_of_name}
use Rattle.mono_tree.proofs.MeetMade.{name_read}
use Rattle.mono_tree.proofs.PreciseTest.{precise-Decides}
use Rattle.mono_tree.proofs.TypeLaws.{precise_refl}
use Rattle.script_rules.specs.ScopeFaults.{IsRight}
use Rattle.script_rules.specs.Scoping.{class_list, function_list}
use Rattle.script_rules.specs.SizeFaults.{many_arguments}
use Rattle.script_rules.specs.SourceCasts as source
use Rattle.script_rules.specs.SourceCasts.{IsSiteAt, IsAnySiteAt, casts_in, IsCastRound, IsClassAt, IsFunctionAt, WritesTarget, IsFewArguments, Becomes, IsBuilt, BecomeAll, all_none, all_more, BecomeArguments, arguments_none, arguments_more}
use Rattle.script_rules.specs.SourceParts.{argument_list, count_of_exprs, expr_parts, parts_of}
use Rattle.script_rules.specs.SourcePlaces.{place_of}
use Rattle.script_rules.specs.Writes.{Writes}
use Rattle.static_types.specs.Names.{Names}
use Rattle.static_types.specs.Operators.{Sort, arithmetic, comparison, equality, sort_of, is_dyn_sum}
use Rattle.static_types.specs.Parts.{class_called, call_parts, parts}
use Rattle.static_types.specs.declared.rule.Rule.{Rule}
use Rattle.static_types.specs.Rules.{RuleOf}
use Rattle.class_types.proofs.OrderLaws.{In, in-contains}
use Rattle.cast_rules.specs.declared.site.TypedSite.{TypedSite}
use Rattle.cast_rules.specs.Elaborates.{Uses, as_it_is, with_cast, UsesEach, uses_none, uses_more, uses_of, Elaborates, elaborates, ElaborateAll, of_none, of_more}
use Rattle.cast_rules.specs.Nodes as node
use Rattle.cast_rules.specs.Nodes.{named_at, arguments, IsNode}
use Rattle.cast_rules.specs.OwnSites.{name_site, operator_sites, written_site, call_sites, called_sites, own_sites}
use Rattle.cast_rules.specs.Sites.{site_from, plain_site, site_unless, tested_site, tested_sites, site_at_dyn, standing, numbered, AreSites}
use Rattle.cast_rules.proofs.Extending.{Extends, further, adds, use_extends, uses_extend, all_extend}
use Rattle.cast_rules.proofs.SiteNumbers.{stands, IsNumber, AreNumbers, are_numbers, found_site}
use Rattle.cast_rules.proofs.CastNumbers.{AllBelow, below_more, below_contains, EachBelow, each_more, NumbersBelow, numbers_below, extends_length, node_below}
use Rattle.cast_rules.proofs.PartsStand.{AllStand, parts_stand}
use Rattle.cast_rules.proofs.RightTypes.{Stand}

-- ---- by name

-- what has this name, by its number
named_found : {A : Type 0} (name : A → List ℕ) (xs : List A) (x : List ℕ) (n : ℕ) → named_at (map name xs) x ≡ Some n → (d : A) × (slice_get xs n ≡ Some d) × (name d ≡ x)
named_found name [] x n e = none_some _ e
named_found {A} name (k ∷ xs) x n e =
    split (bytes_eq (name k) x)
    (λ b. (if b then Some 0 else option_map (λ k. k + 1) (named_at (map name xs) x)) ≡ Some n → (d : A) × (slice_get (k ∷ xs) n ≡ Some d) × (name d ≡ x))
    (λ t f. (k, subst (λ (z : ℕ). slice_get (k ∷ xs) z ≡ Some k) (some_is f) refl, name_read (name k) x t))
    (λ _ f. behind (named_at (map name xs) x) (λ m q. named_found name xs x m q) f)
    e
  where
    behind : (o : Option ℕ) → ((m : ℕ) → o ≡ Some m → (d : A) × (slice_get xs m ≡ Some d) × (name d ≡ x)) → option_map (λ k. k + 1) o ≡ Some n
        → (d : A) × (slice_get (k ∷ xs) n ≡ Some d) × (name d ≡ x)
    behind None h f = none_some _ f
    behind (Some m) h f =
        let r = h m refl in
        let is : suc m ≡ n = omega (arith, some_is f) in
        (r.0, subst (λ (z : ℕ). slice_get (k ∷ xs) z ≡ Some r.0) is r.1, r.2)

-- ---- where a site is, if it stands

abbrev pub IsAt : Place → Kind → Option TypedSite → Type 0
IsAt q k None = Unit {0}
IsAt q k (Some f) = (f.place ≡ q) × (f.kind ≡ k)

pub dyn_at : (k : Kind) (q : Place) (ss : List Ty) → IsAt q k (site_at_dyn k q ss)
dyn_at k q [] = tt
dyn_at k q (dyn ∷ ss) = (refl, refl)
dyn_at k q (int ∷ ss) = tt
dyn_at k q (bool ∷ ss) = tt
dyn_at k q (str ∷ ss) = tt
dyn_at k q (nil ∷ ss) = tt
dyn_at k q (fun ps r ∷ ss) = tt
dyn_at k q (obj fs ∷ ss) = tt

unless_at : (b : Bool) (q : Place) (k : Kind) (s t : Ty) → IsAt q k (site_unless b (site_from q k s t))
unless_at true q k s t = tt
unless_at false q k s t = (refl, refl)

pub tested_at : (k : Kind) (q : Place) (s t : Ty) → IsAt q k (tested_site k q s t)
tested_at k q s t = unless_at (is_static t) q k s t

-- what may be named are the script's classes and functions
pub record IsOfScript (s : Script) (ns : Names) : Type 0 where
  pub classes : ns.classes ≡ class_list s
  pub functions : ns.functions ≡ function_list s

module _ (s : Script) (right : IsRight s) (p : CastScript) (all : List TypedSite) (sites : AreSites p.types all p.sites) where
  pub site_stands : (k : ℕ) (f : TypedSite) → slice_get all k ≡ Some f → IsSiteAt p k f.place f.kind
  site_stands k f e = let r = found_site p.types all p.sites k f sites e in record { site = r.site; at = r.at; place = r.is.place; kind = r.is.kind }

  pub any_site : (k : Option ℕ) (o : Option TypedSite) (q : Place) (x : Kind) → IsNumber all k o → IsAt q x o → IsAnySiteAt p k q x
  any_site None None q x h g = tt
  any_site (Some n) None q x h g = some_none (IsSiteAt p n q x) h
  any_site None (Some f) q x h g = absurd h
  any_site (Some n) (Some f) q x h g = let r = site_stands n f h in record { site = r.site; at = r.at; place = r.place ∙ g.0; kind = r.kind ∙ g.1 }

  name_at : (o : Option Ty) (k : ℕ) (q : Place) → IsNumber all (Some k) (name_site o q) → IsSiteAt p k q kind.Name
  name_at None k q h = some_none (IsSiteAt p k q kind.Name) h
  name_at (Some t) k q h = site_stands k (plain_site q kind.Name) h

  operator_at : (o : Sort) (b : Bool) (q : Place) (k a : Option ℕ) → AreNumbers all (k ∷ a ∷ []) (operator_sites o b q)
      → IsAnySiteAt p k q kind.Operator × IsAnySiteAt p a q kind.Arithmetic
  operator_at equality b q k a h = (any_site k None q kind.Operator h.0 tt, any_site a None q kind.Arithmetic (h.1).0 tt)
  operator_at comparison b q k a h = (any_site k None q kind.Operator h.0 tt, any_site a None q kind.Arithmetic (h.1).0 tt)
  operator_at arithmetic true q k a h =
      (any_site k (Some (plain_site q kind.Operator)) q kind.Operator h.0 (refl, refl), any_site a (Some (plain_site q kind.Arithmetic)) q kind.Arithmetic (h.1).0 (refl, refl))
  operator_at arithmetic false q k a h = (any_site k None q kind.Operator h.0 tt, any_site a (Some (plain_site q kind.Arithmetic)) q kind.Arithmetic (h.1).0 (refl, refl))

  -- ---- parts that are used

  -- the part has become this, and it has no cast round it where none had to stand
  abbrev pub PartBecomes : Expr → Ty → Ty → CastExpr → Type 0
  PartBecomes e u t d = Becomes s p e d × (Precise u t → IsBuilt s p e d)

  abbrev pub EachBecomes : List Expr → List Ty → List Ty → List CastExpr → Type 0
  EachBecomes [] [] [] [] = Unit {0}
  EachBecomes (e ∷ es) (u ∷ us) (t ∷ ts) (d ∷ ds) = PartBecomes e u t d × EachBecomes es us ts ds
  EachBecomes _ _ _ _ = ⊥

  abbrev EachBuilt : List Expr → List CastExpr → Type 0
  EachBuilt [] [] = Unit {0}
  EachBuilt (e ∷ es) (c ∷ cs) = IsBuilt s p e c × EachBuilt es cs
  EachBuilt _ _ = ⊥

  pub use_becomes : (ss us : List TypedSite) (e : Expr) (u t : Ty) (c d : CastExpr) → Uses ss (place_of e) u c t d us → Extends us all → IsBuilt s p e c
      → AllBelow (length ss) (casts_in c) → PartBecomes e u t d × AllBelow (length us) (casts_in d)
  use_becomes ss us e u t c d (as_it_is h) f b l = ((source.as_it_is b, λ _. b), l)
  use_becomes ss us e u t c d (with_cast {n = n} h m q) f b l =
      let x = site_from (place_of e) kind.Cast u t in
      let at = stands ss x [] all (subst (λ (xs : List TypedSite). Extends xs all) q f) in
      let round : IsCastRound p n e c = record {
        site = site_stands n x (subst (λ (z : ℕ). slice_get all z ≡ Some x) (sym m) at);
        inner_first = λ j i. subst (λ (z : ℕ). j < z) (sym m) (below_contains (length ss) (casts_in c) l j i);
      } in
      let more : length us ≡ length ss + 1 = ap (λ (xs : List TypedSite). length xs) q ∙ length-append ss (x ∷ []) in
      ((source.with_cast b round, λ k. absurd (h k)), (omega (arith, more, m), below_more (length ss) (length us) (casts_in c) (omega (arith, more)) l))

  pub uses_become : (ss us : List TypedSite) (es : List Expr) (ts asks : List Ty) (cs ds : List CastExpr) → UsesEach ss es ts cs asks ds us → Extends us all → EachBuilt es cs
      → EachBelow (length ss) cs → EachBecomes es ts asks ds × EachBelow (length us) ds
  uses_become ss us es ts asks cs ds uses_none f b l = (tt, tt)
  uses_become ss us es ts asks cs ds (uses_more {us = vs} {e = e} {es = es1} {s = u} {t = t} {ts = ts1} {asks = asks1} {c = c} {d = d} {cs = cs1} {ds = ds1} g k) f b l =
      let rest = uses_extend vs us es1 ts1 asks1 cs1 ds1 k in
      let first = use_becomes ss vs e u t c d g (further rest f) b.0 l.0 in
      let longer = extends_length ss vs (use_extends ss vs (place_of e) u t c d g) in
      let others = uses_become vs us es1 ts1 asks1 cs1 ds1 k f b.1 (each_more (length ss) (length vs) cs1 longer l.1) in
      ((first.0, others.0), (below_more (length vs) (length us) (casts_in d) (extends_length vs us rest) first.1, others.1))

  -- ---- arguments

  pub few_arguments : (q : Place) (es : Exprs) → In (argument_list q es) (parts_of s.items) → IsFewArguments es
  few_arguments q es h =
      let n : most_arguments < count_of_exprs es → ⊥ =
      λ more. right.sizes q TooManyArguments (many_arguments (record { place = q; count = count_of_exprs es }) (in-contains (argument_list q es) (parts_of s.items) h) more refl) in
      omega (arith, n)

  pub all_become : (es : Exprs) (us ts : List Ty) (ds : List CastExpr) → EachBecomes (exprs_list es) us ts ds → BecomeAll s p es (cast_exprs ds)
  all_become expr.no_exprs [] [] [] h = all_none
  all_become (expr.more_exprs e es) (u ∷ us) (t ∷ ts) (d ∷ ds) h = all_more (h.0).0 (all_become es us ts ds h.1)
  all_become _ _ _ _ h = absurd h

  pub arguments_become : (es : Exprs) (us ts : List Ty) (ds : List CastExpr) (ks : List (Option ℕ)) → EachBecomes (exprs_list es) us ts ds
      → AreNumbers all ks (tested_sites kind.Argument (exprs_list es) us ts) → BecomeArguments s p es (arguments ks ds)
  arguments_become expr.no_exprs [] [] [] [] h n = arguments_none
  arguments_become expr.no_exprs [] [] [] (k ∷ ks) h n = absurd n
  arguments_become (expr.more_exprs e es) (u ∷ us) (t ∷ ts) (d ∷ ds) [] h n = absurd n
  arguments_become (expr.more_exprs e es) (u ∷ us) (t ∷ ts) (d ∷ ds) (k ∷ ks) h n =
      arguments_more (h.0).0 (any_site k (tested_site kind.Argument (place_of e) u t) (place_of e) kind.Argument n.0 (tested_at kind.Argument (place_of e) u t))
      (arguments_become es us ts ds ks h.1 n.1)
  arguments_become _ _ _ _ _ h n = absurd h

  -- the callee and the arguments of a call
  pub record IsCalled (q : Place) (f : Expr) (es : Exprs) (c : CastExpr) (k : Option ℕ) (args : Args) : Type 0 where
    pub callee : Becomes s p f c
    pub arguments : BecomeArguments s p es args
    pub site : IsAnySiteAt p k q kind.Call

  pub is_called : (q : Place) (f : Expr) (es : Exprs) (us ts : List Ty) (c : CastExpr) (cs : List CastExpr) (k : Option ℕ) (ks : List (Option ℕ))
      → EachBecomes (f ∷ exprs_list es) us ts (c ∷ cs) → AreNumbers all (k ∷ ks) (call_sites q (exprs_list es) us ts) → IsCalled q f es c k (arguments ks cs)
  is_called q f es (u ∷ us) (t ∷ ts) c cs k ks h n = record {
    callee = (h.0).0;
    arguments = arguments_become es us ts cs ks h.1 n.1;
    site = any_site k (site_at_dyn kind.Call q (u ∷ us)) q kind.Call n.0 (dyn_at kind.Call q (u ∷ us));
  }
  is_called q f es [] ts c cs k ks h n = absurd h
  is_called q f es (u ∷ us) [] c cs k ks h n = absurd h

  -- ---- a written cast

  written_built : (q : Place) (a : Ann) (e : Expr) (c : CastExpr) (k m : ℕ) (ts : List Ty) (t : Ty) → EachBecomes (e ∷ []) ts ts (c ∷ []) → AllBelow m (casts_in c)
      → Writes (class_list s) a t → AreNumbers all (Some k ∷ []) (written_site (place_of e) ts t) → Some k ∷ [] ≡ numbered m (written_site (place_of e) ts t)
      → IsBuilt s p (expr.cast q a e) (cast.fit k c)
  written_built q a e c k m [] t h l w n same = absurd h
  written_built q a e c k m (u ∷ []) t h l w n same =
      let x = site_from (place_of e) kind.Cast u t in
      let is : k ≡ m = cc in
      let r = found_site p.types all p.sites k x sites n.0 in
      let round : IsCastRound p k e c = record {
        site = site_stands k x n.0;
        inner_first = λ j i. subst (λ (z : ℕ). j < z) (sym is) (below_contains m (casts_in c) l j i);
      } in
      let target : target_of p k ≡ Some t = ap (λ (o : Option Site). target_in p o) r.at ∙ r.is.target in
      source.of_cast ((h.0).1 ((precise-Decides u u).0 (precise_refl u))) round (record { type = t; written = w; target = target })
  written_built q a e c k m (u ∷ v ∷ ts) t h l w n same = absurd h.1

  -- two parts
  pair : (e f : Expr) (us ts : List Ty) (c d : CastExpr) → EachBecomes (e ∷ f ∷ []) us ts (c ∷ d ∷ []) → Becomes s p e c × Becomes s p f d
  pair e f (u ∷ v ∷ us) (t ∷ w ∷ ts) c d h = ((h.0).0, ((h.1).0).0)
  pair e f [] ts c d h = absurd h
  pair e f (u ∷ us) [] c d h = absurd h
  pair e f (u ∷ []) (t ∷ ts) c d h = absurd h.1
  pair e f (u ∷ v ∷ us) (t ∷ []) c d h = absurd h.1

  pub single : (e : Expr) (us ts : List Ty) (c : CastExpr) → EachBecomes (e ∷ []) us ts (c ∷ []) → Becomes s p e c
  single e (u ∷ us) (t ∷ ts) c h = (h.0).0
  single e [] ts c h = absurd h
  single e (u ∷ us) [] c h = absurd h

  -- ---- a construct over its parts

  module _ (ns : Names) (names : IsOfScript s ns) where
    new_built : (q : Place) (w : Word) (es : Exprs) (d : ClassDef) (n : ℕ) (us ts : List Ty) (ds : List CastExpr) → class_called ns.classes (expr.local w) ≡ Some d
        → named_at (map (λ d. d.name.text) ns.classes) w.text ≡ Some n → EachBecomes (call_parts (class_called ns.classes (expr.local w)) (expr.local w) (exprs_list es)) us ts ds
        → In (argument_list q es) (parts_of s.items) → IsBuilt s p (expr.call q (expr.local w) es) (cast.make n (cast_exprs ds))
    new_built q w es d n us ts ds e f h i =
        let r = named_found (λ (d : ClassDef). d.name.text) (class_list s) w.text n (subst (λ (cs : List ClassDef). named_at (map (λ d. d.name.text) cs) w.text ≡ Some n) names.classes f) in
        let inside = subst (λ (o : Option ClassDef). EachBecomes (call_parts o (expr.local w) (exprs_list es)) us ts ds) e h in
        source.of_new (record { class = r.0; at = r.1; name = r.2 }) (few_arguments q es i) (all_become es us ts ds inside)

    call_built : (q : Place) (f : Expr) (es : Exprs) (us ts : List Ty) (c : CastExpr) (cs : List CastExpr) (k : Option ℕ) (ks : List (Option ℕ)) → class_called ns.classes f ≡ None
        → EachBecomes (call_parts (class_called ns.classes f) f (exprs_list es)) us ts (c ∷ cs) → AreNumbers all (k ∷ ks) (called_sites (class_called ns.classes f) q (exprs_list es) us ts)
        → In (argument_list q es) (parts_of s.items) → IsBuilt s p (expr.call q f es) (cast.call k c (arguments ks cs))
    call_built q f es us ts c cs k ks e h n i =
        let inside = subst (λ (o : Option ClassDef). EachBecomes (call_parts o f (exprs_list es)) us ts (c ∷ cs)) e h in
        let numbers = subst (λ (o : Option ClassDef). AreNumbers all (k ∷ ks) (called_sites o q (exprs_list es) us ts)) e n in
        let r = is_called q f es us ts c cs k ks inside numbers in
        source.of_call r.callee (few_arguments q es i) r.arguments r.site

    node_built : (e : Expr) (ts asks : List Ty) (t : Ty) (ds : List CastExpr) (ks : List (Option ℕ)) (c : CastExpr) (m : ℕ) (r : Rule) → IsNode ns e ds ks c
        → AreNumbers all ks (own_sites ns e ts asks t) → ks ≡ numbered m (own_sites ns e ts asks t) → EachBecomes (parts ns.classes e) ts (uses_of e ts asks) ds
        → EachBelow m ds → Stand s (expr_parts e) → RuleOf ns e ts r → t ≡ r.gives → IsBuilt s p e c
    node_built e ts asks t ds ks c m r node.number n same h l st rule q = source.of_number
    node_built e ts asks t ds ks c m r node.text n same h l st rule q = source.of_text
    node_built e ts asks t ds ks c m r node.truth n same h l st rule q = source.of_truth
    node_built e ts asks t ds ks c m r node.nil n same h l st rule q = source.of_nil
    node_built e ts asks t ds ks c m r (node.name {w = w} {k = k}) n same h l st rule q = source.of_name (name_at (type_of_name ns.values w.text) k w.place n.0)
    node_built e ts asks t ds ks c m r (node.function {w = w} {g = g} f) n same h l st rule q =
        let x = named_found (λ (d : FuncDef). d.name.text) (function_list s) w.text g (subst (λ (fs : List FuncDef). named_at (map (λ d. d.name.text) fs) w.text ≡ Some g) names.functions f) in
        source.of_function (record { function = x.0; at = x.1; name = x.2 })
    node_built e ts asks t ds ks c m r (node.neg {p = a} {e = e1} {c = c1} {k = k}) n same h l st rule q = source.of_neg (single e1 ts asks c1 h) (site_stands k (plain_site a kind.Arithmetic) n.0)
    node_built e ts asks t ds ks c m r (node.negation {e = e1} {c = c1}) n same h l st rule q = source.of_not (single e1 ts asks c1 h)
    node_built e ts asks t ds ks c m r (node.binary {o = o} {p = a} {e = e1} {f = e2} {c = c1} {d = c2} {k = k} {a = b}) n same h l st rule q =
        let x = pair e1 e2 ts asks c1 c2 h in
        let y = operator_at (sort_of o) (is_dyn_sum o ts) a k b n in
        source.of_binary x.0 x.1 y.0 y.1
    node_built e ts asks t ds ks c m r (node.both {e = e1} {f = e2} {c = c1} {d = c2}) n same h l st rule q = let x = pair e1 e2 ts asks c1 c2 h in source.of_both x.0 x.1
    node_built e ts asks t ds ks c m r (node.either {e = e1} {f = e2} {c = c1} {d = c2}) n same h l st rule q = let x = pair e1 e2 ts asks c1 c2 h in source.of_either x.0 x.1
    node_built e ts asks t ds ks c m r (node.read {e = e1} {w = w} {c = c1} {m = k}) n same h l st rule q =
        source.of_read (single e1 ts asks c1 h) (any_site k (site_at_dyn kind.Member w.place ts) w.place kind.Member n.0 (dyn_at kind.Member w.place ts))
    node_built e ts asks t ds ks c m r (node.make {p = a} {w = w} {es = es} {d = d} {n = i} f g z) n same h l st rule q =
        subst (λ (x : CastExprs). IsBuilt s p (expr.call a (expr.local w) es) (cast.make i x)) (sym z) (new_built a w es d i ts asks ds f g h (st (argument_list a es) (inl refl)))
    node_built e ts asks t ds ks c m r (node.call {p = a} {f = f} {es = es} {c = c1} {cs = cs} {k = k} {ks = ks1} g z) n same h l st rule q =
        subst (λ (x : Args). IsBuilt s p (expr.call a f es) (cast.call k c1 x)) (sym z) (call_built a f es ts asks c1 cs k ks1 g h n (st (argument_list a es) (inl refl)))
    node_built e ts asks t ds ks c m r (node.written {p = a} {a = written} {e = e1} {c = c1} {k = k}) n same h l st rule q =
        let writes : Writes (class_list s) written t = subst (λ (z : Ty). Writes (class_list s) written z) (sym q) (subst (λ (cs : List ClassDef). Writes cs written r.gives) names.classes rule.0) in
        written_built a written e1 c1 k m ts t h l.0 writes n same
    node_built e ts asks t ds ks c m r (node.join {w = w} {k = k}) n same h l st rule q = source.of_join (site_stands k (plain_site w.place kind.Name) n.0)

    -- ---- expressions

    mutual
      pub expr_built : (ss us : List TypedSite) (e : Expr) (t : Ty) (c : CastExpr) → Elaborates ns ss e t c us → Stand s (expr_parts e) → Extends us all
          → IsBuilt s p e c × AllBelow (length us) (casts_in c)
      expr_built ss us e t c (elaborates {us = vs} {vs = ws} {ts = ts} {cs = cs} {ds = ds} {ks = ks} r g rule h q u n node a) st f =
          let own = own_sites ns e ts r.asks t in
          let here : Extends (ws ++ standing own) all = subst (λ (xs : List TypedSite). Extends xs all) a f in
          let front : Extends ws all = further (adds (standing own) refl) here in
          let behind = uses_extend vs ws (parts ns.classes e) ts (uses_of e ts r.asks) cs ds u in
          let inside = all_built ss vs (parts ns.classes e) ts cs g (parts_stand s ns.classes e st) (further behind front) in
          let used = uses_become vs ws (parts ns.classes e) ts (uses_of e ts r.asks) cs ds u front inside.0 inside.1 in
          let numbers : AreNumbers all ks own = subst (λ (l : List (Option ℕ)). AreNumbers all l own) (sym n) (are_numbers ws own all here) in
          let long : length us ≡ length ws + length (standing own) = ap (λ (xs : List TypedSite). length xs) a ∙ length-append ws (standing own) in
          let below : NumbersBelow (length us) ks = subst (λ (m : ℕ). NumbersBelow m ks) (sym long)
          (subst (λ (l : List (Option ℕ)). NumbersBelow (length ws + length (standing own)) l) (sym n) (numbers_below (length ws) own)) in
          let casts = each_more (length ws) (length us) ds (omega (arith, long)) used.1 in
          (node_built e ts r.asks t ds ks c (length ws) r node numbers n used.0 used.1 st rule q, node_below (length us) ns e ds ks c node casts below)

      pub all_built : (ss us : List TypedSite) (es : List Expr) (ts : List Ty) (cs : List CastExpr) → ElaborateAll ns ss es ts cs us → AllStand s es → Extends us all
          → EachBuilt es cs × EachBelow (length us) cs
      all_built ss us es ts cs of_none st f = (tt, tt)
      all_built ss us es ts cs (of_more {us = vs} {e = e} {es = es1} {t = t} {ts = ts1} {c = c} {cs = cs1} g h) st f =
          let rest = all_extend ns vs us es1 ts1 cs1 h in
          let first = expr_built ss vs e t c g st.0 (further rest f) in
          let others = all_built vs us es1 ts1 cs1 h st.1 f in
          ((first.0, others.0), (below_more (length vs) (length us) (casts_in c) (extends_length vs us rest) first.1, others.1))
