-- An expression that has become one with casts has its type there.
use Rattle.std.proofs.Common.{◌≡◌, ℕ, List, [], ◌∷◌, Option, Some, None, slice_get, refl, sym, ◌∙◌, ap, subst, map}
use Rattle.mono_list.proofs.Cases.{some_none}
use Rattle.mono_syntax.specs.declared.cast.CastScript.{CastScript}
use Rattle.mono_syntax.specs.declared.leaf.Kind.TheVariants as kind
use Rattle.mono_syntax.specs.declared.leaf.Word.{Word}
use Rattle.mono_syntax.specs.declared.tree.ClassDef.{ClassDef}
use Rattle.mono_syntax.specs.declared.tree.FuncDef.{FuncDef}
use Rattle.mono_syntax.specs.declared.tree.Script.{Script}
use Rattle.mono_syntax.specs.CastExpr as cast
use Rattle.mono_syntax.specs.CastExpr.{CastExpr}
use Rattle.mono_syntax.specs.CastExprView.{cast_exprs}
use Rattle.mono_syntax.specs.Expr as expr
use Rattle.mono_syntax.specs.Expr.{Expr}
use Rattle.mono_syntax.specs.ExprView.{exprs_list}
use Rattle.mono_syntax.specs.Ty.{Ty, dyn, int, bool, obj, Fields}
use Rattle.mono_tree.specs.CastScripts.{fields_of}
use Rattle.mono_tree.specs.FieldNames.{names_of}
use Rattle.mono_tree.specs.Precise.{below_dyn}
use Rattle.mono_tree.specs.Sites.{IsSite}
use Rattle.mono_tree.specs.TypedPrograms.{Scope, type_of_name, HasStaticType, IsOfType, FieldArguments, NewUse}
use Rattle.mono_tree.proofs.Order.{reflexive}
use Rattle.script_rules.specs.Definitions.{class_named, function_named}
use Rattle.script_rules.specs.Scoping.{class_list, function_list}
use Rattle.script_rules.specs.SourceCasts.{BecomeClasses}
use Rattle.script_rules.specs.SourcePlaces.{place_of}
use Rattle.script_rules.specs.Writes.{in_order, Declares, IsFunctionType}
use Rattle.script_shape.specs.Shapes.{IsShapedExpr}
use Rattle.static_types.specs.declared.rule.Rule.{Rule}
use Rattle.static_types.specs.Members.{member_type}
use Rattle.static_types.specs.Names.{Names, IsNamed, IsFunctionNamed}
use Rattle.static_types.specs.Operators.{sort_of, is_dyn_sum}
use Rattle.static_types.specs.Parts.{call_parts, parts}
use Rattle.static_types.specs.Rules.{takes, member_of, NewRule, CallRule, RuleOf}
use Rattle.static_types.proofs.Writing.{one_declared, function_type_once}
use Rattle.cast_rules.specs.declared.site.TypedSite.{TypedSite}
use Rattle.cast_rules.specs.Elaborates.{uses_of, Elaborates, elaborates, ElaborateAll, of_none, of_more}
use Rattle.cast_rules.specs.Nodes as node
use Rattle.cast_rules.specs.Nodes.{named_at, arguments, IsNode}
use Rattle.cast_rules.specs.OwnSites.{name_site, written_site, called_sites, own_sites}
use Rattle.cast_rules.specs.Sites.{plain_site, site_at_dyn, standing, AreSites}
use Rattle.cast_rules.proofs.Defined.{declared_names, class_at, function_at, FoundClass, class_found, AreFunctions, FoundFunction, function_found}
use Rattle.cast_rules.proofs.Extending.{Extends, further, adds, all_extend, uses_extend, Grows, stays_named}
use Rattle.cast_rules.proofs.Ordered.{in_order-has}
use Rattle.cast_rules.proofs.Shaped.{AreShaped, parts_shaped}
use Rattle.cast_rules.proofs.SiteNumbers.{IsNumber, AreNumbers, are_numbers, is_site}
use Rattle.cast_rules.proofs.UsedParts.{AreUsed, AreTyped, of_type, cast_use, uses_typed, one_part, TwoParts, two_parts, operator_use, field_use, given_fields, call_use}

module _ (s : Script) (p : CastScript) (classes_are : BecomeClasses s (class_list s) p.classes) (functions_are : AreFunctions (class_list s) (function_list s) p.functions)
    (all : List TypedSite) (sites : AreSites p.types all p.sites) (scope : Scope) where
  -- what may be named here is of the script, and of the block
  pub record IsKnown (ns : Names) : Type 0 where
    pub classes : ns.classes ≡ class_list s
    pub functions : ns.functions ≡ function_list s
    pub values : ns.values ≡ scope.names
    pub threads : (x : List ℕ) (t : Ty) → type_of_name ns.threads x ≡ Some t → type_of_name scope.threads x ≡ Some t
    pub result : ns.result ≡ scope.result

  pub known_before : (ns ms : Names) → Grows ns ms → IsKnown ms → IsKnown ns
  known_before ns ms g k = record {
    classes = sym g.classes ∙ k.classes;
    functions = sym g.functions ∙ k.functions;
    values = sym g.values ∙ k.values;
    threads = λ x t e. k.threads x t (ap (λ l. type_of_name l x) g.threads ∙ stays_named ns.threads g.more x t e);
    result = sym g.result ∙ k.result;
  }

  -- ---- names

  name_typed : (ns : Names) (w : Word) (k : ℕ) (t : Ty) (o : Option Ty) → IsKnown ns → type_of_name ns.values w.text ≡ o → IsNamed ns o w.text t
      → IsNumber all (Some k) (name_site o w.place) → HasStaticType p scope (cast.local k w.text) t
  name_typed ns w k t None known e h n = some_none (HasStaticType p scope (cast.local k w.text) t) n
  name_typed ns w k t (Some u) known e h n =
      let site : IsSite p k kind.Name = is_site p all sites k (plain_site w.place kind.Name) kind.Name refl n in
      (site, sym (ap (λ l. type_of_name l w.text) known.values) ∙ e ∙ ap Some (sym h))

  function_typed : (ns : Names) (w : Word) (g : ℕ) (t : Ty) (o : Option FuncDef) → IsKnown ns → function_named ns.functions w.text ≡ o
      → named_at (map (λ d. d.name.text) ns.functions) w.text ≡ Some g → IsFunctionNamed ns.classes o t → HasStaticType p scope (cast.function g) t
  function_typed ns w g t None known e f h = absurd h
  function_typed ns w g t (Some d) known e f h =
      let at : slice_get (function_list s) g ≡ Some d = subst (λ (l : List FuncDef). slice_get l g ≡ Some d) known.functions (function_at ns.functions w.text g d e f) in
      let found : FoundFunction (class_list s) p.functions g d = function_found (class_list s) (function_list s) p.functions g d functions_are at in
      let type : IsFunctionType (class_list s) d t = subst (λ (l : List ClassDef). IsFunctionType l d t) known.classes h in
      (found.function, found.at, function_type_once (class_list s) d t found.function.ty type found.type)

  no_name_typed : (ns : Names) (w : Word) (g : ℕ) (t : Ty) (o : Option Ty) → IsKnown ns → named_at (map (λ d. d.name.text) ns.functions) w.text ≡ Some g
      → IsNamed ns o w.text t → IsNumber all None (name_site o w.place) → HasStaticType p scope (cast.function g) t
  no_name_typed ns w g t None known f h n = function_typed ns w g t (function_named ns.functions w.text) known refl f h
  no_name_typed ns w g t (Some u) known f h n = absurd n

  -- ---- parts

  one_used : (e : Expr) (ts : List Ty) (t g : Ty) (d : CastExpr) (r : Rule) → r ≡ takes (t ∷ []) g → AreUsed p scope all sites (e ∷ []) ts r.asks (d ∷ []) → IsOfType p scope d t
  one_used e ts t g d r q u =
      let part = one_part p scope all sites e ts t d (subst (λ (z : Rule). AreUsed p scope all sites (e ∷ []) ts z.asks (d ∷ [])) q u) in
      of_type p scope all sites part.type t d part.used

  two_used : (e f : Expr) (ts : List Ty) (t u g : Ty) (c d : CastExpr) (r : Rule) → r ≡ takes (t ∷ u ∷ []) g → AreUsed p scope all sites (e ∷ f ∷ []) ts r.asks (c ∷ d ∷ [])
      → TwoParts p scope all sites ts t u c d
  two_used e f ts t u g c d r q h = two_parts p scope all sites e f ts t u c d (subst (λ (z : Rule). AreUsed p scope all sites (e ∷ f ∷ []) ts z.asks (c ∷ d ∷ [])) q h)

  gives_is : (r : Rule) (asks : List Ty) (t : Ty) → r ≡ takes asks t → r.gives ≡ t
  gives_is r asks t q = ap (λ (z : Rule). z.gives) q

  read_typed : (e : Expr) (w : Word) (c : CastExpr) (m : Option ℕ) (ts : List Ty) (t : Ty) → member_of ts w.text ≡ Some t → AreUsed p scope all sites (e ∷ []) ts (dyn ∷ []) (c ∷ [])
      → IsNumber all m (site_at_dyn kind.Member w.place ts) → HasStaticType p scope (cast.read m c w.text) t
  read_typed e w c m ts t h u n =
      let part = one_part p scope all sites e ts dyn c u in
      let typed : HasStaticType p scope c part.type = subst (λ (z : Ty). HasStaticType p scope c z) (part.used.same below_dyn) part.used.typed in
      let member : member_type part.type w.text ≡ Some t = sym (ap (λ l. member_of l w.text) part.is) ∙ h in
      let number = subst (λ (l : List Ty). IsNumber all m (site_at_dyn kind.Member w.place l)) part.is n in
      (part.type, typed, field_use p scope all sites part.type [] w.place m w.text t member number)

  written_typed : (e : Expr) (c : CastExpr) (k : ℕ) (ts : List Ty) (t : Ty) → AreUsed p scope all sites (e ∷ []) ts ts (c ∷ [])
      → AreNumbers all (Some k ∷ []) (written_site (place_of e) ts t) → HasStaticType p scope (cast.fit k c) t
  written_typed e c k [] t u n = absurd u
  written_typed e c k (v ∷ []) t u n =
      let typed : HasStaticType p scope c v = subst (λ (z : Ty). HasStaticType p scope c z) (u.0.same (reflexive v)) u.0.typed in
      (v, typed, cast_use p scope all sites k (place_of e) v t n.0)
  written_typed e c k (v ∷ v2 ∷ ts) t u n = absurd u.1

  -- ---- a new object

  new_typed : (ns : Names) (x : List ℕ) (es : List Expr) (d : ClassDef) (n : ℕ) (ts : List Ty) (ds : List CastExpr) (r : Rule) → IsKnown ns → class_named ns.classes x ≡ Some d
      → named_at (map (λ d. d.name.text) ns.classes) x ≡ Some n → NewRule ns.classes d ts r → AreUsed p scope all sites es ts r.asks ds
      → HasStaticType p scope (cast.make n (cast_exprs ds)) r.gives
  new_typed ns x es d n ts ds r known e f h u =
      let at : slice_get (class_list s) n ≡ Some d = subst (λ (l : List ClassDef). slice_get l n ≡ Some d) known.classes (class_at ns.classes x n d e f) in
      let found : FoundClass s p.classes n d = class_found s (class_list s) p.classes n d classes_are at in
      let declares : Declares (class_list s) d.fields h.fields = subst (λ (l : List ClassDef). Declares l d.fields h.fields) known.classes h.declared in
      let same : found.is.type.declared ≡ h.fields = one_declared (class_list s) d.fields found.is.type.declared h.fields found.is.type.fields declares in
      let type : found.class.ty ≡ obj (in_order h.fields) = found.is.type.type ∙ ap (λ (gs : Fields). obj (in_order gs)) same in
      let params : found.class.params ≡ names_of h.fields = found.is.fields ∙ declared_names (class_list s) d.fields h.fields declares in
      let g = given_fields p scope all sites (in_order h.fields) es ts h.fields ds (subst (λ (z : Rule). AreUsed p scope all sites es ts z.asks ds) h.rule u) (in_order-has h.fields) in
      let arguments : FieldArguments (fields_of found.class.ty) found.class.params g.types =
      subst (λ (t : Ty). FieldArguments (fields_of t) found.class.params g.types) (sym type)
      (subst (λ (l : List (List ℕ)). FieldArguments (in_order h.fields) l g.types) (sym params) g.arguments)
      in
      let made : NewUse p n g.types r.gives = record { class = found.class; at = found.at; arguments = arguments; type = ap (λ (z : Rule). z.gives) h.rule ∙ sym type } in
      (g.types, g.typed, made)

  -- ---- each construct

  node_typed : (ns : Names) (e : Expr) (ds : List CastExpr) (ks : List (Option ℕ)) (c : CastExpr) (ts : List Ty) (r : Rule) → IsKnown ns → IsNode ns e ds ks c
      → RuleOf ns e ts r → AreUsed p scope all sites (parts ns.classes e) ts (uses_of e ts r.asks) ds → AreNumbers all ks (own_sites ns e ts r.asks r.gives) → IsShapedExpr e
      → HasStaticType p scope c r.gives
  node_typed ns e ds ks c ts r known node.number rule u n b = (b, gives_is r _ _ rule)
  node_typed ns e ds ks c ts r known node.text rule u n b = gives_is r _ _ rule
  node_typed ns e ds ks c ts r known node.truth rule u n b = gives_is r _ _ rule
  node_typed ns e ds ks c ts r known node.nil rule u n b = gives_is r _ _ rule
  node_typed ns e ds ks c ts r known (node.name {w = w} {k = k}) rule u n b = name_typed ns w k r.gives (type_of_name ns.values w.text) known refl rule.0 n.0
  node_typed ns e ds ks c ts r known (node.function {w = w} {g = g} f) rule u n b = no_name_typed ns w g r.gives (type_of_name ns.values w.text) known f rule.0 n.0
  node_typed ns e ds ks c ts r known (node.neg {p = q} {e = x} {c = d} {k = k}) rule u n b =
      (is_site p all sites k (plain_site q kind.Arithmetic) kind.Arithmetic refl n.0, one_used x ts int int d r rule u, gives_is r _ _ rule)
  node_typed ns e ds ks c ts r known (node.negation {e = x} {c = d}) rule u n b = (one_used x ts bool bool d r rule u, gives_is r _ _ rule)
  node_typed ns e ds ks c ts r known (node.binary {o = o} {p = q} {e = x} {f = y} {c = c1} {d = d1} {k = k} {a = a}) rule u n b =
      let used = subst (λ (z : Rule). AreUsed p scope all sites (x ∷ y ∷ []) ts z.asks (c1 ∷ d1 ∷ [])) rule u in
      operator_use p scope all sites o q x y ts c1 d1 k a r.gives (sort_of o) (is_dyn_sum o ts) refl refl (gives_is r _ _ rule) used n
  node_typed ns e ds ks c ts r known (node.both {e = x} {f = y} {c = c1} {d = d1}) rule u n b =
      let h = two_used x y ts bool bool bool c1 d1 r rule u in
      (of_type p scope all sites h.first bool c1 h.left, of_type p scope all sites h.second bool d1 h.right, gives_is r _ _ rule)
  node_typed ns e ds ks c ts r known (node.either {e = x} {f = y} {c = c1} {d = d1}) rule u n b =
      let h = two_used x y ts bool bool bool c1 d1 r rule u in
      (of_type p scope all sites h.first bool c1 h.left, of_type p scope all sites h.second bool d1 h.right, gives_is r _ _ rule)
  node_typed ns e ds ks c ts r known (node.read {e = x} {w = w} {c = c1} {m = m}) rule u n b =
      read_typed x w c1 m ts r.gives rule.0 (subst (λ (l : List Ty). AreUsed p scope all sites (x ∷ []) ts l (c1 ∷ [])) rule.1 u) n.0
  node_typed ns e ds ks c ts r known (node.make {p = q} {w = w} {es = es} {d = d} {n = m} {cs = cs} {all = made} e1 e2 e3) rule u n b =
      let new = subst (λ (o : Option ClassDef). CallRule ns.classes o ts r) e1 rule in
      let used = subst (λ (o : Option ClassDef). AreUsed p scope all sites (call_parts o (expr.local w) (exprs_list es)) ts r.asks cs) e1 u in
      subst (λ z. HasStaticType p scope (cast.make m z) r.gives) (sym e3) (new_typed ns w.text (exprs_list es) d m ts cs r known e1 e2 new used)
  node_typed ns e ds ks c ts r known (node.call {p = q} {f = f} {es = es} {c = c1} {cs = cs} {k = k} {ks = ks1} {all = args} e1 e2) rule u n b =
      let called = subst (λ (o : Option ClassDef). CallRule ns.classes o ts r) e1 rule in
      let used = subst (λ (o : Option ClassDef). AreUsed p scope all sites (call_parts o f (exprs_list es)) ts r.asks (c1 ∷ cs)) e1 u in
      let numbers = subst (λ (o : Option ClassDef). AreNumbers all (k ∷ ks1) (called_sites o q (exprs_list es) ts r.asks)) e1 n in
      let h = call_use p scope all sites q f (exprs_list es) ts c1 cs k ks1 r called used numbers in
      subst (λ z. HasStaticType p scope (cast.call k c1 z) r.gives) (sym e2) (h.callee, h.types, h.called, h.given, h.made)
  node_typed ns e ds ks c ts r known (node.written {p = q} {a = a} {e = x} {c = c1} {k = k}) rule u n b = written_typed x c1 k ts r.gives u n
  node_typed ns e ds ks c ts r known (node.join {p = q} {w = w} {k = k}) rule u n b =
      (is_site p all sites k (plain_site w.place kind.Name) kind.Name refl n.0, known.threads w.text r.gives rule.0)

  mutual
    pub expr_typed : (ns : Names) (ss us : List TypedSite) (e : Expr) (t : Ty) (c : CastExpr) → IsKnown ns → Elaborates ns ss e t c us → IsShapedExpr e → Extends us all
        → HasStaticType p scope c t
    expr_typed ns ss us e t c known (elaborates {us = vs} {vs = ws} {ts = ts} {cs = cs} {ds = ds} {ks = ks} r g rule h q u n m a) b f =
        let end = further (adds (standing (own_sites ns e ts r.asks t)) a) f in
        let behind = further (uses_extend vs ws (parts ns.classes e) ts (uses_of e ts r.asks) cs ds u) end in
        let typed = all_typed ns ss vs (parts ns.classes e) ts cs known g (parts_shaped ns.classes e b) behind in
        let used = uses_typed p scope all sites vs ws (parts ns.classes e) ts (uses_of e ts r.asks) cs ds u end typed in
        let numbers = are_numbers ws (own_sites ns e ts r.asks t) all (subst (λ (l : List TypedSite). Extends l all) a f) in
        let own = subst (λ (l : List (Option ℕ)). AreNumbers all l (own_sites ns e ts r.asks t)) (sym n) numbers in
        let given = subst (λ (z : Ty). AreNumbers all ks (own_sites ns e ts r.asks z)) q own in
        subst (λ (z : Ty). HasStaticType p scope c z) (sym q) (node_typed ns e ds ks c ts r known m rule used given b)

    pub all_typed : (ns : Names) (ss us : List TypedSite) (es : List Expr) (ts : List Ty) (cs : List CastExpr) → IsKnown ns → ElaborateAll ns ss es ts cs us → AreShaped es
        → Extends us all → AreTyped p scope all sites ts cs
    all_typed ns ss us es ts cs known of_none b f = tt
    all_typed ns ss us es ts cs known (of_more {us = vs} {e = e} {es = es1} {t = t} {ts = ts1} {c = c} {cs = cs1} g h) b f =
        (expr_typed ns ss vs e t c known g b.0 (further (all_extend ns vs us es1 ts1 cs1 h) f), all_typed ns vs us es1 ts1 cs1 known h b.1 f)
