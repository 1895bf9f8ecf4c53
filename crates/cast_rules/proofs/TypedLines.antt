-- A statement that has become one with casts is well typed there.
use Rattle.std.proofs.Common.{◌≡◌, ℕ, List, [], ◌∷◌, Bool, Option, Some, None, refl, sym, ◌∙◌, ap, subst, if◌then◌else◌}
use Rattle.std.proofs.lemmas.Slice.Eq.{bytes_eq-Decides}
use Rattle.mono_syntax.specs.declared.cast.CastScript.{CastScript}
use Rattle.mono_syntax.specs.declared.leaf.Kind.TheVariants as kind
use Rattle.mono_syntax.specs.declared.leaf.Place.{Place}
use Rattle.mono_syntax.specs.declared.leaf.Word.{Word}
use Rattle.mono_syntax.specs.declared.tree.Script.{Script}
use Rattle.mono_syntax.specs.CastExpr.{CastExpr}
use Rattle.mono_syntax.specs.CastStmt as cast_stmt
use Rattle.mono_syntax.specs.CastStmt.{CastStmt, CastBlock, CastBranches, CastElse}
use Rattle.mono_syntax.specs.Expr.{Expr}
use Rattle.mono_syntax.specs.ExprView.{exprs_list}
use Rattle.mono_syntax.specs.Stmt.{Stmt, Block, Branches, Else}
use Rattle.mono_syntax.specs.Ty.{Ty, dyn, bool}
use Rattle.mono_tree.specs.Precise.{below_dyn}
use Rattle.mono_tree.specs.TypedPrograms.{Scope, type_of_name, HasStaticType, IsOfType, StoreUse, ReturnUse, WriteUse, HasBranch, IsWellTypedStatement, IsWellTypedBlock, AreWellTypedBranches, IsWellTypedElse}
use Rattle.script_rules.specs.Scoping.{class_list, function_list}
use Rattle.script_rules.specs.SourceCasts.{BecomeClasses}
use Rattle.script_rules.specs.SourcePlaces.{place_of}
use Rattle.script_shape.specs.Shapes.{IsShapedExpr, IsBranched, IsShapedStmt, IsShapedBlock, AreShapedBranches, IsShapedElse}
use Rattle.static_types.specs.Lines.{line_parts, AssignRule, WriteRule, ReturnRule, StartRule, LineRule}
use Rattle.script_rules.specs.SourceCasts.{returned}
use Rattle.static_types.specs.Members.{member_type}
use Rattle.static_types.specs.Names.{Names}
use Rattle.static_types.specs.Rules.{member_of}
use Rattle.cast_rules.specs.declared.site.TypedSite.{TypedSite}
use Rattle.cast_rules.specs.ElaboratesLines.{ElaboratesLine, line, branches, loops, ElaboratesGuarded, guards, ElaborateBranches, no_branch, next_branch, ElaboratesElse, no_last, at_last, ElaboratesBlock, ends, goes_on}
use Rattle.cast_rules.specs.Nodes as node
use Rattle.cast_rules.specs.Nodes.{IsLineNode}
use Rattle.cast_rules.specs.OwnSites.{write_sites, call_sites, line_sites}
use Rattle.cast_rules.specs.Sites.{tested_sites, standing, AreSites}
use Rattle.cast_rules.proofs.Defined.{AreFunctions}
use Rattle.cast_rules.proofs.Extending.{Extends, further, adds, use_extends, uses_extend, named_behind, line_goes, branches_go, else_goes, block_goes}
use Rattle.cast_rules.proofs.Shaped.{line_shaped}
use Rattle.cast_rules.proofs.Standing.{cons_head, cons_tail}
use Rattle.cast_rules.proofs.SiteNumbers.{AreNumbers, are_numbers}
use Rattle.cast_rules.proofs.TypedNodes.{IsKnown, known_before, expr_typed, all_typed}
use Rattle.cast_rules.proofs.UsedParts.{IsUsed, AreUsed, of_type, use_typed, uses_typed, one_part, two_parts, stands_unless, field_use, given, call_use}

just_named : (x : List ℕ) (t : Ty) → type_of_name (record { name = x; ty = t } ∷ []) x ≡ Some t
just_named x t = subst (λ b. (if b then Some t else None) ≡ Some t) (sym ((bytes_eq-Decides x x).1 refl)) refl

-- a branch stays one
branch_stays : (ns ms : Names) (ss us : List TypedSite) (bs : Branches) (cs : CastBranches) → ElaborateBranches ns ss bs cs ms us → IsBranched bs → HasBranch cs
branch_stays ns ms ss us bs cs no_branch h = absurd h
branch_stays ns ms ss us bs cs (next_branch f g) h = tt

module _ (s : Script) (p : CastScript) (classes_are : BecomeClasses s (class_list s) p.classes) (functions_are : AreFunctions (class_list s) (function_list s) p.functions)
    (all : List TypedSite) (sites : AreSites p.types all p.sites) (scope : Scope) where
  -- ---- statements without blocks

  give_typed : (x : Expr) (c : CastExpr) (k : Option ℕ) (ts asks : List Ty) (o : Option Ty) → scope.result ≡ o → ReturnRule o asks
      → AreUsed p scope all sites (x ∷ []) ts asks (c ∷ []) → AreNumbers all (k ∷ []) (tested_sites kind.Return (x ∷ []) ts asks)
      → (u : Ty) × HasStaticType p scope c u × ReturnUse p scope k u
  give_typed x c k ts asks None e h u n = absurd h
  give_typed x c k ts asks (Some t) e h u n =
      let part = one_part p scope all sites x ts t c (subst (λ (l : List Ty). AreUsed p scope all sites (x ∷ []) ts l (c ∷ [])) h u) in
      let asked = subst (λ (l : List Ty). AreNumbers all (k ∷ []) (tested_sites kind.Return (x ∷ []) ts l)) h n in
      let number = subst (λ (l : List Ty). AreNumbers all (k ∷ []) (tested_sites kind.Return (x ∷ []) l (t ∷ []))) part.is asked in
      let return_use : ReturnUse p scope k part.used.type =
      record { result = t; declared = e; value = part.used.fits; site = stands_unless p scope all sites k kind.Return (place_of x) part.type t number.0 }
      in
      (part.used.type, part.used.typed, return_use)

  assign_typed : (x : List ℕ) (e : Expr) (c : CastExpr) (ts asks : List Ty) (o : Option Ty) → type_of_name scope.names x ≡ o → AssignRule o asks
      → AreUsed p scope all sites (e ∷ []) ts asks (c ∷ []) → (u : Ty) × HasStaticType p scope c u × StoreUse scope x u
  assign_typed x e c ts asks None q h u = absurd h
  assign_typed x e c ts asks (Some t) q h u =
      let part = one_part p scope all sites e ts t c (subst (λ (l : List Ty). AreUsed p scope all sites (e ∷ []) ts l (c ∷ [])) h u) in
      (part.used.type, part.used.typed, (t, q, part.used.fits))

  write_typed : (o e : Expr) (w : Word) (v t : Ty) (c d : CastExpr) (m k : Option ℕ) (ts : List Ty) (f : Option Ty) → member_of ts w.text ≡ f → WriteRule f (v ∷ t ∷ [])
      → AreUsed p scope all sites (o ∷ e ∷ []) ts (v ∷ t ∷ []) (c ∷ d ∷ []) → AreNumbers all (m ∷ k ∷ []) (write_sites w.place e ts (v ∷ t ∷ []))
      → IsWellTypedStatement p scope (cast_stmt.write m k t c w.text d)
  write_typed o e w v t c d m k ts None q h u n = absurd h
  write_typed o e w v t c d m k ts (Some z) q h u n =
      let parts = two_parts p scope all sites o e ts v t c d u in
      let numbers = subst (λ (l : List Ty). AreNumbers all (m ∷ k ∷ []) (write_sites w.place e l (v ∷ t ∷ []))) parts.is n in
      let member : member_type parts.first w.text ≡ Some t = sym (ap (λ l. member_of l w.text) parts.is) ∙ q ∙ ap Some (sym (cons_head (cons_tail h))) in
      let at_dyn = subst (λ (z : Ty). IsUsed p scope all sites parts.first z c) (cons_head h) parts.left in
      let object : HasStaticType p scope c parts.first = subst (λ (z : Ty). HasStaticType p scope c z) (at_dyn.same below_dyn) at_dyn.typed in
      let write_use : WriteUse p m k parts.first w.text t parts.right.type =
      record {
        field = field_use p scope all sites parts.first (parts.second ∷ []) w.place m w.text t member numbers.0;
        value = parts.right.fits;
        site = stands_unless p scope all sites k kind.Write (place_of e) parts.second t numbers.1.0;
      }
      in
      (parts.first, parts.right.type, object, parts.right.typed, write_use)

  start_typed : (ns ms : Names) (w : Word) (q : Place) (f : Expr) (es : List Expr) (c : CastExpr) (cs : List CastExpr) (k : Option ℕ) (ks : List (Option ℕ)) (ts asks : List Ty)
      → IsKnown s p classes_are functions_are all sites scope ms → StartRule ns w.text ts asks ms → AreUsed p scope all sites (f ∷ es) ts asks (c ∷ cs)
      → AreNumbers all (k ∷ ks) (call_sites q es ts asks) → IsWellTypedStatement p scope (cast_stmt.start w.text k c (node.arguments ks cs))
  start_typed ns ms w q f es c cs k ks ts asks known h u n =
      let used = subst (λ (l : List Ty). AreUsed p scope all sites (f ∷ es) ts l (c ∷ cs)) h.asked u in
      let numbers = subst (λ (l : List Ty). AreNumbers all (k ∷ ks) (call_sites q es ts l)) h.asked n in
      let r = call_use p scope all sites q f es ts c cs k ks h.rule h.called used numbers in
      let named : type_of_name ms.threads w.text ≡ Some h.rule.gives =
      ap (λ (z : Names). type_of_name z.threads w.text) h.named ∙ named_behind ns.threads (record { name = w.text; ty = h.rule.gives } ∷ []) w.text h.fresh
      ∙ just_named w.text h.rule.gives
      in
      (r.callee, r.types, h.rule.gives, r.called, r.given, r.made, known.threads w.text h.rule.gives named)

  line_node_typed : (ns ms : Names) (a : Stmt) (asks : List Ty) (ds : List CastExpr) (ks : List (Option ℕ)) (c : CastStmt) (ts : List Ty)
      → IsKnown s p classes_are functions_are all sites scope ns → IsKnown s p classes_are functions_are all sites scope ms → IsLineNode a asks ds ks c → LineRule ns a ts asks ms
      → AreUsed p scope all sites (line_parts a) ts asks ds → AreNumbers all ks (line_sites a ts asks) → IsWellTypedStatement p scope c
  line_node_typed ns ms a asks ds ks c ts known behind node.pass rule u n = tt
  line_node_typed ns ms a asks ds ks c ts known behind (node.give {p = q} {e = e} {c = d} {k = k}) rule u n =
      give_typed (returned q e) d k ts asks ns.result (sym known.result) rule.0 u n
  line_node_typed ns ms a asks ds ks c ts known behind (node.print {es = es} {cs = cs} e) rule u n =
      let g = given p scope all sites (exprs_list es) ts asks cs u in
      subst (λ z. IsWellTypedStatement p scope (cast_stmt.print z)) (sym e) (g.types, g.typed)
  line_node_typed ns ms a asks ds ks c ts known behind (node.assign {w = w} {e = e} {c = d}) rule u n =
      assign_typed w.text e d ts asks (type_of_name ns.values w.text) (ap (λ l. type_of_name l w.text) (sym known.values)) rule.0 u
  line_node_typed ns ms a asks ds ks c ts known behind (node.write {o = o} {e = e} {w = w} {s = v} {t = t} {c = c1} {d = d1} {m = m} {k = k}) rule u n =
      write_typed o e w v t c1 d1 m k ts (member_of ts w.text) refl rule.0 u n
  line_node_typed ns ms a asks ds ks c ts known behind (node.start {w = w} {p = q} {f = f} {es = es} {c = c1} {cs = cs} {k = k} {ks = ks1} e) rule u n =
      subst (λ z. IsWellTypedStatement p scope (cast_stmt.start w.text k c1 z)) (sym e) (start_typed ns ms w q f (exprs_list es) c1 cs k ks1 ts asks behind rule u n)
  line_node_typed ns ms a asks ds ks c ts known behind (node.plain {e = e} {c = d}) rule u n =
      let part = one_part p scope all sites e ts dyn d (subst (λ (l : List Ty). AreUsed p scope all sites (e ∷ []) ts l (d ∷ [])) rule.0 u) in
      (part.used.type, part.used.typed)

  -- ---- all statements

  -- a condition with the block behind it
  record IsGuardTyped (c : CastExpr) (d : CastBlock) : Type 0 where
    pub condition : IsOfType p scope c bool
    pub body : IsWellTypedBlock p scope d

  mutual
    pub line_typed : (inside : Bool) (ns ms : Names) (ss us : List TypedSite) (a : Stmt) (c : CastStmt) → ElaboratesLine ns ss a c ms us → IsShapedStmt inside a
        → IsKnown s p classes_are functions_are all sites scope ms → Extends us all → IsWellTypedStatement p scope c
    line_typed inside ns ms ss us a c (line {us = vs} {vs = ws} {ts = ts} {cs = cs} {ds = ds} {ks = ks} asks g rule h u n m i) b known f =
        let before = known_before s p classes_are functions_are all sites scope ns ms (line_goes ns ms ss us a c (line asks g rule h u n m i)).names known in
        let end = further (adds (standing (line_sites a ts asks)) i) f in
        let behind = further (uses_extend vs ws (line_parts a) ts asks cs ds u) end in
        let typed = all_typed s p classes_are functions_are all sites scope ns ss vs (line_parts a) ts cs before g (line_shaped inside a b) behind in
        let used = uses_typed p scope all sites vs ws (line_parts a) ts asks cs ds u end typed in
        let numbers = are_numbers ws (line_sites a ts asks) all (subst (λ (l : List TypedSite). Extends l all) i f) in
        let own = subst (λ (l : List (Option ℕ)). AreNumbers all l (line_sites a ts asks)) (sym n) numbers in
        line_node_typed ns ms a asks ds ks c ts before known m rule used own
    line_typed inside ns ms ss us a c (branches {ks = ks} {us = vs} {bs = bs} {last = last} {cs = cs} {d = d} g h) b known f =
        let step = else_goes ks ms vs us last d h in
        let between = known_before s p classes_are functions_are all sites scope ks ms step.names known in
        (branch_stays ns ks ss vs bs cs g b.0, branches_typed inside ns ks ss vs bs cs g b.1 between (further step.sites f), else_typed inside ks ms vs us last d h b.2 known f)
    line_typed inside ns ms ss us a c (loops {e = e} {body = body} {c = k} {d = d} g) b known f =
        let h = guard_typed inside ns ms ss us e body k d g b.0 b.1 known f in
        (h.condition, h.body)

    guard_typed : (inside : Bool) (ns ms : Names) (ss us : List TypedSite) (e : Expr) (body : Block) (c : CastExpr) (d : CastBlock) → ElaboratesGuarded ns ss e body c d ms us
        → IsShapedExpr e → IsShapedBlock inside body → IsKnown s p classes_are functions_are all sites scope ms → Extends us all → IsGuardTyped c d
    guard_typed inside ns ms ss us e body c d (guards {us = vs} {vs = ws} {t = t} {c = c1} g h u k) b b2 known f =
        let step = block_goes ns ms ws us body d k in
        let before = known_before s p classes_are functions_are all sites scope ns ms step.names known in
        let behind = further step.sites f in
        let condition = expr_typed s p classes_are functions_are all sites scope ns ss vs e t c1 before g b (further (use_extends vs ws (place_of e) t bool c1 c u) behind) in
        let used = use_typed p scope all sites vs ws (place_of e) t bool c1 c u behind condition in
        record { condition = of_type p scope all sites t bool c used; body = block_typed inside ns ms ws us body d k b2 known f }

    branches_typed : (inside : Bool) (ns ms : Names) (ss us : List TypedSite) (bs : Branches) (cs : CastBranches) → ElaborateBranches ns ss bs cs ms us
        → AreShapedBranches inside bs → IsKnown s p classes_are functions_are all sites scope ms → Extends us all → AreWellTypedBranches p scope cs
    branches_typed inside ns ms ss us bs cs no_branch b known f = tt
    branches_typed inside ns ms ss us bs cs (next_branch {ks = ks} {us = vs} {e = e} {body = body} {bs = bs1} {c = c} {d = d} {cs = cs1} g h) b known f =
        let step = branches_go ks ms vs us bs1 cs1 h in
        let between = known_before s p classes_are functions_are all sites scope ks ms step.names known in
        let first = guard_typed inside ns ks ss vs e body c d g b.0 b.1 between (further step.sites f) in
        (first.condition, first.body, branches_typed inside ks ms vs us bs1 cs1 h b.2 known f)

    else_typed : (inside : Bool) (ns ms : Names) (ss us : List TypedSite) (last : Else) (d : CastElse) → ElaboratesElse ns ss last d ms us → IsShapedElse inside last
        → IsKnown s p classes_are functions_are all sites scope ms → Extends us all → IsWellTypedElse p scope d
    else_typed inside ns ms ss us last d no_last b known f = tt
    else_typed inside ns ms ss us last d (at_last {body = body} {d = k} g) b known f = block_typed inside ns ms ss us body k g b known f

    pub block_typed : (inside : Bool) (ns ms : Names) (ss us : List TypedSite) (body : Block) (d : CastBlock) → ElaboratesBlock ns ss body d ms us → IsShapedBlock inside body
        → IsKnown s p classes_are functions_are all sites scope ms → Extends us all → IsWellTypedBlock p scope d
    block_typed inside ns ms ss us body d ends b known f = tt
    block_typed inside ns ms ss us body d (goes_on {ks = ks} {us = vs} {s = a} {rest = rest} {c = c} {more = more} g h) b known f =
        let step = block_goes ks ms vs us rest more h in
        let between = known_before s p classes_are functions_are all sites scope ks ms step.names known in
        (line_typed inside ns ks ss vs a c g b.0 between (further step.sites f), block_typed inside ks ms vs us rest more h b.1 known f)
