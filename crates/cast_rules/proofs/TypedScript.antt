-- A script with its casts is well typed, where the types of its classes and functions are types of the language.
use Rattle.std.proofs.Common.{◌≡◌, ℕ, zero, suc, List, [], ◌∷◌, Bool, true, false, map, flat_map, Option, Some, None, slice_get, refl, sym, ◌∙◌, ap, subst}
use Rattle.std.specs.Prelude.{Contains}
use Rattle.std.specs.List.Sorted.{IsPermutation}
use Rattle.mono_list.proofs.Cases.{some_is, none_some}
use Rattle.mono_syntax.specs.declared.cast.CastClass.{CastClass}
use Rattle.mono_syntax.specs.declared.cast.CastFunction.{CastFunction}
use Rattle.mono_syntax.specs.declared.cast.CastScript.{CastScript}
use Rattle.mono_syntax.specs.declared.leaf.Kind.TheVariants as kind
use Rattle.mono_syntax.specs.declared.leaf.Place.{Place}
use Rattle.mono_syntax.specs.declared.script.Scoped.{Scoped}
use Rattle.mono_syntax.specs.declared.tree.ClassDef.{ClassDef}
use Rattle.mono_syntax.specs.declared.tree.FuncDef.{FuncDef}
use Rattle.mono_syntax.specs.declared.tree.Item.{Item}
use Rattle.mono_syntax.specs.declared.tree.Script.{Script}
use Rattle.mono_syntax.specs.CastStmt.{CastBlock}
use Rattle.mono_syntax.specs.CastStmtView.{cast_block}
use Rattle.mono_syntax.specs.StmtView.{block}
use Rattle.mono_syntax.specs.Ty.{Ty, nil, fun}
use Rattle.mono_tree.specs.FieldNames.{names_of}
use Rattle.mono_tree.specs.IsType.{IsType}
use Rattle.mono_tree.specs.Meet.{Consistent}
use Rattle.mono_tree.specs.Precise.{Precise, both_nil}
use Rattle.mono_tree.specs.TypedPrograms.{type_of_name, IsUsedAt, IsWellTypedBlock, IsWellTypedClass, AreNamed, EndUse, scope_of, IsWellTypedFunction, IsTypedProgram}
use Rattle.mono_tree.proofs.PreciseTest.{precise-Decides}
use Rattle.script_rules.specs.BlockNames.{targets}
use Rattle.script_rules.specs.Definitions.{functions_of}
use Rattle.script_rules.specs.ScopeFaults.{IsRight}
use Rattle.script_rules.specs.Scoping.{class_list, function_list}
use Rattle.script_rules.specs.SourceCasts.{BecomeClasses}
use Rattle.script_rules.specs.WellFormed.{AreApart}
use Rattle.script_rules.specs.Writes.{in_order, IsClassType, IsFunctionType}
use Rattle.script_shape.specs.Shapes.{AreShapedItems, IsShapedBlock, IsShaped}
use Rattle.static_types.specs.BodyEnds.{may_end}
use Rattle.static_types.specs.Names.{Names}
use Rattle.static_types.proofs.Writing.{one_any}
use Rattle.cast_rules.specs.declared.site.TypedSite.{TypedSite}
use Rattle.cast_rules.specs.HasCasts.{ElaboratesFunction, ElaborateItems, no_item, class_item, function_item, line_item, HasCasts}
use Rattle.cast_rules.specs.OwnSites.{end_of, end_site}
use Rattle.cast_rules.specs.Sites.{standing, AreSites}
use Rattle.cast_rules.proofs.Defined.{declared_names, FoundClassDef, class_def_found, AreFunctions}
use Rattle.cast_rules.proofs.EndsStay.{block_end}
use Rattle.cast_rules.proofs.Extending.{Extends, itself, further, adds, line_goes, block_goes, items_go}
use Rattle.cast_rules.proofs.Ordered.{in_order-names}
use Rattle.cast_rules.proofs.Parameters.{params_named, params_apart}
use Rattle.cast_rules.proofs.SiteNumbers.{IsNumber, AreNumbers, are_numbers}
use Rattle.cast_rules.proofs.Standing.{head_stands, tail_stands}
use Rattle.cast_rules.proofs.TypedLines.{line_typed, block_typed}
use Rattle.cast_rules.proofs.TypedNodes.{IsKnown, known_before}
use Rattle.cast_rules.proofs.UsedParts.{stands_unless}

-- a type with which `None` has a meet has `None` itself
nil_below : (m : Ty) → Precise m nil → m ≡ nil
nil_below m both_nil = refl

nil_used : (t : Ty) → Consistent nil t → IsUsedAt nil t
nil_used t c = (precise-Decides nil t).1 (subst (λ (z : Ty). Precise z t) (nil_below c.meet c.is_meet.left) c.is_meet.right)

-- ---- functions by their items

functions_are : (cs : List ClassDef) (ns ms : Names) (ss us : List TypedSite) (is : List Item) (fs : List CastFunction) (b : CastBlock) → ElaborateItems ns ss is fs b ms us
    → ns.classes ≡ cs → AreFunctions cs (functions_of is) fs
functions_are cs ns ms ss us is fs b no_item e = tt
functions_are cs ns ms ss us is fs b (class_item {is = rest} g) e = functions_are cs ns ms ss us rest fs b g e
functions_are cs ns ms ss us is fs b (function_item {us = vs} {d = d} {is = rest} {f = f} {fs = gs} g h) e =
    (subst (λ (l : List ClassDef). IsFunctionType l d f.ty) e g.type, functions_are cs ns ms vs us rest gs b h e)
functions_are cs ns ms ss us is fs b (line_item {ks = ks} {us = vs} {s = s} {is = rest} {c = c} {b = b1} g h) e =
    functions_are cs ks ms vs us rest fs b1 h ((line_goes ns ks ss vs s c g).names.classes ∙ e)

module _ (s : Script) (p : CastScript) (classes_are : BecomeClasses s (class_list s) p.classes) (functions : AreFunctions (class_list s) (function_list s) p.functions)
    (all : List TypedSite) (sites : AreSites p.types all p.sites) where
  -- ---- the end of a body

  end_use : (f : CastFunction) (q : Place) (t : Ty) (b : Bool) → (b ≡ true → Consistent nil t) → IsNumber all f.falls (end_of b q t) → EndUse p (scope_of f.block (Some t)) f.falls b
  end_use f q t true e n = record { result = t; declared = refl; value = nil_used t (e refl); site = stands_unless p (scope_of f.block (Some t)) all sites f.falls kind.Return q nil t n }
  end_use f q t false e n = n

  function_typed : (ns : Names) (ss us : List TypedSite) (d : FuncDef) (f : CastFunction) → ElaboratesFunction ns.classes ns.functions ss d f us → ns.classes ≡ class_list s
      → ns.functions ≡ function_list s → IsShapedBlock true (block d.body) → AreApart (map (λ q. q.name.text) d.params)
      → ((t : Ty) → IsFunctionType (class_list s) d t → IsType t) → Extends us all → IsWellTypedFunction p f
  function_typed ns ss us d f h e1 e2 b a types ext =
      let scope = scope_of f.block (Some h.result) in
      let step = block_goes h.names h.behind ss h.inside (block d.body) (cast_block f.block.body) h.body in
      let known : IsKnown s p classes_are functions all sites scope h.behind =
      record {
        classes = step.names.classes ∙ h.scope.classes ∙ e1;
        functions = step.names.functions ∙ h.scope.functions ∙ e2;
        values = step.names.values ∙ sym h.values;
        threads = λ x t e. ap (λ l. type_of_name l x) h.threads ∙ e;
        result = step.names.result ∙ h.scope.result;
      }
      in
      let behind : Extends h.inside all = further (adds (standing (end_site d h.result ∷ [])) h.sites) ext in
      let body = block_typed s p classes_are functions all sites scope true h.names h.behind ss h.inside (block d.body) (cast_block f.block.body) h.body b known behind in
      let numbers = are_numbers h.inside (end_site d h.result ∷ []) all (subst (λ (l : List TypedSite). Extends l all) h.sites ext) in
      let falls = subst (λ (l : List (Option ℕ)). AreNumbers all l (end_site d h.result ∷ [])) (sym h.falls) numbers in
      let ends = end_use f d.name.place h.result (may_end (block d.body)) h.end falls.0 in
      let may = block_end h.names h.behind ss h.inside (block d.body) (cast_block f.block.body) h.body in
      let result : h.type.result ≡ h.result = one_any ns.classes d.result h.type.result h.result h.type.gives h.scope.declared in
      let named = params_named ns.classes d.params (flat_map targets d.body) h.names.values h.type.parameters h.scope.values a h.type.takes in
      let names = subst (λ l. AreNamed l (map (λ q. q.name.text) d.params) h.type.parameters) (sym h.values) named in
      record {
        parameters = h.type.parameters;
        result = h.result;
        type = h.type.type ∙ ap (λ (t : Ty). fun h.type.parameters t) result;
        is_type = types f.ty (subst (λ (l : List ClassDef). IsFunctionType l d f.ty) e1 h.type);
        named = subst (λ (l : List (List ℕ)). AreNamed f.block.names l h.type.parameters) (sym h.params) names;
        body = body;
        end = subst (λ (z : Bool). EndUse p scope f.falls z) (sym may) ends;
      }

  -- ---- items

  items_functions : (ns ms : Names) (ss us : List TypedSite) (is : List Item) (fs : List CastFunction) (b : CastBlock) → ElaborateItems ns ss is fs b ms us
      → ns.classes ≡ class_list s → ns.functions ≡ function_list s → AreShapedItems is → ((d : FuncDef) → Contains (functions_of is) d → AreApart (map (λ q. q.name.text) d.params))
      → ((d : FuncDef) (t : Ty) → Contains (functions_of is) d → IsFunctionType (class_list s) d t → IsType t) → Extends us all
      → (g : ℕ) (f : CastFunction) → slice_get fs g ≡ Some f → IsWellTypedFunction p f
  items_functions ns ms ss us is fs b no_item e1 e2 shaped apart types ext g f e = none_some (IsWellTypedFunction p f) e
  items_functions ns ms ss us is fs b (class_item {is = rest} h) e1 e2 shaped apart types ext g f e = items_functions ns ms ss us rest fs b h e1 e2 shaped apart types ext g f e
  items_functions ns ms ss us is fs b (line_item {ks = ks} {us = vs} {s = a} {is = rest} {c = c} {b = b1} h k) e1 e2 shaped apart types ext g f e =
      let step = line_goes ns ks ss vs a c h in
      items_functions ks ms vs us rest fs b1 k (step.names.classes ∙ e1) (step.names.functions ∙ e2) shaped.1 apart types ext g f e
  items_functions ns ms ss us is fs b (function_item {us = vs} {d = d} {is = rest} {f = f1} {fs = gs} h k) e1 e2 shaped apart types ext zero f e =
      let before = further (items_go ns ms vs us rest gs b k).sites ext in
      let here = head_stands d (functions_of rest) in
      let typed = function_typed ns ss vs d f1 h e1 e2 shaped.0 (apart d here) (λ t i. types d t here i) before in
      subst (λ (z : CastFunction). IsWellTypedFunction p z) (some_is e) typed
  items_functions ns ms ss us is fs b (function_item {us = vs} {d = d} {is = rest} {f = f1} {fs = gs} h k) e1 e2 shaped apart types ext (suc g) f e =
      items_functions ns ms vs us rest gs b k e1 e2 shaped.1 (λ z c. apart z (tail_stands d (functions_of rest) z c)) (λ z t c i. types z t (tail_stands d (functions_of rest) z c) i) ext g f e

  items_main : (ns ms : Names) (ss us : List TypedSite) (is : List Item) (fs : List CastFunction) (b : CastBlock) → ElaborateItems ns ss is fs b ms us → AreShapedItems is
      → IsKnown s p classes_are functions all sites (scope_of p.main None) ms → Extends us all → IsWellTypedBlock p (scope_of p.main None) b
  items_main ns ms ss us is fs b no_item shaped known ext = tt
  items_main ns ms ss us is fs b (class_item {is = rest} h) shaped known ext = items_main ns ms ss us rest fs b h shaped known ext
  items_main ns ms ss us is fs b (function_item {us = vs} {is = rest} {fs = gs} h k) shaped known ext = items_main ns ms vs us rest gs b k shaped.1 known ext
  items_main ns ms ss us is fs b (line_item {ks = ks} {us = vs} {s = a} {is = rest} {c = c} {b = b1} h k) shaped known ext =
      let step = items_go ks ms vs us rest fs b1 k in
      let between = known_before s p classes_are functions all sites (scope_of p.main None) ks ms step.names known in
      (line_typed s p classes_are functions all sites (scope_of p.main None) false ns ks ss vs a c h shaped.0 between (further step.sites ext), items_main ks ms vs us rest fs b1 k shaped.1 known ext)

  -- ---- classes

  class_typed : ((d : ClassDef) (t : Ty) → Contains (class_list s) d → IsClassType (class_list s) d t → IsType t) → (c : ℕ) (k : CastClass) → slice_get p.classes c ≡ Some k
      → IsWellTypedClass k
  class_typed types c k e =
      let found : FoundClassDef s (class_list s) k = class_def_found s (class_list s) p.classes c k classes_are e in
      let type = found.is.type in
      let params : k.params ≡ names_of type.declared = found.is.fields ∙ declared_names (class_list s) found.def.fields type.declared type.fields in
      record {
        fields = in_order type.declared;
        type = type.type;
        is_type = types found.def k.ty found.stands type;
        declared = subst (λ (l : List (List ℕ)). IsPermutation l (names_of (in_order type.declared))) (sym params) (in_order-names type.declared);
      }

pub typed_program : (d : Scoped) (p : CastScript) → IsShaped d.script → IsRight d.script → HasCasts d p
    → ((c : ClassDef) (t : Ty) → Contains (class_list d.script) c → IsClassType (class_list d.script) c t → IsType t)
    → ((f : FuncDef) (t : Ty) → Contains (function_list d.script) f → IsFunctionType (class_list d.script) f t → IsType t) → IsTypedProgram p
typed_program d p shaped right h class_types function_types =
    let s = d.script in
    let functions = functions_are (class_list s) h.names h.behind [] h.all s.items p.functions (cast_block p.main.body) h.items h.scope.classes in
    let step = items_go h.names h.behind [] h.all s.items p.functions (cast_block p.main.body) h.items in
    let known : IsKnown s p h.classes functions h.all h.sites (scope_of p.main None) h.behind =
    record {
      classes = step.names.classes ∙ h.scope.classes;
      functions = step.names.functions ∙ h.scope.functions;
      values = step.names.values ∙ sym h.values;
      threads = λ x t e. ap (λ l. type_of_name l x) h.threads ∙ e;
      result = step.names.result ∙ h.scope.result;
    }
    in
    let items = h.items in
    record {
      classes = class_typed s p h.classes functions h.all h.sites class_types;
      functions =
          items_functions s p h.classes functions h.all h.sites h.names h.behind [] h.all s.items p.functions (cast_block p.main.body) items h.scope.classes h.scope.functions shaped
          (params_apart s right) function_types (itself h.all);
      main = items_main s p h.classes functions h.all h.sites h.names h.behind [] h.all s.items p.functions (cast_block p.main.body) items shaped known (itself h.all);
    }
