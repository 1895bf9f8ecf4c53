-- What has the types that a script writes, the base types and all parts has the type of each annotation, class and function.
use Rattle.std.proofs.Common.{◌≡◌, ◌∙◌, inl, inr, List, [], ◌∷◌, ◌++◌, Option, Some, None, refl, sym, ap, subst, suc, ◌≤◌, length, arith}
use Rattle.std.specs.Prelude.{Contains}
use Rattle.mono_syntax.specs.declared.tree.ClassDef.{ClassDef}
use Rattle.mono_syntax.specs.declared.tree.FieldDef.{FieldDef}
use Rattle.mono_syntax.specs.declared.tree.FuncDef.{FuncDef}
use Rattle.mono_syntax.specs.declared.tree.Item.{Item}
use Rattle.mono_syntax.specs.declared.tree.Item.TheVariants as item
use Rattle.mono_syntax.specs.declared.tree.Param.{Param}
use Rattle.mono_syntax.specs.declared.tree.Script.{Script}
use Rattle.mono_syntax.specs.Ann.{Ann}
use Rattle.mono_syntax.specs.Ty.{Ty, dyn, int, bool, str, nil, fun, obj, Tys, no_tys, more_tys, Fields}
use Rattle.mono_tree.specs.ClosedList.{IsAmong, IsOfField, IsPart, IsClosed, in_base, in_given, in_part, IsClosedList}
use Rattle.mono_tree.proofs.ClosedMembers.{members_in, set_has}
use Rattle.script_rules.specs.Definitions.{classes_of, functions_of}
use Rattle.script_rules.specs.Scoping.{class_list}
use Rattle.script_rules.specs.SourceParts.{Part, annotation, arguments, any_ann, parts_of}
use Rattle.script_rules.specs.SourceParts.{param_parts, field_parts, body_parts, stmt_parts, item_parts}
use Rattle.script_rules.specs.Writes.{in_order, Writes, WritesAny, Declares, declares_none, declares_more}
use Rattle.script_rules.specs.Writes.{IsClassType, ParamTypes, IsFunctionType}
use Rattle.static_types.proofs.Writing.{one_type, one_declared, function_type_once}
use Rattle.written_types.specs.ScriptTypes.{annotations_in, WriteEach, AreScriptTypes}
use Rattle.written_types.specs.ScriptTypes.{WriteItems, no_item, class_item, function_item, line_item}
use Rattle.class_types.proofs.OrderLaws.{In, in-cases}
use Rattle.program_types.proofs.HasWritten.{HasWritten, HasAll, all_left, all_right, ordered_has}

one_annotation : {a b : Ann} → annotation b ≡ annotation a → b ≡ a
one_annotation e = cc

no_annotation : {a : Ann} (c : _) → arguments c ≡ annotation a → ⊥
no_annotation c e = cc

module _ (cs : List ClassDef) (Has : Ty → Type 0) (part : (t p : Ty) → Has t → IsPart p t → Has p) where
  -- an annotation is one of those whose types are there
  each_has : (ps : List Part) (us : List Ty) → WriteEach cs (annotations_in ps) us → HasAll Has us
      → (a : Ann) (t : Ty) → In (annotation a) ps → Writes cs a t → Has t
  each_has [] us w h a t i v = absurd i
  each_has (annotation b ∷ ps) [] w h a t i v = absurd w
  each_has (annotation b ∷ ps) (u ∷ us) w h a t (inl e) v =
      let writes : Writes cs a u = subst (λ (k : Ann). Writes cs k u) (one_annotation e) w.0 in
      subst Has (one_type cs a u t writes v) h.0
  each_has (annotation b ∷ ps) (u ∷ us) w h a t (inr i) v = each_has ps us w.1 h.1 a t i v
  each_has (arguments c ∷ ps) us w h a t (inl e) v = absurd (no_annotation c e)
  each_has (arguments c ∷ ps) us w h a t (inr i) v = each_has ps us w h a t i v

  -- ---- a class

  declared_has : {ds : List FieldDef} {fs : Fields} → Declares cs ds fs → ((p : Ty) → IsOfField p fs → Has p)
      → (a : Ann) (t : Ty) → In (annotation a) (field_parts ds) → Writes cs a t → Has t
  declared_has declares_none h a t i v = absurd i
  declared_has (declares_more {t = u} w ws) h a t (inl e) v =
      let writes : Writes cs a u = subst (λ (k : Ann). Writes cs k u) (one_annotation e) w in
      subst Has (one_type cs a u t writes v) (h u (inl refl))
  declared_has (declares_more w ws) h a t (inr i) v = declared_has ws (λ p k. h p (inr k)) a t i v

  class_has : (d : ClassDef) (u : Ty) → IsClassType cs d u → Has u
      → (a : Ann) (t : Ty) → In (annotation a) (field_parts d.fields) → Writes cs a t → Has t
  class_has d u c h a t i v =
      declared_has c.fields (λ p k. part (obj (in_order c.declared)) p (subst Has c.type h) (ordered_has p c.declared k)) a t i v

  class_once : (d : ClassDef) (t u : Ty) → IsClassType cs d t → IsClassType cs d u → t ≡ u
  class_once d t u p q =
      let same = one_declared cs d.fields p.declared q.declared p.fields q.fields in
      p.type ∙ (ap (λ (z : Fields). obj (in_order z)) same ∙ sym q.type)

  -- ---- a function

  any_has : (o : Option Ann) (u : Ty) → WritesAny cs o u → Has u
      → (a : Ann) (t : Ty) → In (annotation a) (any_ann o) → Writes cs a t → Has t
  any_has None u w h a t i v = absurd i
  any_has (Some b) u w h a t (inl e) v =
      let writes : Writes cs a u = subst (λ (k : Ann). Writes cs k u) (one_annotation e) w in
      subst Has (one_type cs a u t writes v) h
  any_has (Some b) u w h a t (inr i) v = absurd i

  params_have : (ps : List Param) (ts : Tys) → ParamTypes cs ps ts → ((p : Ty) → IsAmong p ts → Has p)
      → (a : Ann) (t : Ty) → In (annotation a) (param_parts ps) → Writes cs a t → Has t
  params_have [] ts w h a t i v = absurd i
  params_have (p ∷ ps) no_tys w h a t i v = absurd w
  params_have (p ∷ ps) (more_tys u us) w h a t i v = elim (in-cases (annotation a) (any_ann p.ann) (param_parts ps) i) [
    | inl l ↦ any_has p.ann u w.0 (h u (inl refl)) a t l v
    | inr r ↦ params_have ps us w.1 (λ q k. h q (inr k)) a t r v
  ]

  function_has : (d : FuncDef) (u : Ty) (us : List Ty) → IsFunctionType cs d u → Has u
      → WriteEach cs (annotations_in (body_parts d.body)) us → HasAll Has us
      → (a : Ann) (t : Ty) → In (annotation a) (item_parts (item.Def d)) → Writes cs a t → Has t
  function_has d u us f h w hs a t i v =
      let whole : Has (fun f.parameters f.result) = subst Has f.type h in
      elim (in-cases (annotation a) (param_parts d.params ++ any_ann d.result) (body_parts d.body) i) [
        | inl l ↦ elim (in-cases (annotation a) (param_parts d.params) (any_ann d.result) l) [
          | inl k ↦ params_have d.params f.parameters f.takes (λ p q. part (fun f.parameters f.result) p whole (inl q)) a t k v
          | inr k ↦ any_has d.result f.result f.gives (part (fun f.parameters f.result) f.result whole (inr refl)) a t k v
        ]
        | inr r ↦ each_has (body_parts d.body) us w hs a t r v
      ]

  -- ---- items

  annotations_have : {is : List Item} {ts : List Ty} → WriteItems cs is ts → HasAll Has ts
      → (a : Ann) (t : Ty) → In (annotation a) (parts_of is) → Writes cs a t → Has t
  annotations_have no_item h a t i v = absurd i
  annotations_have (class_item {d = d} {is = is} {t = u} c w) h a t i v =
      elim (in-cases (annotation a) (field_parts d.fields) (parts_of is) i) [
        | inl l ↦ class_has d u c h.0 a t l v
        | inr r ↦ annotations_have w h.1 a t r v
      ]
  annotations_have (function_item {d = d} {is = is} {t = u} {ts = ts} us f b w e) h a t i v =
      let rest : HasAll Has (us ++ ts) = subst (HasAll Has) e h.1 in
      elim (in-cases (annotation a) (item_parts (item.Def d)) (parts_of is) i) [
        | inl l ↦ function_has d u us f h.0 b (all_left Has us ts rest) a t l v
        | inr r ↦ annotations_have w (all_right Has us ts rest) a t r v
      ]
  annotations_have (line_item {s = l} {is = is} {ts = ts} us b w e) h a t i v =
      let rest : HasAll Has (us ++ ts) = subst (HasAll Has) e h in
      elim (in-cases (annotation a) (stmt_parts l) (parts_of is) i) [
        | inl k ↦ each_has (stmt_parts l) us b (all_left Has us ts rest) a t k v
        | inr r ↦ annotations_have w (all_right Has us ts rest) a t r v
      ]

  classes_have : {is : List Item} {ts : List Ty} → WriteItems cs is ts → HasAll Has ts
      → (d : ClassDef) (t : Ty) → In d (classes_of is) → IsClassType cs d t → Has t
  classes_have no_item h d t i k = absurd i
  classes_have (class_item {d = c} {t = u} f w) h d t (inl e) k =
      let same : IsClassType cs d u = subst (λ (x : ClassDef). IsClassType cs x u) e f in
      subst Has (class_once d u t same k) h.0
  classes_have (class_item f w) h d t (inr i) k = classes_have w h.1 d t i k
  classes_have (function_item {ts = ts} us f b w e) h d t i k = classes_have w (all_right Has us ts (subst (HasAll Has) e h.1)) d t i k
  classes_have (line_item {ts = ts} us b w e) h d t i k = classes_have w (all_right Has us ts (subst (HasAll Has) e h)) d t i k

  functions_have : {is : List Item} {ts : List Ty} → WriteItems cs is ts → HasAll Has ts
      → (d : FuncDef) (t : Ty) → In d (functions_of is) → IsFunctionType cs d t → Has t
  functions_have no_item h d t i k = absurd i
  functions_have (class_item f w) h d t i k = functions_have w h.1 d t i k
  functions_have (function_item {d = c} {t = u} us f b w e) h d t (inl q) k =
      let same : IsFunctionType cs d u = subst (λ (x : FuncDef). IsFunctionType cs x u) q f in
      subst Has (function_type_once cs d u t same k) h.0
  functions_have (function_item {ts = ts} us f b w e) h d t (inr i) k =
      functions_have w (all_right Has us ts (subst (HasAll Has) e h.1)) d t i k
  functions_have (line_item {ts = ts} us b w e) h d t i k = functions_have w (all_right Has us ts (subst (HasAll Has) e h)) d t i k

-- ---- the closed list

all_given : (Has : Ty → Type 0) (ts : List Ty) → ((t : Ty) → Contains ts t → Has t) → HasAll Has ts
all_given Has [] h = tt
all_given Has (t ∷ ts) h = (h t (0, omega arith, refl), all_given Has ts (λ u (k, l, e). h u (suc k, omega arith, e)))

-- the closed list of the types that a script writes has them all
pub list_has : (s : Script) (written l : List Ty) → AreScriptTypes s written → IsClosedList written l → HasWritten s (Contains l)
list_has s written l w closed =
    let given : (t : Ty) → Contains written t → Contains l t = λ t c. to t (in_given t c) in
    let all : HasAll (Contains l) written = all_given (Contains l) written given in
    record {
      of_dyn = to dyn (in_base dyn (0, omega arith, refl));
      of_int = to int (in_base int (1, omega arith, refl));
      of_bool = to bool (in_base bool (2, omega arith, refl));
      of_str = to str (in_base str (3, omega arith, refl));
      of_nil = to nil (in_base nil (4, omega arith, refl));
      part = parts;
      annotation = annotations_have (class_list s) (Contains l) parts w all;
      class = classes_have (class_list s) (Contains l) parts w all;
      function = functions_have (class_list s) (Contains l) parts w all;
    }
  where
    to : (t : Ty) → IsClosed written t → Contains l t
    to t k =
        subst (λ (x : List Ty). Contains x t) closed.made
        (set_has written closed.rows (subst (λ (x : List Ty). length x ≤ closed.rows) (sym closed.made) closed.whole) t k)

    from : (t : Ty) → Contains l t → IsClosed written t
    from t h = members_in written closed.rows t (subst (λ (x : List Ty). Contains x t) (sym closed.made) h)

    parts : (t p : Ty) → Contains l t → IsPart p t → Contains l p
    parts t p c i = to p (in_part t p (from t c) i)
