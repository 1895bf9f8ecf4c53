-- A script writes one list of types at most.
use Rattle.std.proofs.Common.{◌≡◌, ◌∙◌, sym, ap, refl, List, [], ◌∷◌, ◌++◌}
use Rattle.mono_syntax.specs.declared.tree.ClassDef.{ClassDef}
use Rattle.mono_syntax.specs.declared.tree.Item.{Item}
use Rattle.mono_syntax.specs.declared.tree.Item.TheVariants as item
use Rattle.mono_syntax.specs.declared.tree.Script.{Script}
use Rattle.mono_syntax.specs.Ann.{Ann}
use Rattle.mono_syntax.specs.Ty.{Ty, obj, Fields}
use Rattle.script_rules.specs.Scoping.{class_list}
use Rattle.script_rules.specs.SourceParts.{body_parts, stmt_parts}
use Rattle.script_rules.specs.Writes.{in_order, IsClassType, IsFunctionType}
use Rattle.static_types.proofs.Writing.{one_type, one_declared, function_type_once}
use Rattle.written_types.specs.ScriptTypes.{annotations_in, WriteEach, WriteItems, no_item, class_item, function_item, line_item, AreScriptTypes}

module _ (cs : List ClassDef) where
  each_once : (as_ : List Ann) (ts us : List Ty) → WriteEach cs as_ ts → WriteEach cs as_ us → ts ≡ us
  each_once [] [] [] p q = refl
  each_once [] [] (u ∷ us) p q = absurd q
  each_once [] (t ∷ ts) us p q = absurd p
  each_once (a ∷ as_) [] us p q = absurd p
  each_once (a ∷ as_) (t ∷ ts) [] p q = absurd q
  each_once (a ∷ as_) (t ∷ ts) (u ∷ us) p q =
      let first = one_type cs a t u p.0 q.0 in
      let rest = each_once as_ ts us p.1 q.1 in
      λ i. first i ∷ rest i

  -- what items write, by the first of them
  abbrev ItemsLayer : List Item → List Ty → Type 0
  ItemsLayer [] all = all ≡ []
  ItemsLayer (item.Class d ∷ is) all = (t : Ty) × (ts : List Ty) × IsClassType cs d t × WriteItems cs is ts × (all ≡ t ∷ ts)
  ItemsLayer (item.Def d ∷ is) all =
      (t : Ty) × (us : List Ty) × (ts : List Ty) × IsFunctionType cs d t
      × WriteEach cs (annotations_in (body_parts d.body)) us × WriteItems cs is ts × (all ≡ t ∷ us ++ ts)
  ItemsLayer (item.Stmt s ∷ is) all =
      (us : List Ty) × (ts : List Ty) × WriteEach cs (annotations_in (stmt_parts s)) us × WriteItems cs is ts × (all ≡ us ++ ts)

  to_layer : {is : List Item} {all : List Ty} → WriteItems cs is all → ItemsLayer is all
  to_layer no_item = refl
  to_layer (class_item {t = t} {ts = ts} c w) = (t, ts, c, w, refl)
  to_layer (function_item {t = t} {ts = ts} us f b w e) = (t, us, ts, f, b, w, ap (λ (l : List Ty). t ∷ l) e)
  to_layer (line_item {ts = ts} us b w e) = (us, ts, b, w, e)

  class_once : {d : ClassDef} (t u : Ty) → IsClassType cs d t → IsClassType cs d u → t ≡ u
  class_once {d} t u p q =
      let same = one_declared cs d.fields p.declared q.declared p.fields q.fields in
      p.type ∙ (ap (λ (z : Fields). obj (in_order z)) same ∙ sym q.type)

  items_once : (is : List Item) (ts us : List Ty) → WriteItems cs is ts → WriteItems cs is us → ts ≡ us
  items_once [] ts us p q = to_layer p ∙ sym (to_layer q)
  items_once (item.Class d ∷ is) all bll p q =
      let (t, ts, c, w, e) = to_layer p in
      let (u, us, k, v, f) = to_layer q in
      let first = class_once t u c k in
      let rest = items_once is ts us w v in
      e ∙ ((λ i. first i ∷ rest i) ∙ sym f)
  items_once (item.Def d ∷ is) all bll p q =
      let (t, bs, ts, c, b, w, e) = to_layer p in
      let (u, ds, us, k, h, v, f) = to_layer q in
      let first = function_type_once cs d t u c k in
      let inside = each_once (annotations_in (body_parts d.body)) bs ds b h in
      let rest = items_once is ts us w v in
      e ∙ ((λ i. first i ∷ inside i ++ rest i) ∙ sym f)
  items_once (item.Stmt s ∷ is) all bll p q =
      let (bs, ts, b, w, e) = to_layer p in
      let (ds, us, h, v, f) = to_layer q in
      let inside = each_once (annotations_in (stmt_parts s)) bs ds b h in
      let rest = items_once is ts us w v in
      e ∙ ((λ i. inside i ++ rest i) ∙ sym f)

pub script_types_unique : (s : Script) (ts us : List Ty) → AreScriptTypes s ts → AreScriptTypes s us → ts ≡ us
script_types_unique s ts us p q = items_once (class_list s) s.items ts us p q
