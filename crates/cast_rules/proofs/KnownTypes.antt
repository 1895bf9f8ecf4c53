-- In a right script the names in types are classes, and every annotation writes a type.
use Rattle.std.proofs.Common.{◌≡◌, inl, inr, ◌⊎◌, ℕ, List, [], ◌∷◌, ◌++◌, Bool, true, false, flat_map, Option, Some, None, refl, sym, ◌∙◌, ap, subst, bytes_eq, if◌then◌else◌}
use Rattle.mono_list.proofs.Cases.{split, split_option, none_some, some_none}
use Rattle.mono_syntax.specs.declared.leaf.Word.{Word}
use Rattle.mono_syntax.specs.declared.refusal.Reason.TheVariants.{UnknownName, RecursiveClass}
use Rattle.mono_syntax.specs.declared.tree.ClassDef.{ClassDef}
use Rattle.mono_syntax.specs.declared.tree.FuncDef.{FuncDef}
use Rattle.mono_syntax.specs.declared.tree.Item.{Item}
use Rattle.mono_syntax.specs.declared.tree.Item.TheVariants as item
use Rattle.mono_syntax.specs.declared.tree.Param.{Param}
use Rattle.mono_syntax.specs.declared.tree.Script.{Script}
use Rattle.mono_syntax.specs.Ann.{Ann, ann, Anns, no_anns, more_anns}
use Rattle.mono_syntax.specs.Ann as form
use Rattle.mono_syntax.specs.StmtView.{block}
use Rattle.mono_syntax.specs.Ty.{Ty, dyn, int, bool, str, nil, fun, Tys, no_tys, more_tys}
use Rattle.mono_tree.proofs.MeetMade.{named}
use Rattle.script_rules.specs.Definitions.{classes_of, functions_of, class_named, function_named}
use Rattle.script_rules.specs.NameFaults.{unknown_type}
use Rattle.script_rules.specs.NameRules.{is_class, is_definition}
use Rattle.script_rules.specs.Occurrences.{at, in_ann, in_anns, in_any_ann, in_param, in_function, in_block, defined_by, definitions, bodies}
use Rattle.script_rules.specs.ScopeFaults.{IsRight}
use Rattle.script_rules.specs.Scoping.{class_list, function_list}
use Rattle.script_rules.specs.Writes.{Writes, writes_dyn, writes_int, writes_bool, writes_str, writes_nil, writes_class, writes_fun, WriteAll, write_none, write_more, WritesAny, IsClassType, ParamTypes, IsFunctionType}
use Rattle.script_rules.specs.declared.occurrence.Occurrence.{Occurrence}
use Rattle.script_rules.specs.declared.occurrence.Role.{Role}
use Rattle.script_rules.specs.declared.occurrence.Role.TheVariants as role
use Rattle.class_types.specs.Known.{HaveTypes}
use Rattle.class_types.proofs.OrderLaws.{In, in-left, in-right, contains-in}
use Rattle.name_scope.proofs.TypesOfScript.{classes_have_types}
use Rattle.cast_rules.proofs.ApartNames.{stands_in, faultless, function_part}
use Rattle.cast_rules.proofs.RuleTypes.{class_among}

-- ---- what is defined

-- a name that is defined as a class is one
pub defined_class : (is : List Item) (o : Occurrence) → In o (flat_map defined_by is) → is_class o.role ≡ true → class_named (classes_of is) o.text ≡ None → ⊥
defined_class [] o h r n = absurd h
defined_class (item.Class d ∷ is) o (inl q) r n =
    let t = named d.name.text o.text (ap (λ (z : Occurrence). z.text) q) in
    none_some ⊥ (sym n ∙ ap (λ (b : Bool). if b then Some d else class_named (classes_of is) o.text) t)
defined_class (item.Class d ∷ is) o (inr i) r n =
    split (bytes_eq d.name.text o.text) (λ b. (if b then Some d else class_named (classes_of is) o.text) ≡ None → ⊥) (λ _ f. some_none ⊥ f) (λ _ f. defined_class is o i r f) n
defined_class (item.Def d ∷ is) o (inl q) r n = let e : false ≡ true = ap (λ (z : Occurrence). is_class z.role) q ∙ r in cc
defined_class (item.Def d ∷ is) o (inr i) r n = defined_class is o i r n
defined_class (item.Stmt l ∷ is) o h r n = defined_class is o h r n

abbrev pub is_function : Role → Bool
is_function role.Function = true
is_function _ = false

pub defined_function : (is : List Item) (o : Occurrence) → In o (flat_map defined_by is) → is_function o.role ≡ true → function_named (functions_of is) o.text ≡ None → ⊥
defined_function [] o h r n = absurd h
defined_function (item.Def d ∷ is) o (inl q) r n =
    let t = named d.name.text o.text (ap (λ (z : Occurrence). z.text) q) in
    none_some ⊥ (sym n ∙ ap (λ (b : Bool). if b then Some d else function_named (functions_of is) o.text) t)
defined_function (item.Def d ∷ is) o (inr i) r n =
    split (bytes_eq d.name.text o.text) (λ b. (if b then Some d else function_named (functions_of is) o.text) ≡ None → ⊥) (λ _ f. some_none ⊥ f) (λ _ f. defined_function is o i r f) n
defined_function (item.Class d ∷ is) o (inl q) r n = let e : false ≡ true = ap (λ (z : Occurrence). is_function z.role) q ∙ r in cc
defined_function (item.Class d ∷ is) o (inr i) r n = defined_function is o i r n
defined_function (item.Stmt l ∷ is) o h r n = defined_function is o h r n

pub definition_is : (r : Role) → is_definition r ≡ true → (is_class r ≡ true) ⊎ (is_function r ≡ true)
definition_is role.Class e = inl refl
definition_is role.Function e = inr refl
definition_is _ e = absurd cc

have_type : (cs ds : List ClassDef) (d : ClassDef) → HaveTypes cs ds → In d ds → (t : Ty) × IsClassType cs d t
have_type cs [] d h i = absurd i
have_type cs (c ∷ ds) d h (inl e) = subst (λ (k : ClassDef). (t : Ty) × IsClassType cs k t) e h.0
have_type cs (c ∷ ds) d h (inr i) = have_type cs ds d h.1 i

module _ (s : Script) (right : IsRight s) where
  class_is : (x : List ℕ) (d : ClassDef) → class_named (class_list s) x ≡ Some d → (t : Ty) × IsClassType (class_list s) d t
  class_is x d e =
      let types = classes_have_types s (λ p r f. right.names p r (inl f)) (λ p f. right.names p RecursiveClass (inr (f, refl))) in
      have_type (class_list s) (class_list s) d types (class_among (class_list s) x d e)

  module _ (body : List Occurrence) (part : In body (bodies s)) where
    known_class : (w : Word) → In (at role.Typed w) body → (k : ClassDef) × (class_named (class_list s) w.text ≡ Some k)
    known_class w i =
        split_option (class_named (class_list s) w.text) (λ o. class_named (class_list s) w.text ≡ o → (k : ClassDef) × (class_named (class_list s) w.text ≡ Some k))
        (λ _ e.
        let st = stands_in body (at role.Typed w) i in
        absurd (faultless s right body part w.place UnknownName (unknown_type st.0 (at role.Typed w) st.1 refl
        (λ h. defined_class s.items h.occurrence (contains-in h.occurrence (definitions s) h.member) h.role (ap (λ (x : List ℕ). class_named (class_list s) x) h.text ∙ e)) refl)))
        (λ k _ e. (k, e)) refl

    -- these stand in the body
    abbrev pub Within : List Occurrence → Type 0
    Within os = (o : Occurrence) → In o os → In o body

    mutual
      pub ann_has_type : (a : Ann) → Within (in_ann a) → (t : Ty) × Writes (class_list s) a t
      ann_has_type (ann p form.dyn) h = (dyn, writes_dyn)
      ann_has_type (ann p form.int) h = (int, writes_int)
      ann_has_type (ann p form.bool) h = (bool, writes_bool)
      ann_has_type (ann p form.str) h = (str, writes_str)
      ann_has_type (ann p form.nil) h = (nil, writes_nil)
      ann_has_type (ann p (form.class w)) h =
          let k = known_class w (h (at role.Typed w) (inl refl)) in
          let c = class_is w.text k.0 k.1 in
          (c.0, writes_class k.1 (c.1).fields (c.1).type)
      ann_has_type (ann p (form.fun as_ a)) h =
          let ts = anns_have_types as_ (λ o i. h o (in-left o (in_anns as_) (in_ann a) i)) in
          let t = ann_has_type a (λ o i. h o (in-right o (in_anns as_) (in_ann a) i)) in
          (fun ts.0 t.0, writes_fun ts.1 t.1)

      anns_have_types : (as_ : Anns) → Within (in_anns as_) → (ts : Tys) × WriteAll (class_list s) as_ ts
      anns_have_types no_anns h = (no_tys, write_none)
      anns_have_types (more_anns a as_) h =
          let t = ann_has_type a (λ o i. h o (in-left o (in_ann a) (in_anns as_) i)) in
          let ts = anns_have_types as_ (λ o i. h o (in-right o (in_ann a) (in_anns as_) i)) in
          (more_tys t.0 ts.0, write_more t.1 ts.1)

    any_has_type : (a : Option Ann) → Within (in_any_ann a) → (t : Ty) × WritesAny (class_list s) a t
    any_has_type None h = (dyn, refl)
    any_has_type (Some a) h = ann_has_type a h

    params_have_types : (ps : List Param) → Within (flat_map in_param ps) → (ts : Tys) × ParamTypes (class_list s) ps ts
    params_have_types [] h = (no_tys, tt)
    params_have_types (p ∷ ps) h =
        let t = any_has_type p.ann (λ o i. h o (in-left o (in_param p) (flat_map in_param ps) (inr i))) in
        let ts = params_have_types ps (λ o i. h o (in-right o (in_param p) (flat_map in_param ps) i)) in
        (more_tys t.0 ts.0, (t.1, ts.1))

  -- a function has its declared type
  pub function_has_type : (d : FuncDef) → In d (function_list s) → (t : Ty) × IsFunctionType (class_list s) d t
  function_has_type d h =
      let params = flat_map in_param d.params in
      let result = in_any_ann d.result in
      let inner = in_block (block d.body) in
      let part = function_part s d h in
      let ts = params_have_types (in_function d) part d.params (λ o i. in-left o (params ++ result) inner (in-left o params result i)) in
      let t = any_has_type (in_function d) part d.result (λ o i. in-left o (params ++ result) inner (in-right o params result i)) in
      (fun ts.0 t.0, record { parameters = ts.0; result = t.0; takes = ts.1; gives = t.1; type = refl })
