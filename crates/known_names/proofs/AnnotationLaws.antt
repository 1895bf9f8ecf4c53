-- The type that the code finds for an annotation is the one that it writes.
use Rattle.std.proofs.Common.{◌≡◌, ℕ, List, [], ◌∷◌, ◌++◌, refl, sym, ◌∙◌, ap, subst, append_assoc}
use Rattle.std.specs.Prelude.{Option, Some, None, map}
use Rattle.std.specs.Option.{option_map}
use Rattle.std.proofs.lemmas.List.{append-nil}
use Rattle.mono_list.proofs.Cases.{some_is, none_some}
use Rattle.mono_syntax.specs.declared.cast.NamedType.{NamedType}
use Rattle.mono_syntax.specs.declared.leaf.Place.{Place}
use Rattle.mono_syntax.specs.declared.leaf.Word.{Word}
use Rattle.mono_syntax.specs.declared.tree.ClassDef.{ClassDef}
use Rattle.mono_syntax.specs.declared.tree.FieldDef.{FieldDef}
use Rattle.mono_syntax.specs.declared.tree.FuncDef.{FuncDef}
use Rattle.mono_syntax.specs.Ann.{Ann, ann, Anns, no_anns, more_anns}
use Rattle.mono_syntax.specs.Ann as form
use Rattle.mono_syntax.specs.Ty.{Ty, dyn, int, bool, str, nil, fun, obj, Tys, Fields, more_fields}
use Rattle.mono_syntax.specs.TyView.{tys, tys_list, fields}
use Rattle.mono_syntax.proofs.Lists.{tys-tys_list}
use Rattle.mono_tree.specs.TypedPrograms.{type_of_name}
use Rattle.script_rules.specs.Definitions.{class_named}
use Rattle.script_rules.specs.Writes.{in_order, Writes, writes_dyn, writes_int, writes_bool, writes_str, writes_nil, writes_class, writes_fun, WriteAll, write_none, write_more, Declares, declares_none, declares_more}
use Rattle.known_names.specs.declared.known.Known.{Known}
use Rattle.known_names.specs.computed.Annotations.{written, written_form, written_all, known_fields}
use Rattle.known_names.specs.IsKnown.{TypesKnown, IsKnown}
use Rattle.known_names.specs.computed.TypeTests.{type_or_dyn}
use Rattle.known_names.proofs.Classes.{SameType, same_type}
use Rattle.known_names.proofs.Steps.{then_some, map_some}
use Rattle.static_types.proofs.Writing.{one_declared}

module _ (cs : List ClassDef) (ns : List NamedType) (known : TypesKnown cs cs ns) where
  -- ---- what is found is written

  class_written : (p : Place) (w : Word) (t : Ty) (o : Option ClassDef) (u : Option Ty) → class_named cs w.text ≡ o → u ≡ Some t → SameType cs o u → Writes cs (ann p (form.class w)) t
  class_written p w t (Some d) (Some u) c e h = writes_class c h.fields (sym (some_is e) ∙ h.type)
  class_written p w t None (Some u) c e h = absurd h
  class_written p w t o None c e h = none_some (Writes cs (ann p (form.class w)) t) e

  -- a row of annotations writes these types, behind those that are done
  abbrev WritesBehind : List Ty → Anns → List Ty → Type 0
  WritesBehind done as_ us = (ts : List Ty) × (us ≡ done ++ ts) × WriteAll cs as_ (tys ts)

  at_type : {a : Ann} (t u : Ty) → Some t ≡ Some u → Writes cs a t → Writes cs a u
  at_type {a = a} t u e h = subst (λ (z : Ty). Writes cs a z) (some_is e) h

  mutual
    pub is_written : (a : Ann) (t : Ty) → written ns a ≡ Some t → Writes cs a t
    is_written (ann p f) t e = found_form p f t e

    found_form : (p : Place) (f : form.Form) (t : Ty) → written_form ns f ≡ Some t → Writes cs (ann p f) t
    found_form p form.dyn t e = at_type dyn t e writes_dyn
    found_form p form.int t e = at_type int t e writes_int
    found_form p form.bool t e = at_type bool t e writes_bool
    found_form p form.str t e = at_type str t e writes_str
    found_form p form.nil t e = at_type nil t e writes_nil
    found_form p (form.class w) t e = class_written p w t (class_named cs w.text) (type_of_name ns w.text) refl e (same_type cs cs ns w.text known)
    found_form p (form.fun ps r) t e =
        let (us, g, h) = then_some (λ (ts : List Ty). option_map (λ (z : Ty). fun (tys ts) z) (written ns r)) (written_all ns [] ps) t e in
        let (u, i, j) = map_some (λ (z : Ty). fun (tys us) z) (written ns r) t h in
        let (ts, k, all) = found_all [] ps us g in
        subst (λ (z : Ty). Writes cs (ann p (form.fun ps r)) z) j (writes_fun (subst (λ (z : List Ty). WriteAll cs ps (tys z)) (sym k) all) (is_written r u i))

    found_all : (done : List Ty) (as_ : Anns) (us : List Ty) → written_all ns done as_ ≡ Some us → WritesBehind done as_ us
    found_all done no_anns us e = ([], sym (some_is e) ∙ sym (append-nil done), write_none)
    found_all done (more_anns a as_) us e =
        let (t, g, h) = then_some (λ (z : Ty). written_all ns (done ++ z ∷ []) as_) (written ns a) us e in
        let (ts, k, all) = found_all (done ++ t ∷ []) as_ us h in
        (t ∷ ts, k ∙ append_assoc done (t ∷ []) ts, write_more (is_written a t g) all)

  -- ---- what is written is found

  class_found : (w : Word) (d : ClassDef) (fs : Fields) (t : Ty) (o : Option ClassDef) (u : Option Ty) → class_named cs w.text ≡ Some d → Declares cs d.fields fs → t ≡ obj (in_order fs)
      → class_named cs w.text ≡ o → type_of_name ns w.text ≡ u → SameType cs o u → type_of_name ns w.text ≡ Some t
  class_found w d fs t (Some k) (Some u) c f e i j h =
      let same : Some k ≡ Some d = sym i ∙ c in
      let declared = subst (λ (z : ClassDef). Declares cs z.fields h.declared) (some_is same) h.fields in
      j ∙ ap (λ (z : Ty). Some z) (h.type ∙ ap (λ (z : Fields). obj (in_order z)) (one_declared cs d.fields h.declared fs declared f) ∙ sym e)
  class_found w d fs t (Some k) None c f e i j h = absurd h
  class_found w d fs t None u c f e i j h = none_some (type_of_name ns w.text ≡ Some t) (sym i ∙ c)

  mutual
    pub is_found : {a : Ann} {t : Ty} → Writes cs a t → written ns a ≡ Some t
    is_found writes_dyn = refl
    is_found writes_int = refl
    is_found writes_bool = refl
    is_found writes_str = refl
    is_found writes_nil = refl
    is_found (writes_class {w = w} {d = d} {fs = fs} {t = t} c f e) =
        class_found w d fs t (class_named cs w.text) (type_of_name ns w.text) c f e refl refl (same_type cs cs ns w.text known)
    is_found (writes_fun {ts = ts} {t = t} as_ a) = rw (written_all_found as_ [], is_found a) (ap (λ (z : Tys). Some (fun z t)) (tys-tys_list ts))

    written_all_found : {as_ : Anns} {ts : Tys} → WriteAll cs as_ ts → (done : List Ty) → written_all ns done as_ ≡ Some (done ++ tys_list ts)
    written_all_found write_none done = ap (λ (z : List Ty). Some z) (sym (append-nil done))
    written_all_found (write_more {t = t} {ts = ts} a as_) done =
        rw (is_found a) (written_all_found as_ (done ++ t ∷ []) ∙ ap (λ (z : List Ty). Some z) (append_assoc done (t ∷ []) (tys_list ts)))

  -- ---- the fields of a class

  pub declared_fields : {ds : List FieldDef} {gs : Fields} → Declares cs ds gs → fields (known_fields ns ds) ≡ gs
  declared_fields declares_none = refl
  declared_fields (declares_more {d = d} {t = t} a as_) =
      λ i. more_fields d.name.text (type_or_dyn (is_found a i)) (declared_fields as_ i)

  pub field_names : (ds : List FieldDef) → map (λ f. f.name) (known_fields ns ds) ≡ map (λ f. f.name.text) ds
  field_names [] = refl
  field_names (d ∷ ds) = ap (λ (z : List (List ℕ)). d.name.text ∷ z) (field_names ds)

-- ---- where the script's names are known

module _ (cs : List ClassDef) (fs : List FuncDef) (ks : Known) (known : IsKnown cs fs ks) where
  pub found_writes : (a : Ann) (t : Ty) → written ks.annotations a ≡ Some t → Writes cs a t
  found_writes a t e = is_written cs ks.annotations known.annotations a t e

  pub written_found : {a : Ann} {t : Ty} → Writes cs a t → written ks.annotations a ≡ Some t
  written_found h = is_found cs ks.annotations known.annotations h
