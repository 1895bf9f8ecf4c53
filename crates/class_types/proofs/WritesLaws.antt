-- Where each class has the type that its fields give, a type is made exactly where an annotation writes it.
use Rattle.std.proofs.Common.{◌≡◌, ◌∙◌, sym, ap, subst, refl, ℕ, zero, suc, ◌+◌, ◌<◌, ◌≤◌, List, [], ◌∷◌, arith}
use Rattle.std.specs.Prelude.{Option, Some, None}
use Rattle.std.specs.Option.{option_map}
use Rattle.mono_syntax.specs.declared.tree.ClassDef.{ClassDef}
use Rattle.mono_syntax.specs.declared.tree.FieldDef.{FieldDef}
use Rattle.mono_syntax.specs.declared.tree.FuncDef.{FuncDef}
use Rattle.mono_syntax.specs.declared.tree.Param.{Param}
use Rattle.mono_syntax.specs.declared.leaf.Word.{Word}
use Rattle.mono_syntax.specs.Ann.{Ann, ann, Anns, no_anns, more_anns}
use Rattle.mono_syntax.specs.Ann as form
use Rattle.mono_syntax.specs.Ty.{Ty, dyn, int, bool, str, nil, fun, obj, Tys, no_tys, more_tys, Fields, no_fields, more_fields, ty_size, tys_size, fields_size}
use Rattle.mono_tree.specs.Meet.{both}
use Rattle.script_rules.specs.Definitions.{class_named}
use Rattle.script_rules.specs.Writes.{Writes, writes_dyn, writes_int, writes_bool, writes_str, writes_nil, writes_class, writes_fun, WriteAll, write_none, write_more, Declares, declares_none, declares_more, IsClassType, WritesAny, ParamTypes, IsFunctionType, in_order}
use Rattle.class_types.specs.computed.Made.{look, type_by, types_by, fields_by, class_by, object_of, names_of_classes, AreOwnTypes}
use Rattle.class_types.proofs.Gets.{some_is, none_some, by_option}
use Rattle.class_types.proofs.MadeLaws.{both-parts, map-parts, look-class, look-stray, order-size}

-- ---- an annotation writes one type at most

abbrev WritesLayer : List ClassDef → Ann → Ty → Type 0
WritesLayer cs (ann p form.dyn) t = t ≡ dyn
WritesLayer cs (ann p form.int) t = t ≡ int
WritesLayer cs (ann p form.bool) t = t ≡ bool
WritesLayer cs (ann p form.str) t = t ≡ str
WritesLayer cs (ann p form.nil) t = t ≡ nil
WritesLayer cs (ann p (form.class w)) t = (d : ClassDef) × (fs : Fields) × (class_named cs w.text ≡ Some d) × Declares cs d.fields fs × (t ≡ obj (in_order fs))
WritesLayer cs (ann p (form.fun as_ a)) t = (ts : Tys) × (r : Ty) × WriteAll cs as_ ts × Writes cs a r × (t ≡ fun ts r)

to_layer : {cs : List ClassDef} {a : Ann} {t : Ty} → Writes cs a t → WritesLayer cs a t
to_layer writes_dyn = refl
to_layer writes_int = refl
to_layer writes_bool = refl
to_layer writes_str = refl
to_layer writes_nil = refl
to_layer (writes_class {d = d} {fs = fs} e ds is) = (d, fs, e, ds, is)
to_layer (writes_fun {ts = ts} {t = r} as_ a) = (ts, r, as_, a, refl)

abbrev AllLayer : List ClassDef → Anns → Tys → Type 0
AllLayer cs no_anns ts = ts ≡ no_tys
AllLayer cs (more_anns a as_) ts = (t : Ty) × (rest : Tys) × Writes cs a t × WriteAll cs as_ rest × (ts ≡ more_tys t rest)

to_all : {cs : List ClassDef} {as_ : Anns} {ts : Tys} → WriteAll cs as_ ts → AllLayer cs as_ ts
to_all write_none = refl
to_all (write_more {t = t} {ts = ts} a as_) = (t, ts, a, as_, refl)

abbrev DeclaresLayer : List ClassDef → List FieldDef → Fields → Type 0
DeclaresLayer cs [] fs = fs ≡ no_fields
DeclaresLayer cs (d ∷ ds) fs = (t : Ty) × (rest : Fields) × Writes cs d.ann t × Declares cs ds rest × (fs ≡ more_fields d.name.text t rest)

to_declares : {cs : List ClassDef} {ds : List FieldDef} {fs : Fields} → Declares cs ds fs → DeclaresLayer cs ds fs
to_declares declares_none = refl
to_declares (declares_more {t = t} {fs = fs} a ds) = (t, fs, a, ds, refl)

mutual
  pub writes-unique : {cs : List ClassDef} {a : Ann} {t : Ty} (u : Ty) → Writes cs a t → Writes cs a u → t ≡ u
  writes-unique u writes_dyn w = sym (to_layer w)
  writes-unique u writes_int w = sym (to_layer w)
  writes-unique u writes_bool w = sym (to_layer w)
  writes-unique u writes_str w = sym (to_layer w)
  writes-unique u writes_nil w = sym (to_layer w)
  writes-unique {cs} u (writes_class {d = d} {fs = fs} e ds is) w =
      let v = to_layer w in
      let same : v.0 ≡ d = some_is (sym v.2 ∙ e) in
      let others : Declares cs d.fields v.1 = subst (λ c. Declares cs c.fields v.1) same v.3 in
      is ∙ (ap (λ l. obj (in_order l)) (declares-unique v.1 ds others) ∙ sym v.4)
  writes-unique u (writes_fun as_ a) w = let v = to_layer w in let l = all-unique v.0 as_ v.2 in let r = writes-unique v.1 a v.3 in (λ i. fun (l i) (r i)) ∙ sym v.4

  pub all-unique : {cs : List ClassDef} {as_ : Anns} {ts : Tys} (us : Tys) → WriteAll cs as_ ts → WriteAll cs as_ us → ts ≡ us
  all-unique us write_none w = sym (to_all w)
  all-unique us (write_more a as_) w = let v = to_all w in let l = writes-unique v.0 a v.2 in let r = all-unique v.1 as_ v.3 in (λ i. more_tys (l i) (r i)) ∙ sym v.4

  pub declares-unique : {cs : List ClassDef} {ds : List FieldDef} {fs : Fields} (gs : Fields) → Declares cs ds fs → Declares cs ds gs → fs ≡ gs
  declares-unique gs declares_none w = sym (to_declares w)
  declares-unique gs (declares_more {d = d} a ds) w = let v = to_declares w in let l = writes-unique v.0 a v.2 in let r = declares-unique v.1 ds v.3 in (λ i. more_fields d.name.text (l i) (r i)) ∙ sym v.4

pub class-unique : (cs : List ClassDef) (d : ClassDef) (t u : Ty) → IsClassType cs d t → IsClassType cs d u → t ≡ u
class-unique cs d t u p q = p.type ∙ (ap (λ l. obj (in_order l)) (declares-unique q.declared p.fields q.fields) ∙ sym q.type)

module _ (cs : List ClassDef) (own : List (Option Ty)) (settled : AreOwnTypes cs own) where
  abbrev named : List ℕ → Option Ty
  named = look (names_of_classes cs) own None

  -- ---- what is made is written

  -- fields of fewer than n nodes that are made are declared
  abbrev IsSound : ℕ → Type 0
  IsSound n = (ds : List FieldDef) (fs : Fields) → fields_size fs < n → fields_by named ds ≡ Some fs → Declares cs ds fs

  named-sound : (n : ℕ) → IsSound n → (p : _) (w : Word) (t : Ty) → ty_size t ≤ n → named w.text ≡ Some t → Writes cs (ann p (form.class w)) t
  named-sound n sound p w t small e = by_option (class_named cs w.text)
      (λ no. none_some (sym (look-stray cs None own w.text no) ∙ e))
      (λ d is. map-parts object_of (fields_by named d.fields) t (sym (look-class cs None own (class_by named) w.text d settled is) ∙ e)
      (λ fs ef et. writes_class is (sound d.fields fs (let h : fields_size (in_order fs) ≡ fields_size fs = order-size fs in let k : fields_size (in_order fs) + 1 ≡ ty_size t = ap ty_size et in omega arith) ef) (sym et)))

  mutual
    type-sound : (n : ℕ) → IsSound n → (a : Ann) (t : Ty) → ty_size t ≤ n → type_by named a ≡ Some t → Writes cs a t
    type-sound n sound (ann p form.dyn) t small e = subst (Writes cs (ann p form.dyn)) (some_is e) writes_dyn
    type-sound n sound (ann p form.int) t small e = subst (Writes cs (ann p form.int)) (some_is e) writes_int
    type-sound n sound (ann p form.bool) t small e = subst (Writes cs (ann p form.bool)) (some_is e) writes_bool
    type-sound n sound (ann p form.str) t small e = subst (Writes cs (ann p form.str)) (some_is e) writes_str
    type-sound n sound (ann p form.nil) t small e = subst (Writes cs (ann p form.nil)) (some_is e) writes_nil
    type-sound n sound (ann p (form.class w)) t small e = named-sound n sound p w t small e
    type-sound n sound (ann p (form.fun as_ a)) t small e = both-parts fun (types_by named as_) (type_by named a) t e (λ ts r ex ey ez.
        let k : tys_size ts + ty_size r + 1 ≡ ty_size t = ap ty_size ez in
        subst (Writes cs (ann p (form.fun as_ a))) ez (writes_fun (types-sound n sound as_ ts (omega arith) ex) (type-sound n sound a r (omega arith) ey)))

    types-sound : (n : ℕ) → IsSound n → (as_ : Anns) (ts : Tys) → tys_size ts ≤ n → types_by named as_ ≡ Some ts → WriteAll cs as_ ts
    types-sound n sound no_anns ts small e = subst (WriteAll cs no_anns) (some_is e) write_none
    types-sound n sound (more_anns a as_) ts small e = both-parts more_tys (type_by named a) (types_by named as_) ts e (λ t rest ex ey ez.
        let k : ty_size t + tys_size rest ≡ tys_size ts = ap tys_size ez in
        subst (WriteAll cs (more_anns a as_)) ez (write_more (type-sound n sound a t (omega arith) ex) (types-sound n sound as_ rest (omega arith) ey)))

  fields-sound : (n : ℕ) → IsSound n → (ds : List FieldDef) (fs : Fields) → fields_size fs ≤ n → fields_by named ds ≡ Some fs → Declares cs ds fs
  fields-sound n sound [] fs small e = subst (Declares cs []) (some_is e) declares_none
  fields-sound n sound (d ∷ ds) fs small e = both-parts (more_fields d.name.text) (type_by named d.ann) (fields_by named ds) fs e (λ t rest ex ey ez.
      let k : ty_size t + fields_size rest + 1 ≡ fields_size fs = ap fields_size ez in
      subst (Declares cs (d ∷ ds)) ez (declares_more (type-sound n sound d.ann t (omega arith) ex) (fields-sound n sound ds rest (omega arith) ey)))

  all-sound : (n : ℕ) → IsSound n
  all-sound zero ds fs small e = absurd (omega arith)
  all-sound (suc n) ds fs small e = fields-sound n (all-sound n) ds fs (omega arith) e

  pub made-writes : (a : Ann) (t : Ty) → type_by named a ≡ Some t → Writes cs a t
  made-writes a t e = type-sound (ty_size t) (all-sound (ty_size t)) a t (omega arith) e

  pub made-declares : (ds : List FieldDef) (fs : Fields) → fields_by named ds ≡ Some fs → Declares cs ds fs
  made-declares ds fs e = all-sound (suc (fields_size fs)) ds fs (omega arith) e

  -- ---- what is written is made

  mutual
    pub writes-made : {a : Ann} {t : Ty} → Writes cs a t → type_by named a ≡ Some t
    writes-made writes_dyn = refl
    writes-made writes_int = refl
    writes-made writes_bool = refl
    writes-made writes_str = refl
    writes-made writes_nil = refl
    writes-made (writes_class {w = w} {d = d} {fs = fs} is ds e) =
        look-class cs None own (class_by named) w.text d settled is ∙ (ap (option_map object_of) (declares-made ds) ∙ ap Some (sym e))
    writes-made (writes_fun as_ a) = let x = all-made as_ in let y = writes-made a in λ i. both fun (x i) (y i)

    pub all-made : {as_ : Anns} {ts : Tys} → WriteAll cs as_ ts → types_by named as_ ≡ Some ts
    all-made write_none = refl
    all-made (write_more a as_) = let x = writes-made a in let y = all-made as_ in λ i. both more_tys (x i) (y i)

    pub declares-made : {ds : List FieldDef} {fs : Fields} → Declares cs ds fs → fields_by named ds ≡ Some fs
    declares-made declares_none = refl
    declares-made (declares_more {d = d} a ds) = let x = writes-made a in let y = declares-made ds in λ i. both (more_fields d.name.text) (x i) (y i)

  -- ---- classes

  pub made-class : (d : ClassDef) (t : Ty) → class_by named d ≡ Some t → IsClassType cs d t
  made-class d t e = map-parts object_of (fields_by named d.fields) t e (λ fs ef et. record { declared = fs; fields = made-declares d.fields fs ef; type = sym et })

  pub class-made : (d : ClassDef) (t : Ty) → IsClassType cs d t → class_by named d ≡ Some t
  class-made d t c = ap (option_map object_of) (declares-made c.fields) ∙ ap Some (sym c.type)

-- ---- uniqueness for parameters and functions

pub any-unique : (cs : List ClassDef) (a : Option Ann) (t u : Ty) → WritesAny cs a t → WritesAny cs a u → t ≡ u
any-unique cs None t u p q = p ∙ sym q
any-unique cs (Some a) t u p q = writes-unique u p q

params-unique : (cs : List ClassDef) (ps : List Param) (ts us : Tys) → ParamTypes cs ps ts → ParamTypes cs ps us → ts ≡ us
params-unique cs [] no_tys no_tys p q = refl
params-unique cs [] no_tys (more_tys u us) p q = absurd q
params-unique cs [] (more_tys t ts) us p q = absurd p
params-unique cs (a ∷ ps) no_tys us p q = absurd p
params-unique cs (a ∷ ps) (more_tys t ts) no_tys p q = absurd q
params-unique cs (a ∷ ps) (more_tys t ts) (more_tys u us) p q = let x = any-unique cs a.ann t u p.0 q.0 in let y = params-unique cs ps ts us p.1 q.1 in λ i. more_tys (x i) (y i)

pub function-unique : (cs : List ClassDef) (d : FuncDef) (t u : Ty) → IsFunctionType cs d t → IsFunctionType cs d u → t ≡ u
function-unique cs d t u p q =
    let x = params-unique cs d.params p.parameters q.parameters p.takes q.takes in
    let y = any-unique cs d.result p.result q.result p.gives q.gives in
    p.type ∙ ((λ i. fun (x i) (y i)) ∙ sym q.type)
