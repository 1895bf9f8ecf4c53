-- An annotation writes one type at most.
use Rattle.std.proofs.Common.{◌≡◌, List, [], ◌∷◌, Option, Some, None, refl, sym, ◌∙◌, ap, subst}
use Rattle.mono_list.proofs.Cases.{some_is}
use Rattle.mono_syntax.specs.declared.leaf.Word.{Word}
use Rattle.mono_syntax.specs.declared.tree.ClassDef.{ClassDef}
use Rattle.mono_syntax.specs.declared.tree.FieldDef.{FieldDef}
use Rattle.mono_syntax.specs.declared.tree.FuncDef.{FuncDef}
use Rattle.mono_syntax.specs.declared.tree.Param.{Param}
use Rattle.mono_syntax.specs.Ann.{Ann, ann, Anns, no_anns, more_anns}
use Rattle.mono_syntax.specs.Ann as form
use Rattle.mono_syntax.specs.Ty.{Ty, dyn, int, bool, str, nil, fun, obj, Tys, no_tys, more_tys, Fields, no_fields, more_fields}
use Rattle.script_rules.specs.Definitions.{class_named}
use Rattle.script_rules.specs.Writes.{in_order, Writes, writes_dyn, writes_int, writes_bool, writes_str, writes_nil, writes_class, writes_fun, WriteAll, write_none, write_more, Declares, declares_none, declares_more, WritesAny, ParamTypes, IsFunctionType}

module _ (cs : List ClassDef) where
  record ClassRow (w : Word) (t : Ty) : Type 0 where
    pub class : ClassDef
    pub fields : Fields
    pub named : class_named cs w.text ≡ Some class
    pub declares : Declares cs class.fields fields
    pub type : t ≡ obj (in_order fields)

  record FunRow (ps : Anns) (a : Ann) (t : Ty) : Type 0 where
    pub parameters : Tys
    pub result : Ty
    pub takes : WriteAll cs ps parameters
    pub gives : Writes cs a result
    pub type : t ≡ fun parameters result

  -- what stands behind an annotation of each form
  abbrev Row : Ann → Ty → Type 0
  Row (ann p form.dyn) t = t ≡ dyn
  Row (ann p form.int) t = t ≡ int
  Row (ann p form.bool) t = t ≡ bool
  Row (ann p form.str) t = t ≡ str
  Row (ann p form.nil) t = t ≡ nil
  Row (ann p (form.class w)) t = ClassRow w t
  Row (ann p (form.fun as_ a)) t = FunRow as_ a t

  row : (a : Ann) (t : Ty) → Writes cs a t → Row a t
  row a t writes_dyn = refl
  row a t writes_int = refl
  row a t writes_bool = refl
  row a t writes_str = refl
  row a t writes_nil = refl
  row a t (writes_class n d e) = record { class = _; fields = _; named = n; declares = d; type = e }
  row a t (writes_fun f g) = record { parameters = _; result = _; takes = f; gives = g; type = refl }

  record AllRow (a : Ann) (rest : Anns) (ts : Tys) : Type 0 where
    pub first : Ty
    pub others : Tys
    pub writes : Writes cs a first
    pub all : WriteAll cs rest others
    pub types : ts ≡ more_tys first others

  abbrev AllRows : Anns → Tys → Type 0
  AllRows no_anns ts = ts ≡ no_tys
  AllRows (more_anns a rest) ts = AllRow a rest ts

  all_rows : (as_ : Anns) (ts : Tys) → WriteAll cs as_ ts → AllRows as_ ts
  all_rows as_ ts write_none = refl
  all_rows as_ ts (write_more f g) = record { first = _; others = _; writes = f; all = g; types = refl }

  record FieldRow (d : FieldDef) (rest : List FieldDef) (fs : Fields) : Type 0 where
    pub first : Ty
    pub others : Fields
    pub writes : Writes cs d.ann first
    pub all : Declares cs rest others
    pub fields : fs ≡ more_fields d.name.text first others

  abbrev FieldRows : List FieldDef → Fields → Type 0
  FieldRows [] fs = fs ≡ no_fields
  FieldRows (d ∷ rest) fs = FieldRow d rest fs

  field_rows : (ds : List FieldDef) (fs : Fields) → Declares cs ds fs → FieldRows ds fs
  field_rows ds fs declares_none = refl
  field_rows ds fs (declares_more f g) = record { first = _; others = _; writes = f; all = g; fields = refl }

  mutual
    pub one_type : (a : Ann) (t u : Ty) → Writes cs a t → Writes cs a u → t ≡ u
    one_type a t u (writes_dyn {p = p}) h = sym (row (ann p form.dyn) u h)
    one_type a t u (writes_int {p = p}) h = sym (row (ann p form.int) u h)
    one_type a t u (writes_bool {p = p}) h = sym (row (ann p form.bool) u h)
    one_type a t u (writes_str {p = p}) h = sym (row (ann p form.str) u h)
    one_type a t u (writes_nil {p = p}) h = sym (row (ann p form.nil) u h)
    one_type a t u (writes_class {p = p} {w = w} {d = d} {fs = fs} n f e) h =
        let r = row (ann p (form.class w)) u h in
        let class : d ≡ r.class = some_is (sym n ∙ r.named) in
        let moved = subst (λ (c : ClassDef). Declares cs c.fields r.fields) (sym class) r.declares in
        e ∙ ap (λ gs. obj (in_order gs)) (one_declared d.fields fs r.fields f moved) ∙ sym r.type
    one_type a t u (writes_fun {p = p} {as_ = as_} {a = b} {ts = ts} {t = v} f g) h =
        let r = row (ann p (form.fun as_ b)) u h in
        let takes = one_list as_ ts r.parameters f r.takes in
        let gives = one_type b v r.result g r.gives in
        (λ j. fun (takes j) (gives j)) ∙ sym r.type

    pub one_list : (as_ : Anns) (ts us : Tys) → WriteAll cs as_ ts → WriteAll cs as_ us → ts ≡ us
    one_list as_ ts us write_none h = sym (all_rows no_anns us h)
    one_list as_ ts us (write_more {a = a} {as_ = rest} {t = t} {ts = ts1} f g) h =
        let r = all_rows (more_anns a rest) us h in
        let first = one_type a t r.first f r.writes in
        let others = one_list rest ts1 r.others g r.all in
        (λ j. more_tys (first j) (others j)) ∙ sym r.types

    pub one_declared : (ds : List FieldDef) (fs gs : Fields) → Declares cs ds fs → Declares cs ds gs → fs ≡ gs
    one_declared ds fs gs declares_none h = sym (field_rows [] gs h)
    one_declared ds fs gs (declares_more {d = d} {ds = rest} {t = t} {fs = fs1} f g) h =
        let r = field_rows (d ∷ rest) gs h in
        let first = one_type d.ann t r.first f r.writes in
        let others = one_declared rest fs1 r.others g r.all in
        (λ j. more_fields d.name.text (first j) (others j)) ∙ sym r.fields

  pub one_any : (o : Option Ann) (t u : Ty) → WritesAny cs o t → WritesAny cs o u → t ≡ u
  one_any None t u f g = f ∙ sym g
  one_any (Some a) t u f g = one_type a t u f g

  pub params_once : (ps : List Param) (ts us : Tys) → ParamTypes cs ps ts → ParamTypes cs ps us → ts ≡ us
  params_once [] no_tys no_tys f g = refl
  params_once (p ∷ ps) (more_tys t ts) (more_tys u us) f g =
      let first = one_any p.ann t u f.0 g.0 in
      let others = params_once ps ts us f.1 g.1 in
      λ j. more_tys (first j) (others j)
  params_once [] (more_tys t ts) us f g = absurd f
  params_once [] no_tys (more_tys u us) f g = absurd g
  params_once (p ∷ ps) no_tys us f g = absurd f
  params_once (p ∷ ps) (more_tys t ts) no_tys f g = absurd g

  pub function_type_once : (d : FuncDef) (t u : Ty) → IsFunctionType cs d t → IsFunctionType cs d u → t ≡ u
  function_type_once d t u f g =
      let takes = params_once d.params f.parameters g.parameters f.takes g.takes in
      let gives = one_any d.result f.result g.result f.gives g.gives in
      f.type ∙ (λ j. fun (takes j) (gives j)) ∙ sym g.type
