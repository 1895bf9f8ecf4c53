-- The types that a right script writes are types of the language: no field stands twice in a class, and nothing has over eight parameters.
use Rattle.std.proofs.Common.{◌≡◌, inl, inr, ℕ, ◌<◌, ◌≤◌, List, [], ◌∷◌, ◌++◌, length, Option, Some, None, map, flat_map, refl, sym, ◌∙◌, ap, subst, arith, append_assoc}
use Rattle.std.specs.Prelude.{Contains}
use Rattle.mono_syntax.specs.Limits.{most_parameters}
use Rattle.mono_syntax.specs.declared.refusal.Reason.TheVariants.{Twice, TooManyParameters}
use Rattle.mono_syntax.specs.declared.tree.ClassDef.{ClassDef}
use Rattle.mono_syntax.specs.declared.tree.FieldDef.{FieldDef}
use Rattle.mono_syntax.specs.declared.tree.FuncDef.{FuncDef}
use Rattle.mono_syntax.specs.declared.tree.Item.{Item}
use Rattle.mono_syntax.specs.declared.tree.Item.TheVariants as item
use Rattle.mono_syntax.specs.declared.tree.Param.{Param}
use Rattle.mono_syntax.specs.declared.tree.Script.{Script}
use Rattle.mono_syntax.specs.Ann.{Ann}
use Rattle.mono_syntax.specs.Ty.{Ty, Tys, no_tys, more_tys, Fields}
use Rattle.mono_tree.specs.FieldNames.{names_of}
use Rattle.mono_tree.specs.IsType.{IsType, AreTypes, HaveTypes, tys_count}
use Rattle.script_rules.specs.Definitions.{classes_of, functions_of}
use Rattle.script_rules.specs.NameFaults.{BodyFault, field_twice}
use Rattle.script_rules.specs.NameRules.{is_field, Stands}
use Rattle.script_rules.specs.Occurrences.{at, in_ann, in_field, in_class, definitions, body_of, in_main, bodies}
use Rattle.script_rules.specs.ScopeFaults.{IsRight}
use Rattle.script_rules.specs.Scoping.{class_list, function_list}
use Rattle.script_rules.specs.SizeFaults.{wide_callable, many_parameters}
use Rattle.script_rules.specs.SourceParts.{Part, annotation, any_ann, param_parts, field_parts, body_parts, item_parts, parts_of}
use Rattle.script_rules.specs.WellFormed.{AreApart, IsNarrow, AreWellFormed}
use Rattle.script_rules.specs.Writes.{Writes, WritesAny, Declares, declares_none, declares_more, IsClassType, ParamTypes, IsFunctionType}
use Rattle.script_rules.specs.declared.occurrence.Occurrence.{Occurrence}
use Rattle.script_rules.specs.declared.occurrence.Role.TheVariants as role
use Rattle.class_types.proofs.OrderLaws.{In, in-left, in-right, in-contains, contains-in}
use Rattle.class_types.proofs.OrderedNames.{order-order, order-types, written-type}
use Rattle.cast_rules.proofs.Defined.{declared_names}

-- ---- parts that stand in a script

abbrev pub Stand : Script → List Part → Type 0
Stand s ps = (x : Part) → In x ps → In x (parts_of s.items)

pub stand_left : (s : Script) (xs ys : List Part) → Stand s (xs ++ ys) → Stand s xs
stand_left s xs ys h x i = h x (in-left x xs ys i)

pub stand_right : (s : Script) (xs ys : List Part) → Stand s (xs ++ ys) → Stand s ys
stand_right s xs ys h x i = h x (in-right x xs ys i)

class_parts : (is : List Item) (d : ClassDef) → In d (classes_of is) → (x : Part) → In x (field_parts d.fields) → In x (parts_of is)
class_parts [] d h x i = absurd h
class_parts (item.Class c ∷ is) d (inl e) x i = in-left x (field_parts c.fields) (parts_of is) (subst (λ (k : ClassDef). In x (field_parts k.fields)) (sym e) i)
class_parts (item.Class c ∷ is) d (inr h) x i = in-right x (field_parts c.fields) (parts_of is) (class_parts is d h x i)
class_parts (item.Def c ∷ is) d h x i = in-right x (item_parts (item.Def c)) (parts_of is) (class_parts is d h x i)
class_parts (item.Stmt c ∷ is) d h x i = in-right x (item_parts (item.Stmt c)) (parts_of is) (class_parts is d h x i)

pub function_parts : (is : List Item) (d : FuncDef) → In d (functions_of is) → (x : Part) → In x (item_parts (item.Def d)) → In x (parts_of is)
function_parts [] d h x i = absurd h
function_parts (item.Def c ∷ is) d (inl e) x i = in-left x (item_parts (item.Def c)) (parts_of is) (subst (λ (k : FuncDef). In x (item_parts (item.Def k))) (sym e) i)
function_parts (item.Def c ∷ is) d (inr h) x i = in-right x (item_parts (item.Def c)) (parts_of is) (function_parts is d h x i)
function_parts (item.Class c ∷ is) d h x i = in-right x (item_parts (item.Class c)) (parts_of is) (function_parts is d h x i)
function_parts (item.Stmt c ∷ is) d h x i = in-right x (item_parts (item.Stmt c)) (parts_of is) (function_parts is d h x i)

field_part : (fs : List FieldDef) (f : FieldDef) → In f fs → In (annotation f.ann) (field_parts fs)
field_part [] f h = absurd h
field_part (g ∷ fs) f (inl e) = inl (ap (λ (k : FieldDef). annotation k.ann) e)
field_part (g ∷ fs) f (inr h) = inr (field_part fs f h)

-- ---- the body of a class is one of the bodies

class_body : (is : List Item) (d : ClassDef) → In d (classes_of is) → In (in_class d) (flat_map body_of is)
class_body [] d h = absurd h
class_body (item.Class c ∷ is) d (inl e) = inl (ap in_class e)
class_body (item.Class c ∷ is) d (inr h) = inr (class_body is d h)
class_body (item.Def c ∷ is) d h = inr (class_body is d h)
class_body (item.Stmt c ∷ is) d h = class_body is d h

body_stands : (s : Script) (d : ClassDef) → In d (class_list s) → In (in_class d) (bodies s)
body_stands s d h = inr (in-left (in_class d) (flat_map body_of s.items) (in_main s ∷ []) (class_body s.items d h))

-- ---- no field stands twice

record Again (n : List ℕ) (fs : List FieldDef) : Type 0 where
  pub mid : List FieldDef
  pub field : FieldDef
  pub tail : List FieldDef
  pub whole : fs ≡ mid ++ field ∷ tail
  pub name : field.name.text ≡ n

again : (n : List ℕ) (fs : List FieldDef) → In n (map (λ f. f.name.text) fs) → Again n fs
again n [] h = absurd h
again n (f ∷ fs) (inl e) = record { mid = []; field = f; tail = fs; whole = refl; name = e }
again n (f ∷ fs) (inr h) =
    let r = again n fs h in
    record { mid = f ∷ r.mid; field = r.field; tail = r.tail; whole = ap (λ l. f ∷ l) r.whole; name = r.name }

fields_append : (xs ys : List FieldDef) → flat_map in_field (xs ++ ys) ≡ flat_map in_field xs ++ flat_map in_field ys
fields_append [] ys = refl
fields_append (x ∷ xs) ys = ap (λ l. in_field x ++ l) (fields_append xs ys) ∙ sym (append_assoc (in_field x) (flat_map in_field xs) (flat_map in_field ys))

module _ (s : Script) (right : IsRight s) where
  -- a name can't stand in a class as a field and again
  not_again : (d : ClassDef) → In d (class_list s) → (front : List FieldDef) (f : FieldDef) (fs : List FieldDef) → d.fields ≡ front ++ f ∷ fs
      → In f.name.text (map (λ g. g.name.text) fs) → ⊥
  not_again d stands front f fs e c =
      let r = again f.name.text fs c in
      let g = r.field in
      let before = flat_map in_field (front ++ f ∷ r.mid) in
      let after = in_ann g.ann ++ flat_map in_field r.tail in
      let fields : d.fields ≡ (front ++ f ∷ r.mid) ++ g ∷ r.tail = e ∙ ap (λ l. front ++ f ∷ l) r.whole ∙ sym (append_assoc front (f ∷ r.mid) (g ∷ r.tail)) in
      let whole : in_class d ≡ before ++ at role.Field g.name ∷ after = ap (λ l. flat_map in_field l) fields ∙ fields_append (front ++ f ∷ r.mid) (g ∷ r.tail) in
      let parted : before ≡ flat_map in_field front ++ at role.Field f.name ∷ (in_ann f.ann ++ flat_map in_field r.mid) = fields_append front (f ∷ r.mid) in
      let first = at role.Field f.name in
      let there : In first (flat_map in_field front ++ first ∷ (in_ann f.ann ++ flat_map in_field r.mid)) =
      in-right first (flat_map in_field front) (first ∷ (in_ann f.ann ++ flat_map in_field r.mid)) (inl refl) in
      let member : Contains before first = in-contains first before (subst (λ (l : List Occurrence). In first l) (sym parted) there) in
      let seen : Stands before is_field g.name.text = record { occurrence = first; member = member; role = refl; text = sym r.name } in
      let fault : BodyFault (definitions s) (in_class d) g.name.place Twice = field_twice before (at role.Field g.name) (record { after = after; whole = whole }) refl seen refl in
      right.names g.name.place Twice (inl (record { body = in_class d; part = in-contains (in_class d) (bodies s) (body_stands s d stands); fault = fault }))

  apart_from : (d : ClassDef) → In d (class_list s) → (front fs : List FieldDef) → d.fields ≡ front ++ fs → AreApart (map (λ g. g.name.text) fs)
  apart_from d stands front [] e = tt
  apart_from d stands front (f ∷ fs) e = (
    λ c. not_again d stands front f fs e (contains-in f.name.text (map (λ g. g.name.text) fs) c),
    apart_from d stands (front ++ f ∷ []) fs (e ∙ sym (append_assoc front (f ∷ []) fs)),
  )

  -- ---- no Callable is wide

  narrow : (a : Ann) → In (annotation a) (parts_of s.items) → IsNarrow a
  narrow a h c k =
      let n : most_parameters < c.count → ⊥ = λ more. right.sizes c.place TooManyParameters (wide_callable a c (in-contains (annotation a) (parts_of s.items) h) k more refl) in
      omega (arith, n)

  pub well_formed : AreWellFormed (class_list s)
  well_formed = record {
    apart = λ d c. apart_from d (contains-in d (class_list s) c) [] d.fields refl;
    narrow = λ d f c k.
        let stands = class_parts s.items d (contains-in d (class_list s) c) (annotation f.ann) (field_part d.fields f (contains-in f d.fields k)) in
        narrow f.ann stands;
  }

  -- ---- annotations, classes and functions

  pub annotation_type : (a : Ann) (t : Ty) → In (annotation a) (parts_of s.items) → Writes (class_list s) a t → IsType t
  annotation_type a t h w = written-type (class_list s) well_formed a t (narrow a h) w

  pub any_type : (o : Option Ann) (t : Ty) → Stand s (any_ann o) → WritesAny (class_list s) o t → IsType t
  any_type None t h w = subst IsType (sym w) tt
  any_type (Some a) t h w = annotation_type a t (h (annotation a) (inl refl)) w

  declared : (ds : List FieldDef) (fs : Fields) → Stand s (field_parts ds) → Declares (class_list s) ds fs → HaveTypes fs
  declared ds fs h declares_none = tt
  declared ds fs h (declares_more {d = d} {ds = rest} {t = t} {fs = gs} w k) =
      (annotation_type d.ann t (h (annotation d.ann) (inl refl)) w, declared rest gs (λ x i. h x (inr i)) k)

  -- the fields of a class have types
  pub declared_types : (d : ClassDef) (fs : Fields) → In d (class_list s) → Declares (class_list s) d.fields fs → HaveTypes fs
  declared_types d fs h w = declared d.fields fs (λ x i. class_parts s.items d h x i) w

  pub class_type : (d : ClassDef) (t : Ty) → In d (class_list s) → IsClassType (class_list s) d t → IsType t
  class_type d t h c =
      let names = declared_names (class_list s) d.fields c.declared c.fields in
      let apart : AreApart (names_of c.declared) = subst AreApart names (apart_from d h [] d.fields refl) in
      subst IsType (sym c.type) (order-order c.declared apart, order-types c.declared (declared_types d c.declared h c.fields))

  param_types : (ps : List Param) (ts : Tys) → Stand s (param_parts ps) → ParamTypes (class_list s) ps ts → AreTypes ts × (tys_count ts ≡ length ps)
  param_types [] no_tys h k = (tt, refl)
  param_types (p ∷ ps) (more_tys t ts) h k =
      let rest = param_types ps ts (stand_right s (any_ann p.ann) (param_parts ps) h) k.1 in
      let count = rest.1 in
      ((any_type p.ann t (stand_left s (any_ann p.ann) (param_parts ps) h) k.0, rest.0), omega (arith, count))
  param_types [] (more_tys t ts) h k = absurd k
  param_types (p ∷ ps) no_tys h k = absurd k

  pub few_parameters : (d : FuncDef) → In d (function_list s) → length d.params ≤ most_parameters
  few_parameters d h =
      let n : most_parameters < length d.params → ⊥ = λ more. right.sizes d.name.place TooManyParameters (many_parameters d (in-contains d (function_list s) h) more refl) in
      omega (arith, n)

  pub function_type : (d : FuncDef) (t : Ty) → In d (function_list s) → IsFunctionType (class_list s) d t → IsType t
  function_type d t h c =
      let front = param_parts d.params ++ any_ann d.result in
      let stand : Stand s (front ++ body_parts d.body) = λ x i. function_parts s.items d h x i in
      let head = stand_left s front (body_parts d.body) stand in
      let types = param_types d.params c.parameters (stand_left s (param_parts d.params) (any_ann d.result) head) c.takes in
      let few = few_parameters d h in
      let count = types.1 in
      subst IsType (sym c.type) (omega (arith, few, count), types.0, any_type d.result c.result (stand_right s (param_parts d.params) (any_ann d.result) head) c.gives)
