-- Where every type's name is a class's and no class leads back to itself, every class has a type: a way from class to
-- class meets each at most once, so it ends.
use Rattle.std.proofs.Common.{◌≡◌, ℕ, zero, suc, ◌+◌, ◌≤◌, ◌⊎◌, inl, inr, Bool, true, false, cond, ◌||◌, List, [], ◌∷◌, length, Option, Some, refl, sym, ◌∙◌, ap, subst, arith}
use Rattle.std.specs.Prelude.{bytes_eq, map, Contains}
use Rattle.std.specs.Cmp.Lexicographic.{nat_list_eq_equiv}
use Rattle.std.specs.List.{IsDistinct, list_any, AllByRecursion}
use Rattle.std.specs.Map.{lookup}
use Rattle.std.specs.Option.{IsSome}
use Rattle.std.proofs.lemmas.Map.Steps.{length-le_from_keys}
use Rattle.mono_list.proofs.Cases.{split, some_is}
use Rattle.mono_tree.proofs.MeetMade.{name_read}
use Rattle.mono_syntax.specs.declared.leaf.Place.{Place}
use Rattle.mono_syntax.specs.declared.leaf.Word.{Word}
use Rattle.mono_syntax.specs.declared.tree.ClassDef.{ClassDef}
use Rattle.mono_syntax.specs.declared.tree.FieldDef.{FieldDef}
use Rattle.mono_syntax.specs.Ann.{Ann, ann, Form, Anns, no_anns, more_anns}
use Rattle.mono_syntax.specs.Ann as form
use Rattle.mono_syntax.specs.Ty.{Ty, dyn, int, bool, str, nil, fun, obj, Tys, no_tys, more_tys, Fields, no_fields, more_fields}
use Rattle.script_rules.specs.Definitions.{class_named}
use Rattle.script_rules.specs.Writes.{Writes, WriteAll, Declares, writes_dyn, writes_int, writes_bool, writes_str, writes_nil, writes_class, writes_fun, write_none, write_more, declares_none, declares_more, in_order}
use Rattle.class_types.specs.Known.{HaveTypes}
use Rattle.script_rules.specs.Recursion.{names_in, names_in_all, field_names, Leads, here, through, RecursionFault}
use Rattle.name_scope.proofs.FaultOrder.{In, in_left, in_right, in_Contains}

-- the class of a name has it, and fields with types
pub record HasFields (cs : List ClassDef) (x : List ℕ) : Type 0 where
  pub class : ClassDef
  pub counts : class_named cs x ≡ Some class
  pub fields : Fields
  pub declares : Declares cs class.fields fields

mutual
  -- an annotation whose names are such classes' writes a type
  pub ann_writes : (cs : List ClassDef) (a : Ann) → ((w : Word) → In (names_in a) w → HasFields cs w.text) → (t : Ty) × Writes cs a t
  ann_writes cs (ann p form.dyn) h = (dyn, writes_dyn)
  ann_writes cs (ann p form.int) h = (int, writes_int)
  ann_writes cs (ann p form.bool) h = (bool, writes_bool)
  ann_writes cs (ann p form.str) h = (str, writes_str)
  ann_writes cs (ann p form.nil) h = (nil, writes_nil)
  ann_writes cs (ann p (form.class w)) h = let f = h w (inl refl) in (obj (in_order f.fields), writes_class f.counts f.declares refl)
  ann_writes cs (ann p (form.fun as_ a)) h =
      let ts = anns_write cs as_ (λ w i. h w (in_left (names_in_all as_) (names_in a) w i)) in
      let t = ann_writes cs a (λ w i. h w (in_right (names_in_all as_) (names_in a) w i)) in
      (fun ts.0 t.0, writes_fun ts.1 t.1)

  pub anns_write : (cs : List ClassDef) (as_ : Anns) → ((w : Word) → In (names_in_all as_) w → HasFields cs w.text) → (ts : Tys) × WriteAll cs as_ ts
  anns_write cs no_anns h = (no_tys, write_none)
  anns_write cs (more_anns a as_) h =
      let t = ann_writes cs a (λ w i. h w (in_left (names_in a) (names_in_all as_) w i)) in
      let ts = anns_write cs as_ (λ w i. h w (in_right (names_in a) (names_in_all as_) w i)) in
      (more_tys t.0 ts.0, write_more t.1 ts.1)

fields_declare : (cs : List ClassDef) (ds : List FieldDef) → ((w : Word) → In (field_names ds) w → HasFields cs w.text) → (fs : Fields) × Declares cs ds fs
fields_declare cs [] h = (no_fields, declares_none)
fields_declare cs (d ∷ ds) h =
    let t = ann_writes cs d.ann (λ w i. h w (in_left (names_in d.ann) (field_names ds) w i)) in
    let fs = fields_declare cs ds (λ w i. h w (in_right (names_in d.ann) (field_names ds) w i)) in
    (more_fields d.name.text t.0 fs.0, declares_more t.1 fs.1)

-- the class of a name has that name
pub class_named-name : (cs : List ClassDef) (x : List ℕ) (d : ClassDef) → class_named cs x ≡ Some d → d.name.text ≡ x
class_named-name [] x d = λ e. absurd cc
class_named-name (c ∷ cs) x d =
    split (bytes_eq c.name.text x) (λ b. cond b (Some c) (class_named cs x) ≡ Some d → d.name.text ≡ x)
    (λ t e. subst (λ (k : ClassDef). k.name.text ≡ x) (some_is e) (name_read c.name.text x t))
    (λ f e. class_named-name cs x d e)

-- one class further on a way
leads_on : (cs : List ClassDef) (x y : List ℕ) (d : ClassDef) (w : Word) → Leads cs x y → class_named cs y ≡ Some d → Contains (field_names d.fields) w → Leads cs x w.text
leads_on cs x y d w (here e) c i = through (subst (λ (z : List ℕ). class_named cs z ≡ Some d) (sym e) c) i (here refl)
leads_on cs x y d w (through {d = k} {w = v} n j l) c i = through n j (leads_on cs v.text y d w l c i)

-- ---- a list of distinct names

abbrev Apart : List ℕ → List (List ℕ) → Type 0
Apart x [] = Unit {0}
Apart x (y ∷ ys) = (bytes_eq x y ≡ false) × Apart x ys

abbrev Distinct : List (List ℕ) → Type 0
Distinct [] = Unit {0}
Distinct (x ∷ xs) = Apart x xs × Distinct xs

apart_from : (x : List ℕ) (ys : List (List ℕ)) → ((y : List ℕ) → In ys y → x ≡ y → ⊥) → Apart x ys
apart_from x [] h = tt
apart_from x (y ∷ ys) h =
    (split (bytes_eq x y) (λ b. b ≡ false) (λ t. absurd (h y (inl refl) (name_read x y t))) (λ f. refl), apart_from x ys (λ z i. h z (inr i)))

all_apart : (x : List ℕ) (ys : List (List ℕ)) → Apart x ys → AllByRecursion (λ y. bytes_eq x y ≡ false) ys
all_apart x [] h = tt
all_apart x (y ∷ ys) h = (h.0, all_apart x ys h.1)

are_distinct : (xs : List (List ℕ)) → Distinct xs → IsDistinct bytes_eq xs
unfolding IsDistinct
are_distinct [] h = tt
are_distinct (x ∷ xs) h = (all_apart x xs h.0, are_distinct xs h.1)

any_in : (x : List ℕ) (ys : List (List ℕ)) → list_any (bytes_eq x) ys ≡ true → In ys x
any_in x [] = λ e. absurd cc
any_in x (y ∷ ys) =
    split (bytes_eq x y) (λ b. (b || list_any (bytes_eq x) ys) ≡ true → (y ≡ x) ⊎ In ys x)
    (λ t e. inl (sym (name_read x y t)))
    (λ f e. inr (any_in x ys e))

abbrev entries_of : List ClassDef → List (List ℕ × ClassDef)
entries_of cs = map (λ d. (d.name.text, d)) cs

looked_up : (cs : List ClassDef) (x : List ℕ) (d : ClassDef) → class_named cs x ≡ Some d → lookup (bytes_eq x) (entries_of cs) ≡ Some d
looked_up [] x d = λ e. absurd cc
looked_up (c ∷ cs) x d =
    let s : bytes_eq x c.name.text ≡ bytes_eq c.name.text x = nat_list_eq_equiv.symm x c.name.text in
    subst (λ (b : Bool). cond (bytes_eq c.name.text x) (Some c) (class_named cs x) ≡ Some d → cond b (Some c) (lookup (bytes_eq x) (entries_of cs)) ≡ Some d) (sym s)
    (split (bytes_eq c.name.text x) (λ b. cond b (Some c) (class_named cs x) ≡ Some d → cond b (Some c) (lookup (bytes_eq x) (entries_of cs)) ≡ Some d)
    (λ t e. e) (λ f e. looked_up cs x d e))

length-entries : (cs : List ClassDef) → length (entries_of cs) ≡ length cs
length-entries [] = refl
length-entries (c ∷ cs) = ap suc (length-entries cs)

some_is_some : {A : Type 0} (o : Option A) (x : A) → o ≡ Some x → IsSome o
some_is_some o x e = subst IsSome (sym e) refl

-- distinct names of classes are no more than the classes
few_names : (cs : List ClassDef) (xs : List (List ℕ)) → Distinct xs → ((x : List ℕ) → In xs x → (d : ClassDef) × class_named cs x ≡ Some d) → length xs ≤ length cs
few_names cs xs distinct h =
    let few = length-le_from_keys nat_list_eq_equiv xs (entries_of cs) (are_distinct xs distinct)
    (λ x e. let k = h x (any_in x xs e) in some_is_some _ k.0 (looked_up cs x k.0 k.1)) in
    omega (arith, few, length-entries cs)

-- ---- ways from class to class

module _ (cs : List ClassDef) where
  -- a name on a way that now stands at x
  record Passed (y x : List ℕ) : Type 0 where
    class : ClassDef
    word : Word
    counts : class_named cs y ≡ Some class
    stands : Contains (field_names class.fields) word
    leads : Leads cs word.text x

  -- every name in a field's annotation is a class's
  abbrev pub AreKnown : Type 0
  AreKnown = (x : List ℕ) (d : ClassDef) → class_named cs x ≡ Some d → (w : Word) → In (field_names d.fields) w → (k : ClassDef) × class_named cs w.text ≡ Some k

  has_fields : AreKnown → ((p : Place) → RecursionFault cs p → ⊥) → (fuel : ℕ) (passed : List (List ℕ)) (x : List ℕ) (d : ClassDef) → class_named cs x ≡ Some d
      → Distinct (x ∷ passed) → ((y : List ℕ) → In passed y → Passed y x) → length cs ≤ length passed + fuel → HasFields cs x
  has_fields known none zero passed x d counts distinct way small =
      let few = few_names cs (x ∷ passed) distinct (λ y i. elim i [ inl e ↦ (d, subst (λ (z : List ℕ). class_named cs z ≡ Some d) e counts) | inr j ↦ (let w = way y j in (w.class, w.counts)) ]) in
      absurd (omega (arith, few))
  has_fields known none (suc fuel) passed x d counts distinct way small =
      let fs = fields_declare cs d.fields (λ w i.
      let k = known x d counts w i in
      let stands = in_Contains (field_names d.fields) w i in
      has_fields known none fuel (x ∷ passed) w.text k.0 k.1 (
        apart_from w.text (x ∷ passed) (λ y j e. elim j [
          | inl f ↦ none w.place (record { class = d; name = w; counts = subst (λ (z : List ℕ). class_named cs z ≡ Some d) (sym (class_named-name cs x d counts)) counts; stands = stands; leads = here (e ∙ sym f ∙ sym (class_named-name cs x d counts)); place = refl })
          | inr g ↦ (let p = way y g in
              none p.word.place (record {
                class = p.class;
                name = p.word;
                counts = subst (λ (z : List ℕ). class_named cs z ≡ Some p.class) (sym (class_named-name cs y p.class p.counts)) p.counts;
                stands = p.stands;
                leads = subst (λ (z : List ℕ). Leads cs p.word.text z) (e ∙ sym (class_named-name cs y p.class p.counts)) (leads_on cs p.word.text x d w p.leads counts stands);
                place = refl;
              }))
        ]),
        distinct,
      )
      (λ y j. elim j [
        | inl f ↦ record { class = d; word = w; counts = subst (λ (z : List ℕ). class_named cs z ≡ Some d) f counts; stands = stands; leads = here refl }
        | inr g ↦ (let p = way y g in record { class = p.class; word = p.word; counts = p.counts; stands = p.stands; leads = leads_on cs p.word.text x d w p.leads counts stands })
      ])
      (omega arith)) in
      record { class = d; counts = counts; fields = fs.0; declares = fs.1 }

  pub class_has_fields : AreKnown → ((p : Place) → RecursionFault cs p → ⊥) → (x : List ℕ) (d : ClassDef) → class_named cs x ≡ Some d → HasFields cs x
  class_has_fields known none x d counts = has_fields known none (length cs) [] x d counts (tt, tt) (λ y i. absurd i) (omega arith)

have_types : (cs ds : List ClassDef) → ((d : ClassDef) → In ds d → class_named cs d.name.text ≡ Some d) → ((x : List ℕ) (d : ClassDef) → class_named cs x ≡ Some d → HasFields cs x) → HaveTypes cs ds
have_types cs [] count h = tt
have_types cs (d ∷ ds) count h =
    let c = count d (inl refl) in
    let f = h d.name.text d c in
    let same : f.class ≡ d = some_is (sym f.counts ∙ c) in
    ((obj (in_order f.fields), record { declared = f.fields; fields = subst (λ (k : ClassDef). Declares cs k.fields f.fields) same f.declares; type = refl }), have_types cs ds (λ k i. count k (inr i)) h)

-- every class has a type where each counts, all names in fields are known, and none leads back to its class
pub all_have_types : (cs : List ClassDef) → ((d : ClassDef) → In cs d → class_named cs d.name.text ≡ Some d) → AreKnown cs → ((p : Place) → RecursionFault cs p → ⊥) → HaveTypes cs cs
all_have_types cs count known none = have_types cs cs count (class_has_fields cs known none)
