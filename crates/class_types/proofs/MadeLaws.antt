-- The types that are made are those that annotations write.
use Rattle.std.proofs.Common.{◌≡◌, ◌∙◌, sym, ap, refl, ℕ, suc, ◌+◌, Bool, true, false, List, [], ◌∷◌, map, arith}
use Rattle.std.specs.Prelude.{Option, Some, None, bytes_eq, slice_get, option_and_then, if◌then◌else◌}
use Rattle.std.specs.Option.{option_map}
use Rattle.std.specs.Ordering.{nat_cmp, is_gt}
use Rattle.std.specs.Cmp.Lexicographic.{slice_cmp}
use Rattle.std.proofs.lemmas.Option.{slice_get-map}
use Rattle.mono_syntax.specs.declared.tree.ClassDef.{ClassDef}
use Rattle.mono_syntax.specs.declared.tree.FieldDef.{FieldDef}
use Rattle.mono_syntax.specs.Ann.{Ann, ann, Anns, no_anns, more_anns}
use Rattle.mono_syntax.specs.Ann as form
use Rattle.mono_syntax.specs.Ty.{Ty, fun, Tys, more_tys, Fields, no_fields, more_fields, ty_size, fields_size}
use Rattle.mono_tree.specs.Meet.{both}
use Rattle.script_rules.specs.Definitions.{class_named}
use Rattle.script_rules.specs.Writes.{put_field, in_order}
use Rattle.class_types.specs.computed.Made.{known_at, look, type_by, types_by, fields_by, class_by, object_of, names_of_classes}
use Rattle.name_places.specs.Places.{place_from, place_in}
use Rattle.class_types.proofs.Gets.{some_is, none_some}
use Rattle.class_types.proofs.RoundLaws.{Below, Grows}

-- ---- a whole that is there has its parts

pub both-parts : {A B C D : Type 0} (f : A → B → C) (x : Option A) (y : Option B) (z : C) → both f x y ≡ Some z
    → ((a : A) (b : B) → x ≡ Some a → y ≡ Some b → f a b ≡ z → D) → D
both-parts f None y z e go = none_some e
both-parts f (Some a) None z e go = none_some e
both-parts f (Some a) (Some b) z e go = go a b refl refl (some_is e)

pub map-parts : {A B D : Type 0} (f : A → B) (x : Option A) (z : B) → option_map f x ≡ Some z → ((a : A) → x ≡ Some a → f a ≡ z → D) → D
map-parts f None z e go = none_some e
map-parts f (Some a) z e go = go a refl (some_is e)

-- ---- what is made stays so when more is known

module _ (f g : List ℕ → Option Ty) (below : Below f g) where
  mutual
    pub type-grows : (a : Ann) (t : Ty) → type_by f a ≡ Some t → type_by g a ≡ Some t
    type-grows (ann p form.dyn) t e = e
    type-grows (ann p form.int) t e = e
    type-grows (ann p form.bool) t e = e
    type-grows (ann p form.str) t e = e
    type-grows (ann p form.nil) t e = e
    type-grows (ann p (form.class w)) t e = below w.text t e
    type-grows (ann p (form.fun as_ a)) t e = both-parts fun (types_by f as_) (type_by f a) t e (λ ts r ex ey ez.
        let x : types_by g as_ ≡ Some ts = types-grows as_ ts ex in let y : type_by g a ≡ Some r = type-grows a r ey in rw (x, y) (ap Some ez))

    pub types-grows : (as_ : Anns) (ts : Tys) → types_by f as_ ≡ Some ts → types_by g as_ ≡ Some ts
    types-grows no_anns ts e = e
    types-grows (more_anns a as_) ts e = both-parts more_tys (type_by f a) (types_by f as_) ts e (λ t rest ex ey ez.
        let x : type_by g a ≡ Some t = type-grows a t ex in let y : types_by g as_ ≡ Some rest = types-grows as_ rest ey in rw (x, y) (ap Some ez))

  pub fields-grow : (ds : List FieldDef) (fs : Fields) → fields_by f ds ≡ Some fs → fields_by g ds ≡ Some fs
  fields-grow [] fs e = e
  fields-grow (d ∷ ds) fs e = both-parts (more_fields d.name.text) (type_by f d.ann) (fields_by f ds) fs e (λ t rest ex ey ez.
      let x : type_by g d.ann ≡ Some t = type-grows d.ann t ex in let y : fields_by g ds ≡ Some rest = fields-grow ds rest ey in rw (x, y) (ap Some ez))

pub class-grows : Grows class_by
class-grows f g below d t e = map-parts object_of (fields_by f d.fields) t e (λ fs ex ez.
    let x : fields_by g d.fields ≡ Some fs = fields-grow f g below d.fields fs ex in rw x (ap Some ez))

-- ---- what is known of a name

pub place-of : (cs : List ClassDef) (x : List ℕ) (k : ℕ) (d : ClassDef) → class_named cs x ≡ Some d
    → (i : ℕ) × (place_from k (names_of_classes cs) x ≡ Some (i + k)) × (slice_get cs i ≡ Some d)
place-of [] x k d e = none_some e
place-of (c ∷ cs) x k d e = go (bytes_eq c.name.text x) e (place-of cs x (k + 1) d)
  where
    go : (b : Bool) → (if b then Some c else class_named cs x) ≡ Some d
        → (class_named cs x ≡ Some d → (i : ℕ) × (place_from (k + 1) (names_of_classes cs) x ≡ Some (i + (k + 1))) × (slice_get cs i ≡ Some d))
        → (i : ℕ) × ((if b then Some k else place_from (k + 1) (names_of_classes cs) x) ≡ Some (i + k)) × (slice_get (c ∷ cs) i ≡ Some d)
    go true h later = (0, let move : k ≡ 0 + k = omega arith in ap Some move, h)
    go false h later = let there = later h in (suc there.0, let move : there.0 + (k + 1) ≡ suc there.0 + k = omega arith in there.1 ∙ ap Some move, there.2)

place-none : (cs : List ClassDef) (x : List ℕ) (k : ℕ) → class_named cs x ≡ None → place_from k (names_of_classes cs) x ≡ None
place-none [] x k e = refl
place-none (c ∷ cs) x k e = go (bytes_eq c.name.text x) e (place-none cs x (k + 1))
  where
    go : (b : Bool) → (if b then Some c else class_named cs x) ≡ None
        → (class_named cs x ≡ None → place_from (k + 1) (names_of_classes cs) x ≡ None)
        → (if b then Some k else place_from (k + 1) (names_of_classes cs) x) ≡ None
    go true h later = none_some (sym h)
    go false h later = later h

-- where the values of classes are those of a function, so is what is known of a name
pub look-class : {A : Type 0} (cs : List ClassDef) (stray : Option A) (own : List (Option A)) (f : ClassDef → Option A) (x : List ℕ) (d : ClassDef)
    → own ≡ map f cs → class_named cs x ≡ Some d → look (names_of_classes cs) own stray x ≡ f d
look-class cs stray own f x d settled e =
    let there = place-of cs x 0 d e in
    let at : place_in (names_of_classes cs) x ≡ Some there.0 = let move : there.0 + 0 ≡ there.0 = omega arith in there.1 ∙ ap Some move in
    let get : slice_get own there.0 ≡ Some (f d) = ap (λ l. slice_get l there.0) settled ∙ (slice_get-map f cs there.0 ∙ ap (option_map f) there.2) in
    ap (known_at own stray) at ∙ ap (option_and_then (λ a. a)) get

pub look-stray : {A : Type 0} (cs : List ClassDef) (stray : Option A) (own : List (Option A)) (x : List ℕ)
    → class_named cs x ≡ None → look (names_of_classes cs) own stray x ≡ stray
look-stray cs stray own x e = ap (known_at own stray) (place-none cs x 0 e)

-- ---- fields in order are as large as before

put-size : (n : List ℕ) (t : Ty) (fs : Fields) → fields_size (put_field n t fs) ≡ ty_size t + fields_size fs + 1
put-size n t no_fields = refl
put-size n t (more_fields k u fs) = go (is_gt (slice_cmp nat_cmp n k)) (put-size n t fs)
  where
    go : (b : Bool) → fields_size (put_field n t fs) ≡ ty_size t + fields_size fs + 1
        → fields_size (if b then more_fields k u (put_field n t fs) else more_fields n t (more_fields k u fs)) ≡ ty_size t + fields_size (more_fields k u fs) + 1
    go true h = omega arith
    go false h = omega arith

pub order-size : (fs : Fields) → fields_size (in_order fs) ≡ fields_size fs
order-size no_fields = refl
order-size (more_fields n t fs) = put-size n t (in_order fs) ∙ (let h : fields_size (in_order fs) ≡ fields_size fs = order-size fs in omega arith)
