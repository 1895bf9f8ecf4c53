-- What a numbered list keeps as it grows.
use Rattle.std.proofs.Common.{◌≡◌, ℕ, zero, suc, ◌≤◌, true, false, List, [], ◌∷◌, length, inl, inr, refl, sym, ◌∙◌, ap, subst, arith}
use Rattle.std.specs.Prelude.{Option, Some, None, slice_get, Contains}
use Rattle.std.specs.List.{list_any}
use Rattle.std.proofs.lemmas.Option.{slice_get_within, get_or_from_slice_get}
use Rattle.std.proofs.lemmas.Map.Views.{list_any-from_Contains}
use Rattle.std.proofs.lemmas.List.Elements.{Contains-append_cases}
use Rattle.mono_list.proofs.Cases.{some_is}
use Rattle.mono_syntax.specs.Ty.{Ty, dyn, int, bool, str, nil, fun, obj, Tys, no_tys, more_tys, Fields, no_fields, more_fields}
use Rattle.mono_syntax.specs.TyView.{tys_list}
use Rattle.mono_tree.specs.Meet.{meet_of}
use Rattle.type_shapes.specs.declared.shape.Shape.{Shape}
use Rattle.type_shapes.specs.computed.ShapeEq.{shape_eq}
use Rattle.type_shapes.specs.ShapeEqLaws.{shape_eq-laws}
use Rattle.type_shapes.specs.computed.ByNumber.{entry}
use Rattle.type_shapes.specs.Shows.{types_of, kids, AreNamed, AreBelow, Shows, IsNamed, AreMeets, IsOnce}
use Rattle.type_shapes.proofs.ShapeLaws.{shape_tells, type_tells}
use Rattle.mono_tree.specs.ClosedList.{IsPartClosed, AreDistinct, IsPart, IsAmong, IsOfField, put_all, put, parts_first, parts_before, all_parts_first}
use Rattle.type_shapes.specs.Numbered.{HasShape, IsNumbered}
use Rattle.mono_tree.proofs.ClosedPuts.{none_in, first_in, in_rest, at_head, IsBeginning, get_longer}
use Rattle.mono_tree.proofs.ClosedParts.{only_parts, only_all_parts, only_field_parts}
use Rattle.mono_tree.proofs.ClosedPuts.{whole_last, all_there}
use Rattle.mono_tree.proofs.ClosedMembers.{get_in, got_before}

-- ---- one place for each type

pub once_of : (ts : List Ty) → AreDistinct ts → IsOnce ts
once_of [] d i j x e f = absurd cc
once_of (t ∷ ts) d zero zero x e f = refl
once_of (t ∷ ts) d zero (suc j) x e f = absurd (d.0 (subst (λ (z : Ty). Contains ts z) (sym (some_is e)) (get_in ts j x f)))
once_of (t ∷ ts) d (suc i) zero x e f = absurd (d.0 (subst (λ (z : Ty). Contains ts z) (sym (some_is f)) (get_in ts i x e)))
once_of (t ∷ ts) d (suc i) (suc j) x e f = ap suc (once_of ts d.1 i j x e f)

-- ---- growth

pub named_longer : (ts us : List Ty) → IsBeginning ts us → (ns : List ℕ) (xs : List Ty) → AreNamed ts ns xs → AreNamed us ns xs
named_longer ts us b [] [] p = tt
named_longer ts us b [] (x ∷ xs) p = absurd p
named_longer ts us b (n ∷ ns) [] p = absurd p
named_longer ts us b (n ∷ ns) (x ∷ xs) p = (get_longer ts us n x b p.0, named_longer ts us b ns xs p.1)

pub shows_longer : (names : List (List (List ℕ))) (ts us : List Ty) → IsBeginning ts us → (s : Shape) (t : Ty) → Shows names ts s t → Shows names us s t
shows_longer names ts us b s t p = record { head = p.head; parts = named_longer ts us b s.parts (kids t) p.parts }

pub named_met_longer : (ts us : List Ty) → IsBeginning ts us → (o : Option ℕ) (m : Option Ty) → IsNamed ts o m → IsNamed us o m
named_met_longer ts us b None None p = tt
named_met_longer ts us b None (Some m) p = absurd p
named_met_longer ts us b (Some o) None p = absurd p
named_met_longer ts us b (Some o) (Some m) p = get_longer ts us o m b p

pub meets_longer : (ts us : List Ty) → IsBeginning ts us → (rows : List (List (Option ℕ))) (n : ℕ) → n ≤ length ts → AreMeets ts rows n → AreMeets us rows n
meets_longer ts us b rows n l m = record {
  at = λ i j p q x y e f. named_met_longer ts us b (entry rows i j) (meet_of y x)
      (m.at i j p q x y (got_before ts us i x b (omega arith) e) (got_before ts us j y b (omega arith) f));
}

pub below_named : (ts : List Ty) (ns : List ℕ) (us : List Ty) → AreNamed ts ns us → AreBelow (length ts) ns
below_named ts [] us p = tt
below_named ts (n ∷ ns) [] p = absurd p
below_named ts (n ∷ ns) (u ∷ us) p = (slice_get_within ts n u p.0, below_named ts ns us p.1)

-- ---- the parts of a type that has a shape are there

named_in : (ts : List Ty) (ns : List ℕ) (us : List Ty) → AreNamed ts ns us → (p : Ty) → Contains us p → Contains ts p
named_in ts [] [] h p c = absurd (none_in p c)
named_in ts [] (u ∷ us) h p c = absurd h
named_in ts (n ∷ ns) [] h p c = absurd h
named_in ts (n ∷ ns) (u ∷ us) h p c = elim (at_head u p us c) [
  | inl e ↦ subst (λ (z : Ty). Contains ts z) (sym e) (get_in ts n u h.0)
  | inr i ↦ named_in ts ns us h.1 p i
]

among_listed : (ps : Tys) (p : Ty) → IsAmong p ps → Contains (tys_list ps) p
among_listed no_tys p i = absurd i
among_listed (more_tys t ts) p (inl e) = subst (λ (z : Ty). Contains (t ∷ tys_list ts) z) (sym e) (first_in t (tys_list ts))
among_listed (more_tys t ts) p (inr i) = in_rest t p (tys_list ts) (among_listed ts p i)

field_listed : (fs : Fields) (p : Ty) → IsOfField p fs → Contains (types_of fs) p
field_listed no_fields p i = absurd i
field_listed (more_fields n t fs) p (inl e) = subst (λ (z : Ty). Contains (t ∷ types_of fs) z) (sym e) (first_in t (types_of fs))
field_listed (more_fields n t fs) p (inr i) = in_rest t p (types_of fs) (field_listed fs p i)

part_kid : (m p : Ty) → IsPart p m → Contains (kids m) p
part_kid (fun ps r) p (inl i) = in_rest r p (tys_list ps) (among_listed ps p i)
part_kid (fun ps r) p (inr e) = subst (λ (z : Ty). Contains (r ∷ tys_list ps) z) (sym e) (first_in r (tys_list ps))
part_kid (obj fs) p i = field_listed fs p i
part_kid dyn p i = absurd i
part_kid int p i = absurd i
part_kid bool p i = absurd i
part_kid str p i = absurd i
part_kid nil p i = absurd i

pub parts_there : (names : List (List (List ℕ))) (ts : List Ty) (s : Shape) (m : Ty) → Shows names ts s m → (p : Ty) → IsPart p m → Contains ts p
parts_there names ts s m h p i = named_in ts s.parts (kids m) h.parts p (part_kid m p i)

-- ---- types that are there add nothing

before_there : (ts : List Ty) → IsPartClosed ts → (m : Ty) → ((p : Ty) → IsPart p m → Contains ts p) → (u : Ty) → Contains (parts_before m) u → Contains ts u
before_there ts closed (fun ps r) h u c = elim (Contains-append_cases (all_parts_first ps) (parts_first r) u c) [
  | inl i ↦ only_all_parts (Contains ts) (closed.part) ps u (λ p k. h p (inl k)) i
  | inr i ↦ only_parts (Contains ts) (closed.part) r u (h r (inr refl)) i
]
before_there ts closed (obj fs) h u c = only_field_parts (Contains ts) (closed.part) fs u h c
before_there ts closed dyn h u c = absurd (none_in u c)
before_there ts closed int h u c = absurd (none_in u c)
before_there ts closed bool h u c = absurd (none_in u c)
before_there ts closed str h u c = absurd (none_in u c)
before_there ts closed nil h u c = absurd (none_in u c)

-- a type whose parts are there adds at most itself
pub one_added : (ts : List Ty) → IsPartClosed ts → (m : Ty) → ((p : Ty) → IsPart p m → Contains ts p) → put_all ts (parts_first m) ≡ put ts m
one_added ts closed m h = whole_last ts m ∙ ap (λ (l : List Ty). put l m) (all_there ts (parts_before m) (before_there ts closed m h))

-- ---- a shape and its number

module _ (names : List (List (List ℕ))) (ts : List Ty) (ss : List Shape) (is : IsNumbered names ts ss) where
  -- the type at the number of a shape is the shape's
  pub number_shows : (k : ℕ) (s : Shape) (m : Ty) → slice_get ss k ≡ Some s → Shows names ts s m → slice_get ts k ≡ Some m
  number_shows k s m e p =
      let (t, f) = is.typed k s e in
      let h : HasShape names ts ss k t = is.shaped k t f in
      let same : h.shape ≡ s = some_is (sym h.at ∙ e) in
      f ∙ ap (λ (x : Ty). Some x) (shape_tells names ts s t m (subst (λ (x : Shape). Shows names ts x t) same h.shows) p)

  -- the type of a shape that is not there is not there
  pub new_shape : (s : Shape) (m : Ty) → list_any (shape_eq s) ss ≡ false → Shows names ts s m → Contains ts m → ⊥
  new_shape s m n p c =
      let (k, f) = place ts m c in
      let h : HasShape names ts ss k m = is.shaped k m f in
      let same : h.shape ≡ s = type_tells names ts is.names_once (once_of ts is.distinct) h.shape s m h.shows p in
      let y : list_any (shape_eq s) ss ≡ true = list_any-from_Contains shape_eq-laws s ss (k, slice_get_within ss k s (h.at ∙ ap (λ (x : Shape). Some x) same), get_or_from_slice_get ss k s s (h.at ∙ ap (λ (x : Shape). Some x) same)) in
      absurd cc
    where
      place : (xs : List Ty) (x : Ty) → Contains xs x → (k : ℕ) × (slice_get xs k ≡ Some x)
      place [] x c = absurd (none_in x c)
      place (u ∷ xs) x c = elim (at_head u x xs c) [ inl e ↦ (0, ap (λ (z : Ty). Some z) (sym e)) | inr i ↦ let (k, e) = place xs x i in (suc k, e) ]
