-- One more type with its shape.
use Rattle.std.proofs.Common.{◌≡◌, ℕ, zero, suc, ◌+◌, Bool, true, false, List, [], ◌∷◌, ◌++◌, length, inl, inr, refl, sym, ◌∙◌, ap, subst, cond, length-append}
use Rattle.std.specs.Prelude.{Option, Some, slice_get, Contains, ◌⊎◌}
use Rattle.std.specs.List.{list_any}
use Rattle.mono_list.proofs.Cases.{some_is}
use Rattle.mono_syntax.specs.Ty.{Ty, dyn, int, bool, str, nil, fun, obj, Tys, no_tys, more_tys, Fields, no_fields, more_fields}
use Rattle.mono_syntax.specs.computed.TyEq.{ty_eq}
use Rattle.mono_syntax.specs.TyView.{tys, tys_list}
use Rattle.mono_tree.specs.FieldNames.{names_of}
use Rattle.type_shapes.specs.declared.shape.Head.{Head}
use Rattle.type_shapes.specs.declared.shape.Shape.{Shape}
use Rattle.type_shapes.specs.computed.ShapeEq.{shape_eq}
use Rattle.type_shapes.specs.Shows.{types_of, kids, AreNamed, HasHead, Shows}
use Rattle.mono_tree.specs.ClosedList.{put}
use Rattle.type_shapes.specs.Numbered.{HasShape, IsNumbered}
use Rattle.type_shapes.specs.computed.MadeTypes.{listed_onto, types_at, retyped, obj_of, typed_by, typed}
use Rattle.mono_tree.proofs.ClosedPuts.{IsBeginning, isnt_there, is_there, distinct_push}
use Rattle.mono_tree.proofs.ClosedParts.{closed-push}
use Rattle.type_shapes.proofs.Going.{shows_longer, below_named, parts_there, new_shape}

module _ {X : Type 0} where
  at_end : (xs : List X) (x : X) → slice_get (xs ++ x ∷ []) (length xs) ≡ Some x
  at_end [] x = refl
  at_end (y ∷ xs) x = at_end xs x

  get_still : (xs : List X) (x y : X) (k : ℕ) → slice_get xs k ≡ Some y → slice_get (xs ++ x ∷ []) k ≡ Some y
  get_still [] x y k e = absurd cc
  get_still (z ∷ xs) x y zero e = e
  get_still (z ∷ xs) x y (suc k) e = get_still xs x y k e

  get_cases : (xs : List X) (x y : X) (k : ℕ) → slice_get (xs ++ x ∷ []) k ≡ Some y → (slice_get xs k ≡ Some y) ⊎ ((k ≡ length xs) × (x ≡ y))
  get_cases [] x y zero e = inr (refl, some_is e)
  get_cases [] x y (suc k) e = absurd cc
  get_cases (z ∷ xs) x y zero e = inl e
  get_cases (z ∷ xs) x y (suc k) e = elim (get_cases xs x y k e) [ inl h ↦ inl h | inr h ↦ inr (ap suc h.0, h.1) ]

module _ (names : List (List (List ℕ))) (ts : List Ty) (ss : List Shape) (is : IsNumbered names ts ss) (u : Shape) (m : Ty) (p : Shows names ts u m) where
  longer : IsBeginning ts (ts ++ m ∷ [])
  longer = record { rest = m ∷ []; same = refl }

  still : (k : ℕ) (t : Ty) → HasShape names ts ss k t → HasShape names (ts ++ m ∷ []) (ss ++ u ∷ []) k t
  still k t h = record { shape = h.shape; at = get_still ss u h.shape k h.at; shows = shows_longer names ts (ts ++ m ∷ []) longer h.shape t h.shows; below = h.below }

  newest : HasShape names (ts ++ m ∷ []) (ss ++ u ∷ []) (length ts) m
  newest = record {
    shape = u;
    at = subst (λ (k : ℕ). slice_get (ss ++ u ∷ []) k ≡ Some u) is.even (at_end ss u);
    shows = shows_longer names ts (ts ++ m ∷ []) longer u m p;
    below = below_named ts u.parts (kids m) p.parts;
  }

  pub numbered_push : (Contains ts m → ⊥) → IsNumbered names (ts ++ m ∷ []) (ss ++ u ∷ [])
  numbered_push n = record {
    names_once = is.names_once;
    even = simp length-append (ap (λ (k : ℕ). k + 1) is.even);
    distinct = distinct_push ts m n is.distinct;
    part_closed = closed-push ts m is.part_closed (parts_there names ts u m p);
    shaped = λ k t e. elim (get_cases ts m t k e) [
      | inl h ↦ still k t (is.shaped k t h)
      | inr h ↦ subst (λ (j : ℕ). HasShape names (ts ++ m ∷ []) (ss ++ u ∷ []) j t) (sym h.0) (subst (λ (x : Ty). HasShape names (ts ++ m ∷ []) (ss ++ u ∷ []) (length ts) x) h.1 newest)
    ];
    typed = λ k s e. elim (get_cases ss u s k e) [
      | inl h ↦ let (t, f) = is.typed k s h in (t, get_still ts m t k f)
      | inr h ↦ (m, subst (λ (j : ℕ). slice_get (ts ++ m ∷ []) j ≡ Some m) (sym is.even ∙ sym h.0) (at_end ts m))
    ];
  }

  abbrev put_shape : List Shape → Shape → List Shape
  put_shape l s = cond (list_any (shape_eq s) l) l (l ++ s ∷ [])

  pub numbered_put : list_any (shape_eq u) ss ≡ false → IsNumbered names (put ts m) (ss ++ u ∷ [])
  numbered_put n = by (list_any (ty_eq m) ts) refl
    where
      by : (b : Bool) → list_any (ty_eq m) ts ≡ b → IsNumbered names (put ts m) (ss ++ u ∷ [])
      by false e = subst (λ (l : List Ty). IsNumbered names l (ss ++ u ∷ [])) (sym (ap (λ (z : Bool). cond z ts (ts ++ m ∷ [])) e)) (numbered_push (isnt_there ts m e))
      by true e = absurd (new_shape names ts ss is u m n p (is_there ts m e))

-- ---- the type of a shape

types_found : (ts : List Ty) (ns : List ℕ) (us : List Ty) → AreNamed ts ns us → types_at ts ns ≡ Some us
types_found ts [] [] p = refl
types_found ts [] (u ∷ us) p = absurd p
types_found ts (n ∷ ns) [] p = absurd p
types_found ts (n ∷ ns) (u ∷ us) p = (λ i. listed_onto ts (p.0 i) (types_at ts ns)) ∙ ap (listed_onto ts (Some u)) (types_found ts ns us p.1)

tys_back : (ps : Tys) → tys (tys_list ps) ≡ ps
tys_back no_tys = refl
tys_back (more_tys t ts) = ap (more_tys t) (tys_back ts)

fields_back : (fs : Fields) → retyped (names_of fs) (types_of fs) ≡ fs
fields_back no_fields = refl
fields_back (more_fields n t fs) = ap (more_fields n t) (fields_back fs)

module _ (names : List (List (List ℕ))) (h : Head) where
  typed_head : (m : Ty) → HasHead names h m → typed_by names h (Some (kids m)) ≡ Some m
  typed_head dyn e = ap (λ (k : Head). typed_by names k (Some [])) e
  typed_head int e = ap (λ (k : Head). typed_by names k (Some [])) e
  typed_head bool e = ap (λ (k : Head). typed_by names k (Some [])) e
  typed_head str e = ap (λ (k : Head). typed_by names k (Some [])) e
  typed_head nil e = ap (λ (k : Head). typed_by names k (Some [])) e
  typed_head (fun ps r) e = ap (λ (k : Head). typed_by names k (Some (r ∷ tys_list ps))) e ∙ ap (λ (q : Tys). Some (fun q r)) (tys_back ps)
  typed_head (obj fs) e = ap (λ (k : Head). typed_by names k (Some (types_of fs))) e.1 ∙ ap (λ (o : Option (List (List ℕ))). obj_of o (Some (types_of fs))) e.2 ∙ ap (λ (q : Fields). Some (obj q)) (fields_back fs)

-- a shape's type is the one that it stands for
pub typed_is : (names : List (List (List ℕ))) (ts : List Ty) (s : Shape) (m : Ty) → Shows names ts s m → typed names ts s ≡ Some m
typed_is names ts s m p = ap (typed_by names s.head) (types_found ts s.parts (kids m) p.parts) ∙ typed_head names s.head m p.head
