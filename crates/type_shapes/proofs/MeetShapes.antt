-- The shape of a meet is the meet of the shapes.
use Rattle.std.proofs.Common.{◌≡◌, ℕ, false, true≢false, List, [], ◌∷◌, refl, sym, ◌∙◌, ap, subst, cond}
use Rattle.std.specs.Prelude.{Option, Some, None, slice_get}
use Rattle.std.specs.Option.{option_map}
use Rattle.mono_list.proofs.Cases.{split, split_option, some_is}
use Rattle.mono_syntax.specs.Ty.{Ty, dyn, int, bool, str, nil, fun, obj, Tys, Fields}
use Rattle.mono_syntax.specs.TyView.{tys_list}
use Rattle.mono_tree.specs.FieldNames.{names_of}
use Rattle.mono_tree.specs.Meet.{both, meet_of, meet_all, meet_fields}
use Rattle.mono_tree.proofs.TypeLaws.{meet_names, meet_fields_below, precise_names}
use Rattle.type_shapes.specs.declared.shape.Head.{Head}
use Rattle.type_shapes.specs.declared.shape.Head.TheVariants.{Int, Bool as Boolean, Str, Nil, Fun, Obj}
use Rattle.type_shapes.specs.declared.shape.Shape.{Shape}
use Rattle.type_shapes.specs.computed.ShapeEq.{head_eq}
use Rattle.type_shapes.specs.ShapeEqLaws.{head_eq-is, head_eq-refl}
use Rattle.type_shapes.specs.computed.ByNumber.{met_parts, met_shape, with_head}
use Rattle.type_shapes.specs.Shows.{types_of, kids, AreNamed, AreBelow, HasHead, Shows, AreMeets, IsOnce, IsShown}
use Rattle.type_shapes.proofs.ShapeLaws.{meet_list, tys_met, fields_met, AllNamed, parts_met}

module _ (names : List (List (List ℕ))) (ts : List Ty) where
  fun_shown : (h : Head) → h ≡ Fun → (o : Option (List ℕ)) (p : Option Ty) (q : Option Tys) → AllNamed ts o (both ◌∷◌ p (option_map tys_list q)) → IsShown names ts (option_map (with_head h) o) (both fun q p)
  fun_shown h e None None None n = tt
  fun_shown h e None None (Some q) n = tt
  fun_shown h e None (Some p) None n = tt
  fun_shown h e None (Some p) (Some q) n = absurd n
  fun_shown h e (Some o) None None n = absurd n
  fun_shown h e (Some o) None (Some q) n = absurd n
  fun_shown h e (Some o) (Some p) None n = absurd n
  fun_shown h e (Some o) (Some p) (Some q) n = record { head = e; parts = n }

  obj_shown : (h : Head) (fs : Fields) → HasHead names h (obj fs) → (o : Option (List ℕ)) (q : Option Fields) → ((ms : Fields) → q ≡ Some ms → names_of ms ≡ names_of fs)
      → AllNamed ts o (option_map types_of q) → IsShown names ts (option_map (with_head h) o) (option_map obj q)
  obj_shown h fs e None None s n = tt
  obj_shown h fs e None (Some q) s n = absurd n
  obj_shown h fs e (Some o) None s n = absurd n
  obj_shown h fs e (Some o) (Some q) s n = record { head = (e.0, e.1, e.2 ∙ ap (λ (l : List (List ℕ)). Some l) (sym (s q refl))); parts = n }

  leaf_shown : (h : Head) (a : Ty) → HasHead names h a → kids a ≡ [] → (o : Option (List ℕ)) → AllNamed ts o (Some []) → IsShown names ts (option_map (with_head h) o) (Some a)
  leaf_shown h a e k None n = absurd n
  leaf_shown h a e k (Some o) n = record { head = e; parts = subst (AreNamed ts o) (sym k) n }

  obj_number : (g k : ℕ) → Obj g ≡ Obj k → g ≡ k
  obj_number g k e = cc

  abbrev NotDyn : Ty → Type 0
  NotDyn a = a ≡ dyn → ⊥

  -- heads that are the same
  like : (h : Head) (a b : Ty) → NotDyn a → NotDyn b → HasHead names h a → HasHead names h b → (o : Option (List ℕ)) → AllNamed ts o (meet_list (kids a) (kids b)) → IsShown names ts (option_map (with_head h) o) (meet_of a b)
  like h dyn b x y p q o n = absurd (x refl)
  like h int int x y p q o n = leaf_shown h int p refl o n
  like h bool bool x y p q o n = leaf_shown h bool p refl o n
  like h str str x y p q o n = leaf_shown h str p refl o n
  like h nil nil x y p q o n = leaf_shown h nil p refl o n
  like h (fun ps r) (fun qs s) x y p q o n = fun_shown h p o (meet_of r s) (meet_all ps qs) (subst (λ (l : Option (List Ty)). AllNamed ts o (both ◌∷◌ (meet_of r s) l)) (tys_met ps qs) n)
  like h (obj fs) (obj gs) x y p q o n =
      let g : p.0 ≡ q.0 = obj_number p.0 q.0 (sym p.1 ∙ q.1) in
      let e : names_of fs ≡ names_of gs = some_is (sym p.2 ∙ ap (slice_get names) g ∙ q.2) in
      obj_shown h fs p o (meet_fields fs gs) (λ ms f. meet_names fs gs ms f) (subst (AllNamed ts o) (fields_met fs gs e) n)
  like h (obj fs) dyn x y p q o n = absurd (y refl)
  like h (obj fs) int x y p q o n = absurd (let d : Obj p.0 ≡ Int = sym p.1 ∙ q in cc)
  like h (obj fs) bool x y p q o n = absurd (let d : Obj p.0 ≡ Boolean = sym p.1 ∙ q in cc)
  like h (obj fs) str x y p q o n = absurd (let d : Obj p.0 ≡ Str = sym p.1 ∙ q in cc)
  like h (obj fs) nil x y p q o n = absurd (let d : Obj p.0 ≡ Nil = sym p.1 ∙ q in cc)
  like h (obj fs) (fun qs s) x y p q o n = absurd (let d : Obj p.0 ≡ Fun = sym p.1 ∙ q in cc)
  like h int (obj gs) x y p q o n = absurd (let d : Obj q.0 ≡ Int = sym q.1 ∙ p in cc)
  like h bool (obj gs) x y p q o n = absurd (let d : Obj q.0 ≡ Boolean = sym q.1 ∙ p in cc)
  like h str (obj gs) x y p q o n = absurd (let d : Obj q.0 ≡ Str = sym q.1 ∙ p in cc)
  like h nil (obj gs) x y p q o n = absurd (let d : Obj q.0 ≡ Nil = sym q.1 ∙ p in cc)
  like h (fun ps r) (obj gs) x y p q o n = absurd (let d : Obj q.0 ≡ Fun = sym q.1 ∙ p in cc)
  like h int dyn x y p q o n = absurd (y refl)
  like h bool dyn x y p q o n = absurd (y refl)
  like h str dyn x y p q o n = absurd (y refl)
  like h nil dyn x y p q o n = absurd (y refl)
  like h (fun ps r) dyn x y p q o n = absurd (y refl)
  like h _ _ x y p q o n = absurd cc

  apart_names : (fs gs : Fields) → (names_of fs ≡ names_of gs → ⊥) → meet_fields fs gs ≡ None
  apart_names fs gs n = split_option (meet_fields fs gs) (λ o. meet_fields fs gs ≡ o → o ≡ None) (λ e _. refl)
      (λ ms e _. let b = meet_fields_below fs gs ms e in absurd (n (sym (precise_names ms fs b.0) ∙ precise_names ms gs b.1))) refl

  head_apart : (h k c : Head) → h ≡ c → k ≡ c → head_eq h k ≡ false → ⊥
  head_apart h k c p q e = true≢false (sym (head_eq-refl c) ∙ (λ i. head_eq (sym p i) (sym q i)) ∙ e)

  -- heads that differ
  unlike : IsOnce names → (h k : Head) (a b : Ty) → NotDyn a → NotDyn b → HasHead names h a → HasHead names k b → head_eq h k ≡ false → meet_of a b ≡ None
  unlike once h k dyn b x y p q e = absurd (x refl)
  unlike once h k int int x y p q e = absurd (head_apart h k Int p q e)
  unlike once h k bool bool x y p q e = absurd (head_apart h k Boolean p q e)
  unlike once h k str str x y p q e = absurd (head_apart h k Str p q e)
  unlike once h k nil nil x y p q e = absurd (head_apart h k Nil p q e)
  unlike once h k (fun ps r) (fun qs s) x y p q e = absurd (head_apart h k Fun p q e)
  unlike once h k (obj fs) (obj gs) x y p q e = ap (option_map obj) (apart_names fs gs (λ s.
      let g : p.0 ≡ q.0 = once p.0 q.0 (names_of fs) p.2 (q.2 ∙ ap (λ (l : List (List ℕ)). Some l) (sym s)) in
      head_apart h k (Obj p.0) p.1 (q.1 ∙ ap Obj (sym g)) e))
  unlike once h k int dyn x y p q e = absurd (y refl)
  unlike once h k bool dyn x y p q e = absurd (y refl)
  unlike once h k str dyn x y p q e = absurd (y refl)
  unlike once h k nil dyn x y p q e = absurd (y refl)
  unlike once h k (fun ps r) dyn x y p q e = absurd (y refl)
  unlike once h k (obj fs) dyn x y p q e = absurd (y refl)
  unlike once h k _ _ x y p q e = refl

  pub meet_shown : IsOnce names → (rows : List (List (Option ℕ))) (n : ℕ) → AreMeets ts rows n → (s t : Shape) (a b : Ty) → NotDyn a → NotDyn b → Shows names ts s a → Shows names ts t b
      → AreBelow n s.parts → AreBelow n t.parts → IsShown names ts (met_shape rows s t) (meet_of a b)
  meet_shown once rows n right s t a b x y p q c d =
      split (head_eq s.head t.head) (λ z. IsShown names ts (cond z (option_map (with_head s.head) (met_parts rows s.parts t.parts)) None) (meet_of a b))
      (λ w. like s.head a b x y p.head (subst (λ (h : Head). HasHead names h b) (sym (head_eq-is s.head t.head w)) q.head) (met_parts rows s.parts t.parts)
      (parts_met ts rows n right s.parts t.parts (kids a) (kids b) c d p.parts q.parts))
      (λ w. subst (λ (o : Option Ty). IsShown names ts None o) (sym (unlike once s.head t.head a b x y p.head q.head w)) tt)
