-- Shapes stand for their types, and meets of shapes for meets of types.
use Rattle.std.proofs.Common.{◌≡◌, ℕ, ◌<◌, Bool, true, true≢false, List, [], ◌∷◌, inl, inr, refl, sym, ◌∙◌, ap, subst, cond}
use Rattle.std.specs.Prelude.{Option, Some, None, slice_get, nat_eq, nat_lt, bytes_eq}
use Rattle.std.specs.Option.{option_map}
use Rattle.std.proofs.lemmas.Bool.{cases_order}
use Rattle.std.proofs.lemmas.Slice.Eq.{bytes_eq-Decides}
use borrow.Author.Tests.{eqb-true, eq-eqb, ltb-true, lt-ltb}
use Rattle.mono_list.proofs.Cases.{split, some_is}
use Rattle.mono_syntax.specs.Ty.{Ty, dyn, int, bool, str, nil, fun, obj, Tys, no_tys, more_tys, Fields, no_fields, more_fields}
use Rattle.mono_syntax.specs.TyView.{tys_list}
use Rattle.mono_tree.specs.FieldNames.{names_of}
use Rattle.mono_tree.specs.Meet.{both, meet_of, meet_all, meet_fields}
use Rattle.mono_tree.proofs.MeetLaws.{meet-swap, meet-itself}
use Rattle.type_shapes.specs.declared.shape.Head.{Head}
use Rattle.type_shapes.specs.declared.shape.Head.TheVariants.{Dyn, Int, Bool as Boolean, Str, Nil, Fun, Obj}
use Rattle.type_shapes.specs.declared.shape.Shape.{Shape}
use Rattle.type_shapes.specs.computed.ByNumber.{entry, met_no, met_parts}
use Rattle.type_shapes.specs.Shows.{types_of, kids, AreNamed, AreBelow, HasHead, Shows, IsNamed, AreMeets, IsOnce}

-- ---- numbers name types

pub named_one : (ts : List Ty) (ns : List ℕ) (us vs : List Ty) → AreNamed ts ns us → AreNamed ts ns vs → us ≡ vs
named_one ts [] [] [] p q = refl
named_one ts [] [] (v ∷ vs) p q = absurd q
named_one ts [] (u ∷ us) vs p q = absurd p
named_one ts (n ∷ ns) [] vs p q = absurd p
named_one ts (n ∷ ns) (u ∷ us) [] p q = absurd q
named_one ts (n ∷ ns) (u ∷ us) (v ∷ vs) p q =
    let e : u ≡ v = some_is (sym p.0 ∙ q.0) in
    let f : us ≡ vs = named_one ts ns us vs p.1 q.1 in
    λ i. e i ∷ f i

pub numbers_one : (ts : List Ty) → IsOnce ts → (ns ms : List ℕ) (us : List Ty) → AreNamed ts ns us → AreNamed ts ms us → ns ≡ ms
numbers_one ts once [] [] us p q = refl
numbers_one ts once [] (m ∷ ms) [] p q = absurd q
numbers_one ts once [] (m ∷ ms) (u ∷ us) p q = absurd p
numbers_one ts once (n ∷ ns) ms [] p q = absurd p
numbers_one ts once (n ∷ ns) [] (u ∷ us) p q = absurd q
numbers_one ts once (n ∷ ns) (m ∷ ms) (u ∷ us) p q =
    let e : n ≡ m = once n m u p.0 q.0 in
    let f : ns ≡ ms = numbers_one ts once ns ms us p.1 q.1 in
    λ i. e i ∷ f i

tys_one : (ps qs : Tys) → tys_list ps ≡ tys_list qs → ps ≡ qs
tys_one no_tys no_tys e = refl
tys_one no_tys (more_tys u us) e = cc
tys_one (more_tys t ts) no_tys e = cc
tys_one (more_tys t ts) (more_tys u us) e =
    let f : t ≡ u = cc in
    let g : tys_list ts ≡ tys_list us = cc in
    let h : ts ≡ us = tys_one ts us g in
    λ i. more_tys (f i) (h i)

fields_one : (fs gs : Fields) → names_of fs ≡ names_of gs → types_of fs ≡ types_of gs → fs ≡ gs
fields_one no_fields no_fields d e = refl
fields_one no_fields (more_fields n t gs) d e = cc
fields_one (more_fields n t fs) no_fields d e = cc
fields_one (more_fields n t fs) (more_fields m u gs) d e =
    let a : n ≡ m = cc in
    let b : names_of fs ≡ names_of gs = cc in
    let f : t ≡ u = cc in
    let g : types_of fs ≡ types_of gs = cc in
    let h : fs ≡ gs = fields_one fs gs b g in
    λ i. more_fields (a i) (f i) (h i)

-- ---- a shape stands for one type, and a type has one shape

obj_number : (g k : ℕ) → Obj g ≡ Obj k → g ≡ k
obj_number g k e = cc

module _ (names : List (List (List ℕ))) (ts : List Ty) where
  head_tells : (h : Head) (a b : Ty) → HasHead names h a → HasHead names h b → kids a ≡ kids b → a ≡ b
  head_tells h dyn dyn p q e = refl
  head_tells h int int p q e = refl
  head_tells h bool bool p q e = refl
  head_tells h str str p q e = refl
  head_tells h nil nil p q e = refl
  head_tells h (fun ps r) (fun qs s) p q e =
      let f : r ≡ s = cc in
      let g : tys_list ps ≡ tys_list qs = cc in
      let k : ps ≡ qs = tys_one ps qs g in
      λ i. fun (k i) (f i)
  head_tells h (obj fs) (obj gs) p q e =
      let g : p.0 ≡ q.0 = obj_number p.0 q.0 (sym p.1 ∙ q.1) in
      let n : names_of fs ≡ names_of gs = some_is (sym p.2 ∙ ap (slice_get names) g ∙ q.2) in
      ap obj (fields_one fs gs n e)
  head_tells h (obj fs) dyn p q e = absurd (let d : Obj p.0 ≡ Dyn = sym p.1 ∙ q in cc)
  head_tells h (obj fs) int p q e = absurd (let d : Obj p.0 ≡ Int = sym p.1 ∙ q in cc)
  head_tells h (obj fs) bool p q e = absurd (let d : Obj p.0 ≡ Boolean = sym p.1 ∙ q in cc)
  head_tells h (obj fs) str p q e = absurd (let d : Obj p.0 ≡ Str = sym p.1 ∙ q in cc)
  head_tells h (obj fs) nil p q e = absurd (let d : Obj p.0 ≡ Nil = sym p.1 ∙ q in cc)
  head_tells h (obj fs) (fun qs s) p q e = absurd (let d : Obj p.0 ≡ Fun = sym p.1 ∙ q in cc)
  head_tells h dyn (obj gs) p q e = absurd (let d : Obj q.0 ≡ Dyn = sym q.1 ∙ p in cc)
  head_tells h int (obj gs) p q e = absurd (let d : Obj q.0 ≡ Int = sym q.1 ∙ p in cc)
  head_tells h bool (obj gs) p q e = absurd (let d : Obj q.0 ≡ Boolean = sym q.1 ∙ p in cc)
  head_tells h str (obj gs) p q e = absurd (let d : Obj q.0 ≡ Str = sym q.1 ∙ p in cc)
  head_tells h nil (obj gs) p q e = absurd (let d : Obj q.0 ≡ Nil = sym q.1 ∙ p in cc)
  head_tells h (fun ps r) (obj gs) p q e = absurd (let d : Obj q.0 ≡ Fun = sym q.1 ∙ p in cc)
  head_tells h _ _ p q e = absurd cc

  pub shape_tells : (s : Shape) (a b : Ty) → Shows names ts s a → Shows names ts s b → a ≡ b
  shape_tells s a b p q = head_tells s.head a b p.head q.head (named_one ts s.parts (kids a) (kids b) p.parts q.parts)

  one_head : IsOnce names → (h k : Head) (a : Ty) → HasHead names h a → HasHead names k a → h ≡ k
  one_head once h k dyn p q = p ∙ sym q
  one_head once h k int p q = p ∙ sym q
  one_head once h k bool p q = p ∙ sym q
  one_head once h k str p q = p ∙ sym q
  one_head once h k nil p q = p ∙ sym q
  one_head once h k (fun ps r) p q = p ∙ sym q
  one_head once h k (obj fs) p q = p.1 ∙ ap Obj (once p.0 q.0 (names_of fs) p.2 q.2) ∙ sym q.1

  pub type_tells : IsOnce names → IsOnce ts → (s t : Shape) (a : Ty) → Shows names ts s a → Shows names ts t a → s ≡ t
  type_tells once single s t a p q =
      let e : s.head ≡ t.head = one_head once s.head t.head a p.head q.head in
      let f : s.parts ≡ t.parts = numbers_one ts single s.parts t.parts (kids a) p.parts q.parts in
      λ i. record { head = e i; parts = f i }

-- ---- meets of lists

abbrev pub meet_list : List Ty → List Ty → Option (List Ty)
meet_list [] [] = Some []
meet_list (u ∷ us) (v ∷ vs) = both ◌∷◌ (meet_of u v) (meet_list us vs)
meet_list _ _ = None

both_listed : (p : Option Ty) (q : Option Tys) → both ◌∷◌ p (option_map tys_list q) ≡ option_map tys_list (both more_tys p q)
both_listed None q = refl
both_listed (Some u) None = refl
both_listed (Some u) (Some us) = refl

pub tys_met : (ps qs : Tys) → meet_list (tys_list ps) (tys_list qs) ≡ option_map tys_list (meet_all ps qs)
tys_met no_tys no_tys = refl
tys_met no_tys (more_tys u us) = refl
tys_met (more_tys t ts) no_tys = refl
tys_met (more_tys t ts) (more_tys u us) = ap (both ◌∷◌ (meet_of t u)) (tys_met ts us) ∙ both_listed (meet_of t u) (meet_all ts us)

both_typed : (n : List ℕ) (p : Option Ty) (q : Option Fields) → both ◌∷◌ p (option_map types_of q) ≡ option_map types_of (both (more_fields n) p q)
both_typed n None q = refl
both_typed n (Some u) None = refl
both_typed n (Some u) (Some us) = refl

pub fields_met : (fs gs : Fields) → names_of fs ≡ names_of gs → meet_list (types_of fs) (types_of gs) ≡ option_map types_of (meet_fields fs gs)
fields_met no_fields no_fields e = refl
fields_met no_fields (more_fields n u us) e = cc
fields_met (more_fields n t ts) no_fields e = cc
fields_met (more_fields n t ts) (more_fields k u us) e =
    let a : n ≡ k = cc in
    let b : names_of ts ≡ names_of us = cc in
    let y : bytes_eq n k ≡ true = (bytes_eq-Decides n k).1 a in
    ap (both ◌∷◌ (meet_of t u)) (fields_met ts us b) ∙ both_typed n (meet_of t u) (meet_fields ts us)
    ∙ ap (λ (c : Bool). option_map types_of (cond c (both (more_fields n) (meet_of t u) (meet_fields ts us)) None)) (sym y)

-- ---- meets by number

abbrev pub AllNamed : List Ty → Option (List ℕ) → Option (List Ty) → Type 0
AllNamed ts None None = Unit {0}
AllNamed ts (Some ns) (Some us) = AreNamed ts ns us
AllNamed ts _ _ = ⊥

both_named : (ts : List Ty) (o : Option ℕ) (m : Option Ty) (os : Option (List ℕ)) (ms : Option (List Ty)) → IsNamed ts o m → AllNamed ts os ms → AllNamed ts (both ◌∷◌ o os) (both ◌∷◌ m ms)
both_named ts None None os ms p q = tt
both_named ts None (Some m) os ms p q = absurd p
both_named ts (Some o) None os ms p q = absurd p
both_named ts (Some o) (Some m) None None p q = tt
both_named ts (Some o) (Some m) None (Some ms) p q = absurd q
both_named ts (Some o) (Some m) (Some os) None p q = absurd q
both_named ts (Some o) (Some m) (Some os) (Some ms) p q = (p, q)

module _ (ts : List Ty) (rows : List (List (Option ℕ))) (n : ℕ) (right : AreMeets ts rows n) where
  pub number_met : (a b : ℕ) (x y : Ty) → a < n → b < n → slice_get ts a ≡ Some x → slice_get ts b ≡ Some y → IsNamed ts (met_no rows a b) (meet_of x y)
  number_met a b x y p q e f =
      split (nat_eq a b) (λ c. nat_eq a b ≡ c → IsNamed ts (cond c (Some a) (cond (nat_lt b a) (entry rows a b) (entry rows b a))) (meet_of x y))
      (λ t _. let g : x ≡ y = some_is (sym e ∙ ap (slice_get ts) (eqb-true a b t) ∙ f) in
      subst (λ (z : Ty). IsNamed ts (Some a) (meet_of x z)) g (subst (λ (o : Option Ty). IsNamed ts (Some a) o) (sym (meet-itself x)) e))
      (λ t _. split (nat_lt b a) (λ c. nat_lt b a ≡ c → IsNamed ts (cond c (entry rows a b) (entry rows b a)) (meet_of x y))
      (λ l _. subst (IsNamed ts (entry rows a b)) (meet-swap y x) (right.at a b (ltb-true b a l) p x y e f))
      (λ l _. let h : a < b = elim (cases_order a b) [
        | inl s ↦ absurd (true≢false (sym (eq-eqb a b s) ∙ t))
        | inr d ↦ elim d [ inl w ↦ w | inr w ↦ absurd (true≢false (sym (lt-ltb b a w) ∙ l)) ]
      ] in right.at b a h q y x f e)
      refl)
      refl

  pub parts_met : (ns ms : List ℕ) (us vs : List Ty) → AreBelow n ns → AreBelow n ms → AreNamed ts ns us → AreNamed ts ms vs → AllNamed ts (met_parts rows ns ms) (meet_list us vs)
  parts_met [] [] [] [] b c p q = tt
  parts_met [] [] [] (v ∷ vs) b c p q = absurd q
  parts_met [] [] (u ∷ us) vs b c p q = absurd p
  parts_met [] (k ∷ ms) [] [] b c p q = absurd q
  parts_met [] (k ∷ ms) [] (v ∷ vs) b c p q = tt
  parts_met [] (k ∷ ms) (u ∷ us) vs b c p q = absurd p
  parts_met (j ∷ ns) ms [] vs b c p q = absurd p
  parts_met (j ∷ ns) [] (u ∷ us) [] b c p q = tt
  parts_met (j ∷ ns) [] (u ∷ us) (v ∷ vs) b c p q = absurd q
  parts_met (j ∷ ns) (k ∷ ms) (u ∷ us) [] b c p q = absurd q
  parts_met (j ∷ ns) (k ∷ ms) (u ∷ us) (v ∷ vs) b c p q =
      both_named ts (met_no rows j k) (meet_of u v) (met_parts rows ns ms) (meet_list us vs)
      (number_met j k u v b.0 c.0 p.0 q.0) (parts_met ns ms us vs b.1 c.1 p.1 q.1)
