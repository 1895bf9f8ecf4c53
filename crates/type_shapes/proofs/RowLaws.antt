-- The meet of two types by their shapes, and the lists that it makes.
use Rattle.std.proofs.Common.{◌≡◌, ℕ, ◌<◌, ◌≤◌, true, false, List, [], ◌∷◌, ◌++◌, length, inl, inr, refl, sym, ◌∙◌, ap, subst, arith, cond, true≢false}
use Rattle.std.specs.Prelude.{Option, Some, None, slice_get, Result, Ok, Err, OnOk, IfOk, IfErr}
use Rattle.std.proofs.lemmas.Option.{slice_get_cases}
use Rattle.mono_list.proofs.Cases.{split}
use Rattle.mono_syntax.specs.Ty.{Ty, dyn, int, bool, str, nil, fun, obj}
use Rattle.mono_tree.specs.Meet.{meet_of}
use Rattle.type_shapes.specs.declared.shape.Head.{Head}
use Rattle.type_shapes.specs.declared.shape.Shape.{Shape}
use Rattle.type_shapes.specs.computed.ByNumber.{met_shape}
use Rattle.type_shapes.specs.Shows.{AreBelow, HasHead, Shows, AreMeets, IsShown}
use Rattle.type_shapes.proofs.MeetShapes.{meet_shown}
use Rattle.type_shapes.specs.declared.rows.Met.{Met}
use Rattle.type_shapes.specs.declared.rows.Met.TheVariants.{At, New, Apart}
use Rattle.mono_tree.specs.ClosedList.{put, put_all, parts_first, each_parts_first, with_found}
use Rattle.type_shapes.specs.Numbered.{HasShape, IsNumbered}
use Rattle.type_shapes.specs.computed.PairMeets.{is_dyn, shape_met, two_met, met_of, pair_meet, pair_list}
use Rattle.mono_tree.proofs.ClosedPuts.{put_there}
use Rattle.type_shapes.proofs.Going.{one_added, parts_there}
use Rattle.mono_tree.proofs.ClosedMembers.{get_in}

not_dyn : (names : List (List (List ℕ))) (h : Head) (a : Ty) → HasHead names h a → is_dyn h ≡ false → a ≡ dyn → ⊥
not_dyn names h a p n e =
    let q : HasHead names h dyn = subst (λ (x : Ty). HasHead names h x) e p in
    true≢false (ap is_dyn (sym q) ∙ n)

dyn_head : (names : List (List (List ℕ))) (h : Head) (a : Ty) → HasHead names h a → is_dyn h ≡ true → a ≡ dyn
dyn_head names h dyn p y = refl
dyn_head names h int p y = absurd (true≢false (sym y ∙ ap is_dyn p))
dyn_head names h bool p y = absurd (true≢false (sym y ∙ ap is_dyn p))
dyn_head names h str p y = absurd (true≢false (sym y ∙ ap is_dyn p))
dyn_head names h nil p y = absurd (true≢false (sym y ∙ ap is_dyn p))
dyn_head names h (fun ps r) p y = absurd (true≢false (sym y ∙ ap is_dyn p))
dyn_head names h (obj fs) p y = absurd (true≢false (sym y ∙ ap is_dyn p.1))

dyn_right : (a : Ty) → meet_of a dyn ≡ Some a
dyn_right dyn = refl
dyn_right int = refl
dyn_right bool = refl
dyn_right str = refl
dyn_right nil = refl
dyn_right (fun ps r) = refl
dyn_right (obj fs) = refl

-- what an answer says of the meet
abbrev pub Means : List (List (List ℕ)) → List Ty → Option Ty → Met → Type 0
Means names ts o (At n) = (m : Ty) × (o ≡ Some m) × (slice_get ts n ≡ Some m)
Means names ts o (New s) = (m : Ty) × (o ≡ Some m) × Shows names ts s m
Means names ts o Apart = o ≡ None

shown_means : (names : List (List (List ℕ))) (ts : List Ty) (s : Option Shape) (o : Option Ty) → IsShown names ts s o → Means names ts o (shape_met s)
shown_means names ts None None p = refl
shown_means names ts None (Some m) p = absurd p
shown_means names ts (Some s) None p = absurd p
shown_means names ts (Some s) (Some m) p = (m, refl, p)

module _ (names : List (List (List ℕ))) (ts : List Ty) (ss : List Shape) (is : IsNumbered names ts ss) (rows : List (List (Option ℕ))) (i : ℕ) (right : AreMeets ts rows i) where
  below_more : (j : ℕ) (ns : List ℕ) → j ≤ i → AreBelow j ns → AreBelow i ns
  below_more j [] l b = tt
  below_more j (n ∷ ns) l b = (let h : n < j = b.0 in omega arith, below_more j ns l b.1)

  two_means : (j : ℕ) (u t : Ty) → j < i → slice_get ts j ≡ Some u → slice_get ts i ≡ Some t → (hs : HasShape names ts ss j u) (ht : HasShape names ts ss i t)
      → Means names ts (meet_of u t) (two_met rows hs.shape ht.shape j i)
  two_means j u t l e f hs ht =
      split (is_dyn hs.shape.head) (λ b. Means names ts (meet_of u t) (cond b (At i) (cond (is_dyn ht.shape.head) (At j) (shape_met (met_shape rows hs.shape ht.shape)))))
      (λ y. (t, ap (λ (x : Ty). meet_of x t) (dyn_head names hs.shape.head u hs.shows.head y), f))
      (λ n. split (is_dyn ht.shape.head) (λ b. Means names ts (meet_of u t) (cond b (At j) (shape_met (met_shape rows hs.shape ht.shape))))
      (λ y. (u, ap (meet_of u) (dyn_head names ht.shape.head t ht.shows.head y) ∙ dyn_right u, e))
      (λ k. shown_means names ts (met_shape rows hs.shape ht.shape) (meet_of u t)
      (meet_shown names ts is.names_once rows i right hs.shape ht.shape u t (not_dyn names hs.shape.head u hs.shows.head n) (not_dyn names ht.shape.head t ht.shows.head k)
      hs.shows ht.shows (below_more j hs.shape.parts (omega arith) hs.below) ht.below)))

  pub met_means : (j : ℕ) → j < i → i < length ts → Means names ts (pair_meet (slice_get ts j) (slice_get ts i)) (met_of rows (slice_get ss j) (slice_get ss i) j i)
  met_means j l k =
      elim (slice_get_cases ts j).1 [
        | inl hu ↦ elim (slice_get_cases ts i).1 [
          | inl ht ↦
              let e : slice_get ts j ≡ Some hu.0 = hu.2 in
              let f : slice_get ts i ≡ Some ht.0 = ht.2 in
              let p : HasShape names ts ss j hu.0 = is.shaped j hu.0 e in
              let q : HasShape names ts ss i ht.0 = is.shaped i ht.0 f in
              subst (λ (o : Option Ty). Means names ts (pair_meet o (slice_get ts i)) (met_of rows (slice_get ss j) (slice_get ss i) j i)) (sym e)
              (subst (λ (o : Option Ty). Means names ts (pair_meet (Some hu.0) o) (met_of rows (slice_get ss j) (slice_get ss i) j i)) (sym f)
              (subst (λ (o : Option Shape). Means names ts (meet_of hu.0 ht.0) (met_of rows o (slice_get ss i) j i)) (sym p.at)
              (subst (λ (o : Option Shape). Means names ts (meet_of hu.0 ht.0) (met_of rows (Some p.shape) o j i)) (sym q.at)
              (two_means j hu.0 ht.0 l e f p q))))
          | inr ht ↦ absurd (let w : length ts ≤ i = ht.0 in omega arith)
        ]
        | inr hu ↦ absurd (let w : length ts ≤ j = hu.0 in omega arith)
      ]

  -- ---- what each answer adds

  add_one : (o : Option Ty) (m : Ty) → o ≡ Some m → put_all ts (each_parts_first (with_found o [])) ≡ put_all ts (parts_first m)
  add_one o m e = ap (λ (x : Option Ty). put_all ts (each_parts_first (with_found x []))) e ∙ ap (put_all ts) (nothing_behind (parts_first m))
    where
      nothing_behind : (us : List Ty) → us ++ [] ≡ us
      nothing_behind [] = refl
      nothing_behind (v ∷ us) = ap (λ (l : List Ty). v ∷ l) (nothing_behind us)

  pub list_at : (j n : ℕ) (m : Ty) → pair_meet (slice_get ts j) (slice_get ts i) ≡ Some m → slice_get ts n ≡ Some m → pair_list ts j i ≡ ts
  list_at j n m e f = add_one _ m e ∙ one_added ts is.part_closed m (λ p h. is.part_closed.part m p (get_in ts n m f) h) ∙ put_there ts m (get_in ts n m f)

  pub list_new : (j : ℕ) (s : Shape) (m : Ty) → pair_meet (slice_get ts j) (slice_get ts i) ≡ Some m → Shows names ts s m → pair_list ts j i ≡ put ts m
  list_new j s m e p = add_one _ m e ∙ one_added ts is.part_closed m (parts_there names ts s m p)

  pub list_apart : (j : ℕ) → pair_meet (slice_get ts j) (slice_get ts i) ≡ None → pair_list ts j i ≡ ts
  list_apart j e = ap (λ (x : Option Ty). put_all ts (each_parts_first (with_found x []))) e

-- ---- results

pub on_ok : {A E : Type 0} (r : Result A E) {P : Type 0} → P → OnOk r P
on_ok (Ok a) p = p
on_ok (Err e) p = tt

pub ok_from : {A E : Type 0} (r : Result A E) {P Q : Type 0} → OnOk r P → (P → Q) → OnOk r Q
ok_from (Ok a) p f = f p
ok_from (Err e) p f = tt

pub if_ok : {A E : Type 0} (r : Result A E) {P Q : A → Type 0} → IfOk r P → ((a : A) → P a → Q a) → IfOk r Q
if_ok (Ok a) p f = f a p
if_ok (Err e) p f = tt

pub if_err : {A E : Type 0} (r : Result A E) {P Q : E → Type 0} → IfErr r P → ((a : E) → P a → Q a) → IfErr r Q
if_err (Ok a) p f = tt
if_err (Err e) p f = f e p
