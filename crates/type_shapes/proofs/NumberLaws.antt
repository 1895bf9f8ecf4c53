-- A shape and its number after an insertion.
use Rattle.std.proofs.Common.{◌≡◌, ℕ, Bool, true, false, not, List, [], ◌∷◌, ◌++◌, refl, sym, ◌∙◌, ap, subst, cond}
use Rattle.std.specs.Prelude.{Option, Some, slice_get, Contains}
use Rattle.std.specs.List.{list_any}
use Rattle.mono_list.proofs.Cases.{some_is}
use Rattle.mono_syntax.specs.Ty.{Ty}
use Rattle.type_shapes.specs.declared.shape.Shape.{Shape}
use Rattle.type_shapes.specs.computed.ShapeEq.{shape_eq}
use Rattle.type_shapes.specs.ShapeEqLaws.{shape_eq-is}
use Rattle.type_shapes.specs.Shows.{Shows}
use Rattle.mono_tree.specs.ClosedList.{put}
use Rattle.type_shapes.specs.Numbered.{IsNumbered}
use Rattle.mono_tree.proofs.ClosedPuts.{begins-put}
use Rattle.type_shapes.proofs.Going.{new_shape, shows_longer, number_shows}
use Rattle.type_shapes.proofs.Pushes.{numbered_put}

pub record Inserted (ss ss' : List Shape) (s : Shape) (x : Bool) (n : ℕ) : Type 0 where
  pub added : x ≡ not (list_any (shape_eq s) ss)
  pub keys : ss' ≡ cond (list_any (shape_eq s) ss) ss (ss ++ s ∷ [])
  pub stored : (k : Shape) × (slice_get ss' n ≡ Some k) × (shape_eq s k ≡ true)

module _ (names : List (List (List ℕ))) (ts : List Ty) (ss : List Shape) (is : IsNumbered names ts ss) where
  -- ---- the number of a shape

  pub old_at : (n : ℕ) (s k : Shape) (m : Ty) → slice_get ss n ≡ Some k → shape_eq s k ≡ true → Shows names ts s m → slice_get ts n ≡ Some m
  old_at n s k m e q p = number_shows names ts ss is n s m (e ∙ ap (λ (x : Shape). Some x) (sym (shape_eq-is s k q))) p

  pub new_at : (n : ℕ) (s k : Shape) (m : Ty) → list_any (shape_eq s) ss ≡ false → slice_get (ss ++ s ∷ []) n ≡ Some k → shape_eq s k ≡ true → Shows names ts s m → slice_get (put ts m) n ≡ Some m
  new_at n s k m a e q p = number_shows names (put ts m) (ss ++ s ∷ []) (numbered_put names ts ss is s m p a) n s m
      (e ∙ ap (λ (x : Shape). Some x) (sym (shape_eq-is s k q))) (shows_longer names ts (put ts m) (begins-put ts m) s m p)

  was_there : (x b : Bool) → x ≡ not b → x ≡ false → b ≡ true
  was_there x true e f = refl
  was_there x false e f = cc

  was_absent : (x b : Bool) → x ≡ not b → x ≡ true → b ≡ false
  was_absent x true e f = cc
  was_absent x false e f = refl

  pub number_old : (ss' : List Shape) (s : Shape) (x : Bool) (n : ℕ) → Inserted ss ss' s x n → x ≡ false → (m : Ty) → Shows names ts s m → slice_get ts n ≡ Some m
  number_old ss' s x n h e m p =
      let there : list_any (shape_eq s) ss ≡ true = was_there x (list_any (shape_eq s) ss) h.added e in
      let same : ss' ≡ ss = h.keys ∙ ap (λ (b : Bool). cond b ss (ss ++ s ∷ [])) there in
      old_at n s h.stored.0 m (subst (λ (l : List Shape). slice_get l n ≡ Some h.stored.0) same h.stored.1) h.stored.2 p

  pub kept_old : (ss' : List Shape) (s : Shape) (x : Bool) (n : ℕ) → Inserted ss ss' s x n → x ≡ false → ss' ≡ ss
  kept_old ss' s x n h e = h.keys ∙ ap (λ (b : Bool). cond b ss (ss ++ s ∷ [])) (was_there x (list_any (shape_eq s) ss) h.added e)

  pub shape_new : (ss' : List Shape) (s : Shape) (x : Bool) (n : ℕ) → Inserted ss ss' s x n → slice_get ss' n ≡ Some s
  shape_new ss' s x n h = h.stored.1 ∙ ap (λ (z : Shape). Some z) (sym (shape_eq-is s h.stored.0 h.stored.2))

  pub numbered_new : (ss' : List Shape) (s : Shape) (x : Bool) (n : ℕ) → Inserted ss ss' s x n → x ≡ true → (m : Ty) → Shows names ts s m → IsNumbered names (put ts m) ss'
  numbered_new ss' s x n h e m p =
      let absent : list_any (shape_eq s) ss ≡ false = was_absent x (list_any (shape_eq s) ss) h.added e in
      let same : ss' ≡ ss ++ s ∷ [] = h.keys ∙ ap (λ (b : Bool). cond b ss (ss ++ s ∷ [])) absent in
      subst (λ (l : List Shape). IsNumbered names (put ts m) l) (sym same) (numbered_put names ts ss is s m p absent)

  pub number_new : (ss' : List Shape) (s : Shape) (x : Bool) (n : ℕ) → Inserted ss ss' s x n → x ≡ true → (m : Ty) → Shows names ts s m → slice_get (put ts m) n ≡ Some m
  number_new ss' s x n h e m p = number_shows names (put ts m) ss' (numbered_new ss' s x n h e m p) n s m (shape_new ss' s x n h) (shows_longer names ts (put ts m) (begins-put ts m) s m p)

  -- the type of a new shape isn't there yet
  pub absent_new : (ss' : List Shape) (s : Shape) (x : Bool) (n : ℕ) → Inserted ss ss' s x n → x ≡ true → (m : Ty) → Shows names ts s m → Contains ts m → ⊥
  absent_new ss' s x n h e m p = new_shape names ts ss is s m (was_absent x (list_any (shape_eq s) ss) h.added e) p

  -- the shape that was found at its place
  pub found_new : (ss' : List Shape) (s : Shape) (x : Bool) (n : ℕ) → Inserted ss ss' s x n → (o : Option Shape) (k : Shape) → o ≡ slice_get ss' n → o ≡ Some k → k ≡ s
  found_new ss' s x n h o k e f = some_is (sym f ∙ e ∙ shape_new ss' s x n h)
