-- The test decides equality, so it is an equivalence.
use Rattle.std.proofs.Common.{◌≡◌, true, refl, sym, ap, subst, ◌==◌}
use Rattle.std.specs.Cmp.Lexicographic.{pointwise}
use Rattle.std.specs.Cmp.{IsEquivalence, IsPartialEquivalence, partial_equiv_from_equiv, both_ways}
use Rattle.std.proofs.lemmas.Bool.{and_parts, and_from}
use Rattle.std.proofs.lemmas.Slice.Eq.{slice_eq-Decides}
use borrow.Author.Tests.{eqb-true, eq-eqb}
use Rattle.type_shapes.specs.declared.shape.Head.{Head}
use Rattle.type_shapes.specs.declared.shape.Head.TheVariants.{Dyn, Int, Bool as Boolean, Str, Nil, Fun, Obj}
use Rattle.type_shapes.specs.declared.shape.Shape.{Shape}
use Rattle.type_shapes.specs.computed.ShapeEq.{head_eq, shape_eq, shape_fed}

pub head_eq-is : (a b : Head) → head_eq a b ≡ true → a ≡ b
head_eq-is Dyn Dyn e = refl
head_eq-is Int Int e = refl
head_eq-is Boolean Boolean e = refl
head_eq-is Str Str e = refl
head_eq-is Nil Nil e = refl
head_eq-is Fun Fun e = refl
head_eq-is (Obj m) (Obj n) e = ap Obj (eqb-true m n e)
head_eq-is _ _ e = cc

pub head_eq-refl : (a : Head) → head_eq a a ≡ true
head_eq-refl Dyn = refl
head_eq-refl Int = refl
head_eq-refl Boolean = refl
head_eq-refl Str = refl
head_eq-refl Nil = refl
head_eq-refl Fun = refl
head_eq-refl (Obj m) = eq-eqb m m refl

pub shape_eq-is : (a b : Shape) → shape_eq a b ≡ true → a ≡ b
shape_eq-is a b e =
    let h = and_parts (head_eq a.head b.head) (pointwise ◌==◌ a.parts b.parts) e in
    let p : a.head ≡ b.head = head_eq-is a.head b.head h.0 in
    let q : a.parts ≡ b.parts = (slice_eq-Decides (λ m n. (eqb-true m n, eq-eqb m n)) a.parts b.parts _ refl).0 h.1 in
    λ i. record { head = p i; parts = q i }

pub shape_eq-refl : (a : Shape) → shape_eq a a ≡ true
shape_eq-refl a = and_from _ _ (head_eq-refl a.head) ((slice_eq-Decides (λ m n. (eqb-true m n, eq-eqb m n)) a.parts a.parts _ refl).1 refl)

pub shape_eq-same : (a b : Shape) → a ≡ b → shape_eq a b ≡ true
shape_eq-same a b e = subst (λ (z : Shape). shape_eq a z ≡ true) e (shape_eq-refl a)

pub shape_eq-laws : IsEquivalence shape_eq
shape_eq-laws = record {
  refl = shape_eq-refl;
  symm = λ a b. both_ways (shape_eq a b) (shape_eq b a)
      (λ e. shape_eq-same b a (sym (shape_eq-is a b e)))
      (λ e. shape_eq-same a b (sym (shape_eq-is b a e)));
  congr = λ a b c e. ap (λ (z : Shape). shape_eq z c) (shape_eq-is a b e);
}

pub shape_eq-partial : IsPartialEquivalence shape_eq
shape_eq-partial = partial_equiv_from_equiv shape_eq-laws

pub shape_fed-alike : (a b : Shape) → shape_eq a b ≡ true → shape_fed a ≡ shape_fed b
shape_fed-alike a b e = ap shape_fed (shape_eq-is a b e)
