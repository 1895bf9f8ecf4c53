-- The test decides equality, so it is an equivalence.
use Rattle.std.proofs.Common.{◌≡◌, true, ◌&&◌, refl, sym, ap, subst}
use Rattle.std.specs.Prelude.{bytes_eq}
use Rattle.std.specs.Cmp.{IsEquivalence, IsPartialEquivalence, partial_equiv_from_equiv, both_ways}
use Rattle.std.proofs.lemmas.Bool.{and_parts, and_from}
use Rattle.std.proofs.lemmas.Slice.Eq.{bytes_eq-Decides}
use Rattle.mono_syntax.specs.Ty.{Ty, dyn, int, bool, str, nil, fun, obj, Tys, no_tys, more_tys, Fields, no_fields, more_fields}
use Rattle.mono_syntax.specs.computed.TyEq.{ty_eq, tys_eq, fields_eq, ty_fed}

mutual
  pub ty_eq-is : (a b : Ty) → ty_eq a b ≡ true → a ≡ b
  ty_eq-is dyn dyn e = refl
  ty_eq-is int int e = refl
  ty_eq-is bool bool e = refl
  ty_eq-is str str e = refl
  ty_eq-is nil nil e = refl
  ty_eq-is (fun ps r) (fun qs s) e = let h = and_parts (tys_eq ps qs) (ty_eq r s) e in λ i. fun (tys_eq-is ps qs h.0 i) (ty_eq-is r s h.1 i)
  ty_eq-is (obj fs) (obj gs) e = λ i. obj (fields_eq-is fs gs e i)
  ty_eq-is _ _ e = cc

  pub tys_eq-is : (ts us : Tys) → tys_eq ts us ≡ true → ts ≡ us
  tys_eq-is no_tys no_tys e = refl
  tys_eq-is (more_tys t ts) (more_tys u us) e = let h = and_parts (ty_eq t u) (tys_eq ts us) e in λ i. more_tys (ty_eq-is t u h.0 i) (tys_eq-is ts us h.1 i)
  tys_eq-is _ _ e = cc

  pub fields_eq-is : (fs gs : Fields) → fields_eq fs gs ≡ true → fs ≡ gs
  fields_eq-is no_fields no_fields e = refl
  fields_eq-is (more_fields n t fs) (more_fields k u gs) e =
      let h = and_parts (bytes_eq n k) (ty_eq t u && fields_eq fs gs) e in
      let g = and_parts (ty_eq t u) (fields_eq fs gs) h.1 in
      λ i. more_fields ((bytes_eq-Decides n k).0 h.0 i) (ty_eq-is t u g.0 i) (fields_eq-is fs gs g.1 i)
  fields_eq-is _ _ e = cc

mutual
  pub ty_eq-refl : (a : Ty) → ty_eq a a ≡ true
  ty_eq-refl dyn = refl
  ty_eq-refl int = refl
  ty_eq-refl bool = refl
  ty_eq-refl str = refl
  ty_eq-refl nil = refl
  ty_eq-refl (fun ps r) = and_from _ _ (tys_eq-refl ps) (ty_eq-refl r)
  ty_eq-refl (obj fs) = fields_eq-refl fs

  pub tys_eq-refl : (a : Tys) → tys_eq a a ≡ true
  tys_eq-refl no_tys = refl
  tys_eq-refl (more_tys t ts) = and_from _ _ (ty_eq-refl t) (tys_eq-refl ts)

  pub fields_eq-refl : (a : Fields) → fields_eq a a ≡ true
  fields_eq-refl no_fields = refl
  fields_eq-refl (more_fields n t fs) = and_from _ _ ((bytes_eq-Decides n n).1 refl) (and_from _ _ (ty_eq-refl t) (fields_eq-refl fs))

pub ty_eq-same : (a b : Ty) → a ≡ b → ty_eq a b ≡ true
ty_eq-same a b e = subst (λ (z : Ty). ty_eq a z ≡ true) e (ty_eq-refl a)

pub ty_eq-laws : IsEquivalence ty_eq
ty_eq-laws = record {
  refl = ty_eq-refl;
  symm = λ a b. both_ways (ty_eq a b) (ty_eq b a) (λ e. ty_eq-same b a (sym (ty_eq-is a b e))) (λ e. ty_eq-same a b (sym (ty_eq-is b a e)));
  congr = λ a b c e. ap (λ (z : Ty). ty_eq z c) (ty_eq-is a b e);
}

pub ty_eq-partial : IsPartialEquivalence ty_eq
ty_eq-partial = partial_equiv_from_equiv ty_eq-laws

pub ty_fed-alike : (a b : Ty) → ty_eq a b ≡ true → ty_fed a ≡ ty_fed b
ty_fed-alike a b e = ap ty_fed (ty_eq-is a b e)
