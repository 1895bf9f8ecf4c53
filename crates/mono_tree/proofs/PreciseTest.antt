-- The tests of precision and of being static decide the relations.
use Rattle.std.proofs.Common.{◌≡◌, true, ◌&&◌, refl}
use Rattle.std.specs.Prelude.{bytes_eq}
use Rattle.std.specs.Bool.{Decides}
use Rattle.std.proofs.lemmas.Bool.{and_parts, and_from}
use Rattle.std.proofs.lemmas.Slice.Eq.{bytes_eq-Decides}
use Rattle.mono_syntax.specs.Ty.{Ty, dyn, int, bool, str, nil, fun, obj, Tys, no_tys, more_tys, Fields, no_fields, more_fields}
use Rattle.mono_tree.specs.Precise.{Precise, below_dyn, both_int, both_bool, both_str, both_nil, both_fun, both_obj, ArePrecise, both_end, both_more, HavePrecise, both_empty, both_field}
use Rattle.mono_tree.specs.Precision.{precise, precise_all, precise_fields}
use Rattle.mono_tree.specs.Static.{IsStatic, AreStatic, HaveStatic, is_static, all_static, fields_static}

mutual
  pub precise-read : (a b : Ty) → precise a b ≡ true → Precise a b
  precise-read a dyn e = below_dyn
  precise-read int int e = both_int
  precise-read bool bool e = both_bool
  precise-read str str e = both_str
  precise-read nil nil e = both_nil
  precise-read (fun ps r) (fun qs s) e = let h = and_parts (precise_all ps qs) (precise r s) e in both_fun (precise_all-read ps qs h.0) (precise-read r s h.1)
  precise-read (obj fs) (obj gs) e = both_obj (precise_fields-read fs gs e)
  precise-read _ _ e = cc

  pub precise_all-read : (ts us : Tys) → precise_all ts us ≡ true → ArePrecise ts us
  precise_all-read no_tys no_tys e = both_end
  precise_all-read (more_tys t ts) (more_tys u us) e = let h = and_parts (precise t u) (precise_all ts us) e in both_more (precise-read t u h.0) (precise_all-read ts us h.1)
  precise_all-read _ _ e = cc

  pub precise_fields-read : (fs gs : Fields) → precise_fields fs gs ≡ true → HavePrecise fs gs
  precise_fields-read no_fields no_fields e = both_empty
  precise_fields-read (more_fields n t fs) (more_fields k u gs) e =
      let h = and_parts (bytes_eq n k) (precise t u && precise_fields fs gs) e in
      let g = and_parts (precise t u) (precise_fields fs gs) h.1 in
      both_field ((bytes_eq-Decides n k).0 h.0) (precise-read t u g.0) (precise_fields-read fs gs g.1)
  precise_fields-read _ _ e = cc

mutual
  pub precise-holds : {a b : Ty} → Precise a b → precise a b ≡ true
  precise-holds below_dyn = refl
  precise-holds both_int = refl
  precise-holds both_bool = refl
  precise-holds both_str = refl
  precise-holds both_nil = refl
  precise-holds (both_fun ps r) = and_from _ _ (precise_all-holds ps) (precise-holds r)
  precise-holds (both_obj fs) = precise_fields-holds fs

  pub precise_all-holds : {ts us : Tys} → ArePrecise ts us → precise_all ts us ≡ true
  precise_all-holds both_end = refl
  precise_all-holds (both_more p ps) = and_from _ _ (precise-holds p) (precise_all-holds ps)

  pub precise_fields-holds : {fs gs : Fields} → HavePrecise fs gs → precise_fields fs gs ≡ true
  precise_fields-holds both_empty = refl
  precise_fields-holds (both_field {n = n} {k = k} e p ps) = and_from _ _ ((bytes_eq-Decides n k).1 e) (and_from _ _ (precise-holds p) (precise_fields-holds ps))

pub precise-Decides : (a b : Ty) → Decides (precise a b) (Precise a b)
precise-Decides a b = (precise-read a b, precise-holds)

mutual
  pub is_static-read : (a : Ty) → is_static a ≡ true → IsStatic a
  is_static-read dyn e = cc
  is_static-read int e = tt
  is_static-read bool e = tt
  is_static-read str e = tt
  is_static-read nil e = tt
  is_static-read (fun ps r) e = let h = and_parts (all_static ps) (is_static r) e in (all_static-read ps h.0, is_static-read r h.1)
  is_static-read (obj fs) e = fields_static-read fs e

  pub all_static-read : (ts : Tys) → all_static ts ≡ true → AreStatic ts
  all_static-read no_tys e = tt
  all_static-read (more_tys t ts) e = let h = and_parts (is_static t) (all_static ts) e in (is_static-read t h.0, all_static-read ts h.1)

  pub fields_static-read : (fs : Fields) → fields_static fs ≡ true → HaveStatic fs
  fields_static-read no_fields e = tt
  fields_static-read (more_fields n t fs) e = let h = and_parts (is_static t) (fields_static fs) e in (is_static-read t h.0, fields_static-read fs h.1)

mutual
  pub is_static-holds : (a : Ty) → IsStatic a → is_static a ≡ true
  is_static-holds dyn h = absurd h
  is_static-holds int h = refl
  is_static-holds bool h = refl
  is_static-holds str h = refl
  is_static-holds nil h = refl
  is_static-holds (fun ps r) h = and_from (all_static ps) (is_static r) (all_static-holds ps h.0) (is_static-holds r h.1)
  is_static-holds (obj fs) h = fields_static-holds fs h

  pub all_static-holds : (ts : Tys) → AreStatic ts → all_static ts ≡ true
  all_static-holds no_tys h = refl
  all_static-holds (more_tys t ts) h = and_from (is_static t) (all_static ts) (is_static-holds t h.0) (all_static-holds ts h.1)

  pub fields_static-holds : (fs : Fields) → HaveStatic fs → fields_static fs ≡ true
  fields_static-holds no_fields h = refl
  fields_static-holds (more_fields n t fs) h = and_from (is_static t) (fields_static fs) (is_static-holds t h.0) (fields_static-holds fs h.1)

pub is_static-Decides : (a : Ty) → Decides (is_static a) (IsStatic a)
is_static-Decides a = (is_static-read a, is_static-holds a)
