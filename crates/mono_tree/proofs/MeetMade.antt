-- The computed meet is made part by part, and so it is a meet.
use Rattle.std.proofs.Common.{◌≡◌, ℕ, List, refl, Bool, true, false}
use Rattle.std.specs.Prelude.{bytes_eq, if◌then◌else◌, Option, Some, None}
use Rattle.std.specs.Option.{option_map}
use Rattle.std.proofs.lemmas.Slice.Eq.{bytes_eq-Decides}
use Rattle.mono_syntax.specs.Ty.{Ty, dyn, int, bool, str, nil, fun, obj, Tys, no_tys, more_tys, Fields, no_fields, more_fields}
use Rattle.mono_tree.specs.Meet.{IsMeet, AreApart, both, meet_of, meet_all, meet_fields}
use Rattle.mono_tree.proofs.LowerBounds.{Meets, left_dyn, right_dyn, meet_int, meet_bool, meet_str, meet_nil, meet_fun, meet_obj, AllMeet, meet_end, meet_more, FieldsMeet, meet_empty, meet_field, meets_exist, meets_is}

-- ---- names

pub named : (n k : List ℕ) → n ≡ k → bytes_eq n k ≡ true
named n k e = (bytes_eq-Decides n k).1 e

pub unnamed : (n k : List ℕ) → (n ≡ k → ⊥) → bytes_eq n k ≡ false
unnamed n k e = go (bytes_eq n k) refl
  where
    go : (b : Bool) → bytes_eq n k ≡ b → bytes_eq n k ≡ false
    go true q = absurd (e ((bytes_eq-Decides n k).0 q))
    go false q = q

pub name_read : (n k : List ℕ) → bytes_eq n k ≡ true → n ≡ k
name_read n k e = (bytes_eq-Decides n k).0 e

-- ---- what is made is computed

mutual
  pub meet-made : {m a b : Ty} → Meets m a b → meet_of a b ≡ Some m
  meet-made left_dyn = refl
  meet-made (right_dyn {a = a}) = at_dyn a
    where
      at_dyn : (a : Ty) → meet_of a dyn ≡ Some a
      at_dyn dyn = refl
      at_dyn int = refl
      at_dyn bool = refl
      at_dyn str = refl
      at_dyn nil = refl
      at_dyn (fun ps r) = refl
      at_dyn (obj fs) = refl
  meet-made meet_int = refl
  meet-made meet_bool = refl
  meet-made meet_str = refl
  meet-made meet_nil = refl
  meet-made (meet_fun ms m) = rw (meet_all-made ms, meet-made m)
  meet-made (meet_obj ms) = rw (meet_fields-made ms)

  pub meet_all-made : {ms ts us : Tys} → AllMeet ms ts us → meet_all ts us ≡ Some ms
  meet_all-made meet_end = refl
  meet_all-made (meet_more m ms) = rw (meet-made m, meet_all-made ms)

  pub meet_fields-made : {ms fs gs : Fields} → FieldsMeet ms fs gs → meet_fields fs gs ≡ Some ms
  meet_fields-made meet_empty = refl
  meet_fields-made (meet_field d e m ms) = rw (named _ _ e, meet-made m, meet_fields-made ms, d)

-- ---- and what is computed is made

both-some : {A B C : Type 0} (f : A → B → C) (x : Option A) (y : Option B) (z : C) → both f x y ≡ Some z → (a : A) × (b : B) × (x ≡ Some a) × (y ≡ Some b) × (z ≡ f a b)
both-some f (Some a) (Some b) z e = (a, b, refl, refl, cc)
both-some f None y z e = cc
both-some f (Some a) None z e = cc

map-some : {A B : Type 0} (f : A → B) (x : Option A) (z : B) → option_map f x ≡ Some z → (a : A) × (x ≡ Some a) × (z ≡ f a)
map-some f (Some a) z e = (a, refl, cc)
map-some f None z e = cc

if-some : {A : Type 0} (b : Bool) (x : Option A) (z : A) → (if b then x else None) ≡ Some z → (b ≡ true) × (x ≡ Some z)
if-some true x z e = (refl, e)
if-some false x z e = cc

mutual
  pub made : (a b m : Ty) → meet_of a b ≡ Some m → Meets m a b
  made dyn b m e = let q : m ≡ b = cc in rw q left_dyn
  made a dyn m e = let q : m ≡ a = cc in rw q right_dyn
  made int int m e = let q : m ≡ int = cc in rw q meet_int
  made bool bool m e = let q : m ≡ bool = cc in rw q meet_bool
  made str str m e = let q : m ≡ str = cc in rw q meet_str
  made nil nil m e = let q : m ≡ nil = cc in rw q meet_nil
  made (fun ps r) (fun qs s) m e =
      let (ms, out, d, f, q) = both-some fun (meet_all ps qs) (meet_of r s) m e in
      rw q (meet_fun (all_made ps qs ms d) (made r s out f))
  made (obj fs) (obj gs) m e =
      let (ms, d, q) = map-some obj (meet_fields fs gs) m e in
      rw q (meet_obj (fields_made fs gs ms d))
  made _ _ m e = cc

  pub all_made : (ts us ms : Tys) → meet_all ts us ≡ Some ms → AllMeet ms ts us
  all_made no_tys no_tys ms e = let q : ms ≡ no_tys = cc in rw q meet_end
  all_made (more_tys t ts) (more_tys u us) ms e =
      let (m, rest, d, f, q) = both-some more_tys (meet_of t u) (meet_all ts us) ms e in
      rw q (meet_more (made t u m d) (all_made ts us rest f))
  all_made _ _ ms e = cc

  pub fields_made : (fs gs ms : Fields) → meet_fields fs gs ≡ Some ms → FieldsMeet ms fs gs
  fields_made no_fields no_fields ms e = let q : ms ≡ no_fields = cc in rw q meet_empty
  fields_made (more_fields n t fs) (more_fields k u gs) ms e =
      let (same, e') = if-some (bytes_eq n k) (both (more_fields n) (meet_of t u) (meet_fields fs gs)) ms e in
      let (m, rest, d, f, q) = both-some (more_fields n) (meet_of t u) (meet_fields fs gs) ms e' in
      rw q (meet_field refl (name_read n k same) (made t u m d) (fields_made fs gs rest f))
  fields_made _ _ ms e = cc

pub meet_is : (a b m : Ty) → meet_of a b ≡ Some m → IsMeet m a b
meet_is a b m e = meets_is (made a b m e)

pub none_apart : (a b : Ty) → meet_of a b ≡ None → AreApart a b
none_apart a b e x p q = let found = meets_exist p q in let h = meet-made found.1 in cc
