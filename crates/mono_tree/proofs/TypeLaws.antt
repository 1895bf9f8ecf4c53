-- The laws of precision, meets and static types, by the tests and the computed meet.
use Rattle.std.proofs.Common.{◌≡◌, ℕ, List, ◌∷◌, true, refl, ◌∙◌}
use Rattle.std.specs.Prelude.{Some, bytes_eq}
use Rattle.std.proofs.lemmas.Slice.Eq.{bytes_eq-Decides}
use Rattle.mono_syntax.specs.Ty.{Ty, fun, obj, Tys, more_tys, Fields, more_fields}
use Rattle.mono_tree.specs.FieldNames.{names_of}
use Rattle.mono_tree.specs.IsType.{IsType}
use Rattle.mono_tree.specs.Precise.{Precise, below_dyn, both_int, both_bool, both_str, both_nil, both_fun, both_obj, ArePrecise, both_end, both_more, HavePrecise, both_empty, both_field}
use Rattle.mono_tree.specs.Precision.{precise, precise_all, precise_fields}
use Rattle.mono_tree.specs.Meet.{meet_of, meet_all, meet_fields}
use Rattle.mono_tree.specs.Static.{IsStatic, AreStatic, HaveStatic, is_static, all_static, fields_static}
use Rattle.mono_tree.proofs.Order.{reflexive, all_reflexive, fields_reflexive, transitive, all_transitive, fields_transitive, antisymmetric, all_antisymmetric, fields_antisymmetric}
use Rattle.mono_tree.proofs.LowerBounds.{all_left, all_right, fields_left, fields_right, names-meet, meets_type}
use Rattle.mono_tree.proofs.MeetMade.{made, all_made, fields_made, meet_is}
use Rattle.mono_tree.proofs.MeetLaws.{computed, meet_exists}
use Rattle.mono_tree.proofs.PreciseTest.{precise-read, precise_all-read, precise_fields-read, precise-holds, precise_all-holds, precise_fields-holds, is_static-read, all_static-read, fields_static-read}

-- ---- precision is a partial order, on types and on lists of them

pub precise_refl : (a : Ty) → precise a a ≡ true
precise_refl a = precise-holds (reflexive a)

pub all_refl : (ps : Tys) → precise_all ps ps ≡ true
all_refl ps = precise_all-holds (all_reflexive ps)

pub fields_refl : (fs : Fields) → precise_fields fs fs ≡ true
fields_refl fs = precise_fields-holds (fields_reflexive fs)

pub precise_trans : (a b c : Ty) → precise a b ≡ true → precise b c ≡ true → precise a c ≡ true
precise_trans a b c e f = precise-holds (transitive (precise-read a b e) (precise-read b c f))

pub all_trans : (ps qs ts : Tys) → precise_all ps qs ≡ true → precise_all qs ts ≡ true → precise_all ps ts ≡ true
all_trans ps qs ts e f = precise_all-holds (all_transitive (precise_all-read ps qs e) (precise_all-read qs ts f))

pub fields_trans : (fs gs hs : Fields) → precise_fields fs gs ≡ true → precise_fields gs hs ≡ true → precise_fields fs hs ≡ true
fields_trans fs gs hs e f = precise_fields-holds (fields_transitive (precise_fields-read fs gs e) (precise_fields-read gs hs f))

pub precise_antisym : (a b : Ty) → precise a b ≡ true → precise b a ≡ true → a ≡ b
precise_antisym a b e f = antisymmetric (precise-read a b e) (precise-read b a f)

pub all_antisym : (ps qs : Tys) → precise_all ps qs ≡ true → precise_all qs ps ≡ true → ps ≡ qs
all_antisym ps qs e f = all_antisymmetric (precise_all-read ps qs e) (precise_all-read qs ps f)

pub fields_antisym : (fs gs : Fields) → precise_fields fs gs ≡ true → precise_fields gs fs ≡ true → fs ≡ gs
fields_antisym fs gs e f = fields_antisymmetric (precise_fields-read fs gs e) (precise_fields-read gs fs f)

-- ---- the meet is the greatest common lower bound

pub meet_below : (a b m : Ty) → meet_of a b ≡ Some m → (precise m a ≡ true) × (precise m b ≡ true)
meet_below a b m e = let is = meet_is a b m e in (precise-holds is.left, precise-holds is.right)

pub meet_all_below : (ps qs ms : Tys) → meet_all ps qs ≡ Some ms → (precise_all ms ps ≡ true) × (precise_all ms qs ≡ true)
meet_all_below ps qs ms e = let all = all_made ps qs ms e in (precise_all-holds (all_left all), precise_all-holds (all_right all))

pub meet_fields_below : (fs gs ms : Fields) → meet_fields fs gs ≡ Some ms → (precise_fields ms fs ≡ true) × (precise_fields ms gs ≡ true)
meet_fields_below fs gs ms e = let all = fields_made fs gs ms e in (precise_fields-holds (fields_left all), precise_fields-holds (fields_right all))

pub meet_greatest : (a b m x : Ty) → meet_of a b ≡ Some m → precise x a ≡ true → precise x b ≡ true → precise x m ≡ true
meet_greatest a b m x e p q = precise-holds ((meet_is a b m e).greatest x (precise-read x a p) (precise-read x b q))

-- where there is a common lower bound there is a meet
pub meet_found : (a b x : Ty) → precise x a ≡ true → precise x b ≡ true → (m : Ty) × (meet_of a b ≡ Some m)
meet_found a b x p q = let found = meet_exists x a b (precise-read x a p) (precise-read x b q) in (found.0, computed a b found.0 found.1)

-- the more precise of two is their meet
pub meet_at : (a b : Ty) → precise a b ≡ true → meet_of a b ≡ Some a
meet_at a b e = computed a b a (record { left = reflexive a; right = precise-read a b e; greatest = λ x p q. p })

pub meet_at_right : (a b : Ty) → precise b a ≡ true → meet_of a b ≡ Some b
meet_at_right a b e = computed a b b (record { left = precise-read b a e; right = reflexive b; greatest = λ x p q. q })

pub meet_type : (a b m : Ty) → meet_of a b ≡ Some m → IsType a → IsType b → IsType m
meet_type a b m e = meets_type (made a b m e)

-- ---- a fully static type has nothing below it but itself

mutual
  same-static : {a b : Ty} → Precise a b → IsStatic b → a ≡ b
  same-static below_dyn h = absurd h
  same-static both_int h = refl
  same-static both_bool h = refl
  same-static both_str h = refl
  same-static both_nil h = refl
  same-static (both_fun ps r) h = λ i. fun (same-all_static ps h.0 i) (same-static r h.1 i)
  same-static (both_obj fs) h = λ i. obj (same-fields_static fs h i)

  same-all_static : {ts us : Tys} → ArePrecise ts us → AreStatic us → ts ≡ us
  same-all_static both_end h = refl
  same-all_static (both_more p ps) h = λ i. more_tys (same-static p h.0 i) (same-all_static ps h.1 i)

  same-fields_static : {fs gs : Fields} → HavePrecise fs gs → HaveStatic gs → fs ≡ gs
  same-fields_static both_empty h = refl
  same-fields_static (both_field e p ps) h = λ i. more_fields (e i) (same-static p h.0 i) (same-fields_static ps h.1 i)

pub static_same : (a b : Ty) → precise a b ≡ true → is_static b ≡ true → a ≡ b
static_same a b e f = same-static (precise-read a b e) (is_static-read b f)

pub all_same : (ps qs : Tys) → precise_all ps qs ≡ true → all_static qs ≡ true → ps ≡ qs
all_same ps qs e f = same-all_static (precise_all-read ps qs e) (all_static-read qs f)

pub fields_same : (fs gs : Fields) → precise_fields fs gs ≡ true → fields_static gs ≡ true → fs ≡ gs
fields_same fs gs e f = same-fields_static (precise_fields-read fs gs e) (fields_static-read gs f)

-- ---- the fields of two object types, one below the other

pub names-precise : {fs gs : Fields} → HavePrecise fs gs → names_of fs ≡ names_of gs
names-precise both_empty = refl
names-precise (both_field e p ps) = λ i. e i ∷ names-precise ps i

pub precise_names : (fs gs : Fields) → precise_fields fs gs ≡ true → names_of fs ≡ names_of gs
precise_names fs gs e = names-precise (precise_fields-read fs gs e)

pub meet_names : (fs gs ms : Fields) → meet_fields fs gs ≡ Some ms → names_of ms ≡ names_of fs
meet_names fs gs ms e = names-meet (fields_made fs gs ms e)

-- ---- names

pub bytes_eq-refl : (n : List ℕ) → bytes_eq n n ≡ true
bytes_eq-refl n = (bytes_eq-Decides n n).1 refl

pub bytes_eq-same : (n k : List ℕ) → bytes_eq n k ≡ true → n ≡ k
bytes_eq-same n k e = (bytes_eq-Decides n k).0 e

pub bytes_eq-trans : (n m k : List ℕ) → bytes_eq n m ≡ true → bytes_eq m k ≡ true → bytes_eq n k ≡ true
bytes_eq-trans n m k e f = (bytes_eq-Decides n k).1 (bytes_eq-same n m e ∙ bytes_eq-same m k f)
