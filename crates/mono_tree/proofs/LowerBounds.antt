-- How a meet is made, part by part.
use Rattle.std.proofs.Common.{◌≡◌, ℕ, List, refl, sym, ◌∙◌, ap, subst, ◌∷◌, ◌+◌, ◌≤◌}
use Rattle.mono_syntax.specs.Ty.{Ty, dyn, int, bool, str, nil, fun, obj, Tys, no_tys, more_tys, Fields, no_fields, more_fields}
use Rattle.mono_tree.specs.Precise.{Precise, below_dyn, both_int, both_bool, both_str, both_nil, both_fun, both_obj, ArePrecise, both_end, both_more, HavePrecise, both_empty, both_field}
use Rattle.mono_tree.specs.Meet.{IsMeet}
use Rattle.mono_tree.specs.IsType.{IsType, AreTypes, HaveTypes, tys_count, AreInOrder}
use Rattle.mono_tree.specs.FieldNames.{names_of}
use Rattle.mono_tree.proofs.Order.{reflexive}

mutual
  -- the first type is made of the other two
  pub data Meets : Ty → Ty → Ty → Type 0 where
    left_dyn : {b : Ty} → Meets b dyn b
    right_dyn : {a : Ty} → Meets a a dyn
    meet_int : Meets int int int
    meet_bool : Meets bool bool bool
    meet_str : Meets str str str
    meet_nil : Meets nil nil nil
    meet_fun : {ms ps qs : Tys} {m r s : Ty} → AllMeet ms ps qs → Meets m r s → Meets (fun ms m) (fun ps r) (fun qs s)
    meet_obj : {ms fs gs : Fields} → FieldsMeet ms fs gs → Meets (obj ms) (obj fs) (obj gs)

  pub data AllMeet : Tys → Tys → Tys → Type 0 where
    meet_end : AllMeet no_tys no_tys no_tys
    meet_more : {m t u : Ty} {ms ts us : Tys} → Meets m t u → AllMeet ms ts us → AllMeet (more_tys m ms) (more_tys t ts) (more_tys u us)

  pub data FieldsMeet : Fields → Fields → Fields → Type 0 where
    meet_empty : FieldsMeet no_fields no_fields no_fields
    meet_field : {l n k : List ℕ} {m t u : Ty} {ms fs gs : Fields} → l ≡ n → n ≡ k → Meets m t u → FieldsMeet ms fs gs → FieldsMeet (more_fields l m ms) (more_fields n t fs) (more_fields k u gs)

-- ---- what is made is at least as precise as both

mutual
  pub meets_left : {m a b : Ty} → Meets m a b → Precise m a
  meets_left left_dyn = below_dyn
  meets_left (right_dyn {a = a}) = reflexive a
  meets_left meet_int = both_int
  meets_left meet_bool = both_bool
  meets_left meet_str = both_str
  meets_left meet_nil = both_nil
  meets_left (meet_fun ms m) = both_fun (all_left ms) (meets_left m)
  meets_left (meet_obj ms) = both_obj (fields_left ms)

  pub all_left : {ms ts us : Tys} → AllMeet ms ts us → ArePrecise ms ts
  all_left meet_end = both_end
  all_left (meet_more m ms) = both_more (meets_left m) (all_left ms)

  pub fields_left : {ms fs gs : Fields} → FieldsMeet ms fs gs → HavePrecise ms fs
  fields_left meet_empty = both_empty
  fields_left (meet_field d e m ms) = both_field d (meets_left m) (fields_left ms)

mutual
  pub meets_right : {m a b : Ty} → Meets m a b → Precise m b
  meets_right (left_dyn {b = b}) = reflexive b
  meets_right right_dyn = below_dyn
  meets_right meet_int = both_int
  meets_right meet_bool = both_bool
  meets_right meet_str = both_str
  meets_right meet_nil = both_nil
  meets_right (meet_fun ms m) = both_fun (all_right ms) (meets_right m)
  meets_right (meet_obj ms) = both_obj (fields_right ms)

  pub all_right : {ms ts us : Tys} → AllMeet ms ts us → ArePrecise ms us
  all_right meet_end = both_end
  all_right (meet_more m ms) = both_more (meets_right m) (all_right ms)

  pub fields_right : {ms fs gs : Fields} → FieldsMeet ms fs gs → HavePrecise ms gs
  fields_right meet_empty = both_empty
  fields_right (meet_field d e m ms) = both_field (d ∙ e) (meets_right m) (fields_right ms)

-- ---- and the least precise such type

mutual
  pub meets_greatest : {m a b : Ty} → Meets m a b → {x : Ty} → Precise x a → Precise x b → Precise x m
  meets_greatest left_dyn p q = q
  meets_greatest right_dyn p q = p
  meets_greatest meet_int p q = p
  meets_greatest meet_bool p q = p
  meets_greatest meet_str p q = p
  meets_greatest meet_nil p q = p
  meets_greatest (meet_fun ms m) (both_fun ps r) (both_fun qs s) = both_fun (all_greatest ms ps qs) (meets_greatest m r s)
  meets_greatest (meet_obj ms) (both_obj fs) (both_obj gs) = both_obj (fields_greatest ms fs gs)

  pub all_greatest : {ms ts us : Tys} → AllMeet ms ts us → {xs : Tys} → ArePrecise xs ts → ArePrecise xs us → ArePrecise xs ms
  all_greatest meet_end p q = p
  all_greatest (meet_more m ms) (both_more p ps) (both_more q qs) = both_more (meets_greatest m p q) (all_greatest ms ps qs)

  pub fields_greatest : {ms fs gs : Fields} → FieldsMeet ms fs gs → {xs : Fields} → HavePrecise xs fs → HavePrecise xs gs → HavePrecise xs ms
  fields_greatest meet_empty p q = p
  fields_greatest (meet_field d e m ms) (both_field i p ps) (both_field j q qs) = both_field (i ∙ sym d) (meets_greatest m p q) (fields_greatest ms ps qs)

pub meets_is : {m a b : Ty} → Meets m a b → IsMeet m a b
meets_is h = record { left = meets_left h; right = meets_right h; greatest = λ x p q. meets_greatest h p q }

-- ---- two types with a common lower bound have a meet

mutual
  pub meets_exist : {x a b : Ty} → Precise x a → Precise x b → (m : Ty) × Meets m a b
  meets_exist below_dyn below_dyn = (dyn, left_dyn)
  meets_exist both_int below_dyn = (int, right_dyn)
  meets_exist both_int both_int = (int, meet_int)
  meets_exist both_bool below_dyn = (bool, right_dyn)
  meets_exist both_bool both_bool = (bool, meet_bool)
  meets_exist both_str below_dyn = (str, right_dyn)
  meets_exist both_str both_str = (str, meet_str)
  meets_exist both_nil below_dyn = (nil, right_dyn)
  meets_exist both_nil both_nil = (nil, meet_nil)
  meets_exist (both_fun {qs = ps} {s = r} _ _) below_dyn = (fun ps r, right_dyn)
  meets_exist (both_fun ps r) (both_fun qs s) =
      let all = all_exist ps qs in
      let out = meets_exist r s in
      (fun all.0 out.0, meet_fun all.1 out.1)
  meets_exist (both_obj {gs = fs} _) below_dyn = (obj fs, right_dyn)
  meets_exist (both_obj fs) (both_obj gs) = let all = fields_exist fs gs in (obj all.0, meet_obj all.1)
  meets_exist (below_dyn {a = _}) q = (_, left_dyn)

  pub all_exist : {xs ts us : Tys} → ArePrecise xs ts → ArePrecise xs us → (ms : Tys) × AllMeet ms ts us
  all_exist both_end both_end = (no_tys, meet_end)
  all_exist (both_more p ps) (both_more q qs) =
      let m = meets_exist p q in
      let ms = all_exist ps qs in
      (more_tys m.0 ms.0, meet_more m.1 ms.1)

  pub fields_exist : {xs fs gs : Fields} → HavePrecise xs fs → HavePrecise xs gs → (ms : Fields) × FieldsMeet ms fs gs
  fields_exist both_empty both_empty = (no_fields, meet_empty)
  fields_exist (both_field {k = n} d p ps) (both_field e q qs) =
      let m = meets_exist p q in
      let ms = fields_exist ps qs in
      (more_fields n m.0 ms.0, meet_field refl (sym d ∙ e) m.1 ms.1)

-- ---- what is made of types is a type

pub names-meet : {ms fs gs : Fields} → FieldsMeet ms fs gs → names_of ms ≡ names_of fs
names-meet meet_empty = refl
names-meet (meet_field d e m ms) = λ i. d i ∷ names-meet ms i

pub count-meet : {ms ts us : Tys} → AllMeet ms ts us → tys_count ms ≡ tys_count ts
count-meet meet_end = refl
count-meet (meet_more m ms) = ap (λ n. n + 1) (count-meet ms)

mutual
  pub meets_type : {m a b : Ty} → Meets m a b → IsType a → IsType b → IsType m
  meets_type left_dyn s t = t
  meets_type right_dyn s t = s
  meets_type meet_int s t = tt
  meets_type meet_bool s t = tt
  meets_type meet_str s t = tt
  meets_type meet_nil s t = tt
  meets_type (meet_fun ms m) s t = (subst (λ n. n ≤ 8) (sym (count-meet ms)) s.0, all_types ms s.1 t.1, meets_type m s.2 t.2)
  meets_type (meet_obj ms) s t = (subst AreInOrder (sym (names-meet ms)) s.0, fields_types ms s.1 t.1)

  pub all_types : {ms ts us : Tys} → AllMeet ms ts us → AreTypes ts → AreTypes us → AreTypes ms
  all_types meet_end s t = tt
  all_types (meet_more m ms) s t = (meets_type m s.0 t.0, all_types ms s.1 t.1)

  pub fields_types : {ms fs gs : Fields} → FieldsMeet ms fs gs → HaveTypes fs → HaveTypes gs → HaveTypes ms
  fields_types meet_empty s t = tt
  fields_types (meet_field d e m ms) s t = (meets_type m s.0 t.0, fields_types ms s.1 t.1)
