-- A type is at least as precise as another where it says as much, or more.
use Rattle.std.specs.Prelude.{◌≡◌, ℕ, List}
use Rattle.mono_syntax.specs.Ty.{Ty, dyn, int, bool, str, nil, fun, obj, Tys, no_tys, more_tys, Fields, no_fields, more_fields}

mutual
  -- the first type is at least as precise as the second
  pub data Precise : Ty → Ty → Type 0 where
    below_dyn : {a : Ty} → Precise a dyn
    both_int : Precise int int
    both_bool : Precise bool bool
    both_str : Precise str str
    both_nil : Precise nil nil
    both_fun : {ps qs : Tys} {r s : Ty} → ArePrecise ps qs → Precise r s → Precise (fun ps r) (fun qs s)
    both_obj : {fs gs : Fields} → HavePrecise fs gs → Precise (obj fs) (obj gs)

  -- as many types, each at least as precise
  pub data ArePrecise : Tys → Tys → Type 0 where
    both_end : ArePrecise no_tys no_tys
    both_more : {t u : Ty} {ts us : Tys} → Precise t u → ArePrecise ts us → ArePrecise (more_tys t ts) (more_tys u us)

  -- the same names, each with a type at least as precise
  pub data HavePrecise : Fields → Fields → Type 0 where
    both_empty : HavePrecise no_fields no_fields
    both_field : {n k : List ℕ} {t u : Ty} {fs gs : Fields} → n ≡ k → Precise t u → HavePrecise fs gs → HavePrecise (more_fields n t fs) (more_fields k u gs)
