-- Precision as a test.
use Rattle.std.specs.Prelude.{Bool, true, false, ◌&&◌, bytes_eq}
use Rattle.mono_syntax.specs.Ty.{Ty, dyn, int, bool, str, nil, fun, obj, Tys, no_tys, more_tys, Fields, no_fields, more_fields}

abbrev mutual
  -- whether the first type is at least as precise as the second
  pub precise : Ty → Ty → Bool
  precise a dyn = true
  precise int int = true
  precise bool bool = true
  precise str str = true
  precise nil nil = true
  precise (fun ps r) (fun qs s) = precise_all ps qs && precise r s
  precise (obj fs) (obj gs) = precise_fields fs gs
  precise _ _ = false

  pub precise_all : Tys → Tys → Bool
  precise_all no_tys no_tys = true
  precise_all (more_tys a ps) (more_tys b qs) = precise a b && precise_all ps qs
  precise_all _ _ = false

  pub precise_fields : Fields → Fields → Bool
  precise_fields no_fields no_fields = true
  precise_fields (more_fields n a fs) (more_fields m b gs) = bytes_eq n m && (precise a b && precise_fields fs gs)
  precise_fields _ _ = false
