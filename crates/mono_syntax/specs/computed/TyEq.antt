-- Computed: whether two types are the same, and what a hash reads of a type.
use Rattle.std.specs.Prelude.{ℕ, List, [], ◌∷◌, ◌++◌, Bool, true, false, ◌&&◌, bytes_eq}
use Rattle.std.specs.Hash as fed
use Rattle.mono_syntax.specs.Ty.{Ty, dyn, int, bool, str, nil, fun, obj, Tys, no_tys, more_tys, Fields, no_fields, more_fields}

abbrev mutual
  pub ty_eq : Ty → Ty → Bool
  ty_eq dyn dyn = true
  ty_eq int int = true
  ty_eq bool bool = true
  ty_eq str str = true
  ty_eq nil nil = true
  ty_eq (fun ps r) (fun qs s) = tys_eq ps qs && ty_eq r s
  ty_eq (obj fs) (obj gs) = fields_eq fs gs
  ty_eq _ _ = false

  pub tys_eq : Tys → Tys → Bool
  tys_eq no_tys no_tys = true
  tys_eq (more_tys t ts) (more_tys u us) = ty_eq t u && tys_eq ts us
  tys_eq _ _ = false

  pub fields_eq : Fields → Fields → Bool
  fields_eq no_fields no_fields = true
  fields_eq (more_fields n t fs) (more_fields k u gs) = bytes_eq n k && (ty_eq t u && fields_eq fs gs)
  fields_eq _ _ = false

abbrev mutual
  pub ty_fed : Ty → List (List ℕ)
  ty_fed dyn = fed.u8 0
  ty_fed int = fed.u8 1
  ty_fed bool = fed.u8 2
  ty_fed str = fed.u8 3
  ty_fed nil = fed.u8 4
  ty_fed (fun ps r) = fed.u8 5 ++ (tys_fed ps ++ ty_fed r)
  ty_fed (obj fs) = fed.u8 6 ++ fields_fed fs

  pub tys_fed : Tys → List (List ℕ)
  tys_fed no_tys = []
  tys_fed (more_tys t ts) = ty_fed t ++ tys_fed ts

  pub fields_fed : Fields → List (List ℕ)
  fields_fed no_fields = []
  fields_fed (more_fields n t fs) = n ∷ (ty_fed t ++ fields_fed fs)
