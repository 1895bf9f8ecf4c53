-- Types with no `Dyn` inside.
use Rattle.std.specs.Prelude.{Bool, true, false, ◌&&◌}
use Rattle.mono_syntax.specs.Ty.{Ty, dyn, int, bool, str, nil, fun, obj, Tys, no_tys, more_tys, Fields, no_fields, more_fields}

abbrev mutual
  -- no `Dyn` stands in the type
  pub IsStatic : Ty → Type 0
  IsStatic dyn = ⊥
  IsStatic int = Unit {0}
  IsStatic bool = Unit {0}
  IsStatic str = Unit {0}
  IsStatic nil = Unit {0}
  IsStatic (fun ps r) = AreStatic ps × IsStatic r
  IsStatic (obj fs) = HaveStatic fs

  pub AreStatic : Tys → Type 0
  AreStatic no_tys = Unit {0}
  AreStatic (more_tys t ts) = IsStatic t × AreStatic ts

  pub HaveStatic : Fields → Type 0
  HaveStatic no_fields = Unit {0}
  HaveStatic (more_fields n t fs) = IsStatic t × HaveStatic fs

-- the same as a test
abbrev mutual
  pub is_static : Ty → Bool
  is_static dyn = false
  is_static (fun ps r) = all_static ps && is_static r
  is_static (obj fs) = fields_static fs
  is_static _ = true

  pub all_static : Tys → Bool
  all_static no_tys = true
  all_static (more_tys t ts) = is_static t && all_static ts

  pub fields_static : Fields → Bool
  fields_static no_fields = true
  fields_static (more_fields n t fs) = is_static t && fields_static fs
