-- The meet of two types: the least precise type that is at least as precise as both.
use Rattle.std.specs.Prelude.{Option, Some, None, bytes_eq, if◌then◌else◌, option_and_then}
use Rattle.std.specs.Option.{option_map}
use Rattle.mono_syntax.specs.Ty.{Ty, dyn, int, bool, str, nil, fun, obj, Tys, no_tys, more_tys, Fields, no_fields, more_fields}
use Rattle.mono_tree.specs.Precise.{Precise}

-- m is the greatest common lower bound of a and b in precision
pub record IsMeet (m a b : Ty) : Type 0 where
  pub left : Precise m a
  pub right : Precise m b
  pub greatest : (x : Ty) → Precise x a → Precise x b → Precise x m

-- the two have a meet: a value of the one type may be used at the other, with a cast
pub record Consistent (a b : Ty) : Type 0 where
  pub meet : Ty
  pub is_meet : IsMeet meet a b

-- no type is at least as precise as both
abbrev pub AreApart : Ty → Ty → Type 0
AreApart a b = (x : Ty) → Precise x a → Precise x b → ⊥

-- ---- the meet, computed part by part

-- of two parts, if there are both
abbrev pub both : {A B C : Type 0} → (A → B → C) → Option A → Option B → Option C
both f (Some a) (Some b) = Some (f a b)
both f _ _ = None

abbrev mutual
  pub meet_of : Ty → Ty → Option Ty
  meet_of dyn b = Some b
  meet_of a dyn = Some a
  meet_of int int = Some int
  meet_of bool bool = Some bool
  meet_of str str = Some str
  meet_of nil nil = Some nil
  meet_of (fun ps r) (fun qs s) = both fun (meet_all ps qs) (meet_of r s)
  meet_of (obj fs) (obj gs) = option_map obj (meet_fields fs gs)
  meet_of _ _ = None

  pub meet_all : Tys → Tys → Option Tys
  meet_all no_tys no_tys = Some no_tys
  meet_all (more_tys t ts) (more_tys u us) = both more_tys (meet_of t u) (meet_all ts us)
  meet_all _ _ = None

  pub meet_fields : Fields → Fields → Option Fields
  meet_fields no_fields no_fields = Some no_fields
  meet_fields (more_fields n t fs) (more_fields k u gs) = if bytes_eq n k then both (more_fields n) (meet_of t u) (meet_fields fs gs) else None
  meet_fields _ _ = None

-- the meet of three, the first two first
abbrev pub meet_three : Ty → Ty → Ty → Option Ty
meet_three a b c = option_and_then (λ m. meet_of m c) (meet_of a b)
