-- The closed set of given types, and the closed list: the same types in the order in which they are found.
use Rattle.std.specs.Prelude.{◌≡◌, ℕ, ◌≤◌, ◌<◌, List, [], ◌∷◌, ◌++◌, Option, Some, None, ◌⊎◌, length, take, slice_get, Contains, if◌then◌else◌, fold}
use Rattle.std.specs.List.{list_any}
use Rattle.std.proofs.Common.{zero, suc}
use Rattle.mono_syntax.specs.Ty.{Ty, dyn, int, bool, str, nil, fun, obj, Tys, no_tys, more_tys, Fields, no_fields, more_fields}
use Rattle.mono_syntax.specs.computed.TyEq.{ty_eq}
use Rattle.mono_tree.specs.Meet.{IsMeet, meet_of}

-- the types without parts that a script needn't write
abbrev pub base_types : List Ty
base_types = dyn ∷ int ∷ bool ∷ str ∷ nil ∷ []

-- ---- the parts of a type

abbrev pub IsAmong : Ty → Tys → Type 0
IsAmong p no_tys = ⊥
IsAmong p (more_tys t ts) = (p ≡ t) ⊎ IsAmong p ts

abbrev pub IsOfField : Ty → Fields → Type 0
IsOfField p no_fields = ⊥
IsOfField p (more_fields n t fs) = (p ≡ t) ⊎ IsOfField p fs

-- a parameter's type or the result's, or the type of a field
abbrev pub IsPart : Ty → Ty → Type 0
IsPart p (fun ps r) = IsAmong p ps ⊎ (p ≡ r)
IsPart p (obj fs) = IsOfField p fs
IsPart p _ = ⊥

-- ---- the closed set: the least set that has the base types, the given types, every part of a member and every meet of two

pub data IsClosed (types : List Ty) : Ty → Type 0 where
  in_base : (t : Ty) → Contains base_types t → IsClosed types t
  in_given : (t : Ty) → Contains types t → IsClosed types t
  in_part : (t p : Ty) → IsClosed types t → IsPart p t → IsClosed types p
  in_meet : (a b m : Ty) → IsClosed types a → IsClosed types b → IsMeet m a b → IsClosed types m

-- ---- the closed list

-- a type, its parts before it, depth first
abbrev mutual
  pub parts_first : Ty → List Ty
  parts_first (fun ps r) = all_parts_first ps ++ (parts_first r ++ fun ps r ∷ [])
  parts_first (obj fs) = field_parts_first fs ++ obj fs ∷ []
  parts_first t = t ∷ []

  pub all_parts_first : Tys → List Ty
  all_parts_first no_tys = []
  all_parts_first (more_tys t ts) = parts_first t ++ all_parts_first ts

  pub field_parts_first : Fields → List Ty
  field_parts_first no_fields = []
  field_parts_first (more_fields n t fs) = parts_first t ++ field_parts_first fs

-- the parts alone
abbrev pub parts_before : Ty → List Ty
parts_before (fun ps r) = all_parts_first ps ++ parts_first r
parts_before (obj fs) = field_parts_first fs
parts_before t = []

-- the same for each of the types in turn
abbrev pub each_parts_first : List Ty → List Ty
each_parts_first [] = []
each_parts_first (t ∷ ts) = parts_first t ++ each_parts_first ts

-- a type goes to the end of the list, unless it is there already
abbrev pub put : List Ty → Ty → List Ty
put ts t = if list_any (ty_eq t) ts then ts else ts ++ t ∷ []

abbrev pub put_all : List Ty → List Ty → List Ty
put_all ts us = fold put ts us

-- the base types, and then the given types
abbrev pub first_types : List Ty → List Ty
first_types types = put_all base_types (each_parts_first types)

abbrev pub with_found : Option Ty → List Ty → List Ty
with_found None ms = ms
with_found (Some m) ms = m ∷ ms

-- the meets of t and each of the types in turn, where they exist
abbrev pub meets_with : Ty → List Ty → List Ty
meets_with t [] = []
meets_with t (u ∷ us) = with_found (meet_of u t) (meets_with t us)

-- the meets of the type at n and each type before it
abbrev pub row_meets : Option Ty → List Ty → List Ty
row_meets None us = []
row_meets (Some t) us = meets_with t us

abbrev pub with_row : List Ty → ℕ → List Ty
with_row ts n = put_all ts (each_parts_first (row_meets (slice_get ts n) (take n ts)))

-- the list after the first n rows
abbrev pub after_rows : List Ty → ℕ → List Ty
after_rows types zero = first_types types
after_rows types (suc n) = with_row (after_rows types n) n

-- the list after as many rows as it has members
pub record IsClosedList (types l : List Ty) : Type 0 where
  pub rows : ℕ
  pub made : after_rows types rows ≡ l
  pub whole : length l ≤ rows

-- each type stands once in the list
abbrev pub AreDistinct : List Ty → Type 0
AreDistinct [] = Unit {0}
AreDistinct (t ∷ ts) = (Contains ts t → ⊥) × AreDistinct ts

-- every part of a member is a member
pub record IsPartClosed (ts : List Ty) : Type 0 where
  pub part : (t p : Ty) → Contains ts t → IsPart p t → Contains ts p

-- each part of a member stands before it
pub record IsOrdered (ts : List Ty) : Type 0 where
  pub before : (k : ℕ) (t p : Ty) → slice_get ts k ≡ Some t → IsPart p t → (j : ℕ) × (j < k) × (slice_get ts j ≡ Some p)
