-- What every type of the language keeps.
use Rattle.std.specs.Prelude.{◌≡◌, ℕ, ◌+◌, ◌≤◌, List, [], ◌∷◌}
use Rattle.std.specs.Ordering.{nat_cmp}
use Rattle.std.specs.Cmp.Lexicographic.{slice_cmp}
use Rattle.std.specs.declared.cmp.Ordering.TheVariants.{Less}
use Rattle.mono_syntax.specs.Limits.{most_parameters}
use Rattle.mono_syntax.specs.Ty.{Ty, dyn, int, bool, str, nil, fun, obj, Tys, no_tys, more_tys, Fields, no_fields, more_fields}
use Rattle.mono_tree.specs.FieldNames.{names_of}

abbrev pub tys_count : Tys → ℕ
tys_count no_tys = 0
tys_count (more_tys t ts) = tys_count ts + 1

-- a name stands before each of these, byte by byte
abbrev pub IsBefore : List ℕ → List (List ℕ) → Type 0
IsBefore n [] = Unit {0}
IsBefore n (k ∷ ks) = (slice_cmp nat_cmp n k ≡ Less) × IsBefore n ks

-- each name stands before all that follow it, and so they are distinct
abbrev pub AreInOrder : List (List ℕ) → Type 0
AreInOrder [] = Unit {0}
AreInOrder (n ∷ ns) = IsBefore n ns × AreInOrder ns

abbrev mutual
  -- at every level a function has at most eight parameters, and an object its field names in order
  pub IsType : Ty → Type 0
  IsType dyn = Unit {0}
  IsType int = Unit {0}
  IsType bool = Unit {0}
  IsType str = Unit {0}
  IsType nil = Unit {0}
  IsType (fun ps r) = (tys_count ps ≤ most_parameters) × AreTypes ps × IsType r
  IsType (obj fs) = AreInOrder (names_of fs) × HaveTypes fs

  pub AreTypes : Tys → Type 0
  AreTypes no_tys = Unit {0}
  AreTypes (more_tys t ts) = IsType t × AreTypes ts

  pub HaveTypes : Fields → Type 0
  HaveTypes no_fields = Unit {0}
  HaveTypes (more_fields n t fs) = IsType t × HaveTypes fs
