-- The limits of a list of types, and its first member at fault.
use Rattle.std.specs.Prelude.{◌≡◌, ◌≤◌, ◌⊎◌, ℕ, List, Some, Contains, length, slice_get, take}
use Rattle.mono_syntax.specs.Ty.{Ty}
use Rattle.mono_syntax.specs.declared.refusal.Reason.{Reason}
use Rattle.mono_syntax.specs.declared.refusal.Reason.TheVariants.{TooManyTypes, TypeTooLarge}
use Rattle.mono_syntax.specs.declared.refusal.LoadFault.{LoadFault}
use Rattle.mono_syntax.specs.declared.refusal.LoadFault.TheVariants.{Refused, Memory}
use Rattle.mono_tree.specs.ClosedList.{IsClosedList}
use Rattle.mono_tree.specs.Sizes.{IsTooLarge}

-- the types of a closed list, as `src/limits.rt` has them
abbrev pub most_types : ℕ
most_types = 4095

-- no member is too large, and there aren't too many
pub record IsWithinLimits (ts : List Ty) : Type 0 where
  pub few : length ts ≤ most_types
  pub small : (t : Ty) → Contains ts t → IsTooLarge t → ⊥

-- why a member at a place is at fault: it is too large, or else it is one too many
abbrev pub IsAtFault : ℕ → Ty → Reason → Type 0
IsAtFault at t r = (IsTooLarge t × (r ≡ TypeTooLarge)) ⊎ ((IsTooLarge t → ⊥) × (at ≡ most_types) × (r ≡ TooManyTypes))

-- the first member at fault, and why
pub record IsFirstFault (ts : List Ty) (r : Reason) : Type 0 where
  pub at : ℕ
  pub member : Ty
  pub there : slice_get ts at ≡ Some member
  pub before : IsWithinLimits (take at ts)
  pub reason : IsAtFault at member r

-- a refusal of types stands at the script's first character
abbrev pub refused : Reason → LoadFault
refused r = Refused (record { place = record { line = 1; column = 1 }; reason = r })

-- there was no memory, or the list has a first member at fault
abbrev pub IsFault : List Ty → LoadFault → Type 0
IsFault ts e = (e ≡ Memory) ⊎ ((r : Reason) × IsFirstFault ts r × (e ≡ refused r))

-- there was no memory, or the closed list of the types has a first member at fault
abbrev pub IsRefusal : List Ty → LoadFault → Type 0
IsRefusal types e = (l : List Ty) × IsClosedList types l × IsFault l e
