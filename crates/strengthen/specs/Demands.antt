-- What an obligation decides on the word of its cell. The word tells the recorded type R, by its number, and the value w; T is the type
-- that is asked. The four cases: R is at least as precise as T; or w can't have their meet; or w is an object that isn't ready for the
-- meet; or the cell is set to the meet.
use Rattle.std.specs.Prelude.{◌≡◌, ◌⊎◌, ℕ}
use Rattle.mono_syntax.specs.Ty.{Ty}
use Rattle.mono_syntax.specs.declared.value.TypeNo.{TypeNo}
use Rattle.mono_syntax.specs.declared.value.Value.{Value}
use Rattle.mono_tree.specs.Meet.{AreApart, IsMeet}
use Rattle.mono_tree.specs.Precise.{Precise}
use Rattle.mono_tree.specs.TypeNumbers.{IsInRange, Names}
use Rattle.type_numbers.specs.Tables.{Table}
use Rattle.field_word.specs.Words.{IsWordOf}
use Rattle.step_expr.specs.Fits.{IsFit, IsOfTable}
use Rattle.step_expr.specs.declared.data.Fit.{Fit}
use Rattle.step_expr.specs.declared.data.Fit.TheVariants as fits
use Rattle.strengthen.specs.declared.data.Obligation.{Obligation}
use Rattle.strengthen.specs.declared.data.Verdict.{Verdict}
use Rattle.strengthen.specs.declared.data.Verdict.TheVariants as verdict

-- a word of a cell: that of a pair whose numbers are in the table's ranges
pub record IsCellWord (t : Table) (word : ℕ) : Type 0 where
  pub recorded : TypeNo
  pub value : Value
  pub range : IsInRange t.types recorded
  pub of_table : IsOfTable t value
  pub is_word : IsWordOf recorded value word

-- a cell is set to a word of a cell again
abbrev pub SetsCellWord : Table → Verdict → Type 0
SetsCellWord t (verdict.Set expected new) = IsCellWord t new
SetsCellWord t _ = Unit {0}

-- the seen word is exchanged for that of the type m and the value v
abbrev pub IsSet : ℕ → TypeNo → Value → Verdict → Type 0
IsSet seen m v (verdict.Set expected new) = (expected ≡ seen) × IsWordOf m v new
IsSet seen m v _ = ⊥

-- the obligation stays, with the object made ready for the type m
abbrev pub IsReadied : Obligation → Value → TypeNo → Verdict → Type 0
IsReadied o w m (verdict.Ready p) = IsWordOf m w p.ready × (p ≡ record o { ready = p.ready })
IsReadied o w m _ = ⊥

-- an object whose fields are to be as precise as m's: the cell is set once it is ready for m
abbrev pub IsOpened : Obligation → ℕ → Value → TypeNo → Verdict → Type 0
IsOpened o seen w m r = (IsWordOf m w o.ready × IsSet seen m w r) ⊎ ((IsWordOf m w o.ready → ⊥) × IsReadied o w m r)

-- what is decided by the fit of the value to the meet, of number m
abbrev pub IsFitVerdict : Obligation → ℕ → Value → TypeNo → Fit → Verdict → Type 0
IsFitVerdict o seen w m fits.Unfit r = r ≡ verdict.Unfit
IsFitVerdict o seen w m (fits.Holds v) r = IsSet seen m v r
IsFitVerdict o seen w m fits.Opens r = IsOpened o seen w m r

-- the recorded type is to become M, of number m
pub record IsAtMeet (t : Table) (o : Obligation) (seen : ℕ) (w : Value) (m : TypeNo) (M : Ty) (r : Verdict) : Type 0 where
  pub fit : Fit
  pub is_fit : IsFit t w M fit
  pub decided : IsFitVerdict o seen w m fit r

-- the recorded type is to become the meet of R and T, of which there may be none
abbrev pub IsByMeet : Table → Obligation → ℕ → Value → Ty → Ty → Verdict → Type 0
IsByMeet t o seen w R T r =
    (AreApart R T × (r ≡ verdict.Unfit)) ⊎ ((m : TypeNo) × (M : Ty) × Names t.types m M × IsMeet M R T × IsAtMeet t o seen w m M r)

-- the whole decision
abbrev pub IsVerdict : Table → Obligation → ℕ → Value → Ty → Ty → Verdict → Type 0
IsVerdict t o seen w R T r = (Precise R T × (r ≡ verdict.Dropped)) ⊎ ((Precise R T → ⊥) × IsByMeet t o seen w R T r)
