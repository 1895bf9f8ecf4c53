-- What an obligation and a write decide by the asked type and the cell alone. The row, which has the frame's work and values, is
-- what follows from it.
use Rattle.std.specs.Prelude.{ℕ, not, ◌&&◌, List, [], ◌∷◌, Option, Some, None, if◌then◌else◌}
use Rattle.mono_syntax.specs.Ty.{Ty}
use Rattle.mono_syntax.specs.declared.value.Val.{Val}
use Rattle.mono_syntax.specs.declared.cast.CastScript.{CastScript}
use Rattle.mono_tree.specs.CastScripts.{fields_of}
use Rattle.mono_tree.specs.Meet.{meet_of}
use Rattle.mono_tree.specs.Precision.{precise}
use Rattle.mono_tree.specs.Static.{is_static}
use Rattle.cast_machine.specs.declared.data.Cell.{Cell}
use Rattle.cast_machine.specs.declared.data.Fit.{Fit}
use Rattle.cast_machine.specs.declared.data.Fit.TheVariants as fits
use Rattle.cast_machine.specs.declared.data.Frame.{Frame}
use Rattle.cast_machine.specs.declared.data.Ready.{Ready}
use Rattle.cast_machine.specs.declared.data.Verdict.{Verdict}
use Rattle.cast_machine.specs.declared.data.Verdict.TheVariants as verdict
use Rattle.cast_machine.specs.declared.data.Work.TheVariants as work
use Rattle.cast_machine.specs.Fits.{fit_of}
use Rattle.cast_machine.specs.Cells.{blamed, blaming, holds, is_dyn, is_fitted, is_object, is_ready}
use Rattle.cast_machine.specs.Obligations.{obligations}
use Rattle.cast_machine.specs.Rows.{does}

-- It goes and leaves the cell; or the object in question is first made ready for a type; or the cell is set; or the value
-- doesn't fit.
pub data CellVerdict : Type 0 where
  goes : CellVerdict
  ready : (m : Ty) (class base : ℕ) → CellVerdict
  sets : (cell : Cell) → CellVerdict
  unfit : CellVerdict

-- ---- an obligation

-- the cell's value is to fit the meet m
abbrev pub meet_verdict : Option Ready → Cell → Ty → Fit → CellVerdict
meet_verdict r c m fits.Unfit = unfit
meet_verdict r c m (fits.Holds v) = sets (holds m v)
meet_verdict r c m (fits.Opens k b) = if is_ready r c.value m then sets (holds m c.value) else ready m k b

abbrev pub met_verdict : CastScript → Option Ready → Cell → Option Ty → CellVerdict
met_verdict p r c None = unfit
met_verdict p r c (Some m) = meet_verdict r c m (fit_of p c.value m)

-- an obligation for t with a ready pair, at a cell
abbrev pub obligation_verdict : CastScript → Ty → Option Ready → Cell → CellVerdict
obligation_verdict p t r c = if precise c.ty t then goes else met_verdict p r c (meet_of c.ty t)

-- its row in the frame f
abbrev pub obligation_row : ℕ → ℕ → List ℕ → Ty → Frame → Cell → CellVerdict → Verdict
obligation_row d a x t f c goes = verdict.Goes f
obligation_row d a x t f c (ready m k b) =
    verdict.Goes (does (obligations k b (fields_of m) (work.Obligation d a x t (Some (record { value = c.value; ty = m })) ∷ [])) f)
obligation_row d a x t f c (sets new) = verdict.Sets new f
obligation_row d a x t f c unfit = blaming (blamed f.work)

-- ---- a write

abbrev pub fit_verdict : Ty → Fit → CellVerdict
fit_verdict t fits.Unfit = unfit
fit_verdict t (fits.Holds v) = sets (holds t v)
fit_verdict t (fits.Opens k b) = ready t k b

-- A write of v, fitted to a type or not yet, to a field of static type s, at its cell. A static type is the recorded one. An
-- object that was fitted to the recorded type is set, and any other value is fitted.
abbrev pub write_verdict : CastScript → Ty → Option Ty → Val → Cell → CellVerdict
write_verdict p s r v c =
    if is_static s then sets (holds s v)
    else (if not (is_dyn c.ty) && (is_object v && is_fitted r c.ty) then sets (holds c.ty v) else fit_verdict c.ty (fit_of p v c.ty))

-- its row: the frame g has the receiver and the value still, f doesn't
abbrev pub write_row : Option ℕ → Option ℕ → Ty → List ℕ → Frame → Frame → CellVerdict → Verdict
write_row m k s x f g goes = verdict.NoRow
write_row m k s x f g (ready t a b) = verdict.Goes (does (obligations a b (fields_of t) (work.Write m k s x (Some t) ∷ [])) g)
write_row m k s x f g (sets new) = verdict.Sets new f
write_row m k s x f g unfit = blaming k
