-- The rows that look at one cell: read, obligation and write. Each decides by a verdict on the cell, in one step.
use Rattle.std.specs.Prelude.{ℕ, Bool, true, false, ◌&&◌, List, [], ◌∷◌, Option, Some, None, nat_eq, if◌then◌else◌}
use Rattle.mono_syntax.specs.Ty.{Ty, dyn}
use Rattle.mono_syntax.specs.declared.value.Val.{Val}
use Rattle.mono_syntax.specs.declared.value.Val.TheVariants as val
use Rattle.mono_syntax.specs.declared.cast.CastScript.{CastScript}
use Rattle.mono_tree.specs.Precision.{precise}
use Rattle.mono_tree.specs.Meet.{meet_of}
use Rattle.mono_tree.specs.Static.{is_static}
use Rattle.cast_machine.specs.declared.data.Cell.{Cell}
use Rattle.cast_machine.specs.declared.data.Ready.{Ready}
use Rattle.cast_machine.specs.declared.data.End.TheVariants as ends
use Rattle.cast_machine.specs.declared.data.Fit.{Fit}
use Rattle.cast_machine.specs.declared.data.Fit.TheVariants as fits
use Rattle.cast_machine.specs.declared.data.Frame.{Frame}
use Rattle.cast_machine.specs.declared.data.State.TheVariants as state
use Rattle.cast_machine.specs.declared.data.Change.TheVariants as change
use Rattle.cast_machine.specs.declared.data.Outcome.{Outcome}
use Rattle.cast_machine.specs.declared.data.Outcome.TheVariants as outcome
use Rattle.cast_machine.specs.declared.data.Verdict.{Verdict}
use Rattle.cast_machine.specs.declared.data.Verdict.TheVariants as verdict
use Rattle.cast_machine.specs.declared.data.Work.{Work}
use Rattle.cast_machine.specs.declared.data.Work.TheVariants as work
use Rattle.cast_machine.specs.Heap.{Heap, cell_at}
use Rattle.mono_tree.specs.CastScripts.{fields_of}
use Rattle.cast_machine.specs.Fits.{fit_of}
use Rattle.cast_machine.specs.Obligations.{obligations}
use Rattle.cast_machine.specs.Rows.{goes, fails, blames, does, has}

-- ---- what a verdict on the cell of a field does

abbrev pub blaming : Option ℕ → Verdict
blaming None = verdict.NoRow
blaming (Some k) = verdict.Fails (ends.Blame k)

abbrev pub settle : ℕ → List ℕ → Verdict → List Frame → Outcome
settle a x verdict.NoRow below = outcome.NoRow
settle a x (verdict.Goes f) below = goes f below
settle a x (verdict.Fails e) below = fails e
settle a x (verdict.Sets c f) below = outcome.Moves (change.Sets a x c) (state.Running f below)

-- the verdict on a cell that may be missing
abbrev pub on_cell : Verdict → (Cell → Verdict) → Option Cell → Verdict
on_cell missing decide None = missing
on_cell missing decide (Some c) = decide c

abbrev pub holds : Ty → Val → Cell
holds t v = record { ty = t; value = v }

-- ---- read

abbrev pub read_cell : Frame → List Val → Cell → Verdict
read_cell f vs c = verdict.Goes (has (c.value ∷ vs) f)

abbrev pub read_from : Heap → Option ℕ → List ℕ → List Val → Frame → List Frame → Outcome
read_from h m x [] f below = outcome.NoRow
read_from h m x (val.Obj d a ∷ vs) f below = settle a x (on_cell (blaming m) (read_cell f vs) (cell_at h a x)) below
read_from h m x (v ∷ vs) f below = blames m

-- ---- obligation

-- the site of the nearest Fitted or Write below
abbrev pub blamed : List Work → Option ℕ
blamed [] = None
blamed (work.Fitted k t j ∷ rest) = Some k
blamed (work.Write m k t x r ∷ rest) = k
blamed (i ∷ rest) = blamed rest

abbrev pub same_object : Val → Val → Bool
same_object (val.Obj c a) (val.Obj d b) = nat_eq c d && nat_eq a b
same_object v w = false

abbrev pub same_type : Ty → Ty → Bool
same_type s t = precise s t && precise t s

-- whether the inner value was made ready for this pair
abbrev pub is_ready : Option Ready → Val → Ty → Bool
is_ready None v m = false
is_ready (Some r) v m = same_object r.value v && same_type r.ty m

-- An obligation by what a fit of the cell's value to the meet m finds. An inner object is made ready first: its own
-- obligations go on top, and the pair is kept.
abbrev pub strengthen : ℕ → ℕ → List ℕ → Ty → Option Ready → Frame → Cell → Ty → Fit → Verdict
strengthen d a x t r f c m fits.Unfit = blaming (blamed f.work)
strengthen d a x t r f c m (fits.Holds v) = verdict.Sets (holds m v) f
strengthen d a x t r f c m (fits.Opens k b) =
    if is_ready r c.value m
    then verdict.Sets (holds m c.value) f
    else verdict.Goes (does (obligations k b (fields_of m) (work.Obligation d a x t (Some (record { value = c.value; ty = m })) ∷ [])) f)

abbrev pub meets : CastScript → ℕ → ℕ → List ℕ → Ty → Option Ready → Frame → Cell → Option Ty → Verdict
meets p d a x t r f c None = blaming (blamed f.work)
meets p d a x t r f c (Some m) = strengthen d a x t r f c m (fit_of p c.value m)

-- an obligation on its cell: it goes where the recorded type is at least as precise as t
abbrev pub obligation_cell : CastScript → ℕ → ℕ → List ℕ → Ty → Option Ready → Frame → Cell → Verdict
obligation_cell p d a x t r f c = if precise c.ty t then verdict.Goes f else meets p d a x t r f c (meet_of c.ty t)

abbrev pub obligation_step : CastScript → Heap → ℕ → ℕ → List ℕ → Ty → Option Ready → Frame → List Frame → Outcome
obligation_step p h d a x t r f below = settle a x (on_cell verdict.NoRow (obligation_cell p d a x t r f) (cell_at h a x)) below

-- ---- write

abbrev pub is_object : Val → Bool
is_object (val.Obj c a) = true
is_object v = false

abbrev pub is_dyn : Ty → Bool
is_dyn dyn = true
is_dyn t = false

abbrev pub is_fitted : Option Ty → Ty → Bool
is_fitted None t = false
is_fitted (Some s) t = same_type s t

-- a value that is no object, or a recorded type that is Dyn: the value fits, or its writer is blamed
abbrev pub write_fit : Option ℕ → Frame → Ty → Fit → Verdict
write_fit k f t (fits.Holds v) = verdict.Sets (holds t v) f
write_fit k f t fits.Unfit = blaming k
write_fit k f t (fits.Opens c a) = verdict.NoRow

-- An object that isn't fitted to the recorded type yet: its obligations go on top. The frame g still has both values.
abbrev pub write_open : Option ℕ → Option ℕ → Ty → List ℕ → Frame → Ty → Fit → Verdict
write_open m k s x g t (fits.Opens c a) = verdict.Goes (does (obligations c a (fields_of t) (work.Write m k s x (Some t) ∷ [])) g)
write_open m k s x g t fits.Unfit = blaming k
write_open m k s x g t (fits.Holds v) = verdict.NoRow

-- A write of v on its cell, where s is the field's static type: f is the frame without both values, g the one with them.
abbrev pub write_cell : CastScript → Option ℕ → Option ℕ → Ty → List ℕ → Option Ty → Val → Frame → Frame → Cell → Verdict
write_cell p m k s x r v f g c =
    if is_static s then verdict.Sets (holds s v) f
    else (if is_dyn c.ty then write_fit k f c.ty (fit_of p v c.ty)
    else (if is_object v then (if is_fitted r c.ty then verdict.Sets (holds c.ty v) f else write_open m k s x g c.ty (fit_of p v c.ty))
    else write_fit k f c.ty (fit_of p v c.ty)))

-- the receiver stands on top, and the value below it
abbrev pub write_step : CastScript → Heap → Option ℕ → Option ℕ → Ty → List ℕ → Option Ty → List Val → Frame → List Frame → Outcome
write_step p h m k s x r (val.Obj d a ∷ v ∷ vs) f below = settle a x (on_cell (blaming m) (write_cell p m k s x r v (has vs f) f) (cell_at h a x)) below
write_step p h m k s x r (o ∷ v ∷ vs) f below = blames m
write_step p h m k s x r vs f below = outcome.NoRow
