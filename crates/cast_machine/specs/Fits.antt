-- A fit of a value to a type. It looks at no heap: an object has the names of its class.
use Rattle.std.specs.Prelude.{ℕ, Bool, true, false, ◌&&◌, List, [], ◌∷◌, Option, Some, None, bytes_eq}
use Rattle.mono_syntax.specs.Ty.{Ty, dyn, int, bool, str, nil, fun, obj}
use Rattle.mono_syntax.specs.declared.value.Val.{Val}
use Rattle.mono_syntax.specs.declared.value.Val.TheVariants as val
use Rattle.mono_syntax.specs.declared.cast.CastScript.{CastScript}
use Rattle.mono_tree.specs.Meet.{meet_of}
use Rattle.mono_tree.specs.FieldNames.{names_of}
use Rattle.cast_machine.specs.declared.data.Fit.{Fit}
use Rattle.cast_machine.specs.declared.data.Fit.TheVariants as fits
use Rattle.mono_tree.specs.CastScripts.{class_names}

-- a function keeps the meet of its merged type and the type
abbrev pub fit_fun : ℕ → Option Ty → Fit
fit_fun g None = fits.Unfit
fit_fun g (Some m) = fits.Holds (val.Fun g m)

-- the same names in the same order
abbrev pub names_same : List (List ℕ) → List (List ℕ) → Bool
names_same [] [] = true
names_same (n ∷ ns) (m ∷ ms) = bytes_eq n m && names_same ns ms
names_same ns ms = false

abbrev pub fit_obj : Bool → ℕ → ℕ → Fit
fit_obj true c a = fits.Opens c a
fit_obj false c a = fits.Unfit

-- Any value fits Dyn, a base value a base type of its kind, a function a type with which its merged type has a meet.
-- An object with the type's names opens: its fields are to be strengthened.
abbrev pub fit_of : CastScript → Val → Ty → Fit
fit_of p v dyn = fits.Holds v
fit_of p (val.Int n) int = fits.Holds (val.Int n)
fit_of p (val.Bool b) bool = fits.Holds (val.Bool b)
fit_of p (val.Text t) str = fits.Holds (val.Text t)
fit_of p val.Nil nil = fits.Holds val.Nil
fit_of p (val.Fun g m) (fun ps r) = fit_fun g (meet_of m (fun ps r))
fit_of p (val.Obj c a) (obj fs) = fit_obj (names_same (class_names p c) (names_of fs)) c a
fit_of p v t = fits.Unfit
