-- The row of an obligation and of a write is what follows from its verdict.
use Rattle.std.proofs.Common.{◌≡◌, ℕ, Bool, true, false, not, ◌&&◌, List, Option, Some, None, if◌then◌else◌, refl, sym}
use Rattle.std.proofs.lemmas.Bool.{false≢true}
use Rattle.mono_list.proofs.Cases.{split}
use Rattle.mono_syntax.specs.Ty.{Ty, dyn, obj, fun}
use Rattle.mono_syntax.specs.declared.value.Val.{Val}
use Rattle.mono_syntax.specs.declared.value.Val.TheVariants as val
use Rattle.mono_syntax.specs.declared.cast.CastScript.{CastScript}
use Rattle.mono_tree.specs.Meet.{meet_of}
use Rattle.mono_tree.specs.Precision.{precise}
use Rattle.mono_tree.specs.Static.{is_static}
use Rattle.cast_machine.specs.declared.data.Cell.{Cell}
use Rattle.cast_machine.specs.declared.data.Fit.{Fit}
use Rattle.cast_machine.specs.declared.data.Fit.TheVariants as fits
use Rattle.cast_machine.specs.declared.data.Frame.{Frame}
use Rattle.cast_machine.specs.declared.data.Ready.{Ready}
use Rattle.cast_machine.specs.declared.data.Verdict.{Verdict}
use Rattle.cast_machine.specs.declared.data.Verdict.TheVariants as verdict
use Rattle.cast_machine.specs.Fits.{fit_of, fit_fun, fit_obj}
use Rattle.cast_machine.specs.Cells.{holds, is_dyn, is_fitted, is_object, is_ready, meets, obligation_cell, strengthen, write_cell, write_fit, write_open}
use Rattle.cast_machine.specs.CellVerdicts.{CellVerdict, goes, ready, sets, meet_verdict, met_verdict, obligation_verdict, obligation_row, fit_verdict, write_verdict, write_row}

-- ---- an obligation

module _ (p : CastScript) (d a : ℕ) (x : List ℕ) (t : Ty) (r : Option Ready) (f : Frame) (c : Cell) where
  strengthen_row : (m : Ty) (o : Fit) → strengthen d a x t r f c m o ≡ obligation_row d a x t f c (meet_verdict r c m o)
  strengthen_row m fits.Unfit = refl
  strengthen_row m (fits.Holds v) = refl
  strengthen_row m (fits.Opens k b) =
      split (is_ready r c.value m)
      (λ z. (if z then (verdict.Sets (holds m c.value) f) else obligation_row d a x t f c (ready m k b)) ≡ obligation_row d a x t f c (if z then sets (holds m c.value) else ready m k b))
      (λ _. refl) (λ _. refl)

  meets_row : (o : Option Ty) → meets p d a x t r f c o ≡ obligation_row d a x t f c (met_verdict p r c o)
  meets_row None = refl
  meets_row (Some m) = strengthen_row m (fit_of p c.value m)

  pub obligation_follows : obligation_cell p d a x t r f c ≡ obligation_row d a x t f c (obligation_verdict p t r c)
  obligation_follows =
      split (precise c.ty t)
      (λ z. (if z then verdict.Goes f else meets p d a x t r f c (meet_of c.ty t)) ≡ obligation_row d a x t f c (if z then goes else met_verdict p r c (meet_of c.ty t)))
      (λ _. refl) (λ _. meets_row (meet_of c.ty t))

-- ---- a write

fun_opens : (g : ℕ) (o : Option Ty) (k b : ℕ) → fit_fun g o ≡ fits.Opens k b → ⊥
fun_opens g None k b e = cc
fun_opens g (Some m) k b e = cc

-- only an object opens, and not at Dyn
opens_no_dyn : (p : CastScript) (v : Val) (t : Ty) (k b : ℕ) → is_dyn t ≡ true → fit_of p v t ≡ fits.Opens k b → ⊥
opens_no_dyn p v dyn k b i e = cc
opens_no_dyn p v t k b i e = false≢true i

opens_object : (p : CastScript) (v : Val) (t : Ty) (k b : ℕ) → is_object v ≡ false → fit_of p v t ≡ fits.Opens k b → ⊥
opens_object p v dyn k b i e = cc
opens_object p (val.Fun g m) (fun ps r) k b i e = fun_opens g (meet_of m (fun ps r)) k b e
opens_object p (val.Obj c a) t k b i e = false≢true (sym i)
opens_object p v t k b i e = cc

holds_object : (z : Bool) (k b : ℕ) (u : Val) → fit_obj z k b ≡ fits.Holds u → ⊥
holds_object true k b u e = cc
holds_object false k b u e = cc

-- an object holds at Dyn alone
object_holds : (p : CastScript) (v : Val) (t : Ty) (u : Val) → is_object v ≡ true → is_dyn t ≡ false → fit_of p v t ≡ fits.Holds u → ⊥
object_holds p v dyn u i j e = false≢true (sym j)
object_holds p (val.Obj c a) (obj fs) u i j e = holds_object _ c a u e
object_holds p (val.Obj c a) t u i j e = cc
object_holds p v t u i j e = false≢true i

module _ (p : CastScript) (m k : Option ℕ) (s : Ty) (x : List ℕ) (r : Option Ty) (v : Val) (f g : Frame) (c : Cell) where
  abbrev Row : CellVerdict → Verdict
  Row w = write_row m k s x f g w

  fit_row : (o : Fit) → ((a b : ℕ) → o ≡ fits.Opens a b → ⊥) → write_fit k f c.ty o ≡ Row (fit_verdict c.ty o)
  fit_row fits.Unfit none = refl
  fit_row (fits.Holds u) none = refl
  fit_row (fits.Opens a b) none = absurd (none a b refl)

  open_row : (o : Fit) → ((u : Val) → o ≡ fits.Holds u → ⊥) → write_open m k s x g c.ty o ≡ Row (fit_verdict c.ty o)
  open_row fits.Unfit none = refl
  open_row (fits.Holds u) none = absurd (none u refl)
  open_row (fits.Opens a b) none = refl

  object_row : is_dyn c.ty ≡ false → is_object v ≡ true →
      (if is_fitted r c.ty then verdict.Sets (holds c.ty v) f else write_open m k s x g c.ty (fit_of p v c.ty)) ≡ Row (if is_fitted r c.ty then sets (holds c.ty v) else fit_verdict c.ty (fit_of p v c.ty))
  object_row n o =
      split (is_fitted r c.ty)
      (λ z. (if z then verdict.Sets (holds c.ty v) f else write_open m k s x g c.ty (fit_of p v c.ty)) ≡ Row (if z then sets (holds c.ty v) else fit_verdict c.ty (fit_of p v c.ty)))
      (λ _. refl) (λ _. open_row (fit_of p v c.ty) (λ u e. object_holds p v c.ty u o n e))

  value_row : is_dyn c.ty ≡ false →
      (if is_object v then (if is_fitted r c.ty then verdict.Sets (holds c.ty v) f else write_open m k s x g c.ty (fit_of p v c.ty)) else write_fit k f c.ty (fit_of p v c.ty))
      ≡ Row (if is_object v && is_fitted r c.ty then sets (holds c.ty v) else fit_verdict c.ty (fit_of p v c.ty))
  value_row n =
      split (is_object v)
      (λ z. is_object v ≡ z → (if z then (if is_fitted r c.ty then verdict.Sets (holds c.ty v) f else write_open m k s x g c.ty (fit_of p v c.ty)) else write_fit k f c.ty (fit_of p v c.ty))
      ≡ Row (if z && is_fitted r c.ty then sets (holds c.ty v) else fit_verdict c.ty (fit_of p v c.ty)))
      (λ _ o. object_row n o)
      (λ _ o. fit_row (fit_of p v c.ty) (λ a b e. opens_object p v c.ty a b o e))
      refl

  dynamic_row :
      (if is_dyn c.ty then write_fit k f c.ty (fit_of p v c.ty)
      else (if is_object v then (if is_fitted r c.ty then verdict.Sets (holds c.ty v) f else write_open m k s x g c.ty (fit_of p v c.ty)) else write_fit k f c.ty (fit_of p v c.ty)))
      ≡ Row (if not (is_dyn c.ty) && (is_object v && is_fitted r c.ty) then sets (holds c.ty v) else fit_verdict c.ty (fit_of p v c.ty))
  dynamic_row =
      split (is_dyn c.ty)
      (λ z. is_dyn c.ty ≡ z → (if z then write_fit k f c.ty (fit_of p v c.ty)
      else (if is_object v then (if is_fitted r c.ty then verdict.Sets (holds c.ty v) f else write_open m k s x g c.ty (fit_of p v c.ty)) else write_fit k f c.ty (fit_of p v c.ty)))
      ≡ Row (if not z && (is_object v && is_fitted r c.ty) then sets (holds c.ty v) else fit_verdict c.ty (fit_of p v c.ty)))
      (λ _ y. fit_row (fit_of p v c.ty) (λ a b e. opens_no_dyn p v c.ty a b y e))
      (λ _ n. value_row n)
      refl

  pub write_follows : write_cell p m k s x r v f g c ≡ write_row m k s x f g (write_verdict p s r v c)
  write_follows =
      split (is_static s)
      (λ z. (if z then verdict.Sets (holds s v) f
      else (if is_dyn c.ty then write_fit k f c.ty (fit_of p v c.ty)
      else (if is_object v then (if is_fitted r c.ty then verdict.Sets (holds c.ty v) f else write_open m k s x g c.ty (fit_of p v c.ty)) else write_fit k f c.ty (fit_of p v c.ty))))
      ≡ Row (if z then sets (holds s v) else (if not (is_dyn c.ty) && (is_object v && is_fitted r c.ty) then sets (holds c.ty v) else fit_verdict c.ty (fit_of p v c.ty))))
      (λ _. refl) (λ _. dynamic_row)
