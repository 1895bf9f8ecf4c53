-- What a fit finds, against a value that is at least as precise and has the type.
use Rattle.std.proofs.Common.{◌≡◌, ℕ, Bool, true, false, Option, Some, None, refl, sym, ◌∙◌, subst, ap}
use Rattle.mono_list.proofs.Cases.{some_none}
use Rattle.mono_syntax.specs.Ty.{Ty, dyn, int, bool, str, nil, fun, obj, Fields}
use Rattle.mono_syntax.specs.declared.value.Val.{Val}
use Rattle.mono_syntax.specs.declared.value.Val.TheVariants as val
use Rattle.mono_syntax.specs.declared.cast.CastScript.{CastScript}
use Rattle.mono_tree.specs.Meet.{meet_of}
use Rattle.mono_tree.specs.FieldNames.{names_of}
use Rattle.mono_tree.specs.CastScripts.{class_names}
use Rattle.mono_tree.proofs.TypeLaws.{meet_below, meet_found, meet_greatest}
use Rattle.cast_machine.specs.declared.data.Fit.{Fit}
use Rattle.cast_machine.specs.declared.data.Fit.TheVariants as fits
use Rattle.cast_machine.specs.Fits.{fit_of, fit_fun, fit_obj, names_same}
use Rattle.cast_machine.specs.Heap.{Heap}
use Rattle.cast_machine.specs.HeapTyping.{HasType, IsAsPrecise, IsValueOf}
use Rattle.cast_machine.proofs.Grows.{HeapOk}
use Rattle.cast_machine.proofs.Fitting.{FitOk, fit_ok}
use Rattle.cast_orders.specs.Below.{IsValueBelow}
use Rattle.cast_orders.proofs.Order.{value_refl}

-- the value that a fit finds is the value, maybe narrowed
abbrev pub Narrows : Val → Fit → Type 0
Narrows v (fits.Holds u) = IsValueBelow u v
Narrows v o = Unit {0}

fun_narrows : (g : ℕ) (m t : Ty) (o : Option Ty) → meet_of m t ≡ o → Narrows (val.Fun g m) (fit_fun g o)
fun_narrows g m t None e = tt
fun_narrows g m t (Some u) e = (u, refl, (meet_below m t u e).0)

obj_narrows : (c a : ℕ) (t : Bool) → Narrows (val.Obj c a) (fit_obj t c a)
obj_narrows c a true = tt
obj_narrows c a false = tt

pub fit_narrows : (p : CastScript) (v : Val) (t : Ty) → Narrows v (fit_of p v t)
fit_narrows p v dyn = value_refl v
fit_narrows p (val.Fun g m) (fun ps r) = fun_narrows g m (fun ps r) (meet_of m (fun ps r)) refl
fit_narrows p (val.Obj c a) (obj fs) = obj_narrows c a (names_same (class_names p c) (names_of fs))
fit_narrows p (val.Int n) int = refl
fit_narrows p (val.Bool b) bool = refl
fit_narrows p (val.Text t) str = refl
fit_narrows p val.Nil nil = refl
fit_narrows p v t = tt

-- the fit of a value above w: it holds a value that is still above w, or opens
abbrev pub IsAbove : Val → Fit → Type 0
IsAbove w fits.Unfit = ⊥
IsAbove w (fits.Holds u) = IsValueBelow w u
IsAbove w (fits.Opens c a) = Unit {0}

fun_above : (g : ℕ) (m n t : Ty) → IsAsPrecise n m → IsAsPrecise n t → (o : Option Ty) → meet_of m t ≡ o → IsAbove (val.Fun g n) (fit_fun g o)
fun_above g m n t b c None e = let found = meet_found m t n b c in some_none ⊥ (sym found.1 ∙ e)
fun_above g m n t b c (Some u) e = (n, refl, meet_greatest m t u n e b c)

-- a fit of a value that has the type finds it
holds_own : (p : CastScript) (k : Heap) (v : Val) (t : Ty) → IsValueOf p k v → HasType k v t → (o : Fit) → FitOk p k v t o → (o ≡ fits.Unfit) → ⊥
holds_own p k v t i has fits.Unfit r e = r (i, has)
holds_own p k v t i has (fits.Holds u) r e = cc
holds_own p k v t i has (fits.Opens c a) r e = cc

obj_above : (p : CastScript) (k : Heap) → HeapOk p k → (c a : ℕ) (fs : Fields) → IsValueOf p k (val.Obj c a) → HasType k (val.Obj c a) (obj fs) → (t : Bool) → names_same (class_names p c) (names_of fs) ≡ t → IsAbove (val.Obj c a) (fit_obj t c a)
obj_above p k ok c a fs i has true e = tt
obj_above p k ok c a fs i has false e =
    holds_own p k (val.Obj c a) (obj fs) i has (fit_of p (val.Obj c a) (obj fs)) (fit_ok p k ok (val.Obj c a) (obj fs) i) (ap (λ t. fit_obj t c a) e)

pub fit_above : (p : CastScript) (k : Heap) → HeapOk p k → (w v : Val) (t : Ty) → IsValueBelow w v → IsValueOf p k w → HasType k w t → IsAbove w (fit_of p v t)
fit_above p k ok w v dyn b i has = b
fit_above p k ok w (val.Fun g m) (fun ps r) b i has =
    subst (λ x. IsAbove x (fit_fun g (meet_of m (fun ps r)))) (sym b.1)
    (fun_above g m b.0 (fun ps r) b.2 (subst (λ x. HasType k x (fun ps r)) b.1 has) (meet_of m (fun ps r)) refl)
fit_above p k ok w (val.Obj c a) (obj fs) b i has =
    subst (λ x. IsAbove x (fit_of p (val.Obj c a) (obj fs))) (sym b)
    (obj_above p k ok c a fs (subst (λ x. IsValueOf p k x) b i) (subst (λ x. HasType k x (obj fs)) b has) (names_same (class_names p c) (names_of fs)) refl)
fit_above p k ok w (val.Int n) int b i has = b
fit_above p k ok w (val.Bool n) bool b i has = b
fit_above p k ok w (val.Text n) str b i has = b
fit_above p k ok w val.Nil nil b i has = b
fit_above p k ok w (val.Fun g m) t b i has = absurd (subst (λ x. HasType k x t) b.1 has)
fit_above p k ok w v t b i has = absurd (subst (λ x. HasType k x t) b has)
