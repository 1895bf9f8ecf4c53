-- Threads in their places.
use Rattle.std.proofs.Common.{List, Some, [], ap, arith, inl, inr, length, refl, slice_get, slice_set, subst, suc, sym, zero, ℕ, ⊎_elim, ◌++◌, ◌<◌, ◌∙◌, ◌∷◌, ◌≡◌, ◌⊎◌}
use Rattle.mono_list.proofs.Cases.{none_some, some_is}
use Rattle.mono_syntax.specs.Ty.{Ty}
use Rattle.mono_syntax.specs.declared.cast.CastScript.{CastScript}
use Rattle.cast_machine.proofs.CallRows.{get_more}
use Rattle.cast_machine.proofs.Grows.{MoreResults}
use Rattle.cast_machine.proofs.Obligations.{BegunOk, results_after}
use Rattle.cast_machine.specs.Heap.{Heap}
use Rattle.cast_machine.specs.Typing.{IsWellTypedState, Lives, result_type, results_of}
use Rattle.cast_machine.specs.declared.data.Change.{Change}
use Rattle.cast_machine.specs.declared.data.Change.TheVariants as change
use Rattle.cast_machine.specs.declared.data.Thread.{Thread}

pub set_cases : {A : Type 0} (l : List A) (t u : ℕ) (x y : A) → slice_get (slice_set l t x) u ≡ Some y → ((t ≡ u) × (x ≡ y)) ⊎ (slice_get l u ≡ Some y)
set_cases [] t u x y e = inr (grind arith)
set_cases (z ∷ l) zero zero x y e = inl (refl, some_is e)
set_cases (z ∷ l) zero (suc u) x y e = inr e
set_cases (z ∷ l) (suc t) zero x y e = inr e
set_cases (z ∷ l) (suc t) (suc u) x y e = ⊎_elim (λ h. inl (ap suc h.0, h.1)) inr (set_cases l t u x y e)

pub set_there : {A : Type 0} (l : List A) (t u : ℕ) (x y : A) → slice_get l u ≡ Some y → (z : A) × (slice_get (slice_set l t x) u ≡ Some z)
set_there [] t u x y e = absurd cc
set_there (z ∷ l) zero zero x y e = (x, refl)
set_there (z ∷ l) zero (suc u) x y e = (y, e)
set_there (z ∷ l) (suc t) zero x y e = (z, refl)
set_there (z ∷ l) (suc t) (suc u) x y e = set_there l t u x y e

pub set_here : {A : Type 0} (l : List A) (t : ℕ) (x y : A) → slice_get l t ≡ Some y → slice_get (slice_set l t x) t ≡ Some x
set_here [] t x y e = absurd cc
set_here (z ∷ l) zero x y e = refl
set_here (z ∷ l) (suc t) x y e = set_here l t x y e

pub set_past : {A : Type 0} (l : List A) (t u : ℕ) (x : A) → t < u → slice_get (slice_set l t x) u ≡ slice_get l u
set_past [] t u x h = refl
set_past (z ∷ l) t zero x h = absurd (omega arith)
set_past (z ∷ l) zero (suc u) x h = refl
set_past (z ∷ l) (suc t) (suc u) x h = set_past l t u x (omega arith)

pub length-slice_set : {A : Type 0} (l : List A) (t : ℕ) (x : A) → length (slice_set l t x) ≡ length l
length-slice_set [] t x = refl
length-slice_set (z ∷ l) zero x = refl
length-slice_set (z ∷ l) (suc t) x = ap suc (length-slice_set l t x)

pub set_again : {A : Type 0} (l : List A) (t : ℕ) (x y : A) → slice_set (slice_set l t x) t y ≡ slice_set l t y
set_again [] t x y = refl
set_again (z ∷ l) zero x y = refl
set_again (z ∷ l) (suc t) x y = ap (λ k. z ∷ k) (set_again l t x y)

pub set_append : {A : Type 0} (l : List A) (t : ℕ) (x y z : A) → slice_get l t ≡ Some z → slice_set (l ++ y ∷ []) t x ≡ slice_set l t x ++ y ∷ []
set_append [] t x y z e = none_some _ e
set_append (w ∷ l) zero x y z e = refl
set_append (w ∷ l) (suc t) x y z e = ap (λ k. w ∷ k) (set_append l t x y z e)

pub end_cases : {A : Type 0} (l : List A) (u : ℕ) (x y : A) → slice_get (l ++ x ∷ []) u ≡ Some y → (slice_get l u ≡ Some y) ⊎ ((u ≡ length l) × (x ≡ y))
end_cases [] zero x y e = inr (refl, some_is e)
end_cases [] (suc u) x y e = absurd cc
end_cases (z ∷ l) zero x y e = inl e
end_cases (z ∷ l) (suc u) x y e = ⊎_elim inl (λ h. inr (ap suc h.0, h.1)) (end_cases l u x y e)

pub end_there : {A : Type 0} (l : List A) (u : ℕ) (x y : A) → slice_get l u ≡ Some y → slice_get (l ++ x ∷ []) u ≡ Some y
end_there [] u x y e = absurd cc
end_there (z ∷ l) zero x y e = e
end_there (z ∷ l) (suc u) x y e = end_there l u x y e

-- ---- results

pub results_at : (ths : List Thread) (t : ℕ) (th : Thread) → slice_get ths t ≡ Some th → slice_get (results_of ths) t ≡ Some (result_type th)
results_at [] t th e = absurd cc
results_at (x ∷ ths) zero th e = ap (λ (k : Thread). Some (result_type k)) (some_is e)
results_at (x ∷ ths) (suc t) th e = results_at ths t th e

pub results_back : (ths : List Thread) (t : ℕ) (R : Ty) → slice_get (results_of ths) t ≡ Some R → (th : Thread) × (slice_get ths t ≡ Some th) × (result_type th ≡ R)
results_back [] t R e = absurd cc
results_back (x ∷ ths) zero R e = (x, refl, some_is e)
results_back (x ∷ ths) (suc t) R e = results_back ths t R e

pub results_length : (ths : List Thread) → length (results_of ths) ≡ length ths
results_length [] = refl
results_length (x ∷ ths) = ap suc (results_length ths)

pub results_set : (ths : List Thread) (t : ℕ) (old new : Thread) → slice_get ths t ≡ Some old → result_type new ≡ result_type old → results_of (slice_set ths t new) ≡ results_of ths
results_set [] t old new e s = absurd cc
results_set (x ∷ ths) zero old new e s = ap (λ R. R ∷ results_of ths) (s ∙ sym (ap (λ (k : Thread). result_type k) (some_is e)))
results_set (x ∷ ths) (suc t) old new e s = ap (λ rs. result_type x ∷ rs) (results_set ths t old new e s)

results_end : (ths : List Thread) (th : Thread) → results_of (ths ++ th ∷ []) ≡ results_of ths ++ result_type th ∷ []
results_end [] th = refl
results_end (x ∷ ths) th = ap (λ rs. result_type x ∷ rs) (results_end ths th)

-- ---- the threads after a change

abbrev pub threads_after : Change → List Thread → List Thread
threads_after (change.Begins th) ths = ths ++ th ∷ []
threads_after d ths = ths

pub results_threads_after : (d : Change) (ths : List Thread) → results_of (threads_after d ths) ≡ results_after d (results_of ths)
results_threads_after (change.Begins th) ths = results_end ths th
results_threads_after d ths = refl

pub more_results : (d : Change) (rs : List Ty) → MoreResults rs (results_after d rs)
more_results (change.Begins th) rs t R e = get_more rs (result_type th) t R e
more_results d rs t R e = e

-- which thread stands at u after a change
pub after_cases : (d : Change) (l : List Thread) (u : ℕ) (y : Thread) → slice_get (threads_after d l) u ≡ Some y → (slice_get l u ≡ Some y) ⊎ ((u ≡ length l) × (d ≡ change.Begins y))
after_cases (change.Begins th) l u y e = ⊎_elim inl (λ x. inr (x.0, ap change.Begins x.1)) (end_cases l u th y e)
after_cases d l u y e = inl e

pub after_there : (d : Change) (l : List Thread) (u : ℕ) (y : Thread) → slice_get l u ≡ Some y → slice_get (threads_after d l) u ≡ Some y
after_there (change.Begins th) l u y e = end_there l u th y e
after_there d l u y e = e

pub begun_ok : (p : CastScript) (rs : List Ty) (n : ℕ) (h : Heap) (d : Change) (y : Thread) → d ≡ change.Begins y → BegunOk p rs n h d → IsWellTypedState p rs n h (result_type y) y.state × Lives n y.state
begun_ok p rs n h d y e i = let j = subst (λ k. BegunOk p rs n h k) e i in (j.0, j.1)
