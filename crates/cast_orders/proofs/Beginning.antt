-- The first step of a fit, and the last one.
use Rattle.std.proofs.Common.{◌≡◌, ℕ, false, List, Option, Some, refl, sym, subst, slice_get}
use Rattle.mono_syntax.specs.Ty.{Ty, obj}
use Rattle.mono_syntax.specs.declared.value.Val.{Val}
use Rattle.mono_syntax.specs.declared.value.Val.TheVariants as val
use Rattle.mono_syntax.specs.declared.cast.CastScript.{CastScript}
use Rattle.mono_tree.specs.CastScripts.{fields_of, target_of}
use Rattle.mono_tree.specs.TypedPrograms.{HasField}
use Rattle.cast_machine.specs.declared.data.Fit.{Fit}
use Rattle.cast_machine.specs.declared.data.Fit.TheVariants as fits
use Rattle.cast_machine.specs.declared.data.Frame.{Frame}
use Rattle.cast_machine.specs.declared.data.Outcome.{Outcome}
use Rattle.cast_machine.specs.declared.data.Work.{Work}
use Rattle.cast_machine.specs.declared.data.Work.TheVariants as work
use Rattle.cast_machine.specs.Fits.{fit_of}
use Rattle.cast_machine.specs.Heap.{Heap}
use Rattle.cast_machine.specs.HeapTyping.{HasType, IsValueOf}
use Rattle.cast_machine.specs.Rows.{fit_at, fit_top, fit_value, goes}
use Rattle.cast_machine.specs.Step.{Configuration, act, heeds}
use Rattle.cast_machine.proofs.Fitting.{FitOk, fit_ok}
use Rattle.cast_machine.proofs.Grows.{HeapOk}
use Rattle.cast_machine.proofs.ThreadLists.{set_here}
use Rattle.cast_orders.specs.Below.{IsValueBelow}
use Rattle.cast_orders.specs.FitSteps.{FitsAt}
use Rattle.cast_orders.proofs.Bounds.{FitStart, Solves, Asked, Bounds, Good, asked_more, strengthens, ended}
use Rattle.cast_orders.proofs.FitAnswers.{Narrows, fit_narrows, IsAbove, fit_above}
use Rattle.cast_orders.proofs.Kept.{heap_kept, own_kept}
use Rattle.cast_orders.proofs.Order.{value_refl, heap_refl}
use Rattle.cast_orders.proofs.OwnSteps.{Gives}

pub first_bounds : (s : FitStart) → Bounds s s.heap
first_bounds s = record { below = heap_refl s.heap; each = λ k w y. y.heap }

module _ (p : CastScript) (s : FitStart) (ok : HeapOk p s.heap) (own : IsValueOf p s.heap s.value) (at : slice_get (s.frame).values s.place ≡ Some s.value) (below : List Frame) where
  -- the frame without its item
  abbrev left : Frame
  left = record (s.frame) { work = s.rest }

  abbrev Out : Outcome → Type 0
  Out o = Gives s.heap (Good s) o

  above_all : (k : Heap) (w : Val) → Solves s k w → IsAbove w (fit_of p s.value s.to)
  above_all k w y = fit_above p k (heap_kept p k s.heap y.heap y.typed ok) w s.value s.to y.value (own_kept p k s.heap w s.value y.heap y.value own) y.has

  fields_asked : (c a : ℕ) → s.value ≡ val.Obj c a → s.to ≡ obj (fields_of s.to) → (x : List ℕ) (t : Ty) → HasField (fields_of s.to) x t → Asked s a x t
  fields_asked c a ev et x t i k w y =
      let one : w ≡ val.Obj c a = subst (λ (q : Val). IsValueBelow w q) ev y.value in
      let has : HasType k (val.Obj c a) (obj (fields_of s.to)) = subst (λ q. HasType k q (obj (fields_of s.to))) one (subst (λ q. HasType k w q) et y.has) in
      has.1 x t i

  fit_out : (k : ℕ) (o : Fit) → Narrows s.value o → FitOk p s.heap s.value s.to o → ((m : Heap) (w : Val) → Solves s m w → IsAbove w o) → Out (fit_value k s.to s.place o left below)
  fit_out k fits.Unfit n i each = (first_bounds s, λ q. each q.0 q.1 q.2)
  fit_out k (fits.Holds u) n i each = (
    first_bounds s,
    ended refl u (set_here (s.frame).values s.place u s.value at)
        (record { solution = record { typed = ok.letter; heap = heap_refl s.heap; value = n; has = i.1 }; weakest = λ m w y. (y.heap, each m w y) }),
  )
  fit_out k (fits.Opens c a) n i each = (
    first_bounds s,
    strengthens (asked_more s c a (fields_of s.to) (work.Fitted k s.to s.place) s.rest (fields_asked c a i.0 i.1) (refl, refl, refl)) refl,
  )

  fit_at_out : (k : ℕ) → Out (fit_at p k s.to s.place (slice_get (s.frame).values s.place) left below)
  fit_at_out k =
      subst (λ o. Out (fit_at p k s.to s.place o left below)) (sym at)
      (fit_out k (fit_of p s.value s.to) (fit_narrows p s.value s.to) (fit_ok p s.heap ok s.value s.to own) above_all)

  top_out : (k : ℕ) (o : Option Ty) → o ≡ Some s.to → s.place ≡ 0 → Out (fit_top p k o left below)
  top_out k o e z =
      subst (λ q. Out (fit_top p k q left below)) (sym e)
      (subst (λ n. Out (fit_at p k s.to n (slice_get (s.frame).values n) left below)) z (fit_at_out k))

  item_out : (c : Configuration) (item : Work) → FitsAt p (s.frame).asked item s.to s.place → Out (act p c item left below)
  item_out c (work.Arg k t j) i =
      subst (λ u. Out (fit_at p k u j (slice_get (s.frame).values j) left below)) (sym i.0)
      (subst (λ n. Out (fit_at p k s.to n (slice_get (s.frame).values n) left below)) (sym i.1) (fit_at_out k))
  item_out c (work.Cast k) i = top_out k (target_of p k) i.0 i.1
  item_out c (work.Result k) i = top_out k (s.frame).asked i.0 i.1
  item_out c item i = absurd i

  -- the item's step, whatever the rest of the configuration
  pub first_out : (c : Configuration) (item : Work) → FitsAt p (s.frame).asked item s.to s.place → (h : Heap) → h ≡ s.heap → (f : Frame) → f ≡ left → Gives h (Good s) (act p c item f below)
  first_out c item i h e f d =
      subst (λ q. Gives q (Good s) (act p c item f below)) (sym e)
      (subst (λ q. Out (act p c item q below)) (sym d) (item_out c item i))

pub fits_quiet : (p : CastScript) (asked : Option Ty) (item : Work) (to : Ty) (place : ℕ) → FitsAt p asked item to place → heeds item ≡ false
fits_quiet p asked (work.Arg k t j) to place i = refl
fits_quiet p asked (work.Cast k) to place i = refl
fits_quiet p asked (work.Result k) to place i = refl
fits_quiet p asked item to place i = absurd i

-- the Fitted goes
pub last_out : (p : CastScript) (s : FitStart) (h : Heap) → HeapOk p h → Bounds s h → HasType h s.value s.to → (f : Frame) (below : List Frame) → f.work ≡ s.rest → slice_get f.values s.place ≡ Some s.value → Gives h (Good s) (goes f below)
last_out p s h ok b has f below e at = (
  b,
  ended e s.value at
      (record { solution = record { typed = ok.letter; heap = b.below; value = value_refl s.value; has = has }; weakest = λ m w y. (b.each m w y, y.value) }),
)
