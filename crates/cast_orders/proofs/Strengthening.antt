-- An obligation in one step keeps every solution below the heap, and blames only where there is no solution.
use Rattle.std.proofs.Common.{◌≡◌, ℕ, List, Option, Some, None, refl, sym, ◌∙◌, subst}
use Rattle.mono_list.proofs.Cases.{some_is, none_some}
use Rattle.mono_syntax.specs.Ty.{Ty, obj}
use Rattle.mono_syntax.specs.declared.value.Val.{Val}
use Rattle.mono_syntax.specs.declared.value.Val.TheVariants as val
use Rattle.mono_syntax.specs.declared.cast.CastScript.{CastScript}
use Rattle.mono_tree.specs.CastScripts.{fields_of}
use Rattle.mono_tree.specs.Meet.{meet_of}
use Rattle.mono_tree.specs.Precision.{precise}
use Rattle.mono_tree.specs.TypedPrograms.{HasField}
use Rattle.mono_tree.proofs.TypeLaws.{meet_below, meet_found, meet_greatest}
use Rattle.cast_machine.specs.declared.data.Cell.{Cell}
use Rattle.cast_machine.specs.declared.data.Fit.{Fit}
use Rattle.cast_machine.specs.declared.data.Fit.TheVariants as fits
use Rattle.cast_machine.specs.declared.data.Frame.{Frame}
use Rattle.cast_machine.specs.declared.data.Ready.{Ready}
use Rattle.cast_machine.specs.declared.data.Verdict.{Verdict}
use Rattle.cast_machine.specs.declared.data.Verdict.TheVariants as verdict
use Rattle.cast_machine.specs.declared.data.Work.TheVariants as work
use Rattle.cast_machine.specs.Cells.{blamed, blaming, holds, is_ready, meets, obligation_cell, obligation_step, on_cell, settle, strengthen}
use Rattle.cast_machine.specs.Fits.{fit_of}
use Rattle.cast_machine.specs.Heap.{Heap, cell_at, set_cell}
use Rattle.cast_machine.specs.HeapTyping.{HasType, IsAsPrecise, IsTyped}
use Rattle.cast_machine.proofs.Fitting.{FitOk, fit_ok, has_lower}
use Rattle.cast_machine.proofs.Grows.{HeapOk, cell_typed}
use Rattle.cast_machine.proofs.Heap.{on_test}
use Rattle.cast_orders.specs.Below.{IsValueBelow, IsCellBelow}
use Rattle.cast_orders.specs.Solutions.{HasSolution}
use Rattle.cast_orders.proofs.Bounds.{FitStart, Solves, Asked, AreAsked, Bounds, Good, asked_more, strengthens}
use Rattle.cast_orders.proofs.FitAnswers.{Narrows, fit_narrows, IsAbove, fit_above}
use Rattle.cast_orders.proofs.Kept.{heap_kept}
use Rattle.cast_orders.proofs.Order.{value_refl, heap_trans}
use Rattle.cast_orders.proofs.OwnSteps.{Gives}
use Rattle.cast_orders.proofs.Places.{cell_below, set_above, set_below}

-- a solution's cell below the heap's, which has the asked type
record Met (k : Heap) (a : ℕ) (x : List ℕ) (t : Ty) (c : Cell) : Type 0 where
  cell : Cell
  at : cell_at k a x ≡ Some cell
  low : IsCellBelow cell c
  asked : IsAsPrecise cell.ty t

module _ (p : CastScript) (s : FitStart) (h : Heap) (ok : HeapOk p h) (b : Bounds s h) (below : List Frame) (a : ℕ) (x : List ℕ) (t : Ty) (asked : Asked s a x t) (f : Frame) (more : AreAsked s f.work) (same : f.values ≡ (s.frame).values) where
  -- of a verdict on the cell
  abbrev At : Verdict → Type 0
  At v = Gives h (Good s) (settle a x v below)

  solved_ok : (k : Heap) (w : Val) → Solves s k w → HeapOk p k
  solved_ok k w y = heap_kept p k h (b.each k w y) y.typed ok

  blaming_out : (k : Option ℕ) → (HasSolution s.heap s.value s.to → ⊥) → At (blaming k)
  blaming_out None n = tt
  blaming_out (Some k) n = (b, n)

  module _ (c : Cell) (at : cell_at h a x ≡ Some c) where
    met_in : (k : Heap) (w : Val) → Solves s k w → Met k a x t c
    met_in k w y =
        let i = asked k w y in
        let d = cell_below k h a x c (b.each k w y) at in
        record { cell = i.cell; at = i.at; low = subst (λ q. IsCellBelow q c) (some_is (sym d.1 ∙ i.at)) d.2; asked = i.low }

    module _ (m : Ty) (e : meet_of c.ty t ≡ Some m) where
      met_low : (k : Heap) (w : Val) (y : Solves s k w) → IsAsPrecise ((met_in k w y).cell).ty m
      met_low k w y = let i = met_in k w y in meet_greatest c.ty t m (i.cell).ty e (i.low).ty i.asked

      met_typed : (k : Heap) (w : Val) (y : Solves s k w) → IsTyped p k ((met_in k w y).cell).value m
      met_typed k w y =
          let i = met_in k w y in
          has_lower p k (i.cell).value (i.cell).ty m (cell_typed (solved_ok k w y) a x i.cell i.at) (met_low k w y)

      -- the cell becomes (m, v)
      sets_bounds : (v : Val) → IsValueBelow v c.value → ((k : Heap) (w : Val) (y : Solves s k w) → IsValueBelow ((met_in k w y).cell).value v) → Bounds s (set_cell h a x (holds m v))
      sets_bounds v n each = record {
        below = heap_trans (set_cell h a x (holds m v)) h s.heap (set_below h a x c (holds m v) at (record { ty = (meet_below c.ty t m e).0; value = n })) b.below;
        each = λ k w y. let i = met_in k w y in set_above k h a x i.cell c (holds m v) (b.each k w y) i.at at (record { ty = met_low k w y; value = each k w y });
      }

      sets_out : (v : Val) → IsValueBelow v c.value → ((k : Heap) (w : Val) (y : Solves s k w) → IsValueBelow ((met_in k w y).cell).value v) → At (verdict.Sets (holds m v) f)
      sets_out v n each = (sets_bounds v n each, strengthens more same)

      -- the fields of the inner object
      inner_asked : (d n : ℕ) → c.value ≡ val.Obj d n → m ≡ obj (fields_of m) → (g : List ℕ) (u : Ty) → HasField (fields_of m) g u → Asked s n g u
      inner_asked d n ev et g u i k w y =
          let z = met_in k w y in
          let one : (z.cell).value ≡ val.Obj d n = subst (λ q. IsValueBelow (z.cell).value q) ev (z.low).value in
          let has : HasType k (val.Obj d n) (obj (fields_of m)) = subst (λ q. HasType k q (obj (fields_of m))) one (subst (λ q. HasType k (z.cell).value q) et (met_typed k w y).1) in
          has.1 g u i

      strengthen_out : (d : ℕ) (ready : Option Ready) (o : Fit) → Narrows c.value o → FitOk p h c.value m o → ((k : Heap) (w : Val) (y : Solves s k w) → IsAbove ((met_in k w y).cell).value o) → At (strengthen d a x t ready f c m o)
      strengthen_out d ready fits.Unfit n i each = blaming_out (blamed f.work) (λ q. each q.0 q.1 q.2)
      strengthen_out d ready (fits.Holds v) n i each = sets_out v n each
      strengthen_out d ready (fits.Opens k n) z i each =
          on_test (is_ready ready c.value m) _ _ At
          (λ ready. sets_out c.value (value_refl c.value) (λ k w y. ((met_in k w y).low).value))
          (λ opens. (
            b,
            strengthens
                (asked_more s k n (fields_of m) (work.Obligation d a x t (Some (record { value = c.value; ty = m }))) f.work (inner_asked k n i.0 i.1) (asked, more))
                same,
          ))

    meets_out : (d : ℕ) (ready : Option Ready) (o : Option Ty) → meet_of c.ty t ≡ o → At (meets p d a x t ready f c o)
    meets_out d ready None e = blaming_out (blamed f.work) (λ q.
        let i = met_in q.0 q.1 q.2 in
        let found = meet_found c.ty t (i.cell).ty (i.low).ty i.asked in
        none_some ⊥ (sym e ∙ found.1))
    meets_out d ready (Some m) e =
        strengthen_out m e d ready (fit_of p c.value m) (fit_narrows p c.value m) (fit_ok p h ok c.value m (cell_typed ok a x c at).0)
        (λ k w y. let i = met_in k w y in
        fit_above p k (solved_ok k w y) (i.cell).value c.value m (i.low).value (met_typed m e k w y).0 (met_typed m e k w y).1)

  cell_out : (d : ℕ) (ready : Option Ready) (o : Option Cell) → cell_at h a x ≡ o → At (on_cell verdict.NoRow (obligation_cell p d a x t ready f) o)
  cell_out d ready None e = tt
  cell_out d ready (Some c) e =
      on_test (precise c.ty t) _ _ At
      (λ met. (b, strengthens more same))
      (λ unmet. meets_out c e d ready (meet_of c.ty t) refl)

  pub obligation_out : (d : ℕ) (ready : Option Ready) → Gives h (Good s) (obligation_step p h d a x t ready f below)
  obligation_out d ready = cell_out d ready (cell_at h a x) refl
