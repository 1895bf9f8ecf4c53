-- Small heaps and their weakest solutions: a field of Dyn that a cast strengthens to int, an object that holds itself,
-- and a field of int, which has none at str.
use Rattle.std.proofs.Common.{◌≡◌, ℕ, List, [], ◌∷◌, Some, pos, refl, sym, ◌∙◌, subst, ⊎_elim, inl, arith}
use Rattle.mono_list.proofs.Cases.{none_some, some_is}
use Rattle.mono_syntax.specs.Ty.{Ty, dyn, int, str, obj, no_fields, more_fields}
use Rattle.mono_syntax.specs.declared.value.Val.{Val}
use Rattle.mono_syntax.specs.declared.value.Val.TheVariants as val
use Rattle.mono_tree.proofs.TypeLaws.{meet_found, precise_refl}
use Rattle.cast_machine.specs.declared.data.Cell.{Cell}
use Rattle.cast_machine.specs.Heap.{Heap, cell_at}
use Rattle.cast_machine.specs.HeapTyping.{HasType, IsAsPrecise, IsBelow}
use Rattle.cast_orders.specs.Below.{IsValueBelow, IsHeapBelow}
use Rattle.cast_orders.specs.Solutions.{IsSolution, IsWeakest}
use Rattle.cast_orders.proofs.Order.{value_refl}
use Rattle.cast_orders.proofs.Places.{cell_below, set_above}

-- one object of class 0, whose one field, x, has this type and value
abbrev pub single : Ty → Val → Heap
single t v = record { class = 0; cells = (120 ∷ [], record { ty = t; value = v }) ∷ []; waits = 0; maker = 0 } ∷ []

-- the type with a field x
abbrev pub with_x : Ty → Ty
with_x t = obj (more_fields (120 ∷ []) t no_fields)

single_cell : (t : Ty) (v : Val) (a : ℕ) (f : List ℕ) (c : Cell) → cell_at (single t v) a f ≡ Some c → c ≡ record { ty = t; value = v }
single_cell t v a f c e = grind arith

single_has : (t : Ty) (v : Val) → HasType (single t v) (val.Obj 0 0) (with_x t)
single_has t v = (
  refl,
  λ f u m. ⊎_elim
      (λ here. subst (λ g. IsBelow (single t v) 0 g u) here.0 (subst (λ s. IsBelow (single t v) 0 (120 ∷ []) s) here.1 (record { cell = record { ty = t; value = v }; at = refl; low = precise_refl t })))
      (λ no. absurd no)
      m,
)

single_solves : (t : Ty) (v : Val) → HasType (single t v) v t → IsSolution (single dyn v) (val.Obj 0 0) (with_x t) (single t v) (val.Obj 0 0)
single_solves t v i = record {
  typed = record { typed = λ a f c e. subst (λ (k : Cell). HasType (single t v) k.value k.ty) (sym (single_cell t v a f c e)) i };
  heap = ((refl, (refl, record { ty = refl; value = value_refl v }, tt)), tt);
  value = refl;
  has = single_has t v;
}

-- the cell of x in a solution
solved_x : (t : Ty) (v : Val) (m : Heap) (u : Val) → IsSolution (single dyn v) (val.Obj 0 0) (with_x t) m u → IsBelow m 0 (120 ∷ []) t
solved_x t v m u s =
    let has : HasType m (val.Obj 0 0) (with_x t) = subst (λ y. HasType m y (with_x t)) s.value s.has in
    has.1 (120 ∷ []) t (inl (refl, refl))

single_weakest : (t : Ty) (v : Val) (m : Heap) (u : Val) → IsSolution (single dyn v) (val.Obj 0 0) (with_x t) m u → IsHeapBelow m (single t v)
single_weakest t v m u s =
    let b = solved_x t v m u s in
    let c = cell_below m (single dyn v) 0 (120 ∷ []) (record { ty = dyn; value = v }) s.heap refl in
    let same : IsValueBelow (b.cell).value v = subst (λ (k : Cell). IsValueBelow k.value v) (some_is (sym c.1 ∙ b.at)) (c.2).value in
    set_above m (single dyn v) 0 (120 ∷ []) b.cell (record { ty = dyn; value = v }) (record { ty = t; value = v }) s.heap b.at refl (record { ty = b.low; value = same })

-- The field x of Dyn becomes t where its value has that type then. No other heap is the weakest.
pub strengthens : (t : Ty) (v : Val) → HasType (single t v) v t → IsWeakest (single dyn v) (val.Obj 0 0) (with_x t) (single t v) (val.Obj 0 0)
strengthens t v i = record { solution = single_solves t v i; weakest = λ m u s. (single_weakest t v m u s, s.value) }

pub int_field : IsWeakest (single dyn (val.Int (pos 1))) (val.Obj 0 0) (with_x int) (single int (val.Int (pos 1))) (val.Obj 0 0)
int_field = strengthens int (val.Int (pos 1)) tt

-- the object is its own field's value
pub cyclic : IsWeakest (single dyn (val.Obj 0 0)) (val.Obj 0 0) (with_x (with_x dyn)) (single (with_x dyn) (val.Obj 0 0)) (val.Obj 0 0)
cyclic =
    strengthens (with_x dyn) (val.Obj 0 0) (
      refl,
      λ f u m. ⊎_elim
          (λ here. subst (λ g. IsBelow (single (with_x dyn) (val.Obj 0 0)) 0 g u) here.0 (subst (λ s. IsBelow (single (with_x dyn) (val.Obj 0 0)) 0 (120 ∷ []) s) here.1 (record { cell = record { ty = with_x dyn; value = val.Obj 0 0 }; at = refl; low = refl })))
          (λ no. absurd no)
          m,
    )

-- a field of int has no solution at str: no type is at least as precise as both
pub apart : (m : Heap) (u : Val) → IsSolution (single int (val.Int (pos 1))) (val.Obj 0 0) (with_x str) m u → ⊥
apart m u s =
    let has : HasType m (val.Obj 0 0) (with_x str) = subst (λ y. HasType m y (with_x str)) s.value s.has in
    let b = has.1 (120 ∷ []) str (inl (refl, refl)) in
    let c = cell_below m (single int (val.Int (pos 1))) 0 (120 ∷ []) (record { ty = int; value = val.Int (pos 1) }) s.heap refl in
    let low : IsAsPrecise (b.cell).ty int = subst (λ (k : Cell). IsAsPrecise k.ty int) (some_is (sym c.1 ∙ b.at)) (c.2).ty in
    none_some ⊥ (meet_found int str (b.cell).ty low b.low).1
