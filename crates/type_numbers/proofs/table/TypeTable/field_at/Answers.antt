use Rattle.std.proofs.Common.{◌≡◌, ◌∙◌, ℕ, List, get_or, ap, sym, subst}
use Rattle.mono_tree.specs.TypeNumbers.{IsInRange, Names}
use Rattle.type_shapes.specs.declared.shape.Shape.{Shape}
use Rattle.type_numbers.specs.Tables.{Table, IsPlaceOf}
use Rattle.type_numbers.specs.computed.ShapeParts.{names_by}
use Rattle.type_numbers.proofs.TableLaws.{names_shown, shape_shows, short_names}
use Rattle.type_numbers.proofs.table.TypeTable.field_at.Goals as goal

pub place_in-requires : goal.place_in-requires
place_in-requires c =
    let n = c.class_type-class.result in
    let s = c.index-as_slice-class.result in
    let l = subst (λ (t : Table). IsInRange t.types n) (sym c.self.view_is) c.class_type-class.ensures.range in
    let g = subst (λ (l : List Shape). s ≡ get_or l n.0 s) c.as_slice.ensures.keys c.index-as_slice-class.is in
    let e = c.names_in-names.ensures ∙ ap (λ (z : Shape). names_by c.as_slice-2.result.now z.head) (sym c.index-as_slice-class.is)
    ∙ ap (λ (l : List (List (List ℕ))). names_by l s.head) c.as_slice-2.ensures.value in
    short_names _ _ _ _ _ _ c.self.invariant n.0 s c.names_in-names.result.now l g e

pub returns : goal.returns
returns c = λ x h.
    let n = c.class_type-class.result in
    let s = c.index-as_slice-class.result in
    let named = subst (λ (t : Table). Names t.types n x) (sym c.self.view_is) (c.class_type-class.ensures.names x h) in
    let g = subst (λ (l : List Shape). s ≡ get_or l n.0 s) c.as_slice.ensures.keys c.index-as_slice-class.is in
    let e = c.names_in-names.ensures ∙ ap (λ (z : Shape). names_by c.as_slice-2.result.now z.head) (sym c.index-as_slice-class.is)
    ∙ ap (λ (l : List (List (List ℕ))). names_by l s.head) c.as_slice-2.ensures.value in
    let same = e ∙ names_shown c.self.inside.names.items s.head x (shape_shows _ _ _ _ _ _ c.self.invariant n.0 x s named g).head in
    subst (λ (l : List (List ℕ)). IsPlaceOf l c.args.name.now c.place_in.result) same
    (subst (λ (b : List ℕ). IsPlaceOf c.names_in-names.result.now b c.place_in.result) c.as_bytes.ensures.value c.place_in.ensures)
