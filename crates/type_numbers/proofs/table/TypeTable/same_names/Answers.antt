use Rattle.std.proofs.Common.{◌≡◌, ◌∙◌, ◌↔◌, Bool, IsTrue, List, get_or, ap, sym, subst}
use Rattle.mono_tree.specs.TypeNumbers.{Names}
use Rattle.type_shapes.specs.declared.shape.Shape.{Shape}
use Rattle.type_numbers.specs.Tables.{Table, HaveSameNames}
use Rattle.type_numbers.specs.computed.ShapeParts.{same_group}
use Rattle.type_numbers.proofs.TableLaws.{same_heads, shape_shows}
use Rattle.type_numbers.proofs.table.TypeTable.same_names.Goals as goal

pub returns : goal.returns
returns c = λ x y h e.
    let n = c.class_type-class.result in
    let s = c.index-shapes-class.result in
    let r = c.index-shapes-a.result in
    let named = subst (λ (t : Table). Names t.types n x) (sym c.self.view_is) (c.class_type-class.ensures.names x h) in
    let other = subst (λ (t : Table). Names t.types c.args.a y) (sym c.self.view_is) e in
    let g = subst (λ (l : List Shape). s ≡ get_or l n.0 s) c.as_slice-shapes.ensures.keys c.index-shapes-class.is in
    let k = subst (λ (l : List Shape). r ≡ get_or l c.args.a.0 r) c.as_slice-shapes.ensures.keys c.index-shapes-a.is in
    let heads = c.is_same_group.ensures
    ∙ ap (λ (z : Shape). same_group z.head (get_or c.as_slice-shapes.result.now c.args.a.0 r).head) (sym c.index-shapes-class.is)
    ∙ ap (λ (z : Shape). same_group s.head z.head) (sym c.index-shapes-a.is) in
    subst (λ (b : Bool). IsTrue b ↔ HaveSameNames x y) (sym heads)
    (same_heads c.self.inside.names.items c.self.invariant.numbered.names_once s.head r.head x y
    (shape_shows _ _ _ _ _ _ c.self.invariant n.0 x s named g).head
    (shape_shows _ _ _ _ _ _ c.self.invariant c.args.a.0 y r other k).head)
