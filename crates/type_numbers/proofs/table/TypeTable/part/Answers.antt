use Rattle.std.proofs.Common.{◌≡◌, List, get_or, sym, subst}
use Rattle.std.specs.Prelude.{Option, slice_get}
use Rattle.mono_syntax.specs.Ty.{Ty}
use Rattle.mono_syntax.specs.declared.value.TypeNo.{TypeNo}
use Rattle.mono_tree.specs.TypeNumbers.{Names}
use Rattle.type_shapes.specs.declared.shape.Shape.{Shape}
use Rattle.type_numbers.specs.Tables.{Table, IsNumberOf, parts_of}
use Rattle.type_numbers.proofs.TableLaws.{part_named, shape_shows}
use Rattle.type_numbers.proofs.table.TypeTable.part.Goals as goal

pub returns : goal.returns
returns c =
    let s = c.index-as_slice-a.result in
    let g = subst (λ (l : List Shape). s ≡ get_or l c.args.a.0 s) c.as_slice.ensures.keys c.index-as_slice-a.is in
    subst (λ (t : Table). (x : Ty) → Names t.types c.args.a x → IsNumberOf t.types c.part_in.result (slice_get (parts_of x) c.args.i))
    c.self.view_is
    (λ x e. subst (λ (o : Option TypeNo). IsNumberOf c.self.inside.set.keys o (slice_get (parts_of x) c.args.i)) (sym c.part_in.ensures)
    (part_named c.self.inside.names.items c.self.inside.set.keys s x c.args.i
    (shape_shows _ _ _ _ _ _ c.self.invariant c.args.a.0 x s e g)))
