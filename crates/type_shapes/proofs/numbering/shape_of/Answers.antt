use Rattle.std.proofs.Common.{refl}
use Rattle.std.specs.Prelude.{Contains}
use Rattle.type_shapes.proofs.ShapeTurns.{named_fun, fun_parts}
use Rattle.type_shapes.proofs.numbering.shape_of.Goals as goal

pub function_parts-requires-clause-there : goal.function_parts-requires-clause-there
function_parts-requires-clause-there c =
    rw (c.get.ensures, c.as_slice.ensures)
    (fun_parts (λ p. Contains c.args.set.now.keys p) c.in-Fun.out c.in-Fun.params (rw (← c.ty.view_is, c.in-Fun.is) at c.requires.parts))

pub returns-in_ok-parts-in-Fun-clause-shows : goal.returns-in_ok-parts-in-Fun-clause-shows
returns-in_ok-parts-in-Fun-clause-shows c =
    rw (← c.ty.view_is, c.in-Fun.is) (record {
      head = refl;
      parts = named_fun c.args.set.now.keys c.in_ok-parts-in-Fun.parts c.in-Fun.out c.in-Fun.params (rw (c.get.ensures, c.as_slice.ensures) at c.in_ok-parts-in-Fun.ensures);
    })
