use Rattle.std.proofs.Common.{◌∙◌, sym}
use Rattle.type_shapes.proofs.ShapeTurns.{place_of, place_there}
use Rattle.type_shapes.proofs.numbering.number_in.Goals as goal

pub unwrap-requires : goal.unwrap-requires
unwrap-requires c = c.get_index_of.ensures.found ∙ place_there c.args.set.now.keys c.args.ty.now c.requires.there

pub returns : goal.returns
returns c = place_of c.args.set.now.keys c.args.ty.now c.unwrap.result (sym c.get_index_of.ensures.index ∙ c.unwrap.ensures)
