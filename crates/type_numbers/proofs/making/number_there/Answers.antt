use Rattle.std.proofs.Common.{sym, ◌∙◌}
use Rattle.mono_tree.proofs.ClosedPuts.{isnt_there}
use Rattle.type_shapes.proofs.ShapeTurns.{place_of}
use Rattle.type_numbers.proofs.making.number_there.Goals as goal

pub unreachable-requires : goal.unreachable-requires
unreachable-requires c = isnt_there c.args.set.now.keys c.args.ty.now (sym c.in-None.ensures.found) c.requires.there

pub returns : goal.returns
returns c = place_of c.args.set.now.keys c.args.ty.now c.in-Some.at (sym c.get_index_of.ensures.index ∙ c.in-Some.is)
