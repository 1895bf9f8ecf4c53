use Rattle.type_list.proofs.TypeListLaws.{placed_where}
use Rattle.type_list.proofs.list.with_type.Goals as goal

pub returns-clause-placed : goal.returns-clause-placed
returns-clause-placed c = placed_where c.args.types c.args.ty.now c.place_of_type.result c.place_of_type.ensures
