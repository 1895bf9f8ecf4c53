use Rattle.known_names.proofs.TypeTests.{is_fully_static}
use Rattle.known_names.proofs.types.is_fully_static.Goals as goal

pub returns : goal.returns
returns c = is_fully_static c.is_static.result c.args.ty.now c.is_static.ensures
