use Rattle.calculus_data.proofs.TypeTests.{is_fully_static}
use Rattle.calculus_data.proofs.types.is_fully_static.Goals as goal

pub returns : goal.returns
returns c = is_fully_static c.is_static.result c.args.a.now c.is_static.ensures
