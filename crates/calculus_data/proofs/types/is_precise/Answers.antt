use Rattle.calculus_data.proofs.TypeTests.{is_precise}
use Rattle.calculus_data.proofs.types.is_precise.Goals as goal

pub returns : goal.returns
returns c = is_precise c.precise.result c.args.a.now c.args.b.now c.precise.ensures
