use Rattle.known_names.proofs.TypeTests.{is_precise}
use Rattle.known_names.proofs.types.is_precise.Goals as goal

pub returns : goal.returns
returns c = is_precise c.precise.result c.args.a.now c.args.b.now c.precise.ensures
