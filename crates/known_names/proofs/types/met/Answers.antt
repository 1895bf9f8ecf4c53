use Rattle.known_names.proofs.TypeTests.{is_meet}
use Rattle.known_names.proofs.types.met.Goals as goal

pub returns : goal.returns
returns c = is_meet c.meet.result c.args.a.now c.args.b.now c.meet.ensures.greatest c.meet.ensures.apart
