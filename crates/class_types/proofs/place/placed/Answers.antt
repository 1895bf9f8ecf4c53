use Rattle.class_types.proofs.PlaceLaws.{placed-begins}
use Rattle.class_types.proofs.place.placed.Goals as goal

pub returns-clause-begins : goal.returns-clause-begins
returns-clause-begins c = placed-begins c.args.types _ c.in_ok-at.field-0.types c.in_ok-at.ensures.placed.list
