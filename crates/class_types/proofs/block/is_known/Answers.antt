use Rattle.std.proofs.Common.{◌∙◌}
use Rattle.std.specs.Prelude.{is_some}
use Rattle.std.proofs.Common.{ap}
use Rattle.class_types.proofs.NameLaws.{known-placed}
use Rattle.class_types.proofs.block.is_known.Goals as goal

pub returns : goal.returns
returns c = λ words e. c.is_some.ensures ∙ (ap is_some c.place.ensures.place ∙ known-placed c.args.names.now words c.args.name.now e)
