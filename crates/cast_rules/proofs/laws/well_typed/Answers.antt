use Rattle.cast_rules.proofs.WellTypedScript.{well_typed_by}
use Rattle.cast_rules.proofs.laws.well_typed.Goals as goal

pub returns : goal.returns
returns c = well_typed_by
