use Rattle.cast_rules.proofs.TextSites.{types_are_text}
use Rattle.cast_rules.proofs.laws.text_names.Goals as goal

pub returns : goal.returns
returns c = types_are_text
