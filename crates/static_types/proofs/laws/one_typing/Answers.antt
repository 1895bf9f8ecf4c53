use Rattle.static_types.proofs.ScriptLaws.{typing_once}
use Rattle.static_types.proofs.laws.one_typing.Goals as goal

pub returns : goal.returns
returns c = typing_once
