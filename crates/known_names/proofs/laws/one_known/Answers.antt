use Rattle.known_names.proofs.OneKnown.{known_once}
use Rattle.known_names.proofs.laws.one_known.Goals as goal

pub returns : goal.returns
returns c = λ s a b h k. known_once s a b h k
