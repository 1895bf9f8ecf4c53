use Rattle.field_word.proofs.Pairs.{pairs, nothing}
use Rattle.field_word.proofs.unpacking.unpack.Goals as goal

pub returns-clause-pair : goal.returns-clause-pair
returns-clause-pair c = pairs c.args.w c.pair_in.result c.pair_in.ensures

pub returns-clause-none : goal.returns-clause-none
returns-clause-none c = nothing c.args.w c.pair_in.result c.pair_in.ensures
