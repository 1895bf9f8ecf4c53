use Rattle.parse_script.proofs.Loops.{complete_answer}
use Rattle.parse_script.proofs.parsing.parse.Goals as goal

pub returns-clause-complete : goal.returns-clause-complete
returns-clause-complete c = complete_answer c.args.text.now c.args.tokens.now c.read.result c.read.ensures.accepted c.read.ensures.refused
