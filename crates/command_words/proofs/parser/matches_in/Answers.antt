use Rattle.clap.proofs.WalkLemmas.{both}
use Rattle.command_words.proofs.parser.matches_in.Goals as goal

pub returns-in-Ok-clause-rows : goal.returns-in-Ok-clause-rows
returns-in-Ok-clause-rows c h = (c.in-Ok.ensures.matches (both _ _ h).0).0
