use Rattle.cast_rules.proofs.Example.{example_has, example_lost}
use Rattle.cast_rules.proofs.laws.example_casts.Goals as goal

pub returns-clause-example : goal.returns-clause-example
returns-clause-example c = example_has

pub returns-clause-lost : goal.returns-clause-lost
returns-clause-lost c = example_lost
