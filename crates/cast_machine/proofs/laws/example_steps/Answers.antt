use Rattle.cast_machine.proofs.ExampleSteps.{example_steps}
use Rattle.cast_machine.proofs.laws.example_steps.Goals as goal

pub returns : goal.returns
returns c = example_steps
