use Rattle.mono_cli.proofs.CommandAnswers.{stress_answers}
use Rattle.mono_cli.proofs.top.answer_command.Goals as goal

pub returns-in-Stress : goal.returns-in-Stress
returns-in-Stress g c = stress_answers _ _ _ _ c.in-Stress.is _ _ _ _ _ _ c.answer_stress.ensures
