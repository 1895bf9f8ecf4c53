use Rattle.std.proofs.Common.{inl, inr}
use Rattle.mono_cli.proofs.CommandAnswers.{servable}
use Rattle.mono_cli.proofs.PutAnswers.{answers_also}
use Rattle.mono_cli.proofs.top.answer.Goals as goal

pub answer_command-requires : goal.answer_command-requires
answer_command-requires g c = servable _ c.in-Ok.command c.in-Ok.ensures.command

pub returns-in-Ok : goal.returns-in-Ok
returns-in-Ok g c = answers_also _ _ (λ a h. inl (c.in-Ok.command, c.in-Ok.ensures.command, h)) _ _ _ c.answer_command.ensures
