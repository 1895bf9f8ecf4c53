use Rattle.mono_cli.proofs.TopClauses.{refuses_exactly, puts_err_last, has_cause, runs_safely}
use Rattle.mono_cli.proofs.top.plain_main.Goals as goal

pub returns-clause-refuses : goal.returns-clause-refuses
returns-clause-refuses g c = refuses_exactly _ _ _ _ c.answer.ensures

pub returns-clause-err : goal.returns-clause-err
returns-clause-err g c = puts_err_last _ _ _ _ c.answer.ensures

pub returns-clause-status : goal.returns-clause-status
returns-clause-status g c = has_cause _ _ _ _ c.answer.ensures

pub returns-clause-safe : goal.returns-clause-safe
returns-clause-safe g c = λ text p h is s some picks. runs_safely text p is s some picks
