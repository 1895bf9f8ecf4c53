use Rattle.cast_machine.proofs.Runs.{safe_run}
use Rattle.cast_machine.proofs.laws.safe_runs.Goals as goal

pub returns : goal.returns
returns c = safe_run
