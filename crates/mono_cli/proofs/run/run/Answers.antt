use Rattle.mono_cli.proofs.Running.{seed_runs_to}
use Rattle.mono_cli.proofs.run.run.Goals as goal

pub returns : goal.returns
returns c = seed_runs_to c.args.script.now c.requires.typed c.args.settings c.requires.some c.args.seed c.in_ok-config.config c.in_ok-config.ensures c.run_by_seed.result c.run_by_seed.ensures
