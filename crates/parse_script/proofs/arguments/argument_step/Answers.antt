use Rattle.std.proofs.Common.{sym, ◌∙◌}
use Rattle.parse_expr.specs.computed.Reading.{step, finish}
use Rattle.parse_script.specs.computed.Endings.{ending_of}
use Rattle.mono_syntax.specs.Limits.{greatest_weight}
use Rattle.parse_script.proofs.Runs.{if_at, argument_went, argument_stopped}
use Rattle.parse_script.proofs.arguments.argument_step.Goals as goal

pub returns-in-Go : goal.returns-in-Go
returns-in-Go c =
    argument_went c.args.around c.args.listed c.args.args (ending_of c.args.token.what) (step greatest_weight c.args.mode c.args.token) (finish c.args.mode) c.in-Go.mode (sym c.in-Go.is ∙ c.in_ok-mode.ensures)

pub returns-in-Stop : goal.returns-in-Stop
returns-in-Stop c =
    if_at c.found_argument.result _ _
    (argument_stopped c.args.around c.args.listed c.args.args (ending_of c.args.token.what) c.ending_of-ending.result (step greatest_weight c.args.mode c.args.token) (finish c.args.mode) c.in-Stop.found c.ending_of-ending.ensures
    (sym c.in-Stop.is ∙ c.in_ok-mode.ensures))
    c.found_argument.ensures
