use Rattle.std.proofs.Common.{sym, ◌∙◌}
use Rattle.parse_expr.specs.computed.TypeReading.{type_step, type_finish}
use Rattle.parse_script.specs.computed.Endings.{ending_of}
use Rattle.mono_syntax.specs.Limits.{greatest_weight}
use Rattle.parse_script.proofs.Runs.{result_went, result_stopped}
use Rattle.parse_script.proofs.function.def_result.Goals as goal

pub returns-in-Go : goal.returns-in-Go
returns-in-Go c =
    result_went c.args.name c.args.params (ending_of c.args.token.what) (type_step greatest_weight c.args.mode c.args.token) (type_finish c.args.mode) c.in-Go.mode (sym c.in-Go.is ∙ c.in_ok-mode.ensures)

pub returns-in-Stop : goal.returns-in-Stop
returns-in-Stop c =
    c.result_end.ensures
    ∙ result_stopped c.args.name c.args.params (ending_of c.args.token.what) c.ending_of-ending.result (type_step greatest_weight c.args.mode c.args.token) (type_finish c.args.mode) c.in-Stop.found
    c.ending_of-ending.ensures (sym c.in-Stop.is ∙ c.in_ok-mode.ensures)
