use Rattle.std.proofs.Common.{sym, ◌∙◌, ap}
use Rattle.parse_script.specs.declared.stage.Stage.{Stage}
use Rattle.parse_script.specs.declared.stage.Turn.TheVariants as turn
use Rattle.parse_script.specs.computed.DefReading.{def_step}
use Rattle.parse_script.proofs.Runs.{def_followed}
use Rattle.parse_script.proofs.script.in_def.Goals as goal

pub returns-in-Go : goal.returns-in-Go
returns-in-Go c =
    ap (λ (s : Stage). turn.Go s) c.def_stage_of.ensures
    ∙ def_followed c.args.items (def_step c.args.stage c.args.token) c.in-Go.stage (sym c.in-Go.is ∙ c.in_ok-stage.ensures)
