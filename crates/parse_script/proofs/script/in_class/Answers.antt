use Rattle.std.proofs.Common.{sym, ◌∙◌}
use Rattle.parse_script.specs.computed.ClassReading.{class_step}
use Rattle.parse_script.proofs.Runs.{if_at, class_followed}
use Rattle.parse_script.proofs.script.in_class.Goals as goal

pub returns-in-Go : goal.returns-in-Go
returns-in-Go c =
    if_at c.class_followed.result _ _ (class_followed c.args.items (class_step c.args.stage c.args.token) c.in-Go.stage (sym c.in-Go.is ∙ c.in_ok-stage.ensures)) c.class_followed.ensures
