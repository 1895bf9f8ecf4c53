use Rattle.step_expr.proofs.FewFields.{few_fields}
use Rattle.step_expr.proofs.tests.has_few_fields.Goals as goal

pub returns-in-None : goal.returns-in-None
returns-in-None c = λ h own e. few_fields c.args.table.now.types own 9 (c.in-None.ensures own (c.class_type.ensures.names own e))
