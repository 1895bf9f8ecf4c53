use Rattle.parse_expr.specs.Types.{IsType}
use Rattle.parse_expr.proofs.OneTree.{one_type_in_room, complete_answer}
use Rattle.parse_expr.proofs.parsing.parse_type.Goals as goal

pub returns-clause-complete : goal.returns-clause-complete
returns-clause-complete c =
    complete_answer (IsType c.args.room) (one_type_in_room c.args.room) c.args.text.now c.args.tokens.now c.args.from c.read_type.result c.read_type.ensures.accepted c.read_type.ensures.refused
