use Rattle.parse_expr.specs.Grammar.{IsExpr}
use Rattle.parse_expr.proofs.OneTree.{one_in_room, complete_answer}
use Rattle.parse_expr.proofs.parsing.parse_expr.Goals as goal

pub returns-clause-complete : goal.returns-clause-complete
returns-clause-complete c =
    complete_answer (IsExpr c.args.room) (one_in_room c.args.room) c.args.text.now c.args.tokens.now c.args.from c.read_expr.result c.read_expr.ensures.accepted c.read_expr.ensures.refused
