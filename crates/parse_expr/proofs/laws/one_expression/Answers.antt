use Rattle.parse_expr.proofs.OneTree as trees
use Rattle.parse_expr.proofs.laws.one_expression.Goals as goal

pub returns-clause-expression : goal.returns-clause-expression
returns-clause-expression c = trees.one_expression

pub returns-clause-of_type : goal.returns-clause-of_type
returns-clause-of_type c = trees.one_type
