use Rattle.py_lexer.proofs.EveryText.{always_lexes, never_both, one_token_list, one_first_fault}
use Rattle.py_lexer.proofs.laws.one_answer.Goals as goal

pub returns-clause-always : goal.returns-clause-always
returns-clause-always c = always_lexes

pub returns-clause-never_both : goal.returns-clause-never_both
returns-clause-never_both c = never_both

pub returns-clause-one_list : goal.returns-clause-one_list
returns-clause-one_list c = one_token_list

pub returns-clause-one_fault : goal.returns-clause-one_fault
returns-clause-one_fault c = one_first_fault
