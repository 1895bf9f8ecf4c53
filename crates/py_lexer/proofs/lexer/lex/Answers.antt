use Rattle.std.proofs.Common.{chars}
use Rattle.py_lexer.proofs.Outcome.{scans_lexes, tokens_once, no_fault, refuses_text, only_memory, only_first}
use Rattle.py_lexer.proofs.lexer.lex.Goals as goal

pub returns-in-Ok-clause-tokens : goal.returns-in-Ok-clause-tokens
returns-in-Ok-clause-tokens c = scans_lexes (chars c.args.text.now) c.in-Ok.tokens.items c.in-Ok.ensures.ok

pub returns-in-Ok-clause-accepts : goal.returns-in-Ok-clause-accepts
returns-in-Ok-clause-accepts c = λ ts l. tokens_once (chars c.args.text.now) c.in-Ok.tokens.items ts c.in-Ok.ensures.ok l

pub returns-in-Ok-clause-refuses : goal.returns-in-Ok-clause-refuses
returns-in-Ok-clause-refuses c = λ r l. no_fault (chars c.args.text.now) c.in-Ok.tokens.items r c.in-Ok.ensures.ok l

pub returns-in-Err-clause-refused : goal.returns-in-Err-clause-refused
returns-in-Err-clause-refused c = refuses_text (chars c.args.text.now) c.in-Err.fault c.in-Err.ensures.refused

pub returns-in-Err-clause-accepts : goal.returns-in-Err-clause-accepts
returns-in-Err-clause-accepts c = only_memory (chars c.args.text.now) c.in-Err.fault c.in-Err.ensures.refused

pub returns-in-Err-clause-refuses : goal.returns-in-Err-clause-refuses
returns-in-Err-clause-refuses c = only_first (chars c.args.text.now) c.in-Err.fault c.in-Err.ensures.refused
