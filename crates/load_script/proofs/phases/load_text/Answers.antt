use Rattle.std.proofs.Common.{sym, subst, ◌∙◌, List}
use Rattle.std.specs.Prelude.{chars}
use Rattle.py_lexer.specs.declared.token.Token.{Token}
use Rattle.py_lexer.specs.Lexes.{Lexes}
use Rattle.load_script.proofs.TextLoading.{tokens_fault, tokens_refuses, lex_fault, lex_refuses}
use Rattle.load_script.proofs.phases.load_text.Goals as goal

pub returns-in-Ok-clause-refused : goal.returns-in-Ok-clause-refused
returns-in-Ok-clause-refused c =
    tokens_fault c.args.text.now c.as_slice.result.now (subst (λ (ts : List Token). Lexes (chars c.args.text.now) ts) (sym c.as_slice.ensures.value) c.in-Ok.ensures.tokens)
    c.load_tokens.result c.load_tokens.ensures.refused

pub returns-in-Ok-clause-refuses : goal.returns-in-Ok-clause-refuses
returns-in-Ok-clause-refuses c =
    tokens_refuses c.args.text.now c.as_slice.result.now (λ ts l. c.as_slice.ensures.value ∙ c.in-Ok.ensures.accepts ts l) c.in-Ok.ensures.refuses
    c.load_tokens.result c.load_tokens.ensures.refuses

pub returns-in-Err-clause-refused : goal.returns-in-Err-clause-refused
returns-in-Err-clause-refused c = lex_fault c.args.text.now c.in-Err.fault c.in-Err.ensures.refused

pub returns-in-Err-clause-refuses : goal.returns-in-Err-clause-refuses
returns-in-Err-clause-refuses c = lex_refuses c.args.text.now c.in-Err.fault c.in-Err.ensures.accepts c.in-Err.ensures.refuses
