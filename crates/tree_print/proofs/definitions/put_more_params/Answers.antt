use Rattle.std.proofs.Common.{◌∙◌, ◌+◌, drop, sym, ap, arith}
use Rattle.token_lines.specs.Sheets.{written}
use Rattle.tree_print.specs.ScriptLines.{param_tokens, more_params_tokens}
use Rattle.tree_print.proofs.Turns.{more_params-turn}
use Rattle.tree_print.proofs.definitions.put_more_params.Goals as goal

pub loop-param-preserved : goal.loop-param-preserved
loop-param-preserved c =
    ap (λ p. written p (more_params_tokens (drop (c.loop-param.param-index + 1) c.args.list.now)))
    (c.in_ok-put_param.ensures ∙ ap (λ p. written p (param_tokens c.param-item.result)) c.in_ok-put_what.ensures)
    ∙ (sym (more_params-turn c.loop-param.page c.args.list.now c.loop-param.param-index c.param-item.result (omega arith) c.param-item.is) ∙ c.loop-param.invariant)
