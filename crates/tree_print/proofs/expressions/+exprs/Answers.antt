use Rattle.std.proofs.Common.{◌∙◌, ◌+◌, drop, sym, ap, arith}
use Rattle.mono_syntax.specs.ExprView.{exprs}
use Rattle.token_lines.specs.Sheets.{written}
use Rattle.tree_print.specs.Brackets.{expr_tokens, more_exprs_tokens}
use Rattle.tree_print.proofs.Turns.{more_exprs-turn}
use Rattle.tree_print.proofs.expressions.+exprs.Goals as goal

pub put_more_exprs-loop-e-preserved : goal.put_more_exprs-loop-e-preserved
put_more_exprs-loop-e-preserved t c =
    ap (λ p. written p (more_exprs_tokens (exprs (drop (c.loop-e.e-index + 1) c.args.list.now))))
    (c.in_ok-put_expr.ensures ∙ ap (λ p. written p (expr_tokens c.e-item.result)) c.in_ok-put_what.ensures)
    ∙ (sym (more_exprs-turn c.loop-e.page c.args.list.now c.loop-e.e-index c.e-item.result (omega arith) c.e-item.is) ∙ c.loop-e.invariant)
