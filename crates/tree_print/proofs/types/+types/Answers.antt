use Rattle.std.proofs.Common.{◌∙◌, ◌+◌, drop, sym, ap, arith}
use Rattle.mono_syntax.specs.AnnView.{anns}
use Rattle.token_lines.specs.Sheets.{written}
use Rattle.tree_print.specs.Brackets.{ann_tokens, more_anns_tokens}
use Rattle.tree_print.proofs.Turns.{more_anns-turn}
use Rattle.tree_print.proofs.types.+types.Goals as goal

pub put_more_anns-loop-ann-preserved : goal.put_more_anns-loop-ann-preserved
put_more_anns-loop-ann-preserved t c =
    ap (λ p. written p (more_anns_tokens (anns (drop (c.loop-ann.ann-index + 1) c.args.list.now))))
    (c.in_ok-put_ann.ensures ∙ ap (λ p. written p (ann_tokens c.ann-item.result)) c.in_ok-put_what.ensures)
    ∙ (sym (more_anns-turn c.loop-ann.page c.args.list.now c.loop-ann.ann-index c.ann-item.result (omega arith) c.ann-item.is) ∙ c.loop-ann.invariant)
