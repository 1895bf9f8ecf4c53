use Rattle.std.proofs.Common.{◌∙◌, ◌+◌, ◌++◌, drop, sym, ap, arith}
use Rattle.token_lines.specs.Lines.{lines_text}
use Rattle.tree_print.specs.ScriptLines.{items_lines}
use Rattle.tree_print.proofs.Lines.{items-turn}
use Rattle.tree_print.proofs.printing.put_items.Goals as goal

pub loop-item-preserved : goal.loop-item-preserved
loop-item-preserved c =
    ap (λ l. l ++ lines_text (items_lines (drop (c.loop-item.item-index + 1) c.args.items.now))) c.in_ok-put_item.ensures
    ∙ (sym (items-turn c.loop-item.page.text c.args.items.now c.loop-item.item-index c.item-item.result (omega arith) c.item-item.is) ∙ c.loop-item.invariant)
