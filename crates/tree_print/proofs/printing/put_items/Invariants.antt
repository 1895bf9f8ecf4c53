use Rattle.std.proofs.Common.{◌≡◌, ◌++◌, drop}
use Rattle.token_lines.specs.Lines.{lines_text}
use Rattle.tree_print.specs.ScriptLines.{items_lines}
use Rattle.tree_print.proofs.printing.put_items.Given as goal

-- the text so far, and the items that are left
abbrev pub invariant-loop-item : goal.invariant-loop-item
invariant-loop-item l = l.page.text ++ lines_text (items_lines (drop l.item-index l.items)) ≡ l.initial.page.text ++ lines_text (items_lines l.items)
