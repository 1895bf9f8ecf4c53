use Rattle.std.proofs.Common.{◌∙◌, ◌+◌, ◌++◌, drop, sym, ap, arith}
use Rattle.token_lines.specs.Lines.{lines_text}
use Rattle.tree_print.specs.ScriptLines.{fields_lines}
use Rattle.tree_print.proofs.Lines.{fields-turn}
use Rattle.tree_print.proofs.definitions.put_fields.Goals as goal

pub loop-field-preserved : goal.loop-field-preserved
loop-field-preserved c =
    ap (λ l. l ++ lines_text (fields_lines (drop (c.loop-field.field-index + 1) c.args.list.now))) c.in_ok-put_field_line.ensures
    ∙ (sym (fields-turn c.loop-field.page.text c.args.list.now c.loop-field.field-index c.field-item.result (omega arith) c.field-item.is) ∙ c.loop-field.invariant)
