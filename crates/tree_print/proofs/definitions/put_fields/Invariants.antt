use Rattle.std.proofs.Common.{◌≡◌, ◌++◌, drop}
use Rattle.token_lines.specs.Lines.{lines_text}
use Rattle.tree_print.specs.ScriptLines.{fields_lines}
use Rattle.tree_print.proofs.definitions.put_fields.Given as goal

-- the text so far, and the fields that are left
abbrev pub invariant-loop-field : goal.invariant-loop-field
invariant-loop-field l = l.page.text ++ lines_text (fields_lines (drop l.field-index l.list)) ≡ l.initial.page.text ++ lines_text (fields_lines l.list)
