use Rattle.token_lines.proofs.Sheets.{line_put}
use Rattle.tree_print.specs.ScriptLines.{head_tokens}
use Rattle.tree_print.proofs.statements.put_head_line.Goals as goal

pub returns : goal.returns
returns c =
    line_put c.args.page.now c.begin.new.self c.put_head.new.page c.end.new.self c.args.indent.now (head_tokens c.args.mark c.args.e.now)
    c.in_ok-begin.ensures.line c.in_ok-put_head.ensures c.in_ok-end.ensures.line
