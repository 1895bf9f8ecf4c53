use Rattle.std.proofs.Common.{◌∙◌, ap}
use Rattle.token_lines.specs.Sheets.{begun}
use Rattle.token_lines.proofs.Sheets.{line_put}
use Rattle.tree_print.specs.ScriptLines.{def_tokens}
use Rattle.tree_print.proofs.definitions.put_def_line.Goals as goal

pub returns : goal.returns
returns c =
    line_put c.args.page.now c.begin.new.self c.put_def_tokens.new.page c.end.new.self 0 (def_tokens c.args.def.now)
    (c.in_ok-begin.ensures.line ∙ ap (λ d. begun c.args.page.now d) c.requires) c.in_ok-put_def_tokens.ensures c.in_ok-end.ensures.line
