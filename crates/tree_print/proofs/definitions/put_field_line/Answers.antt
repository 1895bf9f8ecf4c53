use Rattle.std.proofs.Common.{◌∙◌, ◌∷◌, ap}
use Rattle.spelled_tokens.specs.declared.token.Mark.TheVariants as mark
use Rattle.token_lines.specs.Sheets.{begun}
use Rattle.token_lines.proofs.Sheets.{line_put}
use Rattle.tree_print.specs.Brackets.{sign, name, ann_tokens}
use Rattle.tree_print.proofs.definitions.put_field_line.Goals as goal

pub returns : goal.returns
returns c =
    line_put c.args.page.now c.begin.new.self c.put_field.new.page c.end.new.self 1
    (name c.args.field.now.name ∷ sign mark.Colon ∷ ann_tokens c.args.field.now.ann)
    (c.in_ok-begin.ensures.line ∙ ap (λ d. begun c.args.page.now d) c.requires) c.in_ok-put_field.ensures c.in_ok-end.ensures.line
