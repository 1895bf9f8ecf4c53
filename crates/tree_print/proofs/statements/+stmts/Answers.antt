use Rattle.std.proofs.Common.{◌∙◌, ◌+◌, ◌++◌, drop, sym, ap, arith}
use Rattle.mono_syntax.specs.StmtView.{block, branches}
use Rattle.spelled_tokens.specs.declared.token.Mark.TheVariants as mark
use Rattle.token_lines.specs.Lines.{lines_text}
use Rattle.tree_print.specs.ScriptLines.{block_lines, branches_lines}
use Rattle.tree_print.proofs.Lines.{block-turn, branches-turn}
use Rattle.tree_print.proofs.statements.+stmts.Goals as goal

pub put_block-loop-s-preserved : goal.put_block-loop-s-preserved
put_block-loop-s-preserved t c =
    ap (λ l. l ++ lines_text (block_lines c.args.indent.now (block (drop (c.loop-s.s-index + 1) c.args.list.now)))) c.in_ok-put_stmt.ensures
    ∙ (sym (block-turn c.loop-s.page.text c.args.indent.now c.args.list.now c.loop-s.s-index c.s-item.result (omega arith) c.s-item.is) ∙ c.loop-s.invariant)

pub put_branches-loop-branch-preserved : goal.put_branches-loop-branch-preserved
put_branches-loop-branch-preserved t c =
    ap (λ l. l ++ lines_text (branches_lines c.args.indent.now mark.Elif (branches (drop (c.loop-branch.branch-index + 1) c.args.list.now)))) c.in_ok-put_branch.ensures
    ∙ (sym (branches-turn c.loop-branch.page.text c.args.indent.now c.loop-branch.word c.args.list.now c.loop-branch.branch-index c.branch-item.result (omega arith) c.branch-item.is)
    ∙ c.loop-branch.invariant)
