use Rattle.std.proofs.Common.{◌≡◌, ◌+◌, ◌*◌, ◌++◌, drop}
use Rattle.mono_syntax.specs.Stmt.{stmt_size, block_size, branches_size, else_size}
use Rattle.mono_syntax.specs.StmtView.{block, branches, else_block}
use Rattle.spelled_tokens.specs.declared.token.Mark.TheVariants as mark
use Rattle.token_lines.specs.Lines.{lines_text}
use Rattle.tree_print.specs.ScriptLines.{block_lines, branches_lines}
use Rattle.tree_print.proofs.statements.+stmts.Given as goal

abbrev pub decreases-put_stmt : goal.decreases-put_stmt
decreases-put_stmt l = 4 * stmt_size l.s.now

abbrev pub decreases-put_block : goal.decreases-put_block
decreases-put_block l = 4 * block_size (block l.list.now) + 1

abbrev pub decreases-put_inner : goal.decreases-put_inner
decreases-put_inner l = 4 * block_size (block l.list.now) + 2

abbrev pub decreases-put_branch : goal.decreases-put_branch
decreases-put_branch l = 4 * block_size (block l.branch.now.body) + 3

abbrev pub decreases-put_branches : goal.decreases-put_branches
decreases-put_branches l = 4 * branches_size (branches l.list.now) + 1

abbrev pub decreases-put_else : goal.decreases-put_else
decreases-put_else l = 4 * else_size (else_block l.last.now) + 3

-- the text so far, and the statements that are left
abbrev pub invariant-put_block-loop-s : goal.invariant-put_block-loop-s
invariant-put_block-loop-s l =
    l.page.text ++ lines_text (block_lines l.indent (block (drop l.s-index l.list))) ≡ l.initial.page.text ++ lines_text (block_lines l.indent (block l.list))

-- the text so far, and the branches that are left
abbrev pub invariant-put_branches-loop-branch : goal.invariant-put_branches-loop-branch
invariant-put_branches-loop-branch l =
    l.page.text ++ lines_text (branches_lines l.indent l.word (branches (drop l.branch-index l.list)))
    ≡ l.initial.page.text ++ lines_text (branches_lines l.indent mark.If (branches l.list))
