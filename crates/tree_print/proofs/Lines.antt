-- Lines behind a text, and what is left of a list of statements or branches.
use Rattle.std.proofs.Common.{◌≡◌, ◌∙◌, ℕ, suc, ◌+◌, ◌<◌, List, ◌∷◌, ◌++◌, length, get_or, drop, ap, sym, append_assoc, append-nil}
use Rattle.mono_syntax.specs.declared.tree.Branch.{Branch}
use Rattle.mono_syntax.specs.Stmt.{Stmt}
use Rattle.mono_syntax.specs.StmtView.{block, branches}
use Rattle.mono_syntax.proofs.Parts.{part_stmt, part_branch}
use Rattle.spelled_tokens.specs.declared.token.Mark.{Mark}
use Rattle.spelled_tokens.specs.declared.token.Mark.TheVariants as mark
use Rattle.token_lines.specs.Lines.{Line, line, line_text, lines_text}
use Rattle.token_lines.proofs.Sheets.{lines_text-append}
use Rattle.mono_syntax.specs.declared.tree.FieldDef.{FieldDef}
use Rattle.mono_syntax.specs.declared.tree.Item.{Item}
use Rattle.tree_print.specs.ScriptLines.{field_line, fields_lines, item_lines, items_lines, head_tokens, stmt_lines, block_lines, branches_lines}
use Rattle.tree_print.proofs.Turns.{front_is}

-- lines and then others, behind a text
pub behind_text : (text : List ℕ) (xs ys : List Line) → text ++ lines_text (xs ++ ys) ≡ (text ++ lines_text xs) ++ lines_text ys
behind_text text xs ys = ap (λ l. text ++ l) (lines_text-append xs ys) ∙ sym (append_assoc text (lines_text xs) (lines_text ys))

-- one statement more
pub block-turn : (text : List ℕ) (d : ℕ) (xs : List Stmt) (i : ℕ) (x : Stmt) → i < length xs → x ≡ get_or xs i x
    → text ++ lines_text (block_lines d (block (drop i xs))) ≡ (text ++ lines_text (stmt_lines d x)) ++ lines_text (block_lines d (block (drop (i + 1) xs)))
block-turn text d xs i x h e =
    ap (λ l. text ++ lines_text (block_lines d (block l))) (front_is xs i x h e) ∙ behind_text text (stmt_lines d x) (block_lines d (block (drop (i + 1) xs)))

-- the lines of a branch
abbrev pub branch_lines : ℕ → Mark → Branch → List Line
branch_lines d m b = line d (head_tokens m b.condition) ∷ block_lines (suc d) (block b.body)

-- one branch more
pub branches-turn : (text : List ℕ) (d : ℕ) (m : Mark) (xs : List Branch) (i : ℕ) (x : Branch) → i < length xs → x ≡ get_or xs i x
    → text ++ lines_text (branches_lines d m (branches (drop i xs))) ≡ (text ++ lines_text (branch_lines d m x)) ++ lines_text (branches_lines d mark.Elif (branches (drop (i + 1) xs)))
branches-turn text d m xs i x h e =
    ap (λ l. text ++ lines_text (branches_lines d m (branches l))) (front_is xs i x h e)
    ∙ behind_text text (branch_lines d m x) (branches_lines d mark.Elif (branches (drop (i + 1) xs)))

-- one field more
pub fields-turn : (text : List ℕ) (xs : List FieldDef) (i : ℕ) (x : FieldDef) → i < length xs → x ≡ get_or xs i x
    → text ++ lines_text (fields_lines (drop i xs)) ≡ (text ++ line_text (field_line x)) ++ lines_text (fields_lines (drop (i + 1) xs))
fields-turn text xs i x h e =
    ap (λ l. text ++ lines_text (fields_lines l)) (front_is xs i x h e) ∙ sym (append_assoc text (line_text (field_line x)) (lines_text (fields_lines (drop (i + 1) xs))))

-- one item more
pub items-turn : (text : List ℕ) (xs : List Item) (i : ℕ) (x : Item) → i < length xs → x ≡ get_or xs i x
    → text ++ lines_text (items_lines (drop i xs)) ≡ (text ++ lines_text (item_lines x)) ++ lines_text (items_lines (drop (i + 1) xs))
items-turn text xs i x h e =
    ap (λ l. text ++ lines_text (items_lines l)) (front_is xs i x h e) ∙ behind_text text (item_lines x) (items_lines (drop (i + 1) xs))

pub ruleset lines = (append_assoc, append-nil, lines_text-append, part_stmt, part_branch)
