-- What is put behind a list, and what is left to put.
use Rattle.std.proofs.Common.{◌≡◌, List, [], ◌∷◌, ◌++◌, append_assoc, append-nil, refl}
use Rattle.mono_syntax.proofs.Parts.{part_ann, part_expr, part_stmt, part_branch}
use Rattle.mono_syntax.specs.declared.tree.Item.{Item}
use Rattle.mono_syntax.specs.declared.tree.Item.TheVariants as item
use Rattle.mono_syntax.specs.StmtView.{block}
use Rattle.script_rules.specs.Definitions.{statements_of}
use Rattle.script_rules.specs.Occurrences.{in_block}

-- an item and those behind it
pub item_first : (i : Item) (is : List Item) → in_block (block (statements_of (i ∷ is))) ≡ in_block (block (statements_of (i ∷ []))) ++ in_block (block (statements_of is))
item_first (item.Class d) is = refl
item_first (item.Def d) is = refl
item_first (item.Stmt s) is = rw append-nil refl

pub ruleset turns = (append_assoc, append-nil, part_ann, part_expr, part_stmt, part_branch)

pub ruleset items = (item_first, append_assoc, append-nil)
